-- What fields::name_in ensures, by the laws of Telling.
use Rattle.telling.proofs.Telling.{kinds}
use Rattle.telling.proofs.fields.name_in.Goals as goal

pub returns-in-FileHeader : goal.returns-in-FileHeader
returns-in-FileHeader c = search kinds depth 2

pub returns-in-BatchHeaderB : goal.returns-in-BatchHeaderB
returns-in-BatchHeaderB c = search kinds depth 2

pub returns-in-OrderingParty : goal.returns-in-OrderingParty
returns-in-OrderingParty c = search kinds depth 2

pub returns-in-Transaction : goal.returns-in-Transaction
returns-in-Transaction c = search kinds depth 2

pub returns-in-FixedDescription : goal.returns-in-FixedDescription
returns-in-FixedDescription c = search kinds depth 2

pub returns-in-PaymentReference : goal.returns-in-PaymentReference
returns-in-PaymentReference c = search kinds depth 2

pub returns-in-NamePayer : goal.returns-in-NamePayer
returns-in-NamePayer c = search kinds depth 2

pub returns-in-CityPayer : goal.returns-in-CityPayer
returns-in-CityPayer c = search kinds depth 2

pub returns-in-BatchTrailer : goal.returns-in-BatchTrailer
returns-in-BatchTrailer c = search kinds depth 2

pub returns-in-FileTrailer : goal.returns-in-FileTrailer
returns-in-FileTrailer c = search kinds depth 2
