-- What Entry::line ensures, by the laws of Building.
use Rattle.writer.proofs.Building.{entry_is, entry_header}
use Rattle.writer.proofs.Entry.line.Goals as goal

pub returns-in-FileHeader : goal.returns-in-FileHeader
returns-in-FileHeader c = search entry_is depth 2

pub returns-in-BatchHeader : goal.returns-in-BatchHeader
returns-in-BatchHeader c = search entry_header depth 2

pub returns-in-FixedDescription : goal.returns-in-FixedDescription
returns-in-FixedDescription c = search entry_is depth 2

pub returns-in-OrderingParty : goal.returns-in-OrderingParty
returns-in-OrderingParty c = search entry_is depth 2

pub returns-in-Transaction : goal.returns-in-Transaction
returns-in-Transaction c = search entry_is depth 2

pub returns-in-NamePayer : goal.returns-in-NamePayer
returns-in-NamePayer c = search entry_is depth 2

pub returns-in-PaymentReference : goal.returns-in-PaymentReference
returns-in-PaymentReference c = search entry_is depth 2

pub returns-in-Description : goal.returns-in-Description
returns-in-Description c = search entry_is depth 2

pub returns-in-NameBeneficiary : goal.returns-in-NameBeneficiary
returns-in-NameBeneficiary c = search entry_is depth 2

pub returns-in-BatchTrailer : goal.returns-in-BatchTrailer
returns-in-BatchTrailer c = search entry_is depth 2

pub returns-in-FileTrailer : goal.returns-in-FileTrailer
returns-in-FileTrailer c = search entry_is depth 2
