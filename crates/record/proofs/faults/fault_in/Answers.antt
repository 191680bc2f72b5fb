use Rattle.record.specs.Faults.{other_fault, fault_of, fields_fault, text_fault}
use Rattle.machine.specs.Lists.{pick}
use Rattle.record.proofs.Faulting.{at_kind, at_two, at_header_b, at_header_c}
use Rattle.record.proofs.faults.fault_in.Goals as goal

pub returns-in-FileHeader : goal.returns-in-FileHeader
unfolding other_fault fault_of fields_fault text_fault pick
returns-in-FileHeader c = search at_kind depth 3

pub returns-in-BatchHeaderB : goal.returns-in-BatchHeaderB
unfolding other_fault fault_of fields_fault text_fault pick
returns-in-BatchHeaderB c = search at_header_b depth 3

pub returns-in-BatchHeaderC : goal.returns-in-BatchHeaderC
unfolding other_fault fault_of fields_fault text_fault pick
returns-in-BatchHeaderC c = search at_header_c depth 3

pub returns-in-OrderingParty : goal.returns-in-OrderingParty
unfolding other_fault fault_of fields_fault text_fault pick
returns-in-OrderingParty c = search at_kind depth 3

pub returns-in-Transaction : goal.returns-in-Transaction
unfolding other_fault fault_of fields_fault text_fault pick
returns-in-Transaction c = search at_kind depth 3

pub returns-in-NamePayer : goal.returns-in-NamePayer
unfolding other_fault fault_of fields_fault text_fault pick
returns-in-NamePayer c = search at_two depth 3

pub returns-in-CityPayer : goal.returns-in-CityPayer
unfolding other_fault fault_of fields_fault text_fault pick
returns-in-CityPayer c = search at_two depth 3

pub returns-in-PaymentReference : goal.returns-in-PaymentReference
unfolding other_fault fault_of fields_fault text_fault pick
returns-in-PaymentReference c = search at_kind depth 3

pub returns-in-FixedDescription : goal.returns-in-FixedDescription
unfolding other_fault fault_of fields_fault text_fault pick
returns-in-FixedDescription c = search at_two depth 3

pub returns-in-BatchTrailer : goal.returns-in-BatchTrailer
unfolding other_fault fault_of fields_fault text_fault pick
returns-in-BatchTrailer c = search at_kind depth 3

pub returns-in-FileTrailer : goal.returns-in-FileTrailer
unfolding other_fault fault_of fields_fault text_fault pick
returns-in-FileTrailer c = search at_kind depth 3
