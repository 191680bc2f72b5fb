-- What write ensures, by the laws of Pasting, Refusing and Keeping.
use Rattle.writer.proofs.Pasting.{answer_via, room_via}
use Rattle.writer.proofs.Refusing.{unfit_via}
use Rattle.writer.proofs.Keeping.{reads_back_via, writes_again_via}
use Rattle.writer.proofs.write.Goals as goal

pub returns-clause-answer : goal.returns-clause-answer
returns-clause-answer c = search answer_via depth 2

pub returns-clause-bytes : goal.returns-clause-bytes
returns-clause-bytes c = search room_via depth 2

pub returns-clause-read_back : goal.returns-clause-read_back
returns-clause-read_back c = search reads_back_via depth 2

pub returns-clause-written_again : goal.returns-clause-written_again
returns-clause-written_again c = search writes_again_via depth 2

pub returns-clause-unfit : goal.returns-clause-unfit
returns-clause-unfit c = search unfit_via depth 2
