-- What numbers::spelt ensures and its loop keeps, by the laws of Spelling.
use Rattle.field.proofs.Spelling.{digit_none, digit_more, digit_all}
use Rattle.field.proofs.numbers.spelt.Goals as goal

pub loop-i-init : goal.loop-i-init
loop-i-init c = search digit_none depth 2

pub loop-i-preserved : goal.loop-i-preserved
loop-i-preserved c = search digit_more depth 2

pub returns : goal.returns
returns c = search digit_all depth 2
