-- What accounts::is_eleven ensures and its loop keeps, by the laws of Elevens.
use Rattle.field.proofs.Elevens.{adding_none, adding_more, adding_all}
use Rattle.field.proofs.accounts.is_eleven.Goals as goal

pub loop-c-init : goal.loop-c-init
loop-c-init c = search adding_none depth 2

pub loop-c-preserved : goal.loop-c-preserved
loop-c-preserved c = search adding_more depth 2

pub returns : goal.returns
returns c = search adding_all depth 2
