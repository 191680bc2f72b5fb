-- What numbers::value ensures and its loop keeps, by the laws of Numerics.
use Rattle.field.proofs.Numerics.{reading_more, reading_all, times_fits, plus_fits}
use Rattle.field.proofs.numbers.value.Goals as goal

pub overflow_mul-v : goal.overflow_mul-v
overflow_mul-v c = search times_fits depth 2

pub overflow_add-v : goal.overflow_add-v
overflow_add-v c = search plus_fits depth 2

pub loop-c-preserved : goal.loop-c-preserved
loop-c-preserved c = search reading_more depth 2

pub returns : goal.returns
returns c = search reading_all depth 2
