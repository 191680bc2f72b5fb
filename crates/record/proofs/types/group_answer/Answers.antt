use Rattle.field.proofs.Results.{form_handed, form_passed}
use Rattle.record.proofs.Typing.{not_known, is_known, group_right, group_other, group_free, group_wrong}
use Rattle.record.proofs.types.group_answer.Goals as goal

pub returns-in_err-filled_answer : goal.returns-in_err-filled_answer
returns-in_err-filled_answer c = search (form_handed, c.in_err-filled_answer.was) depth 3

pub returns-then-not-is_group : goal.returns-then-not-is_group
returns-then-not-is_group c = search (form_passed, group_wrong, c.in_ok-filled_answer.was) depth 3 fits 10000

pub returns-then-not-before : goal.returns-then-not-before
returns-then-not-before c = form_passed _ _ _ c.filled_answer.ensures c.in_ok-filled_answer.was (group_free _ c.part-text.ensures c.is_group.ensures c.args.before c.if-not-is_group.false (not_known _ c.if-not-before.true))

pub returns-then-is_same : goal.returns-then-is_same
returns-then-is_same c = form_passed _ _ _ c.filled_answer.ensures c.in_ok-filled_answer.was (group_right _ c.part-text.ensures c.is_group.ensures c.args.before c.if-not-is_group.false (is_known _ c.if-not-before.false) c.group_text.ensures c.is_same.ensures c.if-is_same.true)

pub returns : goal.returns
returns c = form_passed _ _ _ c.filled_answer.ensures c.in_ok-filled_answer.was (group_other _ c.part-text.ensures c.is_group.ensures c.args.before c.if-not-is_group.false (is_known _ c.if-not-before.false) c.group_text.ensures c.is_same.ensures c.if-is_same.false)
