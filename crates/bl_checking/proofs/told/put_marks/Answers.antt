use Rattle.std.proofs.Common.{◌∙◌}
use Rattle.bl_checking.proofs.Putting.{marks_none, marks_some}
use Rattle.bl_checking.proofs.told.put_marks.Goals as goal

pub returns-then-is_empty : goal.returns-then-is_empty
returns-then-is_empty c =
    c.in_ok-extend_from_slice.ensures.items ∙ marks_none c.args.text.now.items c.args.word.now c.is_empty.result c.is_empty.ensures c.if-is_empty.true

pub returns : goal.returns
returns c = c.in_ok-put_often.ensures ∙ marks_some c.args.text.now.items c.args.word.now c.is_empty.result c.is_empty.ensures c.if-is_empty.false
