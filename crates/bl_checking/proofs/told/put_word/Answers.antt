use Rattle.std.proofs.Common.{◌∙◌}
use Rattle.bl_checking.proofs.Putting.{word_none, word_some}
use Rattle.bl_checking.proofs.told.put_word.Goals as goal

pub returns-then-is_empty : goal.returns-then-is_empty
returns-then-is_empty c =
    c.in_ok-extend_from_slice.ensures.items ∙ word_none c.args.text.now.items c.args.word.now c.is_empty.result c.is_empty.ensures c.if-is_empty.true

pub returns : goal.returns
returns c = c.in_ok-put_quoted.ensures ∙ word_some c.args.text.now.items c.args.word.now c.is_empty.result c.is_empty.ensures c.if-is_empty.false
