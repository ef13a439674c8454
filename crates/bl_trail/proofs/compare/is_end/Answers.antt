use Rattle.std.proofs.Common.{◌++◌, codes, decimal, refl}
use Rattle.std.specs.Prelude.{Some}
use Rattle.bl_wire.specs.Replies.{answer_text}
use Rattle.bl_trail.proofs.Comparing.{is-whole, left-three}
use Rattle.bl_trail.proofs.compare.is_end.Goals as goal

pub returns : goal.returns
returns c =
    is-whole (codes "end " ++ (decimal c.args.n ++ answer_text c.args.names.now c.args.answer.now)) c.args.line.now _ _
    (left-three (codes "end " ++ (decimal c.args.n ++ answer_text c.args.names.now c.args.answer.now)) (codes "end ") (decimal c.args.n) (answer_text c.args.names.now c.args.answer.now) (Some c.args.line.now) _ _ _ refl
    c.after-rest.ensures c.after_number-rest.ensures c.after_answer.ensures) c.is_over.ensures
