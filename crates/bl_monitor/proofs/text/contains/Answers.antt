use Rattle.bstr.specs.Text.{Contains}
use Rattle.bl_work.specs.Piece.{has_piece}
use Rattle.bl_monitor.proofs.Pieces.{found, has, same_tests}
use Rattle.bl_monitor.proofs.text.contains.Goals as goal

pub returns : goal.returns
returns c =
    let content = c.args.content.now in
    let piece = c.args.piece.now in
    same_tests c.contains_str.result (has_piece content piece)
    (λ h. let at : Contains content piece = c.contains_str.ensures.0 h in has content piece at.0 at.1)
    (λ h. c.contains_str.ensures.1 (found content piece h))
