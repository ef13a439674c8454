use Rattle.std.proofs.Common.{◌∙◌, ap}
use Rattle.std.specs.List.{fold}
use Rattle.bl_declare.specs.Declaration.{spell_declaration}
use Rattle.bl_state.specs.Counts.{Counted, counted}
use Rattle.bl_state.specs.Lines.{declared_by}
use Rattle.bl_state.proofs.Counting.{counted-is}
use Rattle.bl_state.proofs.text.line_len.Goals as goal

pub returns : goal.returns
returns c =
    let tokens = spell_declaration (declared_by c.args.setup.now c.args.line.now) in
    c.bytes.ensures
    ∙ ap (λ (n : Counted). n.bytes) (c.in-Ok.ensures ∙ ap (λ (n : Counted). fold counted n tokens) c.new-length.ensures)
    ∙ counted-is tokens
