use Rattle.std.proofs.Common.{◌∙◌, ap}
use Rattle.std.specs.List.{fold}
use Rattle.bl_declare.specs.Declaration.{spell_declaration}
use Rattle.bl_write.specs.Writing.{Written, with_token}
use Rattle.bl_write.proofs.Writing.{on_ok, written_is_canonical}
use Rattle.bl_state.specs.Lines.{declared_by}
use Rattle.bl_state.proofs.text.write_line.Goals as goal

pub returns : goal.returns
returns c =
    let tokens = spell_declaration (declared_by c.args.setup.now c.args.line.now) in
    on_ok c.put_line.result _ _
    (λ same. ap (λ (w : Written). w.bytes) (same ∙ ap (λ (w : Written). fold with_token w tokens) c.in_ok-begin.ensures) ∙ written_is_canonical tokens)
    c.put_line.ensures
