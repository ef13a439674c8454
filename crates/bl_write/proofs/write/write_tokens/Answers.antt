use Rattle.std.proofs.Common.{ap, ◌∙◌}
use Rattle.std.specs.List.{fold}
use Rattle.bl_level.specs.Token.{toks}
use Rattle.bl_write.specs.Writing.{Written, with_token}
use Rattle.bl_write.proofs.Writing.{written_is_canonical}
use Rattle.bl_write.proofs.write.write_tokens.Goals as goal

pub returns : goal.returns
returns c =
    ap (λ (w : Written). w.bytes) (c.text.view_is ∙ c.in_ok-put_all.ensures ∙ ap (λ (w : Written). fold with_token w (toks c.args.tokens.now)) c.new-text.ensures)
    ∙ written_is_canonical (toks c.args.tokens.now)
