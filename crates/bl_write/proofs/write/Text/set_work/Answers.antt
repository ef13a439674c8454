use Rattle.std.proofs.Common.{ap, ◌∙◌}
use Rattle.std.specs.List.{fold}
use Rattle.bl_write.specs.Unread.{work_tokens}
use Rattle.bl_write.specs.Writing.{Written, with_token}
use Rattle.bl_write.proofs.Writing.{on_ok, written_is_canonical}
use Rattle.bl_write.proofs.write.Text.set_work.Goals as goal

pub returns : goal.returns
returns c =
    let tokens = work_tokens c.args.names.now c.args.work.now in
    on_ok c.put_readable.result _ _
    (λ same. ap (λ (w : Written). w.bytes) (same ∙ ap (λ (w : Written). fold with_token w tokens) c.in_ok-begin.ensures) ∙ written_is_canonical tokens) c.put_readable.ensures
