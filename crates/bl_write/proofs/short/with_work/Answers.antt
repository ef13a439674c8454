use Rattle.std.proofs.Common.{ap, ◌∙◌}
use Rattle.bl_write.specs.Unread.{work_tokens}
use Rattle.bl_write.specs.Writing.{Written}
use Rattle.bl_write.proofs.Writing.{written_behind}
use Rattle.bl_write.proofs.short.with_work.Goals as goal

pub returns-in-Ok : goal.returns-in-Ok
returns-in-Ok c =
    let tokens = work_tokens c.args.names.now c.args.work.now in
    ap (λ (w : Written). w.bytes) (c.text.view_is ∙ c.in-Ok.ensures) ∙ written_behind c.args.line.items tokens
