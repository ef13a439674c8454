use Rattle.std.proofs.Common.{sym, subst}
use Rattle.bl_hall.specs.Chronicle.{Chronicle}
use Rattle.bl_record.specs.Kept.{IsKept}
use Rattle.bl_trail_run.proofs.begin.begin_anew.Goals as goal

pub returns-in-Ok-begin-clause-recorded : goal.returns-in-Ok-begin-clause-recorded
returns-in-Ok-begin-clause-recorded g c = (
  c.in-Ok-begin.ensures.fine,
  c.in-Ok-begin.ensures.sound,
  subst (λ (h : Chronicle). IsKept h c.in-Ok-begin.journal.bookmark (g.D.Device.now c.in-Ok-begin.journal.log.device)) (sym c.in-Ok.ensures)
      (c.in-Ok-begin.ensures.kept c.args.setup.now c.version-version.ensures.two),
)
