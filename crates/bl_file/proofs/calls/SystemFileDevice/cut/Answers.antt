use Rattle.std.proofs.Common.{◌∙◌, ap, refl, sym, subst}
use Rattle.bl_disk.proofs.Moving.{none-cut}
use Rattle.bl_disk.specs.Moments.{IsCutting}
use Rattle.bl_file.specs.Files.{file_now}
use Rattle.bl_file.specs.Stands.{cut_to}
use Rattle.bl_file.proofs.Moments.{noted, nothing-noted}
use Rattle.bl_file.proofs.Noting.{cuts}
use Rattle.bl_file.proofs.calls.SystemFileDevice.cut.Goals as goal

pub returns-in-Ok-clause-moments : goal.returns-in-Ok-clause-moments
returns-in-Ok-clause-moments g c =
    let old = c.args.self.now in
    let now = c.was_cut.ensures.now ∙ ap (λ len. cut_to len (file_now old)) c.in-Ok.ensures in
    noted (IsCutting (file_now old) c.args.len) old _ c.was_cut.new.self refl c.was_cut.ensures.past (none-cut (file_now old) c.args.len)
    (subst (IsCutting (file_now old) c.args.len) (sym now) (cuts (file_now old) c.args.len))

pub returns-in-Err-clause-moments : goal.returns-in-Err-clause-moments
returns-in-Err-clause-moments g c =
    let old = c.args.self.now in
    nothing-noted (IsCutting (file_now old) c.args.len) old c.fail.new.self c.fail.ensures.stand (none-cut (file_now old) c.args.len)
