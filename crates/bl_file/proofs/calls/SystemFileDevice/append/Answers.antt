use Rattle.std.proofs.Common.{refl, sym, subst}
use Rattle.bl_disk.proofs.Moving.{none-added}
use Rattle.bl_disk.specs.Moments.{IsAdding}
use Rattle.bl_file.specs.Files.{file_now}
use Rattle.bl_file.proofs.Moments.{noted, nothing-noted}
use Rattle.bl_file.proofs.Noting.{adds}
use Rattle.bl_file.proofs.calls.SystemFileDevice.append.Goals as goal

-- the system took all of the text
pub returns-then-bytes-text-clause-moments : goal.returns-then-bytes-text-clause-moments
returns-then-bytes-text-clause-moments g c =
    let old = c.args.self.now in
    let text = c.args.text.now in
    noted (IsAdding (file_now old) text) old _ c.took.new.self refl c.took.ensures.past (none-added (file_now old) text)
    (subst (IsAdding (file_now old) text) (sym c.took.ensures.now) (adds (file_now old) text c.in-Ok.addition.bytes.now c.in-Ok.ensures.part))

-- or a first part of it
pub returns-else-bytes-text-clause-moments : goal.returns-else-bytes-text-clause-moments
returns-else-bytes-text-clause-moments g c =
    let old = c.args.self.now in
    let text = c.args.text.now in
    noted (IsAdding (file_now old) text) old c.fail.new.self c.took.new.self c.fail.ensures.stand c.took.ensures.past (none-added (file_now old) text)
    (subst (IsAdding (file_now old) text) (sym c.took.ensures.now) (adds (file_now old) text c.in-Ok.addition.bytes.now c.in-Ok.ensures.part))

pub returns-in-Err-clause-moments : goal.returns-in-Err-clause-moments
returns-in-Err-clause-moments g c =
    let old = c.args.self.now in
    let text = c.args.text.now in
    nothing-noted (IsAdding (file_now old) text) old c.fail-in-Err.new.self c.fail-in-Err.ensures.stand (none-added (file_now old) text)
