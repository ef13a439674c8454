use Rattle.bl_disk.proofs.Fronts.{itself}
use Rattle.bl_disk.specs.File.{Begins, File}
use Rattle.bl_file.specs.Files.{file_now}
use Rattle.bl_file.proofs.Moments.{nothing-noted}
use Rattle.bl_file.proofs.calls.SystemFileDevice.sync.Goals as goal

pub returns-in-Err-clause-moments : goal.returns-in-Err-clause-moments
returns-in-Err-clause-moments g c =
    let old = c.args.self.now in
    nothing-noted (λ (file : File). Begins (file_now old).kept file.kept) old c.fail.new.self c.fail.ensures.stand (itself (file_now old).kept)
