use Rattle.std.proofs.Common.{◌≡◌, false, rules, subst, sym}
use Rattle.bl_disk.specs.File.{seen}
use Rattle.bl_file.specs.Files.{file_now}
use Rattle.bl_record.specs.Torn.{IsTornHead}
use Rattle.bl_command.proofs.recorded.serve_recorded.Goals as goal

-- what is begun anew is a torn head, as the files were found
pub serve-end-requires-clause-plan : goal.serve-end-requires-clause-plan
serve-end-requires-clause-plan g c κs within =
    let sound : c.timed_with-device.result.device.failed ≡ false = search rules in (
      sound,
      λ anew. subst (λ file. IsTornHead (seen (file_now file))) (sym c.timed_with-device.ensures) (c.in-Ok.ensures.fresh anew),
    )
