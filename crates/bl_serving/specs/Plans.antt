-- How a run of the command `serve` ends, by how its trail is kept.
use Rattle.std.specs.Prelude.{ℕ, Bool, List}
use Rattle.bl_disk.specs.File.{File, seen}
use Rattle.bl_setup.specs.Setup.{Setup}
use Rattle.bl_trail_run.specs.Files.{file_in, is_whole}
use Rattle.bl_trail_run.specs.Plans.{is_kept}
use Rattle.bl_trail_run.specs.declared.begin.Start.{Start}
use Rattle.bl_trail_run.specs.declared.plan.TrailEnd.{TrailEnd}
use Rattle.bl_trail_run.specs.declared.plan.TrailEnd.TheVariants as ends
use Rattle.bl_trail_run.specs.declared.plan.TrailPlan.{TrailPlan}
use Rattle.bl_trail_run.specs.declared.plan.TrailPlan.TheVariants.{AtEnd, AsItGoes}
use Rattle.bl_wire.specs.Watch.{EndState, Use}
use Rattle.bl_serving.specs.Hosted.{IsServing}
use Rattle.bl_serving.specs.Serving.{IsServeOver}

-- a run over a setup, under a limit, from such a start, of which the file is handed back
abbrev pub IsServingIn : {D : Type 0} → (D → File) → (D → Bool) → (D → List ℕ) → Start D → Setup → ℕ → ℕ → TrailEnd D
    → Use → EndState → EndState → Type 0
IsServingIn now has_failed name start setup limit status ends.NotKept output before after = ⊥
IsServingIn now has_failed name start setup limit status (ends.Kept kept) output before after = ⊥
IsServingIn now has_failed name start setup limit status (ends.InFile file) output before after =
    IsServing (file_in name file) start.resumes setup limit (seen (now start.device)) status (is_whole file)
    (file_in has_failed file) (file_in now file) output before after

-- a run over a setup, under a limit, by how its trail is kept: at the end, or as the run goes
abbrev pub IsServedBy : {T D : Type 0} → (D → File) → (D → Bool) → (D → List ℕ) → TrailPlan T D → Setup → ℕ → ℕ
    → TrailEnd D → Use → EndState → EndState → Type 0
IsServedBy now has_failed name (AtEnd at_end) setup limit status trail output before after =
    IsServeOver at_end.trail.name.now status (is_kept trail) output
    (record { before = before.bytes; after = after.bytes; failed = after.failed })
IsServedBy now has_failed name (AsItGoes start) setup limit status trail output before after =
    IsServingIn now has_failed name start setup limit status trail output before after
