-- How a run of the command `alone` ends, by how its trail is kept.
use Rattle.std.specs.Prelude.{◌≡◌, ◌⊎◌, ℕ, Bool, false, List, Option, Some, None}
use Rattle.bl_disk.specs.File.{File, seen}
use Rattle.bl_setup.specs.Grammar.{IsSetup}
use Rattle.bl_setup.specs.Setup.{Setup}
use Rattle.bl_status.specs.Failure.{IsNotBegun}
use Rattle.bl_status.specs.Runs.{HasTold, Run}
use Rattle.bl_status.specs.declared.fault.ProgramFault.{ProgramFault}
use Rattle.bl_trail_run.specs.Files.{file_in, is_whole}
use Rattle.bl_trail_run.specs.Plans.{IfAsItGoes, IsKeptBy, is_kept, is_whole_in}
use Rattle.bl_trail_run.specs.declared.begin.Start.{Start}
use Rattle.bl_trail_run.specs.declared.plan.TrailEnd.{TrailEnd}
use Rattle.bl_trail_run.specs.declared.recorded.RecordedFile.TheVariants.{Left}
use Rattle.bl_trail_run.specs.declared.plan.TrailEnd.TheVariants as ends
use Rattle.bl_trail_run.specs.declared.plan.TrailPlan.{TrailPlan}
use Rattle.bl_trail_run.specs.declared.plan.TrailPlan.TheVariants.{AtEnd, AsItGoes}
use Rattle.bl_alone.specs.AloneKept.{IsAloneKeptOver}
use Rattle.bl_alone.specs.Recorded.{IsRecordedOver}
use Rattle.bl_alone.specs.Runs.{IsRunOver}

-- a run over a setup, under a limit, from such a start, of which the file is handed back
abbrev pub IsRecordedIn : {D : Type 0} → (D → File) → (D → Bool) → (D → List ℕ) → Start D → Setup → ℕ → TrailEnd D → Run
    → Type 0
IsRecordedIn now has_failed name start setup limit ends.NotKept run = ⊥
IsRecordedIn now has_failed name start setup limit (ends.Kept kept) run = ⊥
IsRecordedIn now has_failed name start setup limit (ends.InFile file) run =
    IsRecordedOver start.resumes setup limit (seen (now start.device)) (file_in name file) (is_whole file)
    (file_in has_failed file) (file_in now file) run

-- a run over a setup, under a limit, by how its trail is kept: not at all, at the end, or as the run goes
abbrev pub IsAloneOver : {T D : Type 0} → (D → File) → (D → Bool) → (D → List ℕ) → Option (TrailPlan T D) → Setup → ℕ
    → TrailEnd D → Run → Type 0
IsAloneOver now has_failed name None setup limit trail run = IsRunOver setup limit run
IsAloneOver now has_failed name (Some (AtEnd at_end)) setup limit trail run =
    IsAloneKeptOver setup limit at_end.trail.name.now (is_kept trail) run
IsAloneOver now has_failed name (Some (AsItGoes start)) setup limit trail run =
    IsRecordedIn now has_failed name start setup limit trail run

-- over the setup that this text is; where it is none that was told, nothing was read or written, no trail is whole, and a
-- file is handed back as it was
abbrev pub IsAlone : {T D : Type 0} → (D → File) → (D → Bool) → (D → List ℕ) → TrailPlan T D → List ℕ → ℕ → TrailEnd D
    → Run → Type 0
IsAlone now has_failed name plan text limit trail run =
    ((begun : Setup) × IsSetup text begun × IsAloneOver now has_failed name (Some plan) begun limit trail run)
    ⊎ ((fault : ProgramFault) × HasTold fault run.status run.errors × IsNotBegun text fault run.input run.output
    × (is_whole_in trail ≡ false) × (is_kept trail ≡ false)
    × IfAsItGoes plan (λ start. trail ≡ ends.InFile (Left start.device)))

-- the trail is kept as was planned, or none was to be kept, and none is there
abbrev pub IsKeptAs : {T D : Type 0} → Option (TrailPlan T D) → TrailEnd D → Type 0
IsKeptAs None trail = trail ≡ ends.NotKept
IsKeptAs (Some plan) trail = IsKeptBy plan trail
