-- What a replay tells.
use Rattle.std.specs.Prelude.{◌≡◌, ◌⊎◌, ℕ, true, List, [], ◌∷◌, ◌++◌, codes, decimal, take}
use Rattle.std.specs.Io.KnownBytes.{Appends, Keeps}
use Rattle.bl_setup.specs.Setup as setups
use Rattle.bl_trail.specs.Follow.{IsVerdict}
use Rattle.bl_trail.specs.declared.verdict.Verdict.{Verdict}
use Rattle.bl_trail.specs.declared.verdict.Verdict.TheVariants.{Accepted, Rejected}
use Rattle.bl_wire.specs.Watch.{Use}
use Rattle.bl_status.specs.declared.fault.ProgramFault.{ProgramFault}
use Rattle.bl_status.specs.declared.fault.ProgramFault.TheVariants.{Write, NoMemory}

-- own choice: the words for a verdict
abbrev pub verdict_text : Verdict → List ℕ
verdict_text (Accepted count) = codes "accepted " ++ decimal count
verdict_text (Rejected number) = codes "rejected " ++ decimal number

-- own choice: a verdict is told on a line of its own
abbrev pub verdict_line : Verdict → List ℕ
verdict_line verdict = verdict_text verdict ++ 10 ∷ []

-- 0 for an accepted trail, and 1 for a rejected one
abbrev pub status_by : Verdict → ℕ
status_by (Accepted count) = 0
status_by (Rejected number) = 1

-- the verdict on the trail over the setup was told
pub record HasReplayed (begun : setups.Setup) (trail : List ℕ) (status : ℕ) (output : Use) : Type 0 where
  pub verdict : Verdict
  pub judged : IsVerdict begun trail verdict
  pub status_is : status ≡ status_by verdict
  pub told : Appends output.before output.after (verdict_line verdict)

-- the verdict was not told whole: a growth was refused before anything was told, or the output failed
abbrev pub IsCut : setups.Setup → List ℕ → ProgramFault → Use → Type 0
IsCut begun trail fault output = ((fault ≡ NoMemory) × Keeps output.before output.after)
    ⊎ ((fault ≡ Write) × (output.failed ≡ true)
    × ((verdict : Verdict) × IsVerdict begun trail verdict
    × ((n : ℕ) × Appends output.before output.after (take n (verdict_line verdict)))))
