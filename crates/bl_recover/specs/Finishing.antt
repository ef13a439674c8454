-- How a recovery ends that goes on where an earlier one had given the trail its name.
use Rattle.std.specs.Prelude.{◌≡◌, ℕ, Bool, true, false, List, String}
use Rattle.std.specs.Global.{Global}
use Rattle.bl_disk.specs.File.{File}
use Rattle.bl_setup.specs.Setup.{Setup}
use Rattle.bl_trail.specs.TrueText.{FirstWrong, IsTrueText}
use Rattle.bl_status.specs.Named.{unnamed}
use Rattle.bl_status.specs.declared.fault.ProgramFault.{ProgramFault}
use Rattle.bl_status.specs.declared.fault.ProgramFault.TheVariants.{CannotReadTrail, NoMemory, NotBegun, TrailIsThere}
use Rattle.bl_recover.specs.Recoveries.{HasEnded}
use Rattle.bl_recover.specs.declared.recover.RecoveryEnd.{RecoveryEnd}
use Rattle.bl_recover.specs.declared.recover.RecoveryEnd.TheVariants.{Recovered, Untold, Unnamed, Refused}

-- why a text is not taken for a trail that a recovery has closed: it is not the true text of one, it could not be read,
-- or a growth was refused
abbrev pub IsNotClosed : Setup → List ℕ → ProgramFault → Type 0
IsNotClosed setup text TrailIsThere = (number : ℕ) × FirstWrong setup text number
IsNotClosed setup text NoMemory = Unit {0}
IsNotClosed setup text CannotReadTrail = Unit {0}
IsNotClosed setup text _ = ⊥

-- The text is the true text of so many events, and nothing of it was cut off; or it was not taken for a closed trail.
abbrev pub HasFinished : Setup → List ℕ → RecoveryEnd → Type 0
HasFinished setup text (Recovered events cut named) = IsTrueText setup text events × (cut ≡ 0)
HasFinished setup text (Untold events cut named) = IsTrueText setup text events × (cut ≡ 0)
HasFinished setup text (Unnamed events cut fault) = IsTrueText setup text events × (cut ≡ 0)
HasFinished setup text (Refused named) = IsNotClosed setup text named.fault

-- How a recovery of a file with this text ends: it is refused where the head is torn; it is that of an earlier one where
-- the file has the trail's name; else the file is closed, or the recovery is refused.
abbrev pub IsEndOf : Setup → (is_torn is_named : Bool) → List ℕ → String Global → RecoveryEnd → Type 0
IsEndOf setup true is_named text part end = end ≡ Refused (unnamed NotBegun)
IsEndOf setup false true text part end = HasFinished setup text end
IsEndOf setup false false text part end = (file : File) × HasEnded setup text part end file
