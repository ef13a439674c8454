-- What a folder has once the run at hand is under way.
use Rattle.std.specs.Prelude.{◌≡◌, ◌≢◌, ◌<◌, ◌-◌, ℕ, List, [], Option, Some, None, IsSome, MatchOption}
use Rattle.bl_setup.specs.Setup.{Setup}
use Rattle.bl_state.specs.Texts.{setup_text}
use Rattle.bl_chain.specs.AtHand.{BeginsWith}
use Rattle.bl_chain.specs.declared.look.Looked.{Looked}
use Rattle.bl_chain.specs.declared.look.Lag.{Lag}
use Rattle.bl_chain.specs.declared.look.Lag.TheVariants.{Nothing, NextSetup, Name}
use Rattle.bl_folder.specs.Names.{setup_of, setup_part_of, trail_of, trail_part_of}
use Rattle.bl_folder.specs.Standing.{Contents, Standing, StandsSo}
use Rattle.bl_folder.specs.declared.name.RunFile.{RunFile}

-- a file that no start of this run writes or removes
pub record IsApart (run : ℕ) (file : RunFile) : Type 0 where
  pub setup : file ≢ setup_of run
  pub part : file ≢ setup_part_of run
  pub trail : file ≢ trail_of (run - 1)
  pub last : file ≢ trail_part_of (run - 1)
  pub journal : file ≢ trail_part_of run

-- the setup of the run at hand: as it was found, or written since
abbrev pub setup_due : Standing → Lag → ℕ → Setup → Option (List ℕ)
setup_due before Nothing run setup = before.seen (setup_of run)
setup_due before NextSetup run setup = Some (setup_text setup)
setup_due before Name run setup = Some (setup_text setup)

-- the trail of the run before: as it was found, or what was found as its journal
abbrev pub trail_due : Standing → Lag → ℕ → Option (List ℕ)
trail_due before Nothing run = before.seen (trail_of (run - 1))
trail_due before NextSetup run = before.seen (trail_of (run - 1))
trail_due before Name run = before.seen (trail_part_of (run - 1))

-- both are there, and the journal of the run and all other files are as they were
pub record IsCaughtUp (before : Standing) (lag : Lag) (run : ℕ) (setup : Setup) (after : Standing) : Type 0 where
  pub setup_is : after.seen (setup_of run) ≡ setup_due before lag run setup
  pub trail_is : after.seen (trail_of (run - 1)) ≡ trail_due before lag run
  pub journal : after.seen (trail_part_of run) ≡ before.seen (trail_part_of run)
  pub others : (file : RunFile) → IsApart run file → after.seen file ≡ before.seen file

-- nothing is left beside the setup of a run, and the journal of the run before has no name; all else is as it was
pub record IsCleared (run : ℕ) (before after : Standing) : Type 0 where
  pub alone : after.seen (setup_part_of run) ≡ None
  pub named : 1 < run → after.seen (trail_part_of (run - 1)) ≡ None
  pub others : (file : RunFile) → file ≢ setup_part_of run → (1 < run → file ≢ trail_part_of (run - 1)) → after.seen file ≡ before.seen file

-- the journal of a run has the bytes that stood there, or none
abbrev pub HasJournal : Contents → ℕ → List ℕ → Type 0
HasJournal there run bytes = MatchOption (there (trail_part_of run)) (bytes ≡ []) (λ text. bytes ≡ text)

-- the journal of a run was there
abbrev pub WasBegun : {F : Type 0} → (F → Standing → Type 0) → F → ℕ → Type 0
WasBegun stands folder run = (before : Standing) → stands folder before → IsSome (before.seen (trail_part_of run))

-- the journal of a run is there with these bytes; all others are as they were, and all that is found is on the disk
pub record HasBegun (run : ℕ) (bytes : List ℕ) (before after : Standing) : Type 0 where
  pub journal : HasJournal before.seen run bytes
  pub there : after.seen (trail_part_of run) ≡ Some bytes
  pub others : (other : RunFile) → other ≢ trail_part_of run → after.seen other ≡ before.seen other
  pub kept : after.kept ≡ after.seen

-- Before the run at hand all is there, with these bytes in its journal, and nothing is left beside it; all other files are
-- as they were, and all that is found is on the disk.
pub record IsReady (before : Standing) (lag : Lag) (run : ℕ) (setup : Setup) (bytes : List ℕ) (after : Standing) : Type 0 where
  pub setup_is : after.seen (setup_of run) ≡ setup_due before lag run setup
  pub trail_is : after.seen (trail_of (run - 1)) ≡ trail_due before lag run
  pub journal : after.seen (trail_part_of run) ≡ Some bytes
  pub alone : after.seen (setup_part_of run) ≡ None
  pub named : 1 < run → after.seen (trail_part_of (run - 1)) ≡ None
  pub others : (file : RunFile) → IsApart run file → after.seen file ≡ before.seen file
  pub kept : after.kept ≡ after.seen

-- all is ready for the run at hand, as it was found, and its journal has these bytes, which stood there, or none
pub record IsMade {F : Type 0} (stands : F → Standing → Type 0) (before : Standing) (looked : Looked) (bytes : List ℕ) (folder : F) : Type 0 where
  pub ready : StandsSo stands folder (IsReady before looked.lag looked.run looked.setup bytes)
  pub journal : HasJournal before.seen looked.run bytes

-- the run begins with its setup in one of the ways that there are, and so all is ready for it
pub record IsUnderWay {F : Type 0} (stands : F → Standing → Type 0) (before : Standing) (run : ℕ) (setup : Setup) (bytes : List ℕ) (folder : F) : Type 0 where
  pub lag : Lag
  pub begins : BeginsWith before.seen lag run setup
  pub ready : StandsSo stands folder (IsReady before lag run setup bytes)
