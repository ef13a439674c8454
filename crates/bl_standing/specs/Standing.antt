-- What stands at the end of a trail, or why nothing does that another run may begin with.
use Rattle.std.specs.Prelude.{◌≡◌, ℕ, ◌<◌, List, length}
use Rattle.bl_setup.specs.Grammar.{most_setup_bytes}
use Rattle.bl_setup.specs.Setup.{Setup}
use Rattle.bl_setup.specs.declared.version.Version.{Version}
use Rattle.bl_setup.specs.declared.version.Version.TheVariants.{One, Two}
use Rattle.bl_order.specs.Machine.{State}
use Rattle.bl_order.specs.Standing.{HaveAllEnded, setup_now}
use Rattle.bl_trail.specs.TrueText.{FirstWrong, IsTrueText}
use Rattle.bl_left.specs.Left.{end_of}
use Rattle.bl_state.specs.Texts.{setup_text}
use Rattle.bl_status.specs.declared.fault.ProgramFault.TheVariants.{NoMemory}
use Rattle.bl_standing.specs.declared.fault.StateFault.{StateFault}
use Rattle.bl_standing.specs.declared.fault.StateFault.TheVariants.{Rejected, OldVersion, NotEnded, TooLarge, Program}

-- the text is that of a trail of this version, which leads to this state
pub record LeadsTo (begun : Setup) (trail : List ℕ) (version : Version) (x : State) : Type 0 where
  pub count : ℕ
  pub true_text : IsTrueText begun trail count
  pub version_is : true_text.version ≡ version
  pub end_is : x ≡ end_of begun trail count true_text

-- Own choice: a trail of version 2 leads to a state in which all has ended, and this setup stands there.
pub record StandsAtEnd (begun : Setup) (trail : List ℕ) (left : Setup) : Type 0 where
  pub x : State
  pub leads : LeadsTo begun trail Two x
  pub ended : HaveAllEnded x
  pub left_is : left ≡ setup_now x

-- Own choice: why nothing stands there that a setup file can hold for another run. A run that goes on is judged by version 2, so a
-- trail of version 1 leaves nothing for it.
abbrev pub HasNothingToWrite : Setup → List ℕ → StateFault → Type 0
HasNothingToWrite begun trail (Rejected number) = FirstWrong begun trail number
HasNothingToWrite begun trail OldVersion = (x : State) × LeadsTo begun trail One x
HasNothingToWrite begun trail NotEnded = (x : State) × LeadsTo begun trail Two x × (HaveAllEnded x → ⊥)
HasNothingToWrite begun trail (TooLarge bytes) = (left : Setup) × StandsAtEnd begun trail left
    × (bytes ≡ length (setup_text left)) × (most_setup_bytes < bytes)
HasNothingToWrite begun trail (Program fault) = fault ≡ NoMemory
