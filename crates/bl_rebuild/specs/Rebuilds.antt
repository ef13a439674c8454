-- The hall of a text.
use Rattle.std.specs.Prelude.{◌≡◌, ℕ, ◌+◌, ◌≤◌, List, ◌++◌, length}
use Rattle.bl_setup.specs.Setup.{Setup}
use Rattle.bl_setup.specs.declared.version.Version.TheVariants.{One, Two}
use Rattle.bl_order.specs.Machine.{Event}
use Rattle.bl_trail.specs.Follow.{Followed}
use Rattle.bl_trail.specs.TrueText.{FirstWrong, IsLimit, head_lines, joined}
use Rattle.bl_trail.specs.Versions.{HasSetup}
use Rattle.bl_hall.specs.Chronicle.{Chronicle, state_now}
use Rattle.bl_journal.specs.Journals.{GoesNoFurther, IsRecovered, Journal, journal_text}
use Rattle.bl_rebuild.specs.Following.{Course, with_events}
use Rattle.bl_rebuild.specs.Unfinished.{loans_now}
use Rattle.bl_rebuild.specs.declared.fault.RebuildFault.{RebuildFault}
use Rattle.bl_rebuild.specs.declared.fault.RebuildFault.TheVariants.{Head, OldVersion, Memory}
use Rattle.bl_rebuild.specs.declared.rebuild.Rebuilt.{Rebuilt}

-- the journal of a hall, which is of version 2
abbrev pub journal_of : Chronicle → Journal
journal_of hall = record { version = Two; limit = hall.limit; events = hall.trail }

-- The hall is over the setup, and has the events that are recovered of the text; what stands in front is their
-- journal's text; and what runs in the hall was lent just this.
pub record IsRebuilt (setup : Setup) (text : List ℕ) (rebuilt : Rebuilt) : Type 0 where
  pub setup_is : rebuilt.hall.setup ≡ setup
  pub recovered : IsRecovered setup text (journal_of rebuilt.hall)
  pub right : rebuilt.right ≡ length (journal_text setup (journal_of rebuilt.hall))
  pub running : rebuilt.running.items ≡ loans_now (state_now rebuilt.hall)

-- The events of the lines in front have happened in the hall, and what stands after so many bytes goes no further; and
-- what runs in the hall was lent just this.
pub record IsFollowedBy (before : Course) (rebuilt : Rebuilt) : Type 0 where
  pub events : List Event
  pub rest : List ℕ
  pub followed : Followed (state_now before.hall) before.rest rest events
  pub hall : rebuilt.hall ≡ with_events before.hall events
  pub no_further : GoesNoFurther (state_now rebuilt.hall) rest
  pub counted : rebuilt.right + length rest ≡ length before.text
  pub running : rebuilt.running.items ≡ loans_now (state_now rebuilt.hall)

-- the head is that of a trail of version 1
pub record IsOld (setup : Setup) (text : List ℕ) : Type 0 where
  pub has_setup : HasSetup One setup
  pub limit : ℕ
  pub is_limit : IsLimit limit
  pub rest : List ℕ
  pub split : text ≡ joined (head_lines One limit) ++ rest

-- a line of the head, of which there are two, is the first of the text that is not right; so no journal is recovered
pub record IsHeadless (setup : Setup) (text : List ℕ) (line : ℕ) : Type 0 where
  pub wrong : FirstWrong setup text line
  pub of_head : line ≤ 2
  pub none : (journal : Journal) → IsRecovered setup text journal → ⊥

-- why there is no hall of the text
abbrev pub IsNotRebuilt : Setup → List ℕ → RebuildFault → Type 0
IsNotRebuilt setup text (Head line) = IsHeadless setup text line
IsNotRebuilt setup text OldVersion = IsOld setup text
IsNotRebuilt setup text Memory = Unit {0}
