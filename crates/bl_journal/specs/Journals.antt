-- What the file of a journal says, whatever stands at its end.
use Rattle.std.specs.Prelude.{◌≡◌, ℕ, List, ◌∷◌, ◌++◌}
use Rattle.std.specs.List.{AllByRecursion}
use Rattle.bl_disk.specs.File.{Begins}
use Rattle.bl_setup.specs.Setup.{Setup, by_version}
use Rattle.bl_setup.specs.declared.version.Version.{Version}
use Rattle.bl_order.specs.Machine.{State, Event, Needs, IsTrail, start, state_after}
use Rattle.bl_trail.specs.EventText.{event_text}
use Rattle.bl_trail.specs.TrueText.{HasNoLf, IsLimit, event_texts, head_lines, joined}
use Rattle.bl_trail.specs.Versions.{HasEvent, HasEvents, HasSetup}
use Rattle.bl_trail.specs.declared.head.Head.{Head}
use Rattle.bl_trail.specs.declared.head.Head.TheVariants.{Right, Wrong}

-- Journal (own choice): the version by which a run is judged, its limit, and the events that have happened in it
pub record Journal : Type 0 where
  pub version : Version
  pub limit : ℕ
  pub events : List Event

-- where the run began, and where its events lead
abbrev pub first_state : Setup → Journal → State
first_state setup journal = start (by_version journal.version setup) journal.limit

abbrev pub last_state : Setup → Journal → State
last_state setup journal = state_after (first_state setup journal) journal.events

-- the lines of its events, without their LF
abbrev pub lines_of_events : Setup → Journal → List (List ℕ)
lines_of_events setup journal = event_texts (first_state setup journal) journal.events

-- own choice: the text of a journal is that of the trail so far, the head and a line for each event, and no `stop`
abbrev pub journal_text : Setup → Journal → List ℕ
journal_text setup journal = joined (head_lines journal.version journal.limit ++ lines_of_events setup journal)

-- the events are a trail of a run over the setup, which the version has, under the limit; and their lines have no LF
pub record IsHistory (setup : Setup) (journal : Journal) : Type 0 where
  pub has_setup : HasSetup journal.version setup
  pub is_limit : IsLimit journal.limit
  pub steps : IsTrail (first_state setup journal) journal.events
  pub has_events : HasEvents journal.version journal.events
  pub plain : AllByRecursion HasNoLf (lines_of_events setup journal)

-- the text does not begin with the line of an event that the version has and that may come next
abbrev pub GoesNoFurther : State → List ℕ → Type 0
GoesNoFurther x text =
    (event : Event) (more : List ℕ) → Needs x event → HasEvent x.setup.version event → HasNoLf (event_text x event)
    → text ≡ event_text x event ++ 10 ∷ more → ⊥

-- Recovered (own choice): the longest history with whose text the file begins
pub record IsRecovered (setup : Setup) (file : List ℕ) (journal : Journal) : Type 0 where
  pub history : IsHistory setup journal
  pub rest : List ℕ
  pub split : file ≡ journal_text setup journal ++ rest
  pub no_further : GoesNoFurther (last_state setup journal) rest

-- one journal goes on from another: it is of the same run, and begins with the events of that
pub record GoesOnFrom (earlier later : Journal) : Type 0 where
  pub version : later.version ≡ earlier.version
  pub limit : later.limit ≡ earlier.limit
  pub events : Begins earlier.events later.events

-- what was read at the head of a file, where it is right, is the journal's version and limit, with the lines of its
-- events behind them
abbrev pub IsHeadOf : Setup → Journal → Head → Type 0
IsHeadOf setup journal (Right version limit rest) =
    (version ≡ journal.version) × (limit ≡ journal.limit) × Begins (joined (lines_of_events setup journal)) rest.now
IsHeadOf setup journal (Wrong number) = Unit {0}
