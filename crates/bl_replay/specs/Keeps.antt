-- What is kept of the events so far, at the state that they lead to.
use Rattle.std.specs.Prelude.{◌≡◌, ℕ, ◌+◌, ◌<◌, ◌≤◌, All, List, ◌∷◌, ◌++◌, length, map, sum_by}
use Rattle.bl_setup.specs.Agreement.{Agree}
use Rattle.bl_setup.specs.Setup.{Setup, by_version}
use Rattle.bl_order.specs.Headline.{IsReached}
use Rattle.bl_order.specs.Machine.{State, Event, Needs, change, past_at, entry_weight}
use Rattle.bl_order.specs.Machine as machine
use Rattle.bl_order.specs.Order.{unnamed}
use Rattle.bl_trail.specs.EventText.{event_text}
use Rattle.bl_trail.specs.Versions.{HasEvent}
use Rattle.bl_replay.specs.Fed.{IsFed}
use Rattle.bl_replay.specs.Findings.{AreFindings}
use Rattle.bl_replay.specs.Kept.{KnowsPlace, entry_in, phase_in, place_in, queued_as, task_in}
use Rattle.bl_replay.specs.Marks.{Finding, Foretells, lost_later}
use Rattle.bl_replay.specs.declared.replayer.Replayer.{Replayer}
use Rattle.bl_replay.specs.declared.replayer.Session.{Session}

abbrev pub session_in : Session → machine.Session
session_in s = record { subject = s.subject; last = s.last }

-- the setup of the run, which is judged by the version that is kept
abbrev pub setup_in : Replayer → Setup
setup_in r = by_version r.version r.setup

-- what is kept is that of a state that a trail leads to, and the monitor was told the first entries of its order
pub record KeepsAt (x : State) (r : Replayer) : Type 0 where
  pub reached : IsReached x
  pub agree : Agree x.setup
  pub setup : setup_in r ≡ x.setup
  pub limit : r.limit ≡ x.limit
  pub low : x.limit ≤ 100000
  pub sessions : x.sessions ≡ map session_in r.sessions.items
  pub few : length x.sessions ≤ 1000
  pub speakers : All (λ (s : Session). s.subject < length x.setup.policy.subjects) r.sessions.items
  pub order : map unnamed x.order ≡ map entry_in r.places.items
  pub phases : x.phases ≡ map phase_in r.places.items
  pub weight : r.weight ≡ sum_by entry_weight x.order
  pub tasks : (n : ℕ) → n < length r.places.items → (past_at x n).task ≡ task_in (place_in r.places.items n)
  pub known : All (KnowsPlace x.setup) r.places.items
  pub queues : r.queues ≡ record { cowns = length x.setup.policy.documents + 1; limit = x.limit; entries = map queued_as r.places.items }
  pub fed : IsFed x.setup (lost_later r.marks.items) (map entry_in r.places.items) r.monitor r.answers.items

-- the events so far lead to the state, and the marks foretell what this text, which is still to come, says of the ends
-- of places
pub record Replays (r : Replayer) (x : State) (text : List ℕ) : Type 0 where
  pub keeps : KeepsAt x r
  pub found : List Finding
  pub are : AreFindings text found
  pub foretell : Foretells x (lost_later r.marks.items) found

-- some events lead to where the line comes next
abbrev pub IsReady : Replayer → List ℕ → Type 0
IsReady r line = (x : State) × (rest : List ℕ) × Replays r x (line ++ 10 ∷ rest)

-- the event has come, which the version has: the line is its text
pub record HasCome (x : State) (event : Event) (line : List ℕ) (r : Replayer) : Type 0 where
  pub needs : Needs x event
  pub has : HasEvent x.setup.version event
  pub text : line ≡ event_text x event
  pub keeps : KeepsAt (change x event) r

-- the event does not come with this line
abbrev pub DoesNotCome : State → Event → List ℕ → Type 0
DoesNotCome x event line = Needs x event → HasEvent x.setup.version event → line ≡ event_text x event → ⊥
