-- How the machine of one worker stands between two calls.
use Rattle.std.specs.Prelude.{◌≡◌, ℕ, ◌+◌, ◌-◌, ◌<◌, ◌≤◌, ◌⊎◌, true, IsTrue}
use Rattle.std.specs.Prelude.{List, [], ◌∷◌, ◌++◌, length, slice_index_or}
use Rattle.bl_setup.specs.Setup.{Setup}
use Rattle.bl_order.specs.Labels.{Tag, tag}
use Rattle.bl_order.specs.Order.{Entry}
use Rattle.bl_order.specs.Machine.{State, Event, Ends, Loses, Waiting, phase_at, has_ended, most_sessions, session_at}
use Rattle.bl_hall.specs.Chronicle.{Chronicle, HasTrail, state_now, with_event}
use Rattle.bl_engine.specs.declared.request.Request.{Request}
use Rattle.bl_engine.specs.Requests.{SameUpTo}
use Rattle.bl_wire.specs.Replies.{line_text}
use Rattle.bl_session.specs.declared.entries.Pages.{Pages}
use Rattle.bl_session.specs.One.{Fate, events_of, next_session, place_events, run_from}

-- the ordinal of the line that a place stands below
abbrev pub ordinal_of : Tag → ℕ
ordinal_of t = slice_index_or t.label 0 0

-- each place from this one on stands below a later line
abbrev pub AreLater : ℕ → List Entry → ℕ → Type 0
AreLater from order n = (p : ℕ) → from ≤ p → p < length order → n < ordinal_of (tag order p)

-- the places up to one have ended, and the others wait
pub record RanUpTo (n : ℕ) (x : State) : Type 0 where
  pub as_many : length x.phases ≡ length x.order
  pub within : n ≤ length x.order
  pub over : (p : ℕ) → p < n → has_ended x p ≡ true
  pub waits : (p : ℕ) → n ≤ p → phase_at x p ≡ Waiting

-- the hall is one over this setup, whose places have run up to the next one
pub record Stands (setup : Setup) (s : Pages) : Type 0 where
  pub setup_is : s.hall.setup ≡ setup
  pub trail : HasTrail s.hall
  pub ran : RanUpTo s.next (state_now s.hall)

-- and its session is open
pub record IsOpen (setup : Setup) (s : Pages) : Type 0 where
  pub stands : Stands setup s
  pub there : s.session < length (state_now s.hall).sessions

-- what is answered up to an ordinal stands for good: each place that has not run stands below a later line
abbrev pub IsSettled : ℕ → Pages → Type 0
IsSettled n s = AreLater s.next (state_now s.hall).order n

-- the ordinal of the session's last line
abbrev pub last_of : Pages → ℕ
last_of s = (session_at (state_now s.hall) s.session).last

-- A session may begin in this hall over the setup: all that had been admitted there has ended, and there is room for
-- one session more.
pub record MayBegin (setup : Setup) (hall : Chronicle) : Type 0 where
  pub setup_is : hall.setup ≡ setup
  pub ended : (n : ℕ) → n < length (state_now hall).order → IsTrue (has_ended (state_now hall) n)
  pub room : length (state_now hall).sessions < most_sessions

-- with more events
abbrev pub with_events : Chronicle → List Event → Chronicle
with_events h events = record { setup = h.setup; limit = h.limit; trail = h.trail ++ events }

-- The session began in this hall over the setup, as the next one that is opened there; it has room for one, and all
-- that had entered it has run.
pub record BeganIn (setup : Setup) (begun : Chronicle) (s : Pages) : Type 0 where
  pub setup_is : begun.setup ≡ setup
  pub limit_is : s.hall.limit ≡ begun.limit
  pub session_is : s.session ≡ next_session (state_now begun)
  pub room : s.session < most_sessions
  pub over : length (state_now begun).order ≤ s.next

-- What was told brought the pages here from the hall that the session began in: what has happened since is One's for
-- what became of the places that have run, whatever becomes of the others.
pub record Came (setup : Setup) (begun : Chronicle) (s : Pages) (told : List Request) : Type 0 where
  pub stands : Stands setup s
  pub began : BeganIn setup begun s
  pub fate : ℕ → Fate
  pub led : (other : ℕ → Fate) → ((n : ℕ) → n < s.next → other n ≡ fate n)
      → s.hall.trail ≡ begun.trail ++ events_of s.session other (state_now begun) told

-- the session is at its start: its hall was told nothing yet, and what has not run there stands below a line
pub record IsAtStart (setup : Setup) (s : Pages) : Type 0 where
  pub came : Came setup s.hall s []
  pub settled : IsSettled 0 s

-- this request was told, behind all that was told before
abbrev pub GoesOnWith : Setup → (old new : Pages) → Request → Type 0
GoesOnWith setup old new request =
    (begun : Chronicle) (told : List Request) → Came setup begun old told
    → Came setup begun new (told ++ request ∷ [])

-- the running place has ended, or is lost
pub record HasEnded (n : ℕ) (before after : Chronicle) : Type 0 where
  pub is : (after ≡ with_event before (Ends n)) ⊎ (after ≡ with_event before (Loses n))
  pub trail : HasTrail after

-- this became of the place: it has had its events
pub record HasHad (n : ℕ) (before after : Chronicle) : Type 0 where
  pub fate : Fate
  pub is : after ≡ with_events before (place_events fate (state_now before) n)
  pub trail : HasTrail after

-- this became of the places from one on up to another: they have had their events
pub record HaveRun (before : Chronicle) (from : ℕ) (after : Chronicle) (to : ℕ) : Type 0 where
  pub some : from ≤ to
  pub setup_is : after.setup ≡ before.setup
  pub limit_is : after.limit ≡ before.limit
  pub trail : HasTrail after
  pub ran : RanUpTo to (state_now after)
  pub fate : ℕ → Fate
  pub led : (other : ℕ → Fate) → ((n : ℕ) → from ≤ n → n < to → other n ≡ fate n) → (most : ℕ)
      → after.trail ++ run_from other most (state_now after) to
      ≡ before.trail ++ run_from other ((to - from) + most) (state_now before) from

-- what was answered up to an ordinal stands, and is answered so still, to the same session
pub record StillAnswers (n : ℕ) (before after : Pages) : Type 0 where
  pub number : after.session ≡ before.session
  pub later : IsSettled n after
  pub same : SameUpTo n (line_text (state_now before.hall) before.session)
      (line_text (state_now after.hall) after.session)
