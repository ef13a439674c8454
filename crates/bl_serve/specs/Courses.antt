-- How a session over a gate stands: what was admitted for it, what it was answered, and whether another pass spoke for
-- it.
use Rattle.std.specs.Prelude.{◌≡◌, ◌≢◌, ℕ, ◌+◌, ◌<◌, ◌≤◌, ⊤, ◌⊎◌, true, false, List, [], ◌∷◌, ◌++◌}
use Rattle.std.specs.Prelude.{length, filter, All, Contains, Some, slice_get, drop}
use Rattle.bl_work.specs.Names.{KnownNames}
use Rattle.bl_work.specs.declared.work.Work.{Work}
use Rattle.bl_order.specs.Labels.{tag}
use Rattle.bl_order.specs.Machine.{State, Event, Opens, Admits, Starts, Ends, Loses, session_at, has_ended, weight_of}
use Rattle.bl_order.specs.Room.{admitted_weight}
use Rattle.bl_hall.specs.Chronicle.{HasTrail, state_now}
use Rattle.bl_gate.specs.Counts.{StartsWith, times}
use Rattle.bl_gate.specs.Gates.{PassView, Follows, hall_seen, hall_with, state_seen}
use Rattle.bl_worker.specs.Turns.{Adds, AddsTurnsAlone}
use Rattle.bl_wire.specs.Replies.{line_text}
use Rattle.bl_engine.specs.declared.request.Request.TheVariants as request
use Rattle.bl_engine.specs.declared.request.Request.{Request}
use Rattle.bl_engine.specs.Requests.{SameUpTo}
use Rattle.bl_session.specs.Pages.{ordinal_of}
use Rattle.bl_session.specs.Transcripts.{admitted, has_ordinal}

-- each line of the session in the trail stands at one of these positions
abbrev pub StandAt : List ℕ → ℕ → List Event → Type 0
StandAt positions session trail =
    (p ordinal : ℕ) (work : Work) → slice_get trail p ≡ Some (Admits session ordinal work) → 1 ≤ times p positions

-- No other pass spoke for the session: each line of it that the pass has seen stands at a position that the pass has
-- gained since `before`.
abbrev pub SpeaksAlone : (before after : PassView) → ℕ → Type 0
SpeaksAlone before after session = StandAt (drop (length before.own) after.own) session after.seen

-- At one of these positions the session was opened for the subject: its number is that of the sessions before it.
pub record IsOpenedAt (positions : List ℕ) (pass : PassView) (session subject : ℕ) : Type 0 where
  pub front : List Event
  pub there : StartsWith pass.seen (front ++ Opens subject ∷ [])
  pub number : session ≡ length (state_now (hall_with pass.gate.base front)).sessions
  pub own : 1 ≤ times (length front) positions

-- the pass opened the session since `before`
abbrev pub HasOpened : (before after : PassView) → ℕ → Type 0
HasOpened before after session = (subject : ℕ) × IsOpenedAt (drop (length before.own) after.own) after session subject

-- an event of a session that was opened at this position: that opening, a line of the session, or the start, the end or
-- the loss of an entry
abbrev pub IsOfSession : (session opening : ℕ) → ℕ → Event → Type 0
IsOfSession session opening position (Opens subject) = position ≡ opening
IsOfSession session opening position (Admits other ordinal work) = other ≡ session
IsOfSession session opening position (Starts n) = Unit {0}
IsOfSession session opening position (Ends n) = Unit {0}
IsOfSession session opening position (Loses n) = Unit {0}

-- the pass opened the session since `before`, and made no event but those of this session: it opened and spoke for no
-- other one
pub record IsOwn (before after : PassView) (session : ℕ) : Type 0 where
  pub opened : HasOpened before after session
  pub mine : Adds (IsOfSession session (length opened.1.front)) before after

-- what the pass has gained since `before` is nothing, or the events of one session alone
abbrev pub AddsOneSession : (before after : PassView) → Type 0
AddsOneSession before after = (after.own ≡ before.own) ⊎ ((session : ℕ) × IsOwn before after session)

-- The pass spoke for no session but one that it opened itself: it owns what it owned, each position that it has gained
-- since `before` is one that it has seen, and a line there is of a session that was opened at one of them.
pub record SpeaksForItsOwn (before after : PassView) : Type 0 where
  pub gained : List ℕ
  pub own : after.own ≡ before.own ++ gained
  pub within : (p : ℕ) → 1 ≤ times p gained → p < length after.seen
  pub lines : (p session ordinal : ℕ) (work : Work) → 1 ≤ times p gained
      → slice_get after.seen p ≡ Some (Admits session ordinal work)
      → (subject : ℕ) × IsOpenedAt gained after session subject

-- the works that are asked in what was told, each with its ordinal
abbrev pub asked_in : List Request → List (ℕ × Work)
asked_in [] = []
asked_in (request.Opens subject ∷ told) = asked_in told
asked_in (request.Admits ordinal work ∷ told) = (ordinal, work) ∷ asked_in told
asked_in (request.Settles ∷ told) = asked_in told

-- Of the works that were asked these were admitted, and of another one the weight and all that was admitted exceed the
-- limit in this state. All have ordinals up to the last one.
pub record AreAdmitted (x : State) (last : ℕ) (asked works : List (ℕ × Work)) : Type 0 where
  pub are : works ≡ filter (λ (a : ℕ × Work). has_ordinal works a.0) asked
  pub full : All (λ (a : ℕ × Work). has_ordinal works a.0 ≡ false → x.limit < admitted_weight x + weight_of a.1) asked
  pub asked_low : All (λ (a : ℕ × Work). a.0 ≤ last) asked
  pub works_low : All (λ (a : ℕ × Work). a.0 ≤ last) works

-- nothing is asked to be settled
abbrev pub HasNoSettles : List Request → Type 0
HasNoSettles [] = ⊤
HasNoSettles (request.Opens subject ∷ told) = HasNoSettles told
HasNoSettles (request.Admits ordinal work ∷ told) = HasNoSettles told
HasNoSettles (request.Settles ∷ told) = ⊥

-- what was asked before the last settling has ordinals up to this one
pub record IsCovered (upto : ℕ) (told : List Request) : Type 0 where
  pub done : List Request
  pub rest : List Request
  pub split : told ≡ done ++ rest
  pub unsettled : HasNoSettles rest
  pub low : All (λ (a : ℕ × Work). a.0 ≤ upto) (asked_in done)

-- the session's entries below its lines up to an ordinal have ended
abbrev pub IsOverUpTo : State → ℕ → ℕ → Type 0
IsOverUpTo x session n =
    (p : ℕ) → p < length x.order → (tag x.order p).session ≡ session → ordinal_of (tag x.order p) ≤ n
    → has_ended x p ≡ true

-- What the trail admits for the session are these works. Its lines up to an ordinal are over, and what is answered to
-- them is what the trail leads to.
pub record IsAnswered (pass : PassView) (session upto : ℕ) (works : List (ℕ × Work)) (replies : ℕ → List ℕ)
    : Type 0 where
  pub lines : admitted session pass.seen ≡ works
  pub over : IsOverUpTo (state_seen pass) session upto
  pub answers : SameUpTo upto replies (line_text (state_seen pass) session)

-- each line of the session that stands at one of these positions has one of these works
abbrev pub HaveWorks : List ℕ → ℕ → List Event → List (ℕ × Work) → Type 0
HaveWorks positions session trail works =
    (p ordinal : ℕ) (work : Work) → 1 ≤ times p positions → slice_get trail p ≡ Some (Admits session ordinal work)
    → Contains works (ordinal, work)

-- an event that is no line of the session
abbrev pub IsNoLineOf : ℕ → Event → Type 0
IsNoLineOf session (Opens subject) = Unit {0}
IsNoLineOf session (Admits other ordinal work) = other ≢ session
IsNoLineOf session (Starts n) = Unit {0}
IsNoLineOf session (Ends n) = Unit {0}
IsNoLineOf session (Loses n) = Unit {0}

-- the pass has admitted no line of the session since then
abbrev pub AdmitsNoLineOf : ℕ → PassView → PassView → Type 0
AdmitsNoLineOf session before after = Adds (λ _. IsNoLineOf session) before after

-- a session over a gate: its number, an ordinal up to which all lies that was asked, the one up to which it was
-- answered, and the text of its replies
pub record Course : Type 0 where
  pub session : ℕ
  pub last : ℕ
  pub upto : ℕ
  pub replies : ℕ → List ℕ

-- The pass has opened the session since `first`, and this was told of it: each line of it that the pass has gained has
-- one of the works that were admitted. Where no other pass spoke for it, and the names are the hall's, it was answered
-- what the trail leads to. The pass may have gained events of other sessions too.
pub record IsCourse (names : KnownNames) (first pass : PassView) (course : Course) (told : List Request) : Type 0 where
  pub gained : List ℕ
  pub own : pass.own ≡ first.own ++ gained
  pub within : (p : ℕ) → 1 ≤ times p gained → p < length pass.seen
  pub trail : HasTrail (hall_seen pass)
  pub there : course.session < length (state_seen pass).sessions
  pub subject : ℕ
  pub more : List Request
  pub opened : told ≡ request.Opens subject ∷ more
  pub opening : IsOpenedAt gained pass course.session subject
  pub subject_is : (session_at (state_seen pass) course.session).subject ≡ subject
  pub works : List (ℕ × Work)
  pub mine : HaveWorks gained course.session pass.seen works
  pub admits : AreAdmitted (state_seen pass) course.last (asked_in told) works
  pub covers : IsCovered course.upto told
  pub answered : names ≡ pass.gate.base.setup.names → StandAt gained course.session pass.seen
      → IsAnswered pass course.session course.upto works course.replies

-- What a session does to a pass while it keeps quiet: the pass follows what it was and takes turns alone, and where
-- what it had seen was a trail it is one still.
pub record KeepsQuiet (before after : PassView) : Type 0 where
  pub follows : Follows before after
  pub adds : AddsTurnsAlone before after
  pub trail : HasTrail (hall_seen before) → HasTrail (hall_seen after)
