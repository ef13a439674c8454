-- An event of a trail, where its line is written after the trail has ended.
use Rattle.std.specs.Prelude.{◌≡◌, ◌<◌, ◌≤◌, ◌^◌, ℕ, List, [], ◌∷◌, ◌++◌, drop, length, Option, Some, None}
use Rattle.bl_work.specs.declared.answer.Answer.{Answer}
use Rattle.bl_work.specs.declared.answer.Answer.TheVariants as answer
use Rattle.bl_work.specs.declared.work.Work.{Work}
use Rattle.bl_order.specs.Headline.{IsReached}
use Rattle.bl_order.specs.Machine.{State, Event, Opens, Admits, Starts, Ends, Loses, IsTrail, state_after}
use Rattle.bl_hall.specs.declared.event.Event as kept
use Rattle.bl_hall.specs.declared.event.Event.TheVariants as kept_as
use Rattle.bl_hall.specs.Recalled.{works_of}
use Rattle.bl_wire.specs.Watch.{EndState, Puts}
use Rattle.bl_trail.specs.EventText.{event_text}
use Rattle.bl_trail.specs.TrueText.{HasNoLf}
use Rattle.bl_trail.specs.declared.text.Words.{Words}
use Rattle.bl_trail.specs.declared.text.Words.TheVariants as said

-- the works of the lines that events admit
abbrev pub works_in : List Event → List Work
works_in [] = []
works_in (Opens subject ∷ events) = works_in events
works_in (Admits session ordinal work ∷ events) = work ∷ works_in events
works_in (Starts n ∷ events) = works_in events
works_in (Ends n ∷ events) = works_in events
works_in (Loses n ∷ events) = works_in events

-- the works of the lines at and after a place
abbrev pub lines_from : State → ℕ → List Work
lines_from x n = works_of (drop n x.order)

-- A trail leads to the state that the event finds, it and the later ones lead to the end, and their lines stand from a
-- place of the order on.
pub record Comes (x : State) (event : Event) (later : List Event) (end : State) (at : ℕ) : Type 0 where
  pub reached : IsReached x
  pub steps : IsTrail x (event ∷ later)
  pub leads : end ≡ state_after x (event ∷ later)
  pub place : at ≤ length end.order
  pub lines : lines_from end at ≡ works_in (event ∷ later)

-- The line of the event was put, which has no LF but at its end, and the later lines stand from this place on.
pub record HasLine (x : State) (event : Event) (later : List Event) (end : State) (next : ℕ)
    (old new : EndState) : Type 0 where
  pub text : Puts (event_text x event ++ 10 ∷ []) old new
  pub plain : HasNoLf (event_text x event)
  pub place : next ≤ length end.order
  pub rest : lines_from end next ≡ works_in later

-- what a start said, by the answer of its place at the end, if it has one there
abbrev pub words_later : Option Answer → Words
words_later None = said.Run
words_later (Some (answer.Done shown)) = said.Run
words_later (Some answer.RuleDone) = said.Rule
words_later (Some (answer.Denied denial)) = said.Denied denial
words_later (Some answer.Lost) = said.Run

-- the numbers of an event fit their types
abbrev pub NumbersFit : kept.Event → Type 0
NumbersFit (kept_as.Open subject) = Unit {0}
NumbersFit (kept_as.Line session ordinal) = (session < 2 ^ 32) × (ordinal < 2 ^ 32)
NumbersFit (kept_as.Start n) = n < 2 ^ 32
NumbersFit (kept_as.End n) = n < 2 ^ 32
NumbersFit (kept_as.Lost n) = n < 2 ^ 32
