-- A line more is followed, or no further one.
use Rattle.std.proofs.Common.{◌≡◌, ℕ, List, [], ◌∷◌, ◌++◌, refl, sym, ◌∙◌, ap, subst, append_assoc}
use Rattle.bl_order.specs.Machine.{State, Event, change, start, state_after}
use Rattle.bl_hall.specs.Chronicle.{Chronicle, state_now, with_event}
use Rattle.bl_trail.specs.Asks.{HasNo}
use Rattle.bl_trail.specs.EventText.{event_text}
use Rattle.bl_trail.specs.Follow.{IsLine, IsNoEvent}
use Rattle.bl_journal.specs.Journals.{GoesNoFurther}
use Rattle.bl_journal.proofs.Heading.{same_line}
use Rattle.bl_rebuild.specs.Following.{HasTaken, with_events}
use Rattle.bl_rebuild.specs.Stepping.{HasStepped}
use Rattle.bl_rebuild.specs.declared.stepper.Stepper.{Stepper}

-- where events lead that come after others
leads : (x : State) (es fs : List Event) → state_after x (es ++ fs) ≡ state_after (state_after x es) fs
leads x [] fs = refl
leads x (e ∷ es) fs = leads (change x e) es fs

pub state-with : (h : Chronicle) (events : List Event) → state_now (with_events h events) ≡ state_after (state_now h) events
state-with h events = leads (start h.setup h.limit) h.trail events

pub one-event-more : (h : Chronicle) (events : List Event) (e : Event) → with_event (with_events h events) e ≡ with_events h (events ++ e ∷ [])
one-event-more h events e = ap (λ t. record h { trail = t }) (append_assoc h.trail events (e ∷ []))

-- a text with an LF has one
pub has-lf : (a b : List ℕ) → HasNo 10 (a ++ 10 ∷ b) → ⊥
has-lf [] b h = h.0 refl
has-lf (x ∷ a) b h = has-lf a b h.1

-- a torn line is no event's
pub torn-no-further : (x : State) (text : List ℕ) → HasNo 10 text → GoesNoFurther x text
torn-no-further x text none event more needs has plain is = has-lf (event_text x event) more (subst (HasNo 10) is none)

-- nor is a line that is wrong
pub wrong-no-further : (x : State) (text line rest : List ℕ) → IsLine text line rest → IsNoEvent x line → GoesNoFurther x text
wrong-no-further x text line rest cut wrong event more needs has plain is =
    wrong event needs has (same_line line (event_text x event) rest more cut.plain plain (sym cut.split ∙ is)).0

-- a follower whose stepper has taken the next line has taken it
pub taken : (before after : Stepper) (text rest line behind : List ℕ) → IsLine rest line behind → HasStepped before line behind after
    → HasTaken (record { hall = before.remade.hall; text = text; rest = rest }) (record { hall = after.remade.hall; text = text; rest = behind })
taken before after text rest line behind cut step = record {
  event = step.event;
  needs = step.needs;
  has = step.has;
  plain = subst (HasNo 10) step.text cut.plain;
  line = cut.split ∙ ap (λ l. l ++ 10 ∷ behind) step.text;
  hall = step.made.hall;
  text = refl;
}
