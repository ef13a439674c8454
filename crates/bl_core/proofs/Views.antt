-- The state of a core, read off its fields.
use Rattle.std.proofs.Common.{◌≡◌, ℕ, ◌<◌, true, length, refl, ap, sym, ◌∙◌, subst}
use Rattle.std.proofs.lemmas.List.{length-map, get_or-map}
use Rattle.bl_work.specs.declared.answer.Answer.{Answer}
use Rattle.bl_work.specs.declared.answer.Answer.TheVariants as answers
use Rattle.bl_order.specs.Machine.{State, Waiting, phase_at, is_over}
use Rattle.bl_place.specs.Places.{no_place, place_in, entry_of, phase_of}
use Rattle.bl_core.specs.View.{state_of}
use Rattle.bl_place.specs.declared.place.Place.{Place}
use Rattle.bl_place.specs.declared.place.Stand.{Stand}
use Rattle.bl_place.specs.declared.place.Stand.TheVariants.{Ended}
use Rattle.bl_core.specs.declared.machine.Core.TheInside.{Inside}

pub length-order : (c : Inside) → length (state_of c).order ≡ length c.places.items
length-order c = length-map c.places.items entry_of

pub phase-read : (c : Inside) (n : ℕ) → n < length c.places.items → phase_at (state_of c) n ≡ phase_of (place_in c.places.items n).stand
phase-read c n lt = get_or-map (λ (p : Place). phase_of p.stand) c.places.items n no_place Waiting lt

pub there : (c : Inside) (x : State) (n : ℕ) → state_of c ≡ x → n < length x.order → n < length c.places.items
there c x n is lt = subst (λ (m : ℕ). n < m) (length-order c) (subst (λ (y : State). n < length y.order) (sym is) lt)

-- a stand with an answer is over
pub over-ended : (a : Answer) → is_over (phase_of (Ended a)) ≡ true
over-ended (answers.Done outputs) = refl
over-ended answers.RuleDone = refl
over-ended (answers.Denied denial) = refl
over-ended answers.Lost = refl

pub over-by : (s : Stand) (a : Answer) → s ≡ Ended a → is_over (phase_of s) ≡ true
over-by s a e = ap (λ (v : Stand). is_over (phase_of v)) e ∙ over-ended a

pub ended_of : (a b : Answer) → Ended a ≡ Ended b → a ≡ b
ended_of a b e = cc
