-- Passes that have settled what they started.
use Rattle.std.proofs.Common.{◌≡◌, ℕ, ◌<◌, ◌≤◌, ◌⊎◌, inl, inr, List, [], ◌∷◌, ◌++◌, length, Some, true, sym, ap, ◌∙◌, subst, arith, append_assoc, append-nil, length-append}
use Rattle.std.specs.Prelude.{IsTrue, slice_get}
use Rattle.std.proofs.lemmas.Bool.Decides.{nat_tests}
use Rattle.bl_order.specs.Machine.{State, Event, Opens, Admits, Starts, Ends, Loses, Needs, IsTrail, change, has_ended, start, state_after}
use Rattle.bl_order.proofs.Sound.{IsSound}
use Rattle.bl_hall.specs.Chronicle.{Chronicle, HasTrail, state_now}
use Rattle.bl_hall.proofs.Trails.{state-next}
use Rattle.bl_gate.specs.Counts.{times, StartsWith}
use Rattle.bl_gate.specs.Gates.{PassView, Calls, Follows, hall_seen, hall_with, state_seen}
use Rattle.bl_gate.proofs.Following.{base_stays}
use Rattle.bl_gate.proofs.Halls.{sound_at}
use Rattle.bl_gate.proofs.Trails.{begins_length, get_later, get_last, get_sooner}
use Rattle.bl_gate.proofs.Totals.{times-append}
use Rattle.bl_worker.specs.Turns.{Settles}
use Rattle.bl_gate.proofs.Passing.{Passes, passes_trail, after_parts, trail_front, trail_back}

-- what holds from one point of a hall's trail to a later one
pub passes_on : (h : Chronicle) (t s : List Event) → StartsWith t s → HasTrail (hall_with h t) → Passes (state_now (hall_with h s)) (state_now (hall_with h t))
passes_on h t s (rest, e) legal =
    let x : State = start h.setup h.limit in
    let whole : IsTrail x (s ++ rest) = subst (IsTrail x) e legal in
    subst (λ (l : List Event). Passes (state_after x s) (state_after x l)) (sym e)
    (subst (Passes (state_after x s)) (sym (after_parts x s rest))
    (passes_trail (state_after x s) rest (sound_at (hall_with h s) (trail_front x s rest whole)) (trail_back x s rest whole)))

-- and from one moment of a pass to a later one
pub passes_later : (p q : PassView) → Follows p q → HasTrail (hall_seen q) → Passes (state_seen p) (state_seen q)
passes_later p q follows legal =
    subst (λ (h : Chronicle). Passes (state_now (hall_with h p.seen)) (state_seen q)) (base_stays p q follows) (passes_on q.gate.base q.seen p.seen follows.seen legal)

-- A call in the trail: the state before it, where the event may come, and the state after it, where it has.
pub record Happened (event : Event) (Answered : State → Type 0) (after : State) : Type 0 where
  pub before : State
  pub sound : IsSound before
  pub needs : Needs before event
  pub answered : Answered before
  pub leads : after ≡ change before event

pub happened : (p q : PassView) (event : Event) (Answered : State → Type 0) → Calls p event Answered q → Follows p q → HasTrail (hall_seen q) → Happened event Answered (state_seen q)
happened p q event Answered call follows legal =
    let h : Chronicle = hall_with p.gate.base call.trail in
    let is : hall_seen q ≡ hall_with p.gate.base (call.trail ++ event ∷ []) = (λ i. hall_with (base_stays p q follows i) (call.seen i)) in
    let whole : HasTrail (hall_with p.gate.base (call.trail ++ event ∷ [])) = subst HasTrail is legal in
    let x : State = start p.gate.base.setup p.gate.base.limit in
    record {
      before = state_now h;
      sound = sound_at h (trail_front x call.trail (event ∷ []) whole);
      needs = (trail_back x call.trail (event ∷ []) whole).0;
      answered = call.answered;
      leads = ap state_now is ∙ state-next h event;
    }

-- ---- what stands where

pub one_place : (p k : ℕ) → 1 ≤ times p (k ∷ []) → p ≡ k
one_place p k h = grind (arith, nat_tests)

-- where a call stands
pub call_there : (p q : PassView) (event : Event) (Answered : State → Type 0) (call : Calls p event Answered q) → slice_get q.seen (length call.trail) ≡ Some event
call_there p q event Answered call = ap (λ (l : List Event). slice_get l (length call.trail)) call.seen ∙ get_last call.trail event

pub call_inside : (p q : PassView) (event : Event) (Answered : State → Type 0) (call : Calls p event Answered q) → length call.trail < length q.seen
call_inside p q event Answered call =
    let e : length q.seen ≡ length (call.trail ++ event ∷ []) = ap length call.seen in omega (arith, length-append call.trail (event ∷ []))

abbrev pub started : Event → ℕ
started (Opens s) = 0
started (Admits i o w) = 0
started (Starts n) = n
started (Ends n) = 0
started (Loses n) = 0

pub of_start : (a b : Event) → Some a ≡ Some b → started a ≡ started b
of_start a b e = let h : a ≡ b = cc in ap started h

-- ---- settling

pub settles_itself : (p q : PassView) → q.own ≡ p.own → Settles p q
settles_itself p q e = record {
  gained = [];
  own = e ∙ sym (append-nil p.own);
  within = λ i h. absurd (omega arith);
  settled = λ i n h. absurd (omega arith);
}

-- one call, which starts nothing that has not ended
pub settles_call : (p q : PassView) (event : Event) (Answered : State → Type 0) → Calls p event Answered q
    → ((n : ℕ) → Some event ≡ Some (Starts n) → has_ended (state_seen q) n ≡ true) → Settles p q
settles_call p q event Answered call ended = record {
  gained = length call.trail ∷ [];
  own = call.own;
  within = λ i h. (let l = call_inside p q event Answered call in let e = one_place i (length call.trail) h in omega arith);
  settled = λ i n h at. ended n (sym (call_there p q event Answered call) ∙ (ap (slice_get q.seen) (sym (one_place i (length call.trail) h)) ∙ at));
}

-- what has settled and goes on so has settled
pub settles_then : (p q r : PassView) → Settles p q → Settles q r → Follows q r → HasTrail (hall_seen r) → Settles p r
settles_then p q r s t follows legal = record {
  gained = s.gained ++ t.gained;
  own = t.own ∙ (ap (λ (l : List ℕ). l ++ t.gained) s.own ∙ append_assoc p.own s.gained t.gained);
  within = λ i h. within i (either i h);
  settled = λ i n h at. settled i n (either i h) at;
}
  where
    either : (i : ℕ) → 1 ≤ times i (s.gained ++ t.gained) → (1 ≤ times i s.gained) ⊎ (1 ≤ times i t.gained)
    either i h = let e = times-append i s.gained t.gained in grind arith

    within : (i : ℕ) → (1 ≤ times i s.gained) ⊎ (1 ≤ times i t.gained) → i < length r.seen
    within i (inl h) = let l = s.within i h in let b = begins_length r.seen q.seen follows.seen in omega arith
    within i (inr h) = t.within i h

    settled : (i n : ℕ) → (1 ≤ times i s.gained) ⊎ (1 ≤ times i t.gained) → slice_get r.seen i ≡ Some (Starts n) → IsTrue (has_ended (state_seen r) n)
    settled i n (inl h) at = (passes_later q r follows legal).ended n (s.settled i n h (sym (get_sooner r.seen q.seen i follows.seen (s.within i h)) ∙ at))
    settled i n (inr h) at = t.settled i n h at

-- a start, and an event that ends what was started
pub settles_calls : (p q r : PassView) (n : ℕ) (event : Event) (A B : State → Type 0) → Calls p (Starts n) A q → Calls q event B r → Follows q r
    → ((k : ℕ) → Some event ≡ Some (Starts k) → ⊥) → has_ended (state_seen r) n ≡ true → Settles p r
settles_calls p q r n event A B first second follows other ended = record {
  gained = length first.trail ∷ length second.trail ∷ [];
  own = second.own ∙ (ap (λ (l : List ℕ). l ++ length second.trail ∷ []) first.own ∙ append_assoc p.own (length first.trail ∷ []) (length second.trail ∷ []));
  within = λ i h. within i (either i h);
  settled = λ i k h at. settled i k (either i h) at;
}
  where
    either : (i : ℕ) → 1 ≤ times i (length first.trail ∷ length second.trail ∷ []) → (i ≡ length first.trail) ⊎ (i ≡ length second.trail)
    either i h = grind (arith, nat_tests)

    within : (i : ℕ) → (i ≡ length first.trail) ⊎ (i ≡ length second.trail) → i < length r.seen
    within i (inl e) = let l = call_inside p q (Starts n) A first in let b = begins_length r.seen q.seen follows.seen in omega arith
    within i (inr e) = let l = call_inside q r event B second in omega arith

    settled : (i k : ℕ) → (i ≡ length first.trail) ⊎ (i ≡ length second.trail) → slice_get r.seen i ≡ Some (Starts k) → IsTrue (has_ended (state_seen r) k)
    settled i k (inl e) at =
        let there = get_later r.seen q.seen (length first.trail) (Starts n) follows.seen (call_there p q (Starts n) A first) in
        let same : Some (Starts n) ≡ Some (Starts k) = sym there ∙ (ap (slice_get r.seen) (sym e) ∙ at) in
        subst (λ (j : ℕ). has_ended (state_seen r) j ≡ true) (of_start (Starts n) (Starts k) same) ended
    settled i k (inr e) at = absurd (other k (sym (call_there q r event B second) ∙ (ap (slice_get r.seen) (sym e) ∙ at)))
