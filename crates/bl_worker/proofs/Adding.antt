-- Passes that have made no event but such ones.
use Rattle.std.proofs.Common.{◌≡◌, ℕ, ◌<◌, ◌≤◌, ◌⊎◌, inl, inr, List, [], ◌∷◌, ◌++◌, length, Some, sym, ap, ◌∙◌, subst, arith, append_assoc, append-nil}
use Rattle.std.specs.Prelude.{slice_get}
use Rattle.bl_order.specs.Machine.{State, Event, Opens, Admits, Starts, Ends, Loses}
use Rattle.bl_gate.specs.Counts.{times}
use Rattle.bl_gate.specs.Gates.{PassView, Calls, Follows}
use Rattle.bl_gate.proofs.Trails.{begins_length, get_sooner}
use Rattle.bl_gate.proofs.Totals.{times-append}
use Rattle.bl_worker.specs.Turns.{Adds, AddsTurnsAlone, AddsTurnsOf, AdmitsNoLine, IsEventOf, IsNoLine}
use Rattle.bl_worker.proofs.Settling.{call_inside, call_there, one_place}

pub adds_itself : (Such : ℕ → Event → Type 0) (p q : PassView) → q.own ≡ p.own → Adds Such p q
adds_itself Such p q e = record {
  gained = [];
  own = e ∙ sym (append-nil p.own);
  within = λ i h. absurd (omega arith);
  events = λ i e h. absurd (omega arith);
}

-- one call
pub adds_call : (Such : ℕ → Event → Type 0) (p q : PassView) (event : Event) (Answered : State → Type 0) → (call : Calls p event Answered q) → Such (length call.trail) event → Adds Such p q
adds_call Such p q event Answered call is = record {
  gained = length call.trail ∷ [];
  own = call.own;
  within = λ i h. (let l = call_inside p q event Answered call in let e = one_place i (length call.trail) h in omega arith);
  events = λ i e h at. of i e (one_place i (length call.trail) h) (sym (call_there p q event Answered call) ∙ (ap (slice_get q.seen) (sym (one_place i (length call.trail) h)) ∙ at));
}
  where
    of : (i : ℕ) (e : Event) → i ≡ length call.trail → Some event ≡ Some e → Such i e
    of i e here same = let h : event ≡ e = cc in subst (λ (n : ℕ). Such n e) (sym here) (subst (Such (length call.trail)) h is)

-- one after the other
pub adds_then : (Such : ℕ → Event → Type 0) (p q r : PassView) → Adds Such p q → Adds Such q r → Follows q r → Adds Such p r
adds_then Such p q r s t follows = record {
  gained = s.gained ++ t.gained;
  own = t.own ∙ (ap (λ (l : List ℕ). l ++ t.gained) s.own ∙ append_assoc p.own s.gained t.gained);
  within = λ i h. within i (either i h);
  events = λ i e h at. events i e (either i h) at;
}
  where
    either : (i : ℕ) → 1 ≤ times i (s.gained ++ t.gained) → (1 ≤ times i s.gained) ⊎ (1 ≤ times i t.gained)
    either i h = let e = times-append i s.gained t.gained in grind arith

    within : (i : ℕ) → (1 ≤ times i s.gained) ⊎ (1 ≤ times i t.gained) → i < length r.seen
    within i (inl h) = let l = s.within i h in let b = begins_length r.seen q.seen follows.seen in omega arith
    within i (inr h) = t.within i h

    events : (i : ℕ) (e : Event) → (1 ≤ times i s.gained) ⊎ (1 ≤ times i t.gained) → slice_get r.seen i ≡ Some e → Such i e
    events i e (inl h) at = s.events i e h (sym (get_sooner r.seen q.seen i follows.seen (s.within i h)) ∙ at)
    events i e (inr h) at = t.events i e h at

-- events of a wider kind
pub adds_as : (Such Other : ℕ → Event → Type 0) (p q : PassView) → Adds Such p q → ((i : ℕ) (e : Event) → Such i e → Other i e) → Adds Other p q
adds_as Such Other p q s wider = record { gained = s.gained; own = s.own; within = s.within; events = λ i e h at. wider i e (s.events i e h at) }

-- turns with more entries
pub turns_as : (Entry Other : ℕ → Type 0) (p q : PassView) → AddsTurnsOf Entry p q → ((n : ℕ) → Entry n → Other n) → AddsTurnsOf Other p q
turns_as Entry Other p q s wider = adds_as (λ _. IsEventOf Entry) (λ _. IsEventOf Other) p q s (λ i. by)
  where
    by : (e : Event) → IsEventOf Entry e → IsEventOf Other e
    by (Opens u) h = absurd h
    by (Admits i k w) h = absurd h
    by (Starts n) h = wider n h
    by (Ends n) h = wider n h
    by (Loses n) h = wider n h

pub adds_alone : (Entry : ℕ → Type 0) (p q : PassView) → AddsTurnsOf Entry p q → AddsTurnsAlone p q
adds_alone Entry p q s = turns_as Entry (λ n. Unit {0}) p q s (λ n h. tt)

-- a turn is no line
pub adds_no_line : (Entry : ℕ → Type 0) (p q : PassView) → AddsTurnsOf Entry p q → AdmitsNoLine p q
adds_no_line Entry p q s = adds_as (λ _. IsEventOf Entry) (λ _. IsNoLine) p q s (λ i. no_line)
  where
    no_line : (e : Event) → IsEventOf Entry e → IsNoLine e
    no_line (Opens u) h = tt
    no_line (Admits i k w) h = h
    no_line (Starts n) h = tt
    no_line (Ends n) h = tt
    no_line (Loses n) h = tt
