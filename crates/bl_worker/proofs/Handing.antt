-- Passes that have settled what they started, but for what is in hand.
use Rattle.std.proofs.Common.{◌≡◌, ℕ, ◌<◌, ◌≤◌, ◌⊎◌, inl, inr, List, [], ◌∷◌, ◌++◌, length, Some, true, sym, ap, ◌∙◌, subst, arith, append_assoc}
use Rattle.std.specs.Prelude.{IsTrue, slice_get}
use Rattle.bl_order.specs.Machine.{State, Starts, has_ended}
use Rattle.bl_hall.specs.Chronicle.{HasTrail}
use Rattle.bl_gate.specs.Counts.{times}
use Rattle.bl_gate.specs.Gates.{PassView, Calls, Follows, HasLoanInHand, hall_seen, state_seen}
use Rattle.bl_gate.proofs.Totals.{times-append}
use Rattle.bl_gate.proofs.Trails.{begins_length, get_sooner}
use Rattle.bl_gate.proofs.Following.{calls_from}
use Rattle.bl_worker.specs.declared.turn.Turn.{Turn}
use Rattle.bl_worker.specs.Turns.{AddsTurnsOf, Closes, HasWorked, IsEventOf, IsTurnOf, Settles}
use Rattle.bl_worker.proofs.Adding.{adds_itself, adds_then, turns_as}
use Rattle.bl_worker.proofs.Working.{settles_from, settles_run, worked_from}
use Rattle.bl_worker.specs.Hands.{HasBegun, HasInHand, Holds, IsBegunOf, IsHandOf, RunsEntry, SettlesBut}
use Rattle.bl_worker.specs.declared.hand.Hand.{Hand}
use Rattle.bl_worker.specs.declared.hand.Hand.TheVariants.{Empty, Ran, Failed}
use Rattle.bl_worker.specs.declared.turn.Begun.{Begun}
use Rattle.bl_worker.specs.declared.turn.Begun.TheVariants.{Over, Runs}
use Rattle.bl_eval.specs.Loan.{Loan}
use Rattle.bl_worker.proofs.Settling.{call_inside, call_there, of_start, one_place, passes_later}

pub all_settled : (Held : ℕ → Type 0) (p q : PassView) → Settles p q → SettlesBut Held p q
all_settled Held p q s = record { gained = s.gained; own = s.own; within = s.within; settled = λ i n h at. inl (s.settled i n h at) }

-- what is in hand no more has ended
pub settled_all : (Held : ℕ → Type 0) (p q : PassView) → SettlesBut Held p q → ((n : ℕ) → Held n → has_ended (state_seen q) n ≡ true) → Settles p q
settled_all Held p q s ended = record { gained = s.gained; own = s.own; within = s.within; settled = λ i n h at. by n (s.settled i n h at) }
  where
    by : (n : ℕ) → (IsTrue (has_ended (state_seen q) n)) ⊎ Held n → IsTrue (has_ended (state_seen q) n)
    by n (inl e) = e
    by n (inr h) = ended n h

-- what is in hand as another thing
pub held_as : (Held Kept : ℕ → Type 0) (p q : PassView) → SettlesBut Held p q → ((n : ℕ) → Held n → Kept n) → SettlesBut Kept p q
held_as Held Kept p q s kept = record { gained = s.gained; own = s.own; within = s.within; settled = λ i n h at. by n (s.settled i n h at) }
  where
    by : (n : ℕ) → (IsTrue (has_ended (state_seen q) n)) ⊎ Held n → (IsTrue (has_ended (state_seen q) n)) ⊎ Kept n
    by n (inl e) = inl e
    by n (inr h) = inr (kept n h)

-- one after the other, where what was in hand has ended or is in hand still
pub but_on : (Held Kept : ℕ → Type 0) (p q r : PassView) → SettlesBut Held p q → SettlesBut Kept q r → Follows q r → HasTrail (hall_seen r)
    → ((n : ℕ) → Held n → (IsTrue (has_ended (state_seen r) n)) ⊎ Kept n) → SettlesBut Kept p r
but_on Held Kept p q r s t follows legal goes = record {
  gained = s.gained ++ t.gained;
  own = t.own ∙ (ap (λ (l : List ℕ). l ++ t.gained) s.own ∙ append_assoc p.own s.gained t.gained);
  within = λ i h. within i (either i h);
  settled = λ i n h at. settled i n (either i h) at;
}
  where
    either : (i : ℕ) → 1 ≤ times i (s.gained ++ t.gained) → (1 ≤ times i s.gained) ⊎ (1 ≤ times i t.gained)
    either i h = let e = times-append i s.gained t.gained in grind arith

    within : (i : ℕ) → (1 ≤ times i s.gained) ⊎ (1 ≤ times i t.gained) → i < length r.seen
    within i (inl h) = let l = s.within i h in let b = begins_length r.seen q.seen follows.seen in omega arith
    within i (inr h) = t.within i h

    by : (n : ℕ) → (IsTrue (has_ended (state_seen q) n)) ⊎ Held n → (IsTrue (has_ended (state_seen r) n)) ⊎ Kept n
    by n (inl e) = inl ((passes_later q r follows legal).ended n e)
    by n (inr h) = goes n h

    settled : (i n : ℕ) → (1 ≤ times i s.gained) ⊎ (1 ≤ times i t.gained) → slice_get r.seen i ≡ Some (Starts n) → (IsTrue (has_ended (state_seen r) n)) ⊎ Kept n
    settled i n (inl h) at = by n (s.settled i n h (sym (get_sooner r.seen q.seen i follows.seen (s.within i h)) ∙ at))
    settled i n (inr h) at = t.settled i n h at

-- one after the other, where what was in hand has ended
pub but_then : (Held Kept : ℕ → Type 0) (p q r : PassView) → SettlesBut Held p q → SettlesBut Kept q r → Follows q r → HasTrail (hall_seen r)
    → ((n : ℕ) → Held n → has_ended (state_seen r) n ≡ true) → SettlesBut Kept p r
but_then Held Kept p q r s t follows legal ended = but_on Held Kept p q r s t follows legal (λ n h. inl (ended n h))

-- one call, which starts what is in hand after it
starts_held : (p q : PassView) (n : ℕ) (Answered : State → Type 0) → Calls p (Starts n) Answered q → SettlesBut (λ k. n ≡ k) p q
starts_held p q n Answered call = record {
  gained = length call.trail ∷ [];
  own = call.own;
  within = λ i h. (let l = call_inside p q (Starts n) Answered call in let e = one_place i (length call.trail) h in omega arith);
  settled = λ i k h at. inr (of_start (Starts n) (Starts k) (sym (call_there p q (Starts n) Answered call) ∙ (ap (slice_get q.seen) (sym (one_place i (length call.trail) h)) ∙ at)));
}

-- what was begun is over, or in hand
pub begun_settles : (p q : PassView) (begun : Begun) → HasBegun p q begun → SettlesBut (RunsEntry begun) p q
begun_settles p q (Over turn) h = all_settled (RunsEntry (Over turn)) p q h.1
begun_settles p q (Runs lent) h = starts_held p q lent.entry _ h.1

-- a worker's turn
pub worked : (p q r : PassView) (begun : Begun) → Settles p q → HasBegun q r begun → Follows q r → HasTrail (hall_seen r) → SettlesBut (RunsEntry begun) p r
worked p q r begun s h follows legal =
    but_then (λ _. ⊥) (RunsEntry begun) p q r (all_settled (λ _. ⊥) p q s) (begun_settles q r begun h) follows legal (λ n none. absurd none)

-- ---- what was begun in a turn of the pass's own

module _ (p t u q : PassView) (follows : Follows p t) (own : t.own ≡ p.own) (left : q ≡ u) where
  pub begun_over : (turn : Turn) → HasBegun t u (Over turn) → HasWorked p q turn × Settles p q
  begun_over turn h =
      subst (λ (x : PassView). HasWorked p x turn × Settles p x) (sym left) (worked_from p t u turn own h.0, settles_from p t u own h.1)

  pub begun_held : (lent : Loan) → HasBegun t u (Runs lent) → HasLoanInHand q lent
  begun_held lent h = subst (λ (x : PassView). HasLoanInHand x lent) (sym left) h.0

  -- and what runs was ended by an event of the pass's own
  pub begun_closed : (r : PassView) (lent : Loan) → HasBegun t u (Runs lent) → Follows q r → Closes lent.entry q r → Settles p r
  begun_closed r lent h later closes =
      settles_run p q r lent.entry _ (calls_from p t q (Starts lent.entry) _ follows own (subst (λ (x : PassView). Calls t (Starts lent.entry) (λ _. Unit {0}) x) (sym left) h.1)) later closes

  pub begun_adds : (Entry : ℕ → Type 0) → AddsTurnsOf Entry t u → Follows t u → AddsTurnsOf Entry p q
  begun_adds Entry adds later = subst (AddsTurnsOf Entry p) (sym left) (adds_then (λ _. IsEventOf Entry) p t u (adds_itself (λ _. IsEventOf Entry) p t own) adds later)

  -- and what runs was run, all of one turn
  pub begun_ran : (r : PassView) (lent : Loan) (turn : Turn) → AddsTurnsOf (λ n. IsBegunOf n (Runs lent)) t u → Follows t u → IsTurnOf lent.entry turn
      → AddsTurnsOf (λ n. IsTurnOf n turn) q r → Follows q r → AddsTurnsOf (λ n. IsTurnOf n turn) p r
  begun_ran r lent turn begun later of ran last =
      adds_then (λ _. IsEventOf (λ n. IsTurnOf n turn)) p q r
      (begun_adds (λ n. IsTurnOf n turn) (turns_as (λ n. lent.entry ≡ n) (λ n. IsTurnOf n turn) t u begun (λ n e. subst (λ (k : ℕ). IsTurnOf k turn) e of)) later)
      ran last

-- ---- hands

-- what was run is in hand
pub hand_of : (p : PassView) (lent : Loan) (hand : Hand) → IsHandOf lent hand → HasLoanInHand p lent → HasInHand p hand
hand_of p lent Empty is held = tt
hand_of p lent (Ran done) is held = subst (HasLoanInHand p) (sym is) held
hand_of p lent (Failed unrun) is held = subst (HasLoanInHand p) (sym is) held

pub holds_what_ran : (lent : Loan) (hand : Hand) → IsHandOf lent hand → (n : ℕ) → lent.entry ≡ n → Holds hand n
holds_what_ran lent Empty is n e = absurd is
holds_what_ran lent (Ran done) is n e = ap (λ (l : Loan). l.entry) is ∙ e
holds_what_ran lent (Failed unrun) is n e = ap (λ (l : Loan). l.entry) is ∙ e

-- where it is over nothing runs
pub over_runs_none : (begun : Begun) (turn : Turn) → begun ≡ Over turn → (n : ℕ) → RunsEntry begun n → ⊥
over_runs_none begun turn is n runs = subst (λ (b : Begun). RunsEntry b n) is runs
