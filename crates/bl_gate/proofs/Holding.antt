-- What a pass has in hand, through a call.
use Rattle.std.proofs.Common.{◌≡◌, ◌≢◌, ℕ, zero, suc, ◌+◌, ◌≤◌, ◌⊎◌, inl, inr, List, [], ◌∷◌, ◌++◌, length, Some, refl, sym, ap, ◌∙◌, subst, arith, true, true≢false, length-append}
use mathlib.Core.Logic.{dite}
use native.Mathlib.Decide.{ℕ_discrete}
use Rattle.std.specs.Prelude.{slice_get}
use Rattle.std.proofs.lemmas.Bool.Decides.{nat_tests}
use Rattle.atomic_table.specs.Seated.{TableId}
use Rattle.bl_order.specs.Machine.{State, Event, Opens, Admits, Starts, Ends, Loses, MayStart, IsTrail, Phase, Waiting, Running, Ended, Gone, is_running, is_waiting, change, phase_at, runs, start, state_after}
use Rattle.bl_work.specs.declared.work.Work.{Work}
use Rattle.bl_order.proofs.Trails.{sound-start}
use Rattle.bl_eval.specs.Loan.{Loan}
use Rattle.bl_core.specs.Answers.{IsLentBy, IsStarted, loan_at}
use Rattle.bl_core.specs.declared.machine.Started.{Started}
use Rattle.bl_core.specs.declared.machine.Started.TheVariants.{Denied, RuleDone, Run}
use Rattle.bl_hall.specs.Chronicle.{Chronicle, HasTrail, state_now, with_event}
use Rattle.bl_hall.proofs.Trails.{reached-now, state-next}
use Rattle.bl_gate.specs.Counts.{StartsWith, gained, times}
use Rattle.bl_gate.specs.Gates.{PassView, Calls, InHand, HasLoanInHand, GivesInHand, KeepsInHand, hall_seen, hall_with, state_seen}
use Rattle.bl_gate.specs.Views.{View, Brought, brings, heard, joined, longer}
use Rattle.bl_gate.specs.Seats.{pass_of}
use Rattle.bl_gate.specs.Turns.{AreTold, EndsAt, IsTold, NoEndBehind}
use Rattle.bl_gate.proofs.Passing.{after_parts, trail_front, trail_back}
use Rattle.bl_order.specs.Running.{GoesOn}
use Rattle.bl_order.proofs.Running.{goes_on-started}
use Rattle.bl_gate.proofs.Lending.{lent_later, lent_still, starts_once, begun_behind, begun_once}
use Rattle.bl_gate.proofs.Halls.{sound_at}
use Rattle.bl_gate.proofs.Totals.{times-append}
use Rattle.bl_gate.proofs.Trails.{get_later, get_last}
use Rattle.bl_gate.proofs.Parts.{end_within}
use Rattle.bl_gate.proofs.Following.{base_stays}
use Rattle.bl_gate.proofs.Turned.{NextEndsItsOwn, Turned, turned_follows, turned_legal, turned_own}

-- ---- what a call adds

-- the event ends no such entry
abbrev pub IsNoEnd : Event → ℕ → Type 0
IsNoEnd event n = (event ≡ Ends n → ⊥) × (event ≡ Loses n → ⊥)

-- the entry does not end in what the hall has more
abbrev pub AddsNoEnd : Chronicle → Chronicle → ℕ → Type 0
AddsNoEnd taken put n = (r : ℕ) → length taken.trail ≤ r → EndsAt put.trail r n → ⊥

pub adds_nothing : (taken put : Chronicle) (n : ℕ) → put ≡ taken → AddsNoEnd taken put n
adds_nothing taken put n e r le at =
    let l = end_within put.trail r n at in
    let k : length put.trail ≡ length taken.trail = ap (λ (h : Chronicle). length h.trail) e in
    absurd (omega arith)

pub adds_other : (taken put : Chronicle) (event : Event) (n : ℕ) → put ≡ with_event taken event → IsNoEnd event n → AddsNoEnd taken put n
adds_other taken put event n e other r le at =
    let there : EndsAt (taken.trail ++ event ∷ []) r n = subst (λ (h : Chronicle). EndsAt h.trail r n) e at in
    let l = end_within (taken.trail ++ event ∷ []) r n there in
    let is : r ≡ length taken.trail = omega (arith, length-append taken.trail (event ∷ [])) in
    by (subst (λ (k : ℕ). EndsAt (taken.trail ++ event ∷ []) k n) is there)
  where
    by : EndsAt (taken.trail ++ event ∷ []) (length taken.trail) n → ⊥
    by (inl h) = let same : Some event ≡ Some (Ends n) = sym (get_last taken.trail event) ∙ h in other.0 (cc)
    by (inr h) = let same : Some event ≡ Some (Loses n) = sym (get_last taken.trail event) ∙ h in other.1 (cc)

pub adds_by : (taken put : Chronicle) (event : Event) (n : ℕ) → (put ≡ taken) ⊎ (put ≡ with_event taken event) → IsNoEnd event n → AddsNoEnd taken put n
adds_by taken put event n (inl e) other = adds_nothing taken put n e
adds_by taken put event n (inr e) other = adds_other taken put event n e other

pub opening_is_no_end : (subject n : ℕ) → IsNoEnd (Opens subject) n
opening_is_no_end subject n = ((λ e. absurd (cc)), (λ e. absurd (cc)))

pub start_is_no_end : (k n : ℕ) → IsNoEnd (Starts k) n
start_is_no_end k n = ((λ e. absurd (cc)), (λ e. absurd (cc)))

pub end_of_another : (k n : ℕ) → n ≢ k → IsNoEnd (Ends k) n
end_of_another k n apart = ((λ e. apart (same e)), (λ e. absurd (cc)))
  where
    same : Ends k ≡ Ends n → n ≡ k
    same e = cc

pub loss_of_another : (k n : ℕ) → n ≢ k → IsNoEnd (Loses k) n
loss_of_another k n apart = ((λ e. absurd (cc)), (λ e. apart (same e)))
  where
    same : Loses k ≡ Loses n → n ≡ k
    same e = cc

-- ---- what the rule asks of who goes on with the hall

-- what a pass would bring where two meet
abbrev pub brought_by : PassView → Brought
brought_by p = record { base = p.gate.base; seen = p.seen; own = p.own }

module _ (taken lent put : Chronicle) (own : List ℕ) (same : lent ≡ taken) where
  as_long : length taken.trail ≡ length lent.trail
  as_long = ap (λ (h : Chronicle). length h.trail) (sym same)

  -- where nothing ends nothing is asked
  pub ends_none : ((n : ℕ) → AddsNoEnd lent put n) → NextEndsItsOwn taken.trail put.trail own
  ends_none adds n q at there = let l = as_long in absurd (adds n (length taken.trail) (omega arith) at)

  -- where one entry ends, its start has to be one's own
  pub ends_one : (k : ℕ) → ((n : ℕ) → n ≢ k → AddsNoEnd lent put n) → ((q : ℕ) → slice_get taken.trail q ≡ Some (Starts k) → 1 ≤ times q own) → NextEndsItsOwn taken.trail put.trail own
  ends_one k adds mine n q at there =
      dite (ℕ_discrete n k)
      (λ is. mine q (there ∙ ap (λ (j : ℕ). Some (Starts j)) is))
      (λ apart. let l = as_long in absurd (adds n apart (length taken.trail) (omega arith) at))

-- an entry that is in hand has its start at that position alone
pub start_is_own : (p : PassView) (loan : Loan) → HasTrail (hall_seen p) → HasLoanInHand p loan → (q : ℕ) → slice_get p.seen q ≡ Some (Starts loan.entry) → 1 ≤ times q p.own
start_is_own p loan legal held q there =
    let one : held.entry.position ≡ q = starts_once (start p.gate.base.setup p.gate.base.limit) p.seen loan.entry held.entry.position q (sound-start p.gate.base.setup p.gate.base.limit) legal held.entry.start there in
    subst (λ (k : ℕ). 1 ≤ times k p.own) one held.entry.own

-- what may start has no start in the trail
pub ready_has_no_start : (taken : Chronicle) (k : ℕ) → HasTrail taken → MayStart (state_now taken) k → (q : ℕ) → slice_get taken.trail q ≡ Some (Starts k) → ⊥
ready_has_no_start taken k legal may q there =
    begun_once (phase_at (state_now taken) k) may.waits (begun_behind (start taken.setup taken.limit) taken.trail k q (sound-start taken.setup taken.limit) legal there)

-- ---- what was in hand is in hand later

back_get : (xs ys : List Event) (k r : ℕ) → k ≡ length xs + r → slice_get (xs ++ ys) k ≡ slice_get ys r
back_get [] ys k r e = ap (slice_get ys) (omega arith)
back_get (x ∷ xs) ys zero r e = absurd (omega arith)
back_get (x ∷ xs) ys (suc k) r e = back_get xs ys k r (omega arith)

-- where nothing ends it behind what was seen
pub held_later : (p q : PassView) → q.gate.base ≡ p.gate.base → StartsWith q.seen p.seen → HasTrail (hall_seen q) → ((k : ℕ) → 1 ≤ times k p.own → 1 ≤ times k q.own)
    → (loan : Loan) → ((r : ℕ) → length p.seen ≤ r → EndsAt q.seen r loan.entry → ⊥) → HasLoanInHand p loan → HasLoanInHand q loan
held_later p q same (rest, more) legal own loan ends held =
    let n : ℕ = loan.entry in
    let x : State = start p.gate.base.setup p.gate.base.limit in
    let leads : state_seen q ≡ state_after (state_seen p) rest = (λ i. state_now (hall_with (same i) (more i))) ∙ after_parts x p.seen rest in
    let whole : IsTrail x (p.seen ++ rest) = subst (λ (l : List Event). HasTrail (hall_with p.gate.base l)) more (subst (λ (b : Chronicle). HasTrail (hall_with b q.seen)) same legal) in
    let later = lent_later (state_seen p) rest n (reached-now (hall_seen p) (trail_front x p.seen rest whole)) (trail_back x p.seen rest whole)
    (λ r at. ends (length p.seen + r) (omega arith) (behind r at)) held.entry.running in
    record {
      entry = record {
        position = held.entry.position;
        own = own held.entry.position held.entry.own;
        start = get_later q.seen p.seen held.entry.position (Starts n) (rest, more) held.entry.start;
        running = subst (λ (y : State). runs y n ≡ true) (sym leads) later.0;
      };
      lent = held.lent ∙ (sym later.1 ∙ ap (λ (y : State). loan_at y n) (sym leads));
    }
  where
    there : (r : ℕ) → slice_get q.seen (length p.seen + r) ≡ slice_get rest r
    there r = ap (λ (l : List Event). slice_get l (length p.seen + r)) more ∙ back_get p.seen rest (length p.seen + r) r refl

    behind : (r : ℕ) → EndsAt rest r loan.entry → EndsAt q.seen (length p.seen + r) loan.entry
    behind r (inl e) = inl (there r ∙ e)
    behind r (inr e) = inr (there r ∙ e)

-- what is in hand runs in the hall that the pass has seen, and is lent what the loan is
pub seen_lends : (p : PassView) (lent : Chronicle) (loan : Loan) → lent ≡ hall_seen p → HasLoanInHand p loan → IsLentBy (state_now lent) loan
seen_lends p lent loan is held = subst (λ (h : Chronicle). IsLentBy (state_now h) loan) (sym is) (held.entry.running, held.lent)

-- what a call in a turn does not end is in hand after it
pub turned_keeps : (p : PassView) (taken put : Chronicle) (q : PassView) → Turned p taken put q → (loan : Loan) → AddsNoEnd taken put loan.entry → HasLoanInHand p loan → HasLoanInHand q loan
turned_keeps p taken put q turn loan adds held =
    held_later p q (base_stays p q (turned_follows p taken put q turn)) (turned_follows p taken put q turn).seen (turned_legal p taken put q turn) own loan ends held
  where
    own : (k : ℕ) → 1 ≤ times k p.own → 1 ≤ times k q.own
    own k o =
        let a = times-append k p.own (gained (length p.seen) (length q.seen)) in
        subst (λ (l : List ℕ). 1 ≤ times k l) (sym (turned_own p taken put q turn)) (omega arith)

    ends : (r : ℕ) → length p.seen ≤ r → EndsAt q.seen r loan.entry → ⊥
    ends r le at =
        let l : length taken.trail ≡ length p.seen = ap (λ (h : Chronicle). length h.trail) turn.taken_is in
        adds r (omega arith) (subst (λ (l : List Event). EndsAt l r loan.entry) (ap (λ (x : PassView). x.seen) turn.after_is) at)

-- what a pass had in hand it has where a turn begins
pub begun_keeps : (p : PassView) (trail : List Event) → StartsWith trail p.seen → HasTrail (hall_with p.gate.base trail) → NoEndBehind (brought_by p) trail → KeepsInHand p (record p { seen = trail })
begun_keeps p trail more legal none loan held =
    held_later p (record p { seen = trail }) refl more legal (λ k o. o) loan (λ r le at. none loan.entry held.entry.position r held.entry.own held.entry.start le at) held

-- ---- what a start lets run

pub gives_in_hand : (p q : PassView) (n : ℕ) (begun : Started) → Calls p (Starts n) (λ x. IsStarted x n begun) q → q.gate.base ≡ p.gate.base → HasTrail (hall_seen q) → GivesInHand q begun
gives_in_hand p q n (Denied denial) call same legal = tt
gives_in_hand p q n RuleDone call same legal = tt
gives_in_hand p q n (Run lent) call same legal =
    let h : Chronicle = hall_with p.gate.base call.trail in
    let x : State = start p.gate.base.setup p.gate.base.limit in
    let is : hall_seen q ≡ hall_with p.gate.base (call.trail ++ Starts n ∷ []) = (λ i. hall_with (same i) (call.seen i)) in
    let whole : IsTrail x (call.trail ++ Starts n ∷ []) = subst HasTrail is legal in
    let leads : state_seen q ≡ change (state_now h) (Starts n) = ap state_now is ∙ state-next h (Starts n) in
    let may : MayStart (state_now h) n = (trail_back x call.trail (Starts n ∷ []) whole).0 in
    let goes : GoesOn (state_now h) (change (state_now h) (Starts n)) n = goes_on-started (state_now h) n (sound_at h (trail_front x call.trail (Starts n ∷ []) whole)) may call.answered.0 in
    let entry : lent.entry ≡ n = ap (λ (l : Loan). l.entry) call.answered.1 in
    let one : times (length call.trail) (length call.trail ∷ []) ≡ 1 = once (length call.trail) in
    let added = times-append (length call.trail) p.own (length call.trail ∷ []) in
    let held : InHand q n × (lent ≡ loan_at (state_seen q) n) = (
      record {
        position = length call.trail;
        own = subst (λ (l : List ℕ). 1 ≤ times (length call.trail) l) (sym call.own) (omega arith);
        start = ap (λ (l : List Event). slice_get l (length call.trail)) call.seen ∙ get_last call.trail (Starts n);
        running = subst (λ (y : State). runs y n ≡ true) (sym leads) goes.running;
      },
      call.answered.1 ∙ (sym (lent_still (state_now h) (change (state_now h) (Starts n)) n goes) ∙ ap (λ (y : State). loan_at y n) (sym leads)),
    ) in
    let mine : InHand q lent.entry × (lent ≡ loan_at (state_seen q) lent.entry) = subst (λ (k : ℕ). InHand q k × (lent ≡ loan_at (state_seen q) k)) (sym entry) held in
    record { entry = mine.0; lent = mine.1 }
  where
    once : (k : ℕ) → times k (k ∷ []) ≡ 1
    once k = grind (arith, nat_tests)

-- a line is no end
pub line_is_no_end : (session ordinal : ℕ) (work : Work) (n : ℕ) → IsNoEnd (Admits session ordinal work) n
line_is_no_end session ordinal work n = ((λ e. absurd (cc)), (λ e. absurd (cc)))

-- what runs may not start
pub running_is_not_ready : (x : State) (n k : ℕ) → runs x n ≡ true → MayStart x k → n ≢ k
running_is_not_ready x n k running may e = never (phase_at x k) (ap (runs x) (sym e) ∙ running) may.waits
  where
    never : (f : Phase) → is_running f ≡ true → is_waiting f ≡ true → ⊥
    never Waiting r w = true≢false (sym r)
    never Running r w = true≢false (sym w)
    never Ended r w = true≢false (sym r)
    never Gone r w = true≢false (sym r)

-- ---- where two meet

-- what is told of what a pass brought
pub told_keeps : (p q : PassView) → IsTold q.gate.base q.seen (brought_by p) → HasTrail (hall_seen q) → ((k : ℕ) → 1 ≤ times k p.own → 1 ≤ times k q.own) → KeepsInHand p q
told_keeps p q told legal own loan held =
    held_later p q (sym told.of_hall) told.seen legal own loan (λ r le at. told.no_end loan.entry held.entry.position r held.entry.own held.entry.start le at) held

-- an entry has one start, which has one owner
hands_apart : (p o q : PassView) → StartsWith q.seen p.seen → StartsWith q.seen o.seen → HasTrail (hall_seen q) → ((k : ℕ) → times k p.own + times k o.own ≤ 1) → (n : ℕ) → InHand p n → InHand o n → ⊥
hands_apart p o q more more' legal apart n a b =
    let here = get_later q.seen p.seen a.position (Starts n) more a.start in
    let there = get_later q.seen o.seen b.position (Starts n) more' b.start in
    let one : b.position ≡ a.position = starts_once (start q.gate.base.setup q.gate.base.limit) q.seen n b.position a.position (sound-start q.gate.base.setup q.gate.base.limit) legal there here in
    let twice : 1 ≤ times a.position o.own = subst (λ (k : ℕ). 1 ≤ times k o.own) one b.own in
    let once = a.own in
    let most = apart a.position in absurd (omega arith)

-- what follows for the hands of two that met
pub record Met (p o q : PassView) : Type 0 where
  pub first : KeepsInHand p q
  pub second : KeepsInHand o q
  pub apart : (n : ℕ) → InHand p n → InHand o n → ⊥

pub met : (p o : PassView) (z z' z'' : TableId) (v u w : View) (parts parts' parts'' : ℕ) → pass_of z v parts ≡ p → pass_of z' u parts' ≡ o → w ≡ heard (joined v u)
    → AreTold v.base (longer v.seen u.seen) (brings v ∷ brings u ∷ []) → HasTrail (hall_with v.base (longer v.seen u.seen)) → ((k : ℕ) → times k (v.own ++ u.own) ≤ 1) → Met p o (pass_of z'' w parts'')
met p o z z' z'' v u w parts parts' parts'' is is' after told legal most =
    let p0 : PassView = pass_of z v parts in
    let o0 : PassView = pass_of z' u parts' in
    let q0 : PassView = pass_of z'' (heard (joined v u)) parts'' in
    let all : Met p0 o0 q0 = record {
      first = told_keeps p0 q0 told.0 legal (λ k h. let a = times-append k v.own u.own in omega arith);
      second = told_keeps o0 q0 told.1.0 legal (λ k h. let a = times-append k v.own u.own in omega arith);
      apart = hands_apart p0 o0 q0 told.0.seen told.1.0.seen legal (λ k. let a = times-append k v.own u.own in let m = most k in omega arith);
    } in
    subst (λ (x : View). Met p o (pass_of z'' x parts'')) (sym after) (subst (λ (x : PassView). Met p x q0) is' (subst (λ (x : PassView). Met x o0 q0) is all))
