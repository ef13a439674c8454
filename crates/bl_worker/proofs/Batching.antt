-- Batches of entries in hand, step by step.
use Rattle.std.proofs.Common.{◌≡◌, ◌≢◌, ℕ, ◌+◌, ◌<◌, ◌≤◌, ◌⊎◌, Bool, length, inl, inr, List, [], ◌∷◌, ◌++◌, map, true, false, refl, sym, ap, ◌∙◌, subst, arith, append_assoc, append-nil}
use Rattle.std.specs.Prelude.{◌==◌, All, IsTrue, MatchBool, MatchResult, reverse, Result, Ok, Err}
use Rattle.std.proofs.lemmas.Bool.Decides.{nat_tests}
use Rattle.std.proofs.lemmas.List.{map-append, reverse-append}
use Rattle.std.proofs.lemmas.List.Elements.{All-nil, All-cons, All-head, All-tail, All-push, All-weaker}
use Rattle.bl_order.specs.Machine.{State, Starts, MayStart, has_ended, phase_at, runs, start}
use Rattle.bl_order.proofs.Sound.{has_begun}
use Rattle.bl_order.proofs.Conflicts.{or_left}
use Rattle.bl_eval.specs.Loan.{Loan}
use Rattle.bl_hall.specs.Chronicle.{Chronicle, HasTrail, state_now}
use Rattle.bl_gate.specs.Counts.{one_if}
use Rattle.bl_gate.specs.Gates.{PassView, Calls, Follows, HasLoanInHand, InHand, KeepsInHand, KeepsInHandBut, hall_seen, hall_with, state_seen}
use Rattle.bl_gate.proofs.Following.{base_stays, follows_itself, follows_then}
use Rattle.bl_gate.proofs.Lending.{begun_once}
use Rattle.bl_gate.proofs.Passing.{trail_front, trail_back}
use Rattle.bl_worker.specs.Batches.{EndsNone, IsBatch, lent_by, loan_of, times_lent}
use Rattle.bl_worker.specs.Turns.{HasWorked, IsTurnOf, Settles}
use Rattle.bl_worker.specs.Hands.{HasBegun, HasMade, IsBegunOf, IsNoMiss, MissesNone, events_of}
use Rattle.bl_worker.specs.declared.turn.Turn.{Turn}
use Rattle.bl_worker.specs.declared.turn.Turn.TheVariants.{Idle, Missed, Denied, Done, Lost}
use Rattle.bl_worker.specs.declared.turn.Begun.{Begun}
use Rattle.bl_worker.specs.declared.turn.Begun.TheVariants.{Over, Runs}
use Rattle.bl_worker.proofs.Handing.{all_settled, but_on, begun_settles, held_as, settled_all}
use Rattle.bl_worker.proofs.Settling.{one_place, passes_on, settles_itself}

-- ---- counting

pub times_lent-append : (n : ℕ) (xs ys : List Loan) → times_lent n (xs ++ ys) ≡ times_lent n xs + times_lent n ys
times_lent-append n [] ys = omega arith
times_lent-append n (x ∷ xs) ys = let e = times_lent-append n xs ys in omega arith

one_if_same : (k n : ℕ) → k ≡ n → one_if (k == n) ≡ 1
one_if_same k n e = grind (arith, nat_tests)

apart_if : (k n : ℕ) → one_if (k == n) ≡ 0 → k ≢ n
apart_if k n h e = let s = one_if_same k n e in absurd (omega arith)

zero_if : (k n : ℕ) → k ≢ n → one_if (k == n) ≡ 0
zero_if k n ne = grind (arith, nat_tests)

one_of_two : (a b : ℕ) → 1 ≤ a + b → (1 ≤ a) ⊎ (1 ≤ b)
one_of_two a b h = grind arith

-- what is in hand with one more is that one, or is in hand without it
held_or : (n : ℕ) (loans : List Loan) (loan : Loan) → 1 ≤ times_lent n (loans ++ loan ∷ []) → (1 ≤ times_lent n loans) ⊎ (loan.entry ≡ n)
held_or n loans loan h =
    let e = times_lent-append n loans (loan ∷ []) in
    by (one_of_two (times_lent n loans) (one_if (loan.entry == n)) (omega arith))
  where
    by : (1 ≤ times_lent n loans) ⊎ (1 ≤ one_if (loan.entry == n)) → (1 ≤ times_lent n loans) ⊎ (loan.entry ≡ n)
    by (inl h) = inl h
    by (inr h) = inr (sym (one_place n loan.entry (omega arith)))

-- and the other way
or_held : (n : ℕ) (loans : List Loan) (loan : Loan) → (1 ≤ times_lent n loans) ⊎ (loan.entry ≡ n) → 1 ≤ times_lent n (loans ++ loan ∷ [])
or_held n loans loan (inl h) = let e = times_lent-append n loans (loan ∷ []) in omega arith
or_held n loans loan (inr is) = let e = times_lent-append n loans (loan ∷ []) in let s = one_if_same loan.entry n is in omega arith

-- ---- who is in hand

-- what is in hand stays so, but for one entry
held_but : (n : ℕ) (p q : PassView) → KeepsInHandBut n p q → (loans : List Loan) → times_lent n loans ≡ 0 → All (HasLoanInHand p) loans → All (HasLoanInHand q) loans
held_but n p q keeps [] none held = All-nil (HasLoanInHand q)
held_but n p q keeps (loan ∷ loans) none held =
    All-cons (HasLoanInHand q) loan loans
    (keeps loan (apart_if loan.entry n (omega arith)) (All-head (HasLoanInHand p) loan loans held))
    (held_but n p q keeps loans (omega arith) (All-tail (HasLoanInHand p) loan loans held))

-- what starts was in no hand
start_apart : (p q : PassView) (n k : ℕ) (Answered : State → Type 0) → Calls p (Starts n) Answered q → Follows p q → HasTrail (hall_seen q) → InHand p k → k ≢ n
start_apart p q n k Answered call follows legal hand same =
    let h : Chronicle = hall_with p.gate.base call.trail in
    let is : hall_seen q ≡ hall_with p.gate.base (call.trail ++ Starts n ∷ []) = (λ i. hall_with (base_stays p q follows i) (call.seen i)) in
    let whole : HasTrail (hall_with p.gate.base (call.trail ++ Starts n ∷ [])) = subst HasTrail is legal in
    let x : State = start p.gate.base.setup p.gate.base.limit in
    let may : MayStart (state_now h) n = (trail_back x call.trail (Starts n ∷ []) whole).0 in
    let runs_on = (passes_on p.gate.base call.trail p.seen call.from (trail_front x call.trail (Starts n ∷ []) whole)).begun k (or_left (runs (state_seen p) k) (has_ended (state_seen p) k) hand.running) in
    begun_once (phase_at (state_now h) n) may.waits (subst (λ (j : ℕ). has_begun (state_now h) j ≡ true) same runs_on)

none_starts : (p q : PassView) (n : ℕ) (Answered : State → Type 0) → Calls p (Starts n) Answered q → Follows p q → HasTrail (hall_seen q)
    → (loans : List Loan) → All (HasLoanInHand p) loans → times_lent n loans ≡ 0
none_starts p q n Answered call follows legal [] held = refl
none_starts p q n Answered call follows legal (loan ∷ loans) held =
    let one = zero_if loan.entry n (start_apart p q n loan.entry Answered call follows legal (All-head (HasLoanInHand p) loan loans held).entry) in
    let more = none_starts p q n Answered call follows legal loans (All-tail (HasLoanInHand p) loan loans held) in
    omega arith

-- ---- steps

abbrev Held : List Loan → ℕ → Type 0
Held loans n = 1 ≤ times_lent n loans

-- nothing is in hand at first
pub batch_itself : (p : PassView) → IsBatch p p []
batch_itself p = record {
  follows = follows_itself p;
  held = All-nil (HasLoanInHand p);
  apart = λ n. omega arith;
  settles = all_settled (λ n. 1 ≤ times_lent n []) p p (settles_itself p p refl);
}

-- at last all has settled
pub batch_settles : (first p : PassView) → IsBatch first p [] → Settles first p
batch_settles first p b = settled_all (λ n. 1 ≤ times_lent n []) first p b.settles (λ n h. absurd (omega arith))

-- turns that leave what is in hand alone
pub batch_goes : (first p q : PassView) (loans : List Loan) → IsBatch first p loans → Follows p q → HasTrail (hall_seen q) → Settles p q
    → KeepsInHand p q → IsBatch first q loans
batch_goes first p q loans b follows legal settles keeps = record {
  follows = follows_then first p q b.follows follows;
  held = All-weaker (HasLoanInHand p) (HasLoanInHand q) keeps loans b.held;
  apart = b.apart;
  settles = but_on (Held loans) (Held loans) first p q b.settles (all_settled (Held loans) p q settles) follows legal (λ n h. inr h);
}

-- an end of what is in hand
pub batch_ends : (first p q : PassView) (loans : List Loan) (loan : Loan) → IsBatch first p (loan ∷ loans) → Follows p q → HasTrail (hall_seen q)
    → Settles p q → KeepsInHandBut loan.entry p q → has_ended (state_seen q) loan.entry ≡ true → IsBatch first q loans
batch_ends first p q loans loan b follows legal settles keeps ended = record {
  follows = follows_then first p q b.follows follows;
  held = held_but loan.entry p q keeps loans none (All-tail (HasLoanInHand p) loan loans b.held);
  apart = λ n. (let a = b.apart n in omega arith);
  settles = but_on (Held (loan ∷ loans)) (Held loans) first p q b.settles (all_settled (Held loans) p q settles) follows legal
      (λ n h. by n (one_of_two (one_if (loan.entry == n)) (times_lent n loans) h));
}
  where
    none : times_lent loan.entry loans ≡ 0
    none = let a = b.apart loan.entry in let s = one_if_same loan.entry loan.entry refl in omega arith

    by : (n : ℕ) → (1 ≤ one_if (loan.entry == n)) ⊎ (1 ≤ times_lent n loans) → (IsTrue (has_ended (state_seen q) n)) ⊎ Held loans n
    by n (inl h) = inl (subst (λ (k : ℕ). has_ended (state_seen q) k ≡ true) (sym (one_place n loan.entry (omega arith))) ended)
    by n (inr h) = inr h

-- an entry that begins to run
pub batch_begins : (first p q : PassView) (loans : List Loan) (lent : Loan) → IsBatch first p loans → Follows p q → HasTrail (hall_seen q)
    → HasBegun p q (Runs lent) → KeepsInHand p q → IsBatch first q (loans ++ lent ∷ [])
batch_begins first p q loans lent b follows legal begun keeps = record {
  follows = follows_then first p q b.follows follows;
  held = All-push (HasLoanInHand q) loans lent (All-weaker (HasLoanInHand p) (HasLoanInHand q) keeps loans b.held) begun.0;
  apart = λ n. apart n (one_or_none lent.entry n);
  settles = but_on (Held loans) (Held (loans ++ lent ∷ [])) first p q b.settles (held_as (λ k. lent.entry ≡ k) (Held (loans ++ lent ∷ [])) p q (begun_settles p q (Runs lent) begun) (λ n is. or_held n loans lent (inr is)))
      follows legal (λ n h. inr (or_held n loans lent (inl h)));
}
  where
    one_or_none : (k n : ℕ) → (k ≡ n) ⊎ (one_if (k == n) ≡ 0)
    one_or_none k n = grind (arith, nat_tests)

    apart : (n : ℕ) → (lent.entry ≡ n) ⊎ (one_if (lent.entry == n) ≡ 0) → times_lent n (loans ++ lent ∷ []) ≤ 1
    apart n (inl is) =
        let none = none_starts p q lent.entry _ begun.1 follows legal loans b.held in
        let none_here : times_lent n loans ≡ 0 = subst (λ (k : ℕ). times_lent k loans ≡ 0) is none in
        let one = one_if_same lent.entry n is in
        let e = times_lent-append n loans (lent ∷ []) in
        omega arith
    apart n (inr other) =
        let a = b.apart n in
        let e = times_lent-append n loans (lent ∷ []) in
        omega arith

-- a turn at the gate that begins
pub batch_enters : (first p t : PassView) (loans : List Loan) → IsBatch first p loans → Follows p t → HasTrail (hall_seen t) → t.own ≡ p.own → KeepsInHand p t → IsBatch first t loans
batch_enters first p t loans b follows legal own keeps =
    batch_goes first p t loans b follows legal (settles_itself p t own) keeps

-- an entry that was begun
pub batch_begun : (first p q : PassView) (loans : List Loan) (begun : Begun) → IsBatch first p loans → Follows p q → HasTrail (hall_seen q)
    → HasBegun p q begun → KeepsInHand p q → IsBatch first q (loans ++ lent_by begun)
batch_begun first p q loans (Over turn) b follows legal begun keeps =
    subst (IsBatch first q) (sym (append-nil loans)) (batch_goes first p q loans b follows legal begun.1 keeps)
batch_begun first p q loans (Runs lent) b follows legal begun keeps = batch_begins first p q loans lent b follows legal begun keeps

-- ---- what was run

-- what is run last stands first
pub run_first : (rest : List (Result Loan Loan)) (run : Result Loan Loan) → reverse (map loan_of (rest ++ run ∷ [])) ≡ loan_of run ∷ reverse (map loan_of rest)
run_first rest run = ap reverse (map-append loan_of rest (run ∷ [])) ∙ reverse-append (map loan_of rest) (loan_of run ∷ [])

-- one more was run
pub run_next : (rest : List Loan) (lent : Loan) (ran : List (Result Loan Loan)) (run : Result Loan Loan) → loan_of run ≡ lent
    → rest ++ reverse (map loan_of (ran ++ run ∷ [])) ≡ (rest ++ lent ∷ []) ++ reverse (map loan_of ran)
run_next rest lent ran run is =
    ap (λ (l : List Loan). rest ++ l) (run_first ran run)
    ∙ (ap (λ (l : Loan). rest ++ l ∷ reverse (map loan_of ran)) is ∙ sym (append_assoc rest (lent ∷ []) (reverse (map loan_of ran))))

-- what was run is what was lent
pub ran_is : (run : Result Loan Loan) (lent : Loan) → MatchResult run (λ done. done ≡ lent) (λ unrun. unrun ≡ lent) → loan_of run ≡ lent
ran_is (Ok done) lent is = is
ran_is (Err unrun) lent is = is

pub first_held : (first p : PassView) (loans : List Loan) (loan : Loan) → IsBatch first p (loan ∷ loans) → HasLoanInHand p loan
first_held first p loans loan b = All-head (HasLoanInHand p) loan loans b.held

-- ---- by a batch

ran_none : (ran : List (Result Loan Loan)) → ran ≡ [] → reverse (map loan_of ran) ≡ []
ran_none ran none = ap (λ (l : List (Result Loan Loan)). reverse (map loan_of l)) none

-- nothing is in hand
pub none_in : (lents : List Loan) (ran : List (Result Loan Loan)) → lents ≡ [] → ran ≡ [] → lents ++ reverse (map loan_of ran) ≡ []
none_in lents ran nil none = ap (λ (l : List Loan). l ++ reverse (map loan_of ran)) nil ∙ ran_none ran none

-- what was run last comes first
pub last_in : (lents : List Loan) (ran rest : List (Result Loan Loan)) (run : Result Loan Loan) → lents ≡ [] → ran ≡ rest ++ run ∷ []
    → lents ++ reverse (map loan_of ran) ≡ loan_of run ∷ (lents ++ reverse (map loan_of rest))
last_in lents ran rest run nil is =
    ap (λ (l : List Loan). l ++ reverse (map loan_of ran)) nil
    ∙ (ap (λ (l : List (Result Loan Loan)). reverse (map loan_of l)) is
    ∙ (run_first rest run ∙ ap (λ (l : List Loan). loan_of run ∷ (l ++ reverse (map loan_of rest))) (sym nil)))

-- what runs is taken in hand, where nothing there was run
pub more_in : (lents : List Loan) (ran : List (Result Loan Loan)) (lent : Loan) → ran ≡ []
    → (lents ++ lent ∷ []) ++ reverse (map loan_of ran) ≡ (lents ++ reverse (map loan_of ran)) ++ lent ∷ []
more_in lents ran lent none =
    ap (λ (l : List Loan). (lents ++ lent ∷ []) ++ l) (ran_none ran none)
    ∙ (append-nil (lents ++ lent ∷ [])
    ∙ (ap (λ (l : List Loan). l ++ lent ∷ []) (sym (append-nil lents)) ∙ ap (λ (l : List Loan). (lents ++ l) ++ lent ∷ []) (sym (ran_none ran none))))

-- ---- what was ready

-- what was begun of an entry that might start made one event
pub one_event : (n : ℕ) (begun : Begun) → IsBegunOf n begun → MissesNone begun → events_of begun ≡ 1
one_event n (Over Idle) of misses = absurd of
one_event n (Over (Missed m)) of misses = absurd misses
one_event n (Over (Denied m)) of misses = refl
one_event n (Over (Done m)) of misses = refl
one_event n (Over (Lost m)) of misses = refl
one_event n (Runs lent) of misses = refl

-- one event more
pub one_made : (first p q : PassView) (begun : Begun) (count : ℕ) → events_of begun ≡ 1 → HasMade (events_of begun) p q → HasMade count first p → HasMade (count + 1) first q
one_made first p q begun count one made before = omega (arith, one, made, before)

-- what has ended is not in hand
pub ended_none : (begun : Begun) (ended : Bool) → MatchBool ended (lent_by begun ≡ []) (EndsNone begun) → ended ≡ true → length (lent_by begun) ≡ 0
ended_none begun ended ends is = ap length (subst (λ (b : Bool). MatchBool b (lent_by begun ≡ []) (EndsNone begun)) is ends)

-- and what has not is
pub runs_one : (begun : Begun) → EndsNone begun → events_of begun ≡ 1 → length (lent_by begun) ≡ 1
runs_one (Over Idle) ends one = absurd (omega (arith, one))
runs_one (Over (Missed m)) ends one = absurd (omega (arith, one))
runs_one (Over (Denied m)) ends one = absurd ends
runs_one (Over (Done m)) ends one = absurd ends
runs_one (Over (Lost m)) ends one = absurd ends
runs_one (Runs lent) ends one = refl

pub held_one : (begun : Begun) (ended : Bool) → MatchBool ended (lent_by begun ≡ []) (EndsNone begun) → ended ≡ false → events_of begun ≡ 1 → length (lent_by begun) ≡ 1
held_one begun ended ends is one = runs_one begun (subst (λ (b : Bool). MatchBool b (lent_by begun ≡ []) (EndsNone begun)) is ends) one

-- how many of those that were begun are in hand: all, unless one has ended
abbrev pub AreInHand : Bool → (now was count : ℕ) → Type 0
AreInHand over now was count = MatchBool over (now < was + count) (now ≡ was + count)

pub one_ended : (over : Bool) (now was count more after : ℕ) → AreInHand over now was count → more ≡ 0 → after ≡ now + more → AreInHand true after was (count + 1)
one_ended true now was count more after before none is = omega (arith, before, none, is)
one_ended false now was count more after before none is = omega (arith, before, none, is)

pub one_held : (over : Bool) (now was count more after : ℕ) → AreInHand over now was count → more ≡ 1 → after ≡ now + more → AreInHand over after was (count + 1)
one_held true now was count more after before one is = omega (arith, before, one, is)
one_held false now was count more after before one is = omega (arith, before, one, is)

-- ---- what was begun and is over

-- an entry that might start, and is over, has ended
pub over_ended : (p q : PassView) (n : ℕ) (turn : Turn) → HasWorked p q turn → IsTurnOf n turn → IsNoMiss turn → has_ended (state_seen q) n ≡ true
over_ended p q n Idle worked of misses = absurd of
over_ended p q n (Missed m) worked of misses = absurd misses
over_ended p q n (Denied m) worked of misses = subst (λ (k : ℕ). has_ended (state_seen q) k ≡ true) of worked.ended
over_ended p q n (Done m) worked of misses = subst (λ (k : ℕ). has_ended (state_seen q) k ≡ true) of worked.ended
over_ended p q n (Lost m) worked of misses = subst (λ (k : ℕ). has_ended (state_seen q) k ≡ true) of worked.ended
