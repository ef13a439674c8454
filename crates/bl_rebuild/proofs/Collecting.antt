-- What the slots have is what the running places were lent, in their order.
use Rattle.std.proofs.Common.{◌≡◌, ℕ, zero, suc, ◌≤◌, Bool, true, false, cond, List, [], ◌∷◌, ◌++◌, length, get_or, refl, sym, ◌∙◌, ap, arith, inl, inr, ◌⊎◌, append_assoc, append-nil}
use Rattle.std.specs.Prelude.{Option, Some, None}
use Rattle.std.specs.Option.{option_to_list}
use Rattle.std.specs.List.{flat_map}
use Rattle.bl_order.specs.Machine.{State, Phase, Waiting, is_running, runs}
use Rattle.bl_core.specs.Answers.{loan_at}
use Rattle.bl_eval.specs.Loan.{Loan}
use Rattle.bl_rebuild.specs.Unfinished.{AreLent, loans_below, slot_at}
use Rattle.bl_rebuild.proofs.Lending.{lent-idle}

-- what the first slots have
collected : List (Option Loan) → ℕ → List Loan
collected slots zero = []
collected slots (suc n) = collected slots n ++ option_to_list (slot_at slots n)

one-more : (o : Option Loan) (slots : List (Option Loan)) (n : ℕ) → collected (o ∷ slots) (suc n) ≡ option_to_list o ++ collected slots n
unfolding collected
one-more o slots zero = sym (append-nil (option_to_list o))
one-more o slots (suc n) =
    ap (λ l. l ++ option_to_list (slot_at slots n)) (one-more o slots n)
    ∙ append_assoc (option_to_list o) (collected slots n) (option_to_list (slot_at slots n))

all-collected : (slots : List (Option Loan)) → collected slots (length slots) ≡ flat_map option_to_list slots
unfolding collected
all-collected [] = refl
all-collected (o ∷ slots) = one-more o slots (length slots) ∙ ap (λ l. option_to_list o ++ l) (all-collected slots)

listed : (b : Bool) (l : Loan) → option_to_list (cond b (Some l) None) ≡ cond b (l ∷ []) []
listed true l = refl
listed false l = refl

told : (x : State) (slots : List (Option Loan)) → AreLent x slots → (n : ℕ) → collected slots n ≡ loans_below x n
unfolding collected
told x slots lent zero = refl
told x slots lent (suc n) =
    ap (λ l. l ++ option_to_list (slot_at slots n)) (told x slots lent n)
    ∙ ap (λ o. loans_below x n ++ option_to_list o) (lent n)
    ∙ ap (λ l. loans_below x n ++ l) (listed (runs x n) (loan_at x n))

-- after the last running place there is none
none-more : (x : State) (m n : ℕ) → m ≤ n → ((k : ℕ) → m ≤ k → runs x k ≡ false) → loans_below x n ≡ loans_below x m
none-more x m zero le idle = let e : 0 ≡ m = omega (arith, le) in ap (loans_below x) e
none-more x m (suc n) le idle = go (last m n le) (λ lower. none-more x m n lower idle)
  where
    last : (m n : ℕ) → m ≤ suc n → (suc n ≡ m) ⊎ (m ≤ n)
    last m n le = grind arith

    go : (suc n ≡ m) ⊎ (m ≤ n) → (m ≤ n → loans_below x n ≡ loans_below x m) → loans_below x (suc n) ≡ loans_below x m
    go (inl e) before = ap (loans_below x) e
    go (inr lower) before =
        ap (λ b. loans_below x n ++ cond b (loan_at x n ∷ []) []) (idle n lower)
        ∙ append-nil (loans_below x n)
        ∙ before lower

past-slots : (slots : List (Option Loan)) (k : ℕ) → length slots ≤ k → slot_at slots k ≡ None
past-slots [] k le = refl
past-slots (o ∷ slots) zero le = absurd (omega (arith, le))
past-slots (o ∷ slots) (suc k) le = past-slots slots k (omega (arith, le))

past-phases : (phases : List Phase) (k : ℕ) → length phases ≤ k → is_running (get_or phases k Waiting) ≡ false
past-phases [] k le = refl
past-phases (p ∷ phases) zero le = absurd (omega (arith, le))
past-phases (p ∷ phases) (suc k) le = past-phases phases k (omega (arith, le))

either : (m n : ℕ) → (m ≤ n) ⊎ (n ≤ m)
either m n = grind arith

pub all-lent : (x : State) (slots : List (Option Loan)) → AreLent x slots → length x.phases ≡ length x.order → flat_map option_to_list slots ≡ loans_below x (length x.order)
all-lent x slots lent as_many = sym (all-collected slots) ∙ told x slots lent (length slots) ∙ go (either (length slots) (length x.order))
  where
    go : (length slots ≤ length x.order) ⊎ (length x.order ≤ length slots) → loans_below x (length slots) ≡ loans_below x (length x.order)
    go (inl le) = sym (none-more x (length slots) (length x.order) le (λ k ge. lent-idle x k (sym (lent k) ∙ past-slots slots k ge)))
    go (inr le) = none-more x (length x.order) (length slots) le (λ k ge. past-phases x.phases k (omega (arith, ge, as_many)))
