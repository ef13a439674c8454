-- What runs in a state, with what it was lent.
use Rattle.std.specs.Prelude.{◌≡◌, ℕ, zero, suc, if◌then◌else◌, List, [], ◌∷◌, ◌++◌, length, slice_index_or, Option}
use Rattle.std.specs.Prelude.{Some, None}
use Rattle.bl_eval.specs.Loan.{Loan}
use Rattle.bl_order.specs.Machine.{State, runs}
use Rattle.bl_core.specs.Answers.{loan_at}

-- what a place was lent, while it runs
abbrev pub lent_in : State → ℕ → Option Loan
lent_in x n = if runs x n then Some (loan_at x n) else None

-- what the running places below n were lent, in their order
abbrev pub loans_below : State → ℕ → List Loan
loans_below x zero = []
loans_below x (suc n) = loans_below x n ++ (if runs x n then loan_at x n ∷ [] else [])

-- what all running places were lent
abbrev pub loans_now : State → List Loan
loans_now x = loans_below x (length x.order)

-- what stands in the slot of a place; nothing after the last slot
abbrev pub slot_at : List (Option Loan) → ℕ → Option Loan
slot_at slots n = slice_index_or slots n None

-- the slots have what the running places were lent
abbrev pub AreLent : State → List (Option Loan) → Type 0
AreLent x slots = (n : ℕ) → slot_at slots n ≡ lent_in x n
