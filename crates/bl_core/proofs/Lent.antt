-- What comes back is what a place was lent.
use Rattle.std.proofs.Common.{◌≡◌, ℕ, List, [], true, ap, sym, ◌∙◌}
use Rattle.bl_work.specs.Effects.{children, outputs}
use Rattle.bl_order.specs.Machine.{State, runs}
use Rattle.bl_grant.specs.Loaned.{Loaned, back_of}
use Rattle.bl_grant.specs.Loans.{lent_of, loans}
use Rattle.std.specs.Prelude.{map}
use Rattle.bl_eval.specs.Loan.{Loan, AreFor, backs, part_of, effects_on}
use Rattle.bl_core.specs.Answers.{grants_at, loan_at}
use Rattle.bl_core.specs.View.{state_of}
use Rattle.bl_core.specs.declared.machine.Core.TheInside.{Inside}
use Rattle.bl_core.proofs.Backs.{backs-unchanged}

module _ (c : Inside) (x : State) (is : state_of c ≡ x) (loan : Loan) (n : ℕ) (entry : loan.entry ≡ n) where
  pub runs-here : runs x loan.entry ≡ true → runs (state_of c) n ≡ true
  runs-here r = ap (λ (y : State). runs y n) is ∙ ap (runs x) (sym entry) ∙ r

  pub lent-here : loan ≡ loan_at x loan.entry → loan ≡ loan_at (state_of c) n
  lent-here e = e ∙ ap (loan_at x) entry ∙ ap (λ (y : State). loan_at y n) (sym is)

  -- what was done of it
  pub backs-here : loan ≡ loan_at x loan.entry
      → backs loan.entry (part_of loan).accesses loan.inputs (effects_on loan)
      ≡ backs n (part_of (loan_at (state_of c) n)).accesses (loan_at (state_of c) n).inputs (effects_on (loan_at (state_of c) n))
  backs-here e = ap (λ (l : Loan). backs l.entry (part_of l).accesses l.inputs (effects_on l)) (lent-here e)

  pub outputs-here : loan ≡ loan_at x loan.entry → outputs (effects_on loan) ≡ outputs (effects_on (loan_at (state_of c) n))
  outputs-here e = ap (λ (l : Loan). outputs (effects_on l)) (lent-here e)

  pub children-here : loan ≡ loan_at x loan.entry → children (effects_on loan) ≡ children (effects_on (loan_at (state_of c) n))
  children-here e = ap (λ (l : Loan). children (effects_on l)) (lent-here e)

-- the grants of what a place was lent are those of the place
pub grants-here : (x : State) (loan : Loan) (n : ℕ) → loan.entry ≡ n → (g : List Loaned) → loan ≡ loan_at x loan.entry → loan.inputs ≡ lent_of g
    → AreFor n (part_of loan).accesses g → g ≡ grants_at x n
grants-here x loan n entry g e inputs for =
    for.lent
    ∙ ap (λ (cs : List (List ℕ)). loans n (part_of loan).accesses cs) (sym inputs)
    ∙ ap (λ (l : Loan). loans n (part_of l).accesses l.inputs) (e ∙ ap (loan_at x) entry)

-- the grants that a place is lent give back what was lent
pub backs-granted : (c : Inside) (x : State) → state_of c ≡ x → (n : ℕ) (g : List Loaned) → g ≡ grants_at x n
    → map back_of g ≡ backs n (part_of (loan_at (state_of c) n)).accesses (loan_at (state_of c) n).inputs []
backs-granted c x is n g e =
    ap (map back_of) (e ∙ ap (λ (y : State). grants_at y n) (sym is))
    ∙ backs-unchanged n (part_of (loan_at (state_of c) n)).accesses (loan_at (state_of c) n).inputs
