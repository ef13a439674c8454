-- The first access that is not granted decides.
use Rattle.std.proofs.Common.{◌≡◌, ℕ, zero, suc, ◌<◌, sym, ◌∙◌, ap, arith, List, [], ◌∷◌, length, get_or, drop, drop-cons, Some}
use Rattle.std.specs.Prelude.{slice_get, unwrap_or}
use Rattle.bl_level.specs.Level.{SecurityLevel}
use Rattle.bl_policy.specs.declared.access.Access.{Access}
use Rattle.bl_policy.specs.declared.denial.Clause.{Clause}
use Rattle.bl_policy.specs.FirstFault.{fault_of, fault_or, first_fault}
use Rattle.bl_policy.specs.Policy.{SecurityPolicy}
use Rattle.bl_explain.specs.Tests.{refused}

some_is : {X : Type 0} (x y : X) → Some x ≡ Some y → x ≡ y
some_is x y e = ap (λ o. unwrap_or o x) e

pub at_place : {X : Type 0} (xs : List X) (i : ℕ) (x : X) → i < length xs → x ≡ get_or xs i x → slice_get xs i ≡ Some x
at_place [] i x within is = absurd (omega (arith, within))
at_place (y ∷ xs) zero x within is = ap (λ z. Some z) (sym is)
at_place (y ∷ xs) (suc i) x within is = at_place xs i x (omega (arith, within)) is

pub found_there : {X : Type 0} (xs : List X) (i : ℕ) (x d : X) → slice_get xs i ≡ Some x → get_or xs i d ≡ x
found_there [] i x d at = absurd (cc)
found_there (y ∷ xs) zero x d at = some_is y x at
found_there (y ∷ xs) (suc i) x d at = found_there xs i x d at

pub decided_here : (p : SecurityPolicy) (s : ℕ) (carried : SecurityLevel) (accesses : List Access) (place : ℕ) (access : Access) (clause : Clause)
    → place < length accesses → access ≡ get_or accesses place access → fault_of p s carried access ≡ refused s access (Some clause)
    → first_fault p s carried (drop place accesses) ≡ refused s access (Some clause)
decided_here p s carried accesses place access clause within is fault =
    ap (first_fault p s carried) (drop-cons accesses place access within)
    ∙ ap (λ a. fault_or (fault_of p s carried a) (first_fault p s carried (drop (suc place) accesses))) (sym is)
    ∙ ap (λ f. fault_or f (first_fault p s carried (drop (suc place) accesses))) fault
