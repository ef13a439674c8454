-- Steps of a decision: one more access that is not at fault.
use Rattle.std.proofs.Common.{◌≡◌, ℕ, suc, ◌+◌, ◌<◌, false, refl, sym, ◌∙◌, ap, subst, arith, List, length, get_or, drop, drop-cons, Option, Some, None, is_some, below_more, true≢false}
use Rattle.std.proofs.lemmas.List.{get_or_default}
use Rattle.bl_level.specs.Level.{SecurityLevel}
use Rattle.bl_policy.specs.declared.access.Access.{Access}
use Rattle.bl_policy.specs.Policy.{SecurityPolicy}
use Rattle.bl_policy.specs.FirstFault.{fault_of, fault_or, first_fault}

pub None-of_no_some : {X : Type 0} (x : Option X) → is_some x ≡ false → x ≡ None
None-of_no_some None e = refl
None-of_no_some (Some x) e = absurd (true≢false e)

-- an access with no fault leaves the first fault to those after it
pub first_fault-next : (p : SecurityPolicy) (s : ℕ) (carried : SecurityLevel) (accesses : List Access) (i : ℕ) (access : Access) → i < length accesses → access ≡ get_or accesses i access → fault_of p s carried access ≡ None
    → first_fault p s carried (drop i accesses) ≡ first_fault p s carried (drop (i + 1) accesses)
first_fault-next p s carried accesses i access within is none =
    let next : suc i ≡ i + 1 = omega arith in
    ap (first_fault p s carried) (drop-cons accesses i access within)
    ∙ ap (λ n. fault_or (fault_of p s carried (get_or accesses i access)) (first_fault p s carried (drop n accesses))) next
    ∙ ap (λ a. fault_or (fault_of p s carried a) (first_fault p s carried (drop (i + 1) accesses))) (sym is)
    ∙ ap (λ f. fault_or f (first_fault p s carried (drop (i + 1) accesses))) none

-- what holds of each item below i, and of item i, holds of each below i + 1
pub each_more : {X : Type 0} (P : X → Type 0) (xs : List X) (i : ℕ) (x : X) → i < length xs → x ≡ get_or xs i x → ((k : ℕ) (d : X) → k < i → P (get_or xs k d)) → P x → (k : ℕ) (d : X) → k < i + 1 → P (get_or xs k d)
each_more P xs i x within is each this k d h =
    below_more (λ k. (d : _) → P (get_or xs k d)) _ (λ k h d. each k d h) (λ d. subst P (is ∙ get_or_default xs i x d within) this) k h d
