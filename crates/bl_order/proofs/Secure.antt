-- Accesses that nothing is held against have the three properties, and are of documents that are present.
use Rattle.std.proofs.Common.{◌≡◌, ℕ, Bool, true, false, cond, ◌&&◌, ◌||◌, List, [], ◌∷◌, refl, inl, inr, arith, ◌⊎◌}
use Rattle.std.specs.Prelude.{◌==◌, IsTrue, Option, Some, None}
use Rattle.std.specs.List.{AllByRecursion}
use Rattle.std.proofs.lemmas.Bool.Decides.{nat_tests}
use Rattle.bl_level.specs.Level.{SecurityLevel}
use Rattle.bl_level.proofs.Dominance.{dominates-sets}
use Rattle.bl_policy.specs.Policy.{SecurityPolicy, greatest_of, current_of, level_of, is_present, is_trusted}
use Rattle.bl_policy.specs.Properties.{observes, Observes, flows, Flows, is_simple, is_star, is_discretionary, IsPresent, IsSecure}
use Rattle.bl_policy.specs.FirstFault.{first_fault, absence, property_fault, carry_fault, fault_of, fault_or, denied}
use Rattle.bl_policy.specs.declared.access.Access.{Access}
use Rattle.bl_policy.specs.declared.access.Mode.{Mode}
use Rattle.bl_policy.specs.declared.access.Mode.TheVariants.{Read, Append, Write}
use Rattle.bl_policy.specs.declared.denial.Denial.{Denial}
use Rattle.bl_policy.specs.declared.denial.Clause.TheVariants as failing

observes-is : (greatest level : SecurityLevel) (m : Mode) → observes greatest level m ≡ true → Observes greatest level m
observes-is greatest level Read h = (dominates-sets greatest level).0 h
observes-is greatest level Append h = tt
observes-is greatest level Write h = (dominates-sets greatest level).0 h

both : (a b c d : ℕ) → ((a == b) && (c == d)) ≡ true → (a ≡ b) × (c ≡ d)
both a b c d h = grind (arith, nat_tests)

flows-is : (current level : SecurityLevel) (m : Mode) → flows current level m ≡ true → Flows current level m
flows-is current level Read h = (dominates-sets current level).0 h
flows-is current level Append h = (dominates-sets level current).0 h
flows-is current level Write h =
    let same : (current.rank ≡ level.rank) × (current.categories ≡ level.categories) = both current.rank level.rank current.categories level.categories h in
    λ i. record { rank = same.0 i; categories = same.1 i }

star-is : (trusted : Bool) (current level : SecurityLevel) (m : Mode) → (trusted || flows current level m) ≡ true → IsTrue trusted ⊎ Flows current level m
star-is true current level m h = inl refl
star-is false current level m h = inr (flows-is current level m h)

secure-access : (p : SecurityPolicy) (s : ℕ) (a : Access) → property_fault p s a ≡ None → IsSecure p s a.doc a.mode
secure-access p s a h = go (is_simple p s a.doc a.mode) (is_star p s a.doc a.mode) (is_discretionary p s a.doc a.mode) refl refl refl h
  where
    go : (x y z : Bool) → is_simple p s a.doc a.mode ≡ x → is_star p s a.doc a.mode ≡ y → is_discretionary p s a.doc a.mode ≡ z
        → cond x (cond y (cond z None (denied failing.Discretionary s a.doc)) (denied failing.Star s a.doc)) (denied failing.Simple s a.doc) ≡ None → IsSecure p s a.doc a.mode
    go true true true i j k e = record {
      simple = observes-is (greatest_of p s) (level_of p a.doc) a.mode i;
      star = star-is (is_trusted p s) (current_of p s) (level_of p a.doc) a.mode j;
      discretionary = k;
    }
    go true true false i j k e = absurd (cc)
    go true false z i j k e = absurd (cc)
    go false y z i j k e = absurd (cc)

fault_or-none : (a b : Option Denial) → fault_or a b ≡ None → (a ≡ None) × (b ≡ None)
fault_or-none None b h = (refl, h)
fault_or-none (Some d) b h = absurd (cc)

-- where no access is at fault, each has the properties
pub secure-all : (p : SecurityPolicy) (s : ℕ) (carried : SecurityLevel) (accesses : List Access) → first_fault p s carried accesses ≡ None
    → AllByRecursion (λ (a : Access). IsSecure p s a.doc a.mode) accesses
secure-all p s carried [] h = tt
secure-all p s carried (a ∷ rest) h =
    let none : (fault_of p s carried a ≡ None) × (first_fault p s carried rest ≡ None) = fault_or-none (fault_of p s carried a) (first_fault p s carried rest) h in
    let here : (absence p s a ≡ None) × (fault_or (property_fault p s a) (carry_fault p s carried a) ≡ None) = fault_or-none (absence p s a) (fault_or (property_fault p s a) (carry_fault p s carried a)) none.0 in
    let kept : (property_fault p s a ≡ None) × (carry_fault p s carried a ≡ None) = fault_or-none (property_fault p s a) (carry_fault p s carried a) here.1 in
    (secure-access p s a kept.0, secure-all p s carried rest none.1)

present-access : (p : SecurityPolicy) (s : ℕ) (a : Access) → absence p s a ≡ None → IsPresent p a.doc
present-access p s a h = go (is_present p a.doc) refl h
  where
    go : (b : Bool) → is_present p a.doc ≡ b → cond b None (denied failing.Absent s a.doc) ≡ None → IsPresent p a.doc
    go true i e = i
    go false i e = absurd (cc)

-- and its document is present
pub present-all : (p : SecurityPolicy) (s : ℕ) (carried : SecurityLevel) (accesses : List Access) → first_fault p s carried accesses ≡ None
    → AllByRecursion (λ (a : Access). IsPresent p a.doc) accesses
present-all p s carried [] h = tt
present-all p s carried (a ∷ rest) h =
    let none : (fault_of p s carried a ≡ None) × (first_fault p s carried rest ≡ None) = fault_or-none (fault_of p s carried a) (first_fault p s carried rest) h in
    let here : (absence p s a ≡ None) × (fault_or (property_fault p s a) (carry_fault p s carried a) ≡ None) = fault_or-none (absence p s a) (fault_or (property_fault p s a) (carry_fault p s carried a)) none.0 in
    (present-access p s a here.0, present-all p s carried rest none.1)
