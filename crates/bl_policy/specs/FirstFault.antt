-- Own choice: accesses are judged in the order in which they are declared, and of one access first whether its document is present, and then
-- the properties in the order simple, star, discretionary, carry.
use Rattle.std.specs.Prelude.{◌≡◌, ◌<◌, ℕ, List, [], ◌∷◌, slice_get, Option, Some, None, if◌then◌else◌}
use Rattle.bl_level.specs.Level.{SecurityLevel}
use Rattle.bl_policy.specs.declared.access.Access.{Access}
use Rattle.bl_policy.specs.declared.access.Mode.{Mode}
use Rattle.bl_policy.specs.declared.denial.Clause.{Clause}
use Rattle.bl_policy.specs.declared.denial.Clause.TheVariants as failing
use Rattle.bl_policy.specs.declared.denial.Denial.{Denial}
use Rattle.bl_policy.specs.Policy.{SecurityPolicy, is_present}
use Rattle.bl_policy.specs.Properties.{Simple, Star, Discretionary, Carry, IsPresent, IsSecure, IsGranted, is_simple, is_star, is_discretionary, is_carry}

-- the refusal of subject s at document o
abbrev pub denied : Clause → ℕ → ℕ → Option Denial
denied clause s o = Some (record { clause = clause; subject = s; object = Some o })

-- that the access is of a document that is absent
abbrev pub absence : SecurityPolicy → ℕ → Access → Option Denial
absence p s access = if is_present p access.doc then None else denied failing.Absent s access.doc

-- the first of the three properties that the access fails
abbrev pub property_fault : SecurityPolicy → ℕ → Access → Option Denial
property_fault p s access =
    if is_simple p s access.doc access.mode then
    (if is_star p s access.doc access.mode then
    (if is_discretionary p s access.doc access.mode then None else denied failing.Discretionary s access.doc)
    else denied failing.Star s access.doc)
    else denied failing.Simple s access.doc

-- that the access fails the carry property, of who carries this level
abbrev pub carry_fault : SecurityPolicy → ℕ → SecurityLevel → Access → Option Denial
carry_fault p s carried access = if is_carry p s carried access.doc access.mode then None else denied failing.Carry s access.doc

-- the first of two faults
abbrev pub fault_or : Option Denial → Option Denial → Option Denial
fault_or None later = later
fault_or (Some denial) later = Some denial

-- what the access fails first: its document is absent, or the first property that it fails
abbrev pub fault_of : SecurityPolicy → ℕ → SecurityLevel → Access → Option Denial
fault_of p s carried access = fault_or (absence p s access) (fault_or (property_fault p s access) (carry_fault p s carried access))

-- the first access that is not granted, with what it fails first
abbrev pub first_fault : SecurityPolicy → ℕ → SecurityLevel → List Access → Option Denial
first_fault p s carried [] = None
first_fault p s carried (access ∷ rest) = fault_or (fault_of p s carried access) (first_fault p s carried rest)

-- this is what the access fails first; the conditions of rules are none of its properties
abbrev pub FailsFirst : Clause → SecurityPolicy → ℕ → SecurityLevel → ℕ → Mode → Type 0
FailsFirst failing.Absent p s carried o m = ¬ IsPresent p o
FailsFirst failing.Simple p s carried o m = IsPresent p o × ¬ Simple p s o m
FailsFirst failing.Star p s carried o m = IsPresent p o × Simple p s o m × ¬ Star p s o m
FailsFirst failing.Discretionary p s carried o m = IsPresent p o × Simple p s o m × Star p s o m × ¬ Discretionary p s o m
FailsFirst failing.Carry p s carried o m = IsPresent p o × IsSecure p s o m × ¬ Carry p s carried o m
FailsFirst failing.Admin p s carried o m = ⊥
FailsFirst failing.Trusted p s carried o m = ⊥
FailsFirst failing.Greatest p s carried o m = ⊥
FailsFirst failing.Present p s carried o m = ⊥

-- The refusal names subject s, the document of an access before which each is granted to who carries this level, and what this
-- access fails first.
pub record IsFirstFault (p : SecurityPolicy) (s : ℕ) (carried : SecurityLevel) (accesses : List Access) (denial : Denial) : Type 0 where
  pub place : ℕ
  pub access : Access
  pub at : slice_get accesses place ≡ Some access
  pub granted_before : (k : ℕ) (earlier : Access) → k < place → slice_get accesses k ≡ Some earlier
      → IsGranted p s carried earlier.doc earlier.mode
  pub fails : FailsFirst denial.clause p s carried access.doc access.mode
  pub subject : denial.subject ≡ s
  pub object : denial.object ≡ Some access.doc
