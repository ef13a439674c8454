-- What each property says of an access, and which one it fails first.
use Rattle.std.specs.Prelude.{◌↔◌, ◌&&◌, ◌||◌, ℕ, Bool, false, is_none, is_some, List, [], ◌∷◌, Option, Some, None, IsTrue, if◌then◌else◌, option_map}
use Rattle.bl_level.specs.Level.{SecurityLevel}
use Rattle.bl_policy.specs.declared.access.Access.{Access}
use Rattle.bl_policy.specs.declared.access.Mode.{Mode}
use Rattle.bl_policy.specs.declared.denial.Clause.{Clause}
use Rattle.bl_policy.specs.declared.denial.Clause.TheVariants.{Absent, Simple, Star, Discretionary, Carry}
use Rattle.bl_policy.specs.declared.denial.Denial.{Denial}
use Rattle.bl_policy.specs.Policy.{SecurityPolicy, is_present}
use Rattle.bl_policy.specs.Properties as property
use Rattle.bl_policy.specs.Properties.{observes, flows, may_carry, is_simple, is_star, is_discretionary, is_carry}
use Rattle.bl_explain.specs.declared.grounds.Grounds.{Grounds}
use Rattle.bl_explain.specs.declared.tests.Tested.{Tested}
use Rattle.bl_explain.specs.declared.tests.Tests.{Tests}

-- the tests of presence, of the three properties and of carry, each asked of the policy by itself
abbrev pub tests_of : SecurityPolicy → ℕ → SecurityLevel → Access → Tests
tests_of p s carried access =
    record {
      present = is_present p access.doc;
      simple = is_simple p s access.doc access.mode;
      star = is_star p s access.doc access.mode;
      discretionary = is_discretionary p s access.doc access.mode;
      carry = is_carry p s carried access.doc access.mode;
    }

-- the same tests, asked of the grounds
abbrev pub tests_on : Grounds → Mode → Tests
tests_on g m =
    record {
      present = g.present;
      simple = observes g.greatest g.level m;
      star = g.trusted || flows g.current g.level m;
      discretionary = g.allowed;
      carry = g.trusted || may_carry g.carried g.level m;
    }

-- each answer is yes just where its property holds (Bell and La Padula 1976, the three properties; own choice: presence and carry)
pub record AnswerTheProperties (p : SecurityPolicy) (s : ℕ) (carried : SecurityLevel) (access : Access) (t : Tests) : Type 0 where
  pub present : IsTrue t.present ↔ property.IsPresent p access.doc
  pub simple : IsTrue t.simple ↔ property.Simple p s access.doc access.mode
  pub star : IsTrue t.star ↔ property.Star p s access.doc access.mode
  pub discretionary : IsTrue t.discretionary ↔ property.Discretionary p s access.doc access.mode
  pub carry : IsTrue t.carry ↔ property.Carry p s carried access.doc access.mode

-- the answers in the order in which an access is judged
abbrev pub in_order : Tests → List Tested
in_order t =
    record { clause = Absent; holds = t.present }
    ∷ record { clause = Simple; holds = t.simple }
    ∷ record { clause = Star; holds = t.star }
    ∷ record { clause = Discretionary; holds = t.discretionary }
    ∷ record { clause = Carry; holds = t.carry }
    ∷ []

-- the first that is answered with no
abbrev pub fails_first : List Tested → Option Clause
fails_first [] = None
fails_first (tested ∷ rest) = if tested.holds then fails_first rest else Some tested.clause

-- the refusal that names it
abbrev pub refused : ℕ → Access → Option Clause → Option Denial
refused s access clause = option_map (λ c. record { clause = c; subject = s; object = Some access.doc }) clause

-- whether an access is granted on these grounds, and would not be on the same of a subject that is not trusted
abbrev pub is_exempt : Grounds → Mode → Bool
is_exempt g m =
    is_none (fails_first (in_order (tests_on g m)))
    && is_some (fails_first (in_order (tests_on (record g { trusted = false }) m)))
