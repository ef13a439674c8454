-- What trust adds to what is granted.
use Rattle.std.proofs.Common.{◌≡◌, ℕ, ◌<◌, false, ◌&&◌, length, refl, sym, ◌∙◌, ap, true≢false, get_or-set_same, Option, Some, None}
use Rattle.std.specs.Prelude.{◌↔◌, is_none, is_some}
use Rattle.bl_level.specs.Level.{SecurityLevel}
use Rattle.bl_policy.specs.declared.access.Access.{Access}
use Rattle.bl_policy.specs.declared.denial.Clause.{Clause}
use Rattle.bl_policy.specs.Policy.{SecurityPolicy, clearance_of, nobody}
use Rattle.bl_policy.specs.Properties.{IsGranted}
use Rattle.bl_explain.specs.Grounds.{grounds_of}
use Rattle.bl_explain.specs.Tests.{fails_first, in_order, is_exempt, tests_of, tests_on}
use Rattle.bl_report.specs.Exemption.{without_trust}

-- the laws that are needed
pub record TrustLaws : Type 0 where
  pub decide : (p : SecurityPolicy) (s : ℕ) (carried : SecurityLevel) (access : Access) → tests_on (grounds_of p s carried access) access.mode ≡ tests_of p s carried access
  pub granted : (p : SecurityPolicy) (s : ℕ) (carried : SecurityLevel) (access : Access)
      → (fails_first (in_order (tests_of p s carried access)) ≡ None) ↔ IsGranted p s carried access.doc access.mode

none-fails : (o : Option Clause) → is_some o ≡ false → o ≡ None
none-fails None h = refl
none-fails (Some c) h = absurd (true≢false h)

pub trust-adds : TrustLaws → (p : SecurityPolicy) (s : ℕ) (carried : SecurityLevel) (access : Access) → s < length p.subjects
    → IsGranted p s carried access.doc access.mode
    → (is_exempt (grounds_of p s carried access) access.mode ≡ false) ↔ IsGranted (without_trust p s) s carried access.doc access.mode
trust-adds laws p s carried access there granted = (
  λ h. (laws.granted (without_trust p s) s carried access).0 (none-fails _ (sym is ∙ h)),
  λ g. is ∙ ap is_some ((laws.granted (without_trust p s) s carried access).1 g),
)
  where
    same : clearance_of (without_trust p s) s ≡ record (clearance_of p s) { trusted = false }
    same = get_or-set_same p.subjects s _ nobody there

    grounds : grounds_of (without_trust p s) s carried access ≡ record (grounds_of p s carried access) { trusted = false }
    grounds = λ i. record {
      present = (grounds_of p s carried access).present;
      level = (grounds_of p s carried access).level;
      greatest = (same i).greatest;
      current = (same i).current;
      trusted = (same i).trusted;
      allowed = (grounds_of p s carried access).allowed;
      carried = carried;
    }

    own : fails_first (in_order (tests_on (grounds_of p s carried access) access.mode)) ≡ None
    own = ap (λ t. fails_first (in_order t)) (laws.decide p s carried access) ∙ (laws.granted p s carried access).1 granted

    other : fails_first (in_order (tests_on (record (grounds_of p s carried access) { trusted = false }) access.mode))
        ≡ fails_first (in_order (tests_of (without_trust p s) s carried access))
    other =
        ap (λ g. fails_first (in_order (tests_on g access.mode))) (sym grounds)
        ∙ ap (λ t. fails_first (in_order t)) (laws.decide (without_trust p s) s carried access)

    is : is_exempt (grounds_of p s carried access) access.mode ≡ is_some (fails_first (in_order (tests_of (without_trust p s) s carried access)))
    is =
        ap (λ o. is_none o && is_some (fails_first (in_order (tests_on (record (grounds_of p s carried access) { trusted = false }) access.mode)))) own
        ∙ ap is_some other
