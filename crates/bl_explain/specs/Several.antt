-- What decides several accesses of one behaviour.
use Rattle.std.specs.Prelude.{◌≡◌, ◌<◌, ℕ, List, Some, slice_get}
use Rattle.bl_level.specs.Level.{SecurityLevel}
use Rattle.bl_policy.specs.declared.access.Access.{Access}
use Rattle.bl_policy.specs.FirstFault.{FailsFirst, first_fault}
use Rattle.bl_policy.specs.Policy.{SecurityPolicy}
use Rattle.bl_policy.specs.Properties.{IsGranted}
use Rattle.bl_explain.specs.Tests.{refused}
use Rattle.bl_explain.specs.declared.several.Refused.{Refused}

-- An access at a place of the list decides it: each one before is granted, this one is not, and the clause is what it fails first;
-- so the decision on the list names this clause and its document.
pub record Decides (p : SecurityPolicy) (s : ℕ) (carried : SecurityLevel) (accesses : List Access) (r : Refused) : Type 0 where
  pub access : Access
  pub at : slice_get accesses r.place ≡ Some access
  pub granted_before : (k : ℕ) (earlier : Access) → k < r.place → slice_get accesses k ≡ Some earlier
      → IsGranted p s carried earlier.doc earlier.mode
  pub fails : FailsFirst r.clause p s carried access.doc access.mode
  pub decision : first_fault p s carried accesses ≡ refused s access (Some r.clause)
