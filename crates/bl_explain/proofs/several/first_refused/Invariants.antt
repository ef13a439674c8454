use Rattle.std.proofs.Common.{◌≡◌, ℕ, ◌<◌, drop, get_or}
use Rattle.bl_policy.specs.declared.access.Access.{Access}
use Rattle.bl_policy.specs.FirstFault.{first_fault}
use Rattle.bl_policy.specs.Properties.{IsGranted}
use Rattle.bl_explain.proofs.several.first_refused.Given as goal

-- no access so far decides, and each is granted
abbrev pub invariant-loop-place : goal.invariant-loop-place
invariant-loop-place l =
    record {
      none_before : first_fault l.policy l.subject l.carried l.accesses ≡ first_fault l.policy l.subject l.carried (drop l.place l.accesses);
      granted_before : (k : ℕ) (d : Access) → k < l.place → IsGranted l.policy l.subject l.carried (get_or l.accesses k d).doc (get_or l.accesses k d).mode;
    }
