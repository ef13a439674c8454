use Rattle.std.proofs.Common.{◌≡◌, ℕ, ◌<◌, drop, get_or}
use Rattle.bl_policy.specs.declared.access.Access.{Access}
use Rattle.bl_policy.specs.FirstFault.{first_fault}
use Rattle.bl_policy.specs.Properties.{IsGranted}
use Rattle.bl_policy.proofs.policy.Policy.decide.Given as goal

-- no access so far is at fault, and each is granted
abbrev pub invariant-loop-access : goal.invariant-loop-access
invariant-loop-access l =
    record {
      none_before : first_fault l.self l.subject l.carried l.accesses ≡ first_fault l.self l.subject l.carried (drop l.access-index l.accesses);
      granted_before : (k : ℕ) (d : Access) → k < l.access-index → IsGranted l.self l.subject l.carried (get_or l.accesses k d).doc (get_or l.accesses k d).mode;
    }
