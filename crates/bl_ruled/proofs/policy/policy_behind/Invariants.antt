use Rattle.std.proofs.Common.{◌≡◌, length, drop}
use Rattle.bl_explain.specs.Since.{policy_after}
use Rattle.bl_ruled.proofs.policy.policy_behind.Given as goal

-- the rules that are left lead from here to where all of them lead, and there are as many subjects and documents as at first
abbrev pub invariant-loop-applied : goal.invariant-loop-applied
invariant-loop-applied l =
    record {
      leads : policy_after l.start l.rules ≡ policy_after l.policy (drop l.applied-index l.rules);
      subjects : length l.policy.subjects ≡ length l.start.subjects;
      documents : length l.policy.documents ≡ length l.start.documents;
    }
