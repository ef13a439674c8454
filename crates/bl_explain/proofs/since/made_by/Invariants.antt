use Rattle.std.proofs.Common.{◌≡◌, length, drop}
use Rattle.bl_explain.specs.Since.{of_setup, since_behind}
use Rattle.bl_explain.proofs.since.made_by.Given as goal

-- the rules that are left lead from here to where all of them lead, and there are as many subjects and documents as at first
abbrev pub invariant-loop-applied : goal.invariant-loop-applied
invariant-loop-applied l =
    record {
      leads : since_behind l.subject l.access of_setup l.start l.rules ≡ since_behind l.subject l.access l.since l.policy (drop l.applied-index l.rules);
      subjects : length l.policy.subjects ≡ length l.start.subjects;
      documents : length l.policy.documents ≡ length l.start.documents;
    }
