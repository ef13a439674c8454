use Rattle.bl_order.proofs.LineageProof.{PolicyLaws, lineage-reached}
use Rattle.bl_order.proofs.laws.lineage.Goals as goal

pub returns : goal.returns
returns c = lineage-reached policy
  where
    policy : PolicyLaws
    policy = record {
      none = c.first_fault_is_the_first.ensures.none;
      trusted = c.rules_keep_rights.ensures.trusted;
    }
