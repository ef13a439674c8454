use Rattle.bl_order.proofs.TheHeadlineProof.{FaultLaws, headline-reached, headline-throughout}
use Rattle.bl_order.proofs.laws.headline.Goals as goal

pub returns : goal.returns
returns c = record { state = headline-reached faults; throughout = headline-throughout faults }
  where
    faults : FaultLaws
    faults = record {
      none = c.first_fault_is_the_first.ensures.none;
      some = c.first_fault_is_the_first.ensures.some;
      rule = c.rule_fault_is_the_first.ensures.some;
    }
