use Rattle.bl_flow.proofs.Told.{stands-alone}
use Rattle.bl_flow.proofs.laws.low_places_stand_alone.Goals as goal

pub returns : goal.returns
returns c =
    stands-alone (record {
      dominance = c.dominates_means_dominance.ensures;
      granted = c.first_fault_is_the_first.ensures.none;
      blind = c.blind_append.ensures;
      children = c.children_follow_their_parent.ensures;
      lines = c.places_run_at_their_level.ensures.lines;
      rules = c.rules_make_the_policy.ensures;
    })
