use Rattle.bl_flow.proofs.Down.{no-child-down}
use Rattle.bl_flow.proofs.laws.no_child_comes_down.Goals as goal

pub returns : goal.returns
returns c level = no-child-down c.dominates_means_dominance.ensures level c.children_follow_their_parent.ensures
