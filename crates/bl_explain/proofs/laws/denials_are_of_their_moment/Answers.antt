use Rattle.bl_explain.proofs.Running.{of_its_moment}
use Rattle.bl_explain.proofs.laws.denials_are_of_their_moment.Goals as goal

pub returns : goal.returns
returns c = of_its_moment c.each_state_holds.ensures
