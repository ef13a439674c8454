use Rattle.bl_flow.specs.Low.{history_of}
use Rattle.bl_flow.proofs.laws.states_tell_low_subjects_the_same.Goals as goal

pub returns : goal.returns
returns c level x y reached comes =
    c.low_subjects_are_told_the_same.ensures level (history_of x) (history_of y)
    (c.reached_orders_bring_scripts.ensures x reached) (c.reached_orders_bring_scripts.ensures y comes)
