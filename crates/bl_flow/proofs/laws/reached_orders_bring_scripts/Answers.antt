use Rattle.bl_flow.proofs.laws.reached_orders_bring_scripts.Goals as goal

pub returns : goal.returns
returns c x reached = record { legal = (c.each_state_holds.ensures x reached).legal; scripts = λ n. c.tasks_are_of_scripts.ensures x n reached }
