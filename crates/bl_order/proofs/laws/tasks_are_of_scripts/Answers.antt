use Rattle.bl_order.proofs.RoomProof.{roomy-reached}
use Rattle.bl_order.proofs.laws.tasks_are_of_scripts.Goals as goal

pub returns : goal.returns
returns c x n r lt = (roomy-reached x c.lines_ask_scripts.ensures r).tasks n lt
