use Rattle.bl_order.proofs.RoomProof.{roomy-reached, order-limited, children-limited}
use Rattle.bl_order.proofs.laws.the_order_has_room.Goals as goal

pub returns : goal.returns
returns c = record {
  room = λ x r. (roomy-reached x c.lines_ask_scripts.ensures r).room;
  order = λ x r. order-limited x (roomy-reached x c.lines_ask_scripts.ensures r).room;
  children = λ x n. children-limited x n c.lines_ask_scripts.ensures;
}
