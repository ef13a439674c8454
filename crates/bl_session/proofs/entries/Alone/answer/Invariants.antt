use Rattle.std.proofs.Common.{◌≡◌, ◌≤◌, ◌-◌, List, ◌++◌, length}
use Rattle.std.specs.List.{flat_map}
use Rattle.bl_order.specs.Labels.{Reply, replies_to}
use Rattle.bl_hall.specs.Chronicle.{state_now}
use Rattle.bl_hall.specs.Told.{replies_above}
use Rattle.bl_wire.specs.Replies.{reply_text}
use Rattle.bl_wire.specs.Watch.{end_state, Puts}
use Rattle.bl_session.specs.Blocks.{behind, left_in, up_to}
use Rattle.bl_session.proofs.entries.Alone.answer.Given as goal

abbrev pub invariant-replies : goal.invariant-replies
invariant-replies g l =
    let x = state_now l.pages.hall in
    (said : List Reply) × Puts (flat_map (reply_text l.self.setup.names) said) (end_state g.W.Write.contents l.fn.writer) (end_state g.W.Write.contents l.writer)
    × (replies_to x l.pages.session l.ordinal (length x.order) ≡ said ++ up_to l.ordinal (left_in x l.block))
    × (behind l.ordinal (left_in x l.block) ≡ replies_above x l.pages.session l.ordinal (length x.order))
    × (l.block.places.items ≡ l.fn.block.places.items)
    × (l.block.next ≤ length l.block.places.items)

abbrev pub decreases-replies : goal.decreases-replies
decreases-replies g l = length l.block.places.items - l.block.next
