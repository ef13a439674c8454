use Rattle.std.proofs.Common.{◌≡◌, ◌≤◌, ◌+◌}
use Rattle.bl_engine.specs.Parts.{MayTake}
use Rattle.bl_engine.specs.Conversations.{need_of, waits_left, parts_left}
use Rattle.bl_engine.specs.declared.conversation.Need.TheVariants as needs
use Rattle.bl_connection.specs.Tellings.{ToldOn}
use Rattle.bl_connection.proofs.telling.tell_parts.Given as goal

abbrev pub invariant-parts : goal.invariant-parts
invariant-parts g l = record {
  need : need_of l.conv ≡ needs.Room;
  stands : MayTake (g.B.Replies.stands l.block) (l.conv.after + l.conv.line + 1);
  told : ToldOn (g.B.Replies.left l.initial.block) (g.B.Replies.left l.block) l.initial.conv l.conv l.initial.output.items l.output.items;
  waits : waits_left l.conv ≤ waits_left l.initial.conv;
  parts : parts_left (g.B.Replies.left l.block) l.conv ≤ parts_left (g.B.Replies.left l.initial.block) l.initial.conv;
}

abbrev pub decreases-parts : goal.decreases-parts
decreases-parts g l = parts_left (g.B.Replies.left l.block) l.conv
