use Rattle.std.proofs.Common.{◌≡◌, ◌≤◌, ◌+◌, false, ℕ, List}
use Rattle.std.specs.Io.KnownBytes.{Appends}
use Rattle.bl_engine.specs.Parts.{MayTake}
use Rattle.bl_engine.specs.Conversations.{Says, need_of, last_ordinal, waits_left, parts_left}
use Rattle.bl_engine.specs.declared.conversation.Need.TheVariants as needs
use Rattle.bl_engine.proofs.driver.tell_all.Given as goal

abbrev pub invariant-parts : goal.invariant-parts
invariant-parts g l = record {
  fine : l.writer.failed ≡ false;
  need : need_of l.conv ≡ needs.Room;
  stands : MayTake (g.B.Replies.stands l.block) (l.conv.after + l.conv.line + 1);
  told : (more : List ℕ) × Appends (g.W.Write.contents l.initial.writer.inner) (g.W.Write.contents l.writer.inner) more × Says (g.B.Replies.left l.initial.block) (g.B.Replies.left l.block) l.initial.conv l.conv more;
  ended : l.conv.ended ≡ l.initial.conv.ended;
  last : last_ordinal l.conv ≡ last_ordinal l.initial.conv;
  waits : waits_left l.conv ≤ waits_left l.initial.conv;
}

abbrev pub decreases-parts : goal.decreases-parts
decreases-parts g l = parts_left (g.B.Replies.left l.block) l.conv
