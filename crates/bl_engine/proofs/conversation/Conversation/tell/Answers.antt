use Rattle.std.proofs.Common.{◌≤◌, ◌++◌, ◌∙◌, ap, append_assoc, length, arith}
use Rattle.bl_engine.specs.Conversations.{Talk, talk_of, lines_left, words_of}
use Rattle.bl_engine.proofs.Turnings.{tells_part, closes_as, all_told}
use Rattle.bl_engine.proofs.conversation.Conversation.tell.Goals as goal

pub returns-then-self-len-clause-said : goal.returns-then-self-len-clause-said
returns-then-self-len-clause-said g c =
    let left = g.B.Replies.left c.tell_line.new.block in
    let new = c.tell_line.new.self in
    let closing = c.in-Tells.closing in
    let told = c.tell_line.ensures.told in (
      told.more,
      told.puts,
      tells_part (g.B.Replies.left c.args.block.now) left c.args.self.now new closing told.more (λ input. cc) c.in-Tells.is told.stage told.held told.bytes
          (ap (λ (t : Talk). t.ended) told.talk) (ap (λ (t : Talk). t.after) told.talk) (ap (λ (t : Talk). t.pending) told.talk)
          (ap (λ l. l ++ words_of closing) told.split ∙ append_assoc told.more (lines_left left (talk_of new)) (words_of closing)),
    )

pub returns-else-self-len-clause-said : goal.returns-else-self-len-clause-said
returns-else-self-len-clause-said g c =
    let left = g.B.Replies.left c.args.block.now in
    let over : length c.args.self.now.pending.items ≤ c.args.self.now.line = omega (arith, c.if-self-len.false, c.len.ensures) in (
      _,
      c.close.ensures.puts,
      closes_as left c.args.self.now c.close.new.self c.in-Tells.closing (λ input. cc) c.in-Tells.is (all_told left (talk_of c.args.self.now) c.in-Tells.closing over) c.close.ensures.closes,
    )
