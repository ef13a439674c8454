use Rattle.std.proofs.Common.{◌≡◌, ◌+◌, ◌++◌, inl, inr, refl, ap, ◌∙◌, append-nil}
use Rattle.bl_engine.specs.BlockText.{reply_to}
use Rattle.bl_engine.specs.Parts.{rest_of}
use Rattle.bl_engine.specs.Conversations.{talk_of}
use Rattle.bl_engine.proofs.Tellings.{part_more, part_last}
use Rattle.bl_engine.proofs.conversation.Conversation.tell_line.Goals as goal

pub returns-then-last-clause-told : goal.returns-then-last-clause-told
returns-then-last-clause-told g c =
    let old = c.args.self.now in
    let ordinal = old.after + old.line + 1 in
    let left = g.B.Replies.left c.put_reply-last.new.block in
    let line = c.index.result.now in
    let p = c.put_reply-last.ensures.part in
    let split : reply_to (g.B.Replies.left c.args.block.now) ordinal line ≡ p.part =
    p.split ∙ ap (λ b. p.part ++ rest_of b (reply_to left ordinal line)) c.if-last.true ∙ append-nil p.part in
    record {
      held = refl;
      bytes = refl;
      stage = refl;
      line = old.line + 1;
      talk = refl;
      more = p.part;
      puts = p.puts;
      split = part_last (g.B.Replies.left c.args.block.now) left (talk_of old) line ordinal c.requires.line c.index.ensures refl c.put_reply-last.ensures.others
          (record (talk_of old) { line = old.line + 1 }) p.part split refl;
      nearer = inr refl;
    }

pub returns-else-last-clause-told : goal.returns-else-last-clause-told
returns-else-last-clause-told g c =
    let old = c.args.self.now in
    let ordinal = old.after + old.line + 1 in
    let left = g.B.Replies.left c.put_reply-last.new.block in
    let line = c.index.result.now in
    let p = c.put_reply-last.ensures.part in
    let split : reply_to (g.B.Replies.left c.args.block.now) ordinal line ≡ p.part ++ reply_to left ordinal line =
    p.split ∙ ap (λ b. p.part ++ rest_of b (reply_to left ordinal line)) c.if-last.false in
    record {
      held = refl;
      bytes = refl;
      stage = refl;
      line = old.line;
      talk = refl;
      more = p.part;
      puts = p.puts;
      split = part_more (g.B.Replies.left c.args.block.now) left (talk_of old) line ordinal c.requires.line c.index.ensures refl c.put_reply-last.ensures.others p.part split;
      nearer = inl (refl, p.some c.if-last.false);
    }
