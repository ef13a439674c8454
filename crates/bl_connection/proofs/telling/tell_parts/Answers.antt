use Rattle.std.proofs.Common.{◌≡◌, ◌≤◌, ◌∙◌, inl, inr, sym, arith}
use Rattle.bl_engine.specs.Conversations.{need_of, waits_left}
use Rattle.bl_engine.specs.declared.conversation.Need.TheVariants as needs
use Rattle.bl_engine.proofs.Outcomes.{on_err-all}
use Rattle.bl_connection.proofs.ToldParts.{told_then, told_then_short}
use Rattle.bl_connection.proofs.telling.tell_parts.Goals as goal

pub returns-in_err-tell_part-clause-err : goal.returns-in_err-tell_part-clause-err
returns-in_err-tell_part-clause-err g c =
    on_err-all c.from_residual.result
    (told_then_short (g.B.Replies.left c.args.block.now) (g.B.Replies.left c.parts.block) c.args.conv.now c.parts.conv c.tell_part.new.conv c.args.output.now.items c.parts.output.items c.tell_part.new.output.items
    c.parts.invariant.told c.in_err-tell_part.ensures.err)

pub returns-then-len-ge-MOST_TOLD-clause-ok : goal.returns-then-len-ge-MOST_TOLD-clause-ok
returns-then-len-ge-MOST_TOLD-clause-ok g c =
    told_then (g.B.Replies.left c.args.block.now) (g.B.Replies.left c.parts.block) (g.B.Replies.left c.tell_part.new.block) c.args.conv.now c.parts.conv c.tell_part.new.conv
    c.args.output.now.items c.parts.output.items c.tell_part.new.output.items c.parts.invariant.told c.in_ok-tell_part.ensures.ok

pub parts-preserved : goal.parts-preserved
parts-preserved g c =
    let room : need_of c.tell_part.new.conv ≡ needs.Room = sym c.need.ensures ∙ c.in-Room.is in
    let waits : waits_left c.parts.conv ≤ waits_left c.args.conv.now = c.parts.invariant.waits in
    record {
      need = room;
      stands = c.tell_part.ensures.stands room;
      told = told_then (g.B.Replies.left c.args.block.now) (g.B.Replies.left c.parts.block) (g.B.Replies.left c.tell_part.new.block) c.args.conv.now c.parts.conv c.tell_part.new.conv
          c.args.output.now.items c.parts.output.items c.tell_part.new.output.items c.parts.invariant.told c.in_ok-tell_part.ensures.ok;
      waits = elim c.tell_part.ensures.on [ inl same ↦ omega (arith, same.1, waits) | inr less ↦ omega (arith, less, waits) ];
      parts = omega (arith, c.tell_part.ensures.nearer, c.parts.invariant.parts);
    }

pub returns-in_default : goal.returns-in_default
returns-in_default g c =
    let other : need_of c.tell_part.new.conv ≡ needs.Room → ⊥ = λ room. c.in_default.not-Room (c.need.ensures ∙ room) in
    let waits : waits_left c.parts.conv ≤ waits_left c.args.conv.now = c.parts.invariant.waits in
    record {
      ok = told_then (g.B.Replies.left c.args.block.now) (g.B.Replies.left c.parts.block) (g.B.Replies.left c.tell_part.new.block) c.args.conv.now c.parts.conv c.tell_part.new.conv
          c.args.output.now.items c.parts.output.items c.tell_part.new.output.items c.parts.invariant.told c.in_ok-tell_part.ensures.ok;
      err = tt;
      done = c.tell_part.ensures.done;
      stands = c.tell_part.ensures.stands;
      most = λ room. absurd (other room);
      nearer = elim c.tell_part.ensures.on [ inl same ↦ absurd (other same.0) | inr less ↦ omega (arith, less, waits) ];
      fewer = omega (arith, c.tell_part.ensures.nearer, c.parts.invariant.parts);
    }
