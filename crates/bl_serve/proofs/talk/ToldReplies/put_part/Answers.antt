use Rattle.std.proofs.Common.{rules, ap, arith, sym, subst, List}
use Rattle.std.proofs.lemmas.List.{places, with_items_is}
use Rattle.std.specs.Vec.{with_items}
use Rattle.bl_hall.specs.declared.reply.Reply.{Reply}
use Rattle.bl_engine.specs.Parts.{MayTake, next_behind}
use Rattle.bl_serve.specs.Told.{AreNamed, IsPage}
use Rattle.bl_serve.specs.declared.talk.Told.{Told}
use Rattle.bl_serve.proofs.Taking.{stands_so}
use Rattle.bl_serve.proofs.talk.ToldReplies.put_part.Goals as goal

pub returns-then-last-clause-stands : goal.returns-then-last-clause-stands
returns-then-last-clause-stands g c =
    let next = c.put_next-next in
    let old = c.args.self.now in
    let new : Told = record { names = old.names; replies = with_items old.replies next.new.told; next = next.result.0; upto = c.args.ordinal } in
    let m = next_behind next.result.1 c.args.ordinal in
    let whole = sym (with_items_is old.replies next.new.told (search (rules, places))) in
    let behind = ap (λ b. next_behind b c.args.ordinal) c.if-last.true in
    stands_so new m (omega (arith, behind)) (subst (λ (l : List Reply). MayTake (IsPage l next.result.0) m) whole next.ensures.page)
    (subst (AreNamed old.names.now) whole next.ensures.named)

pub returns-else-last-clause-stands : goal.returns-else-last-clause-stands
returns-else-last-clause-stands g c =
    let next = c.put_next-next in
    let old = c.args.self.now in
    let new : Told = record { names = old.names; replies = with_items old.replies next.new.told; next = next.result.0; upto = old.upto } in
    let m = next_behind next.result.1 c.args.ordinal in
    let whole = sym (with_items_is old.replies next.new.told (search (rules, places))) in
    let behind = ap (λ b. next_behind b c.args.ordinal) c.if-last.false in
    let upto = c.requires.2.upto in
    let below = c.requires.1 in
    stands_so new m (omega (arith, behind, upto, below)) (subst (λ (l : List Reply). MayTake (IsPage l next.result.0) m) whole next.ensures.page)
    (subst (AreNamed old.names.now) whole next.ensures.named)
