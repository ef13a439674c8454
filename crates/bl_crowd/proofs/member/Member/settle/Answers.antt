use Rattle.std.proofs.Common.{rules, ◌≤◌, map, take, drop, refl, sym, subst, All}
use Rattle.std.specs.Prelude.{None}
use Rattle.bl_order.specs.Known.{KnowsAnswer}
use Rattle.bl_hall.specs.Told.{AreAnswers, reply_of}
use Rattle.bl_hall.specs.declared.reply.Reply.{Reply}
use Rattle.bl_gate.specs.Gates.{state_seen}
use Rattle.bl_serve.specs.Told.{BeginsAbove, ordinal_of}
use Rattle.bl_serve.specs.declared.talk.Told.{Told}
use Rattle.bl_crowd.specs.Ways.{IsUnderWay}
use Rattle.bl_crowd.proofs.Meeting.{settles_open, way_settled}
use Rattle.bl_crowd.proofs.Stages.{settles_state}
use Rattle.bl_crowd.proofs.member.Member.settle.Goals as goal

pub unreachable-requires : goal.unreachable-requires
unreachable-requires g c =
    let way = c.requires.way in
    let opens = settles_open g.S.Stream.remaining g.S.Stream.contents way.0 way.1 c.args.turn.now c.args.self.now way.3 c.args.self.now.reception refl in
    c.in_default.not-Open opens.0 opens.1

pub answered-requires : goal.answered-requires
answered-requires g c =
    let asks = c.requires.way.3.asks in
    let stage = asks.awaits in
    settles_state c.args.self.now.connection stage.0 asks.quiet stage.1

pub returns-clause-way : goal.returns-clause-way
returns-clause-way g c done names first home w =
    let R = g.S.Stream.remaining in
    let W = g.S.Stream.contents in
    let old = c.args.self.now in
    let p = c.args.turn.now in
    let all = c.in-Ok-Some.replies.items in
    let count = c.count_up_to-count.result in
    let told : Told = record { names = old.names; replies = c.truncate.new.self; next = 0; upto = c.after.result } in
    let found : AreAnswers (state_seen p) c.new.result old.upto (map reply_of all) = search rules in
    let known : All (λ (r : Reply). KnowsAnswer (state_seen p).setup r.answer) all = search rules in
    let answers = subst (λ n. AreAnswers (state_seen p) n old.upto (map reply_of all)) c.new.ensures found in
    let low = subst (λ n. All (λ (r : Reply). ordinal_of r ≤ n) (take count all)) c.ordinal-ordinal.ensures
    (subst (λ l. All (λ (r : Reply). ordinal_of r ≤ c.ordinal-ordinal.result) (take count l)) c.deref.ensures.value c.count_up_to-count.ensures.low)
    in
    let next = subst (λ n. BeginsAbove n (drop count all)) c.ordinal-ordinal.ensures
    (subst (λ l. BeginsAbove c.ordinal-ordinal.result (drop count l)) c.deref.ensures.value c.count_up_to-count.ensures.next)
    in
    subst (λ n. IsUnderWay R W names first p (record old { connection = c.answered.new.self; told = told; last = n; upto = n }) None) (sym c.ordinal-ordinal.ensures)
    (way_settled R W names first p old w c.in-Open.session c.in-Open.is c.replies_go_by_lines.ensures home all count answers known low next
    c.answered.new.self told c.answered.ensures.answered c.answered.ensures.block c.answered.ensures.state w.names_are c.truncate.ensures.items refl c.after.ensures)
