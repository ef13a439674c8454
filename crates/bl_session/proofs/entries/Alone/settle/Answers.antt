use Rattle.std.proofs.Common.{sym, ap, subst, ◌∙◌, arith, slice_index_or, refl, length}
use Rattle.bl_order.specs.Machine.{no_session, session_at}
use Rattle.bl_hall.specs.Chronicle.{state_now}
use Rattle.bl_hall.proofs.Trails.{reached-now}
use Rattle.bl_session.proofs.PageLaws.{run_front, run_start, run_settled, run_sessions, came_settled}
use Rattle.bl_hall.specs.Told.{IsUnanswered, replies_above}
use Rattle.bl_engine.specs.Requests.{SameUpTo}
use Rattle.bl_wire.specs.Replies.{line_text}
use Rattle.bl_session.specs.declared.block.Block.{Block}
use Rattle.bl_session.proofs.BlockLaws.{gives_new}
use Rattle.bl_session.proofs.entries.Alone.settle.Goals as goal

pub run-requires : goal.run-requires
run-requires c = run_start c.args.pages.now.hall c.args.pages.now.next c.requires.opened.stands.trail c.requires.opened.stands.ran

pub returns-in-Ok-Some-clause-opened : goal.returns-in-Ok-Some-clause-opened
returns-in-Ok-Some-clause-opened c =
    let s = c.args.pages.now in
    let t = c.run.new.pages in
    let run = c.run.ensures.ran in
    record {
      stands = record {
        setup_is = run.setup_is ∙ c.requires.opened.stands.setup_is;
        trail = run.trail;
        ran = run.ran;
      };
      there = omega (arith, c.run.ensures.session, c.requires.opened.there, ap length (run_sessions s.hall t.hall s.next t.next c.requires.opened.stands.ran run c.args.after c.requires.settled));
    }

pub returns-in-Ok-Some-clause-came : goal.returns-in-Ok-Some-clause-came
returns-in-Ok-Some-clause-came c begun told came =
    let t = c.run.new.pages in
    came_settled c.args.self.now.setup begun c.args.pages.now t told came c.run.ensures.ran c.run.ensures.session c.run.ensures.all
    (c.the_order_has_room.ensures.order (state_now t.hall) (reached-now t.hall c.run.ensures.ran.trail))

pub returns-in-Ok-Some-clause-last : goal.returns-in-Ok-Some-clause-last
returns-in-Ok-Some-clause-last c =
    let s = c.args.pages.now in
    let t = c.run.new.pages in
    ap (λ i. (session_at (state_now t.hall) i).last) c.run.ensures.session
    ∙ ap (λ l. (slice_index_or l s.session no_session).last) (run_sessions s.hall t.hall s.next t.next c.requires.opened.stands.ran c.run.ensures.ran c.args.after c.requires.settled)

pub returns-in-Ok-Some-clause-settled : goal.returns-in-Ok-Some-clause-settled
returns-in-Ok-Some-clause-settled c n later =
    let s = c.args.pages.now in
    let t = c.run.new.pages in
    let still = run_settled s.hall t.hall s.next t.next c.requires.opened.stands.ran c.run.ensures.ran s.session n later in
    record {
      number = c.run.ensures.session;
      later = still.0;
      same = subst (λ i. SameUpTo n (line_text (state_now s.hall) s.session) (line_text (state_now t.hall) i)) (sym c.run.ensures.session) still.1;
    }

pub returns-in-Ok-Some-clause-done : goal.returns-in-Ok-Some-clause-done
returns-in-Ok-Some-clause-done c n p low lt = absurd (omega (arith, low, lt, c.run.ensures.all))

pub returns-in-Err-Memory-clause-opened : goal.returns-in-Err-Memory-clause-opened
returns-in-Err-Memory-clause-opened c =
    let s = c.args.pages.now in
    let t = c.run.new.pages in
    let run = c.run.ensures.ran in
    record {
      stands = record {
        setup_is = run.setup_is ∙ c.requires.opened.stands.setup_is;
        trail = run.trail;
        ran = run.ran;
      };
      there = omega (arith, c.run.ensures.session, c.requires.opened.there, ap length (run_sessions s.hall t.hall s.next t.next c.requires.opened.stands.ran run c.args.after c.requires.settled));
    }

pub returns-in-Err-Memory-clause-came : goal.returns-in-Err-Memory-clause-came
returns-in-Err-Memory-clause-came c begun told came =
    let t = c.run.new.pages in
    came_settled c.args.self.now.setup begun c.args.pages.now t told came c.run.ensures.ran c.run.ensures.session c.run.ensures.all
    (c.the_order_has_room.ensures.order (state_now t.hall) (reached-now t.hall c.run.ensures.ran.trail))

pub returns-in-Err-Memory-clause-last : goal.returns-in-Err-Memory-clause-last
returns-in-Err-Memory-clause-last c =
    let s = c.args.pages.now in
    let t = c.run.new.pages in
    ap (λ i. (session_at (state_now t.hall) i).last) c.run.ensures.session
    ∙ ap (λ l. (slice_index_or l s.session no_session).last) (run_sessions s.hall t.hall s.next t.next c.requires.opened.stands.ran c.run.ensures.ran c.args.after c.requires.settled)

pub returns-in-Err-Memory-clause-settled : goal.returns-in-Err-Memory-clause-settled
returns-in-Err-Memory-clause-settled c n later =
    let s = c.args.pages.now in
    let t = c.run.new.pages in
    let still = run_settled s.hall t.hall s.next t.next c.requires.opened.stands.ran c.run.ensures.ran s.session n later in
    record {
      number = c.run.ensures.session;
      later = still.0;
      same = subst (λ i. SameUpTo n (line_text (state_now s.hall) s.session) (line_text (state_now t.hall) i)) (sym c.run.ensures.session) still.1;
    }

pub returns-in-Err-Memory-clause-done : goal.returns-in-Err-Memory-clause-done
returns-in-Err-Memory-clause-done c n p low lt = absurd (omega (arith, low, lt, c.run.ensures.all))

pub unreachable-requires-in-Err-Session : goal.unreachable-requires-in-Err-Session
unreachable-requires-in-Err-Session c =
    let s = c.args.pages.now in
    let t = c.run.new.pages in
    let none = subst (IsUnanswered (state_now t.hall) c.new.result) c.in-Err-Session.field-0-is c.in-Err-Session.ensures.fault in
    let same = run_sessions s.hall t.hall s.next t.next c.requires.opened.stands.ran c.run.ensures.ran c.args.after c.requires.settled in
    omega (arith, none, c.new.ensures, c.run.ensures.session, c.requires.opened.there, ap length same)

pub returns-in-Ok-Some-clause-block : goal.returns-in-Ok-Some-clause-block
returns-in-Ok-Some-clause-block c =
    let x = state_now c.run.new.pages.hall in
    let told = rw c.in-Ok-Some.field-0-is at c.in-Ok-Some.ensures.replies in
    let ended = rw c.in-Ok-Some.field-0-is at c.in-Ok-Some.ensures.ended in
    let block : Block = record { places = c.in-Ok-Some.places; next = 0 } in
    gives_new x c.run.new.pages.session c.args.after c.in-Ok-Some.places.items block refl refl ended (told.are ∙ ap (λ j. replies_above x j c.args.after (length x.order)) c.new.ensures)

pub returns-in-Ok-Some-clause-front : goal.returns-in-Ok-Some-clause-front
returns-in-Ok-Some-clause-front c =
    let s = c.args.pages.now in
    let t = c.run.new.pages in
    run_front s.hall t.hall s.next t.next c.requires.opened.stands.ran c.run.ensures.ran

pub returns-in-Err-Memory-clause-front : goal.returns-in-Err-Memory-clause-front
returns-in-Err-Memory-clause-front c =
    let s = c.args.pages.now in
    let t = c.run.new.pages in
    run_front s.hall t.hall s.next t.next c.requires.opened.stands.ran c.run.ensures.ran
