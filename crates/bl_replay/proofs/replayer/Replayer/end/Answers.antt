use Rattle.std.proofs.Common.{◌≡◌, ◌++◌, false, sym, ◌∙◌, ap, subst, true≢false, arith}
use Rattle.std.specs.Prelude.{codes, decimal, IsTrue}
use Rattle.bl_work.specs.Names.{KnownNames}
use Rattle.bl_work.specs.declared.answer.Answer.{Answer}
use Rattle.bl_setup.specs.Setup.{Setup}
use Rattle.bl_order.specs.Known.{KnowsAnswer}
use Rattle.bl_order.specs.Machine.{Ends, past_at, runs}
use Rattle.bl_trail.specs.EventText.{event_text}
use Rattle.bl_wire.specs.Named.{NamesAnswer}
use Rattle.bl_wire.specs.Replies.{answer_text}
use Rattle.bl_replay.specs.Keeps.{KeepsAt}
use Rattle.bl_replay.specs.Marks.{AreForetold, lost_later}
use Rattle.bl_replay.proofs.Moving.{many-places}
use Rattle.bl_replay.proofs.Naming.{names-answer}
use Rattle.bl_replay.proofs.Queueing.{runs-within}
use Rattle.bl_replay.proofs.Spawning.{answer-is}
use Rattle.bl_replay.proofs.Taking.{ends-open, told-before}
use Rattle.bl_replay.proofs.replayer.Replayer.end.Goals as goal

pub feed_to-requires : goal.feed_to-requires
feed_to-requires c =
    let running : IsTrue (runs c.requires.ready.0 c.args.n) = (c.is_running.ensures c.requires.ready.0 c.requires.ready.2.keeps).0 c.if-not-is_running.false in
    (c.requires.ready.0, c.requires.ready.2.keeps, told-before c.the_order_has_room.ensures.order c.requires.ready.0 c.args.self.now _ c.requires.ready.2, omega (arith, runs-within c.requires.ready.0 c.args.self.now c.requires.ready.2.keeps c.args.n running, many-places c.requires.ready.0 c.args.self.now c.requires.ready.2.keeps))

pub is_end-requires : goal.is_end-requires
is_end-requires c =
    let keeps : KeepsAt c.requires.ready.0 c.feed_to.new.self = c.in_ok-feed_to.ensures.keeps c.requires.ready.0 c.requires.ready.2.keeps in
    subst (λ (k : KnownNames). NamesAnswer k c.index.result.now) (sym (c.names.ensures.value ∙ ap (λ (s : Setup). s.names) keeps.setup))
    (names-answer c.requires.ready.0.setup keeps.agree c.index.result.now
    (subst (KnowsAnswer c.requires.ready.0.setup) (sym c.index.ensures) (keeps.fed.known c.args.n c.index.result.now c.in_ok-feed_to.ensures.told)))

pub finish-requires-clause-runs : goal.finish-requires-clause-runs
finish-requires-clause-runs c =
    let x = c.requires.ready.0 in
    let foretold : AreForetold (lost_later c.feed_to.new.self.marks.items) x =
    subst (λ m. AreForetold (lost_later m.items) x) (sym c.in_ok-feed_to.ensures.marks) (told-before c.the_order_has_room.ensures.order x c.args.self.now _ c.requires.ready.2) in
    (x, c.in_ok-feed_to.ensures.keeps x c.requires.ready.2.keeps, foretold, (c.is_running.ensures c.requires.ready.0 c.requires.ready.2.keeps).0 c.if-not-is_running.false)

pub finish-requires-clause-kept : goal.finish-requires-clause-kept
finish-requires-clause-kept c =
    ap (λ m. lost_later m.items c.args.n) c.in_ok-feed_to.ensures.marks ∙ sym (c.is_lost_later.ensures ∙ ap (λ l. lost_later l c.args.n) c.deref.ensures.value) ∙ c.if-is_lost_later.false

pub returns-then-not-is_running-clause-wrong : goal.returns-then-not-is_running-clause-wrong
returns-then-not-is_running-clause-wrong c is x rest replays needs has text =
    true≢false (sym ((c.is_running.ensures x replays.keeps).1 needs) ∙ c.if-not-is_running.true)

pub returns-then-is_lost_later-clause-wrong : goal.returns-then-is_lost_later-clause-wrong
returns-then-is_lost_later-clause-wrong c is x rest replays needs has text =
    true≢false (sym c.if-is_lost_later.true ∙ c.is_lost_later.ensures ∙ ap (λ l. lost_later l c.args.n) c.deref.ensures.value
    ∙ ends-open c.the_order_has_room.ensures.order x c.args.self.now c.args.line.now rest c.args.n c.requires.plain replays needs text)

pub returns-then-not-is_end-clause-wrong : goal.returns-then-not-is_end-clause-wrong
returns-then-not-is_end-clause-wrong c is x rest replays needs has text =
    let keeps : KeepsAt x c.feed_to.new.self = c.in_ok-feed_to.ensures.keeps x replays.keeps in
    let foretold : AreForetold (lost_later c.feed_to.new.self.marks.items) x =
    subst (λ m. AreForetold (lost_later m.items) x) (sym c.in_ok-feed_to.ensures.marks) (told-before c.the_order_has_room.ensures.order x c.args.self.now _ replays) in
    let open_yet : lost_later c.feed_to.new.self.marks.items c.args.n ≡ false =
    ap (λ m. lost_later m.items c.args.n) c.in_ok-feed_to.ensures.marks
    ∙ ends-open c.the_order_has_room.ensures.order x c.args.self.now c.args.line.now rest c.args.n c.requires.plain replays needs text in
    let said : c.index.result.now ≡ (past_at x c.args.n).answer =
    answer-is x c.feed_to.new.self keeps foretold (c.what_is_at_hand_rests_on_ended_places.ensures.rests x keeps.reached) c.args.n needs open_yet c.in_ok-feed_to.ensures.told c.index.result.now c.index.ensures in
    let whole : codes "end " ++ (decimal c.args.n ++ answer_text c.names.result.now c.index.result.now) ≡ event_text x (Ends c.args.n) =
    ap (λ (k : KnownNames). codes "end " ++ (decimal c.args.n ++ answer_text k c.index.result.now)) (c.names.ensures.value ∙ ap (λ (s : Setup). s.names) keeps.setup)
    ∙ ap (λ (a : Answer). codes "end " ++ (decimal c.args.n ++ answer_text x.setup.names a)) said in
    true≢false (sym (c.is_end.ensures.1 (text ∙ sym whole)) ∙ c.if-not-is_end.true)

pub returns-clause-right : goal.returns-clause-right
returns-clause-right c is x rest replays =
    let running : IsTrue (runs x c.args.n) = (c.is_running.ensures x replays.keeps).0 c.if-not-is_running.false in
    let keeps : KeepsAt x c.feed_to.new.self = c.in_ok-feed_to.ensures.keeps x replays.keeps in
    let foretold : AreForetold (lost_later c.feed_to.new.self.marks.items) x =
    subst (λ m. AreForetold (lost_later m.items) x) (sym c.in_ok-feed_to.ensures.marks) (told-before c.the_order_has_room.ensures.order x c.args.self.now _ replays) in
    let open_yet : lost_later c.feed_to.new.self.marks.items c.args.n ≡ false =
    ap (λ m. lost_later m.items c.args.n) c.in_ok-feed_to.ensures.marks ∙ sym (c.is_lost_later.ensures ∙ ap (λ l. lost_later l c.args.n) c.deref.ensures.value) ∙ c.if-is_lost_later.false in
    let said : c.index.result.now ≡ (past_at x c.args.n).answer =
    answer-is x c.feed_to.new.self keeps foretold (c.what_is_at_hand_rests_on_ended_places.ensures.rests x keeps.reached) c.args.n running open_yet c.in_ok-feed_to.ensures.told c.index.result.now c.index.ensures in
    let whole : codes "end " ++ (decimal c.args.n ++ answer_text c.names.result.now c.index.result.now) ≡ event_text x (Ends c.args.n) =
    ap (λ (k : KnownNames). codes "end " ++ (decimal c.args.n ++ answer_text k c.index.result.now)) (c.names.ensures.value ∙ ap (λ (s : Setup). s.names) keeps.setup)
    ∙ ap (λ (a : Answer). codes "end " ++ (decimal c.args.n ++ answer_text x.setup.names a)) said in
    record {
      needs = running;
      has = tt;
      text = c.is_end.ensures.0 c.if-not-is_end.false ∙ whole;
      keeps = c.in_ok-finish.ensures.keeps x keeps foretold running;
    }
