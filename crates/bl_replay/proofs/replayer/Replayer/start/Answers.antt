use Rattle.std.proofs.Common.{◌≡◌, ◌++◌, true, sym, ◌∙◌, ap, subst, true≢false}
use Rattle.std.specs.Prelude.{codes, decimal, Some}
use Rattle.bl_work.specs.Names.{KnownNames}
use Rattle.bl_setup.specs.Setup.{Setup}
use Rattle.bl_order.specs.Machine.{MayStart, Starts, past_at}
use Rattle.bl_trail.specs.EventText.{event_text}
use Rattle.bl_replay.specs.Keeps.{KeepsAt}
use Rattle.bl_replay.specs.Marks.{AreForetold, lost_later}
use Rattle.bl_trail.specs.StartWords.{NamesWords, words_of, words_text}
use Rattle.bl_replay.proofs.Naming.{names-words}
use Rattle.bl_replay.proofs.Taking.{runs-later, runs-words, says-words, told-before}
use Rattle.bl_replay.proofs.replayer.Replayer.start.Goals as goal

pub feed_to-requires : goal.feed_to-requires
feed_to-requires c =
    (c.requires.ready.0, c.requires.ready.2.keeps, told-before c.the_order_has_room.ensures.order c.requires.ready.0 c.args.self.now _ c.requires.ready.2, ((c.is_ready.ensures c.requires.ready.0 c.requires.ready.2.keeps).0 c.if-not-is_ready.false).there)

pub words-requires-clause-keeps : goal.words-requires-clause-keeps
words-requires-clause-keeps c = (c.requires.ready.0, c.in_ok-feed_to.ensures.keeps c.requires.ready.0 c.requires.ready.2.keeps)

pub is_start-requires : goal.is_start-requires
is_start-requires c =
    subst (λ (k : KnownNames). NamesWords k c.in-Some.words) (sym c.names.ensures.value)
    (names-words c.feed_to.new.self.setup c.names.ensures.agree c.in-Some.words c.in-Some.ensures.known)

pub begin-requires : goal.begin-requires
begin-requires c =
    (c.requires.ready.0, c.in_ok-feed_to.ensures.keeps c.requires.ready.0 c.requires.ready.2.keeps, (c.is_ready.ensures c.requires.ready.0 c.requires.ready.2.keeps).0 c.if-not-is_ready.false)

pub returns-then-not-is_ready-clause-wrong : goal.returns-then-not-is_ready-clause-wrong
returns-then-not-is_ready-clause-wrong c is x rest replays needs has text =
    true≢false (sym ((c.is_ready.ensures x replays.keeps).1 needs) ∙ c.if-not-is_ready.true)

pub returns-in_default-clause-wrong : goal.returns-in_default-clause-wrong
returns-in_default-clause-wrong c is x rest replays needs has text =
    let keeps : KeepsAt x c.feed_to.new.self = c.in_ok-feed_to.ensures.keeps x replays.keeps in
    let foretold : AreForetold (lost_later c.feed_to.new.self.marks.items) x =
    subst (λ m. AreForetold (lost_later m.items) x) (sym c.in_ok-feed_to.ensures.marks) (told-before c.the_order_has_room.ensures.order x c.args.self.now _ replays) in
    let none = c.in_default.ensures.words x keeps foretold needs in
    let later : lost_later c.args.self.now.marks.items c.args.n ≡ true = ap (λ m. lost_later m.items c.args.n) (sym c.in_ok-feed_to.ensures.marks) ∙ none.0 in
    true≢false (sym (runs-later c.the_order_has_room.ensures.order x c.args.self.now c.args.line.now rest c.args.n c.requires.plain replays needs text later) ∙ none.1)

pub returns-then-not-is_start-clause-wrong : goal.returns-then-not-is_start-clause-wrong
returns-then-not-is_start-clause-wrong c is x rest replays needs has text =
    let keeps : KeepsAt x c.feed_to.new.self = c.in_ok-feed_to.ensures.keeps x replays.keeps in
    let foretold : AreForetold (lost_later c.feed_to.new.self.marks.items) x =
    subst (λ m. AreForetold (lost_later m.items) x) (sym c.in_ok-feed_to.ensures.marks) (told-before c.the_order_has_room.ensures.order x c.args.self.now _ replays) in
    let said : words_of (past_at x c.args.n).answer ≡ Some c.in-Some.words = c.in-Some.ensures.words x keeps foretold needs in
    let whole : codes "start " ++ (decimal c.args.n ++ words_text c.names.result.now c.in-Some.words) ≡ event_text x (Starts c.args.n) =
    ap (λ (k : KnownNames). codes "start " ++ (decimal c.args.n ++ words_text k c.in-Some.words)) (c.names.ensures.value ∙ ap (λ (s : Setup). s.names) keeps.setup)
    ∙ ap (λ t. codes "start " ++ (decimal c.args.n ++ t)) (sym (says-words x.setup.names (past_at x c.args.n).answer c.in-Some.words said)) in
    true≢false (sym (c.is_start.ensures.1 (text ∙ sym whole)) ∙ c.if-not-is_start.true)

pub returns-clause-right : goal.returns-clause-right
returns-clause-right c is x rest replays =
    let may : MayStart x c.args.n = (c.is_ready.ensures x replays.keeps).0 c.if-not-is_ready.false in
    let keeps : KeepsAt x c.feed_to.new.self = c.in_ok-feed_to.ensures.keeps x replays.keeps in
    let foretold : AreForetold (lost_later c.feed_to.new.self.marks.items) x =
    subst (λ m. AreForetold (lost_later m.items) x) (sym c.in_ok-feed_to.ensures.marks) (told-before c.the_order_has_room.ensures.order x c.args.self.now _ replays) in
    let said : words_of (past_at x c.args.n).answer ≡ Some c.in-Some.words = c.in-Some.ensures.words x keeps foretold may in
    let whole : codes "start " ++ (decimal c.args.n ++ words_text c.names.result.now c.in-Some.words) ≡ event_text x (Starts c.args.n) =
    ap (λ (k : KnownNames). codes "start " ++ (decimal c.args.n ++ words_text k c.in-Some.words)) (c.names.ensures.value ∙ ap (λ (s : Setup). s.names) keeps.setup)
    ∙ ap (λ t. codes "start " ++ (decimal c.args.n ++ t)) (sym (says-words x.setup.names (past_at x c.args.n).answer c.in-Some.words said)) in
    record {
      needs = may;
      has = tt;
      text = c.is_start.ensures.0 c.if-not-is_start.false ∙ whole;
      keeps = c.begin.ensures.keeps x keeps may (runs-words (past_at x c.args.n).answer c.in-Some.words said ∙ sym c.runs.ensures);
    }
