use Rattle.std.proofs.Common.{◌≡◌, false, ◌∙◌, sym, ap}
use Rattle.bl_trail.specs.StartWords.{words_of}
use Rattle.std.specs.Prelude.{is_some}
use Rattle.bl_order.specs.Machine.{past_at}
use Rattle.bl_replay.proofs.StartLaws.{runs, answered, some-words, are-words, done_words, none_by_rule, none_by_fault, none_neither}
use Rattle.bl_replay.proofs.start.start_words.Goals as goal

pub returns-then-rule-clause-words : goal.returns-then-rule-clause-words
returns-then-rule-clause-words c x marks fed foretold rests may later rule =
    (c.if-later.true, runs x marks c.args.monitor.now c.args.answers.now fed foretold rests c.args.n may c.requires (sym later ∙ c.if-later.true) ∙ none_by_rule _ _ (sym rule ∙ c.if-rule.true))

pub returns-in-Some-clause-words : goal.returns-in-Some-clause-words
returns-in-Some-clause-words c x marks fed foretold rests may later rule = (
  c.if-later.true,
  runs x marks c.args.monitor.now c.args.answers.now fed foretold rests c.args.n may c.requires (sym later ∙ c.if-later.true)
      ∙ none_by_fault _ _ (ap is_some (sym c.fault.ensures ∙ c.in-Some.is)),
)

pub returns-in-None-clause-words : goal.returns-in-None-clause-words
returns-in-None-clause-words c x marks fed foretold rests may later rule =
    done_words (past_at x c.args.n).answer
    (runs x marks c.args.monitor.now c.args.answers.now fed foretold rests c.args.n may c.requires (sym later ∙ c.if-later.true)
    ∙ none_neither _ _ (sym rule ∙ c.if-rule.false) (ap is_some (sym c.fault.ensures ∙ c.in-None.is)))

pub returns-clause-words : goal.returns-clause-words
returns-clause-words c x marks fed foretold rests may later rule =
    let plain : marks c.args.n ≡ false = sym later ∙ c.if-later.false in
    let is : c.answer_words.result ≡ words_of (past_at x c.args.n).answer =
    c.answer_words.ensures ∙ ap words_of (c.index-answers-n.is ∙ answered x marks c.args.monitor.now c.args.answers.now fed foretold rests c.args.n may c.requires plain _) in
    are-words x c.args.n c.args.later c.answer_words.result (sym is)
    (λ none. some-words x marks c.args.monitor.now c.args.answers.now fed foretold rests c.args.n may c.requires (sym is ∙ none))
