use Rattle.std.proofs.Common.{inr, refl, sym, ◌∙◌}
use Rattle.std.proofs.lemmas.Result.{MatchResult-weaker}
use Rattle.bl_declare.proofs.Parts.{of_syntax}
use Rattle.bl_declare.proofs.LineLemmas.{broken_spells_none, line_spells, line_proper, line_spells_none}
use Rattle.bl_declare.proofs.line.words_of.Goals as goal

pub returns-then-is_some-clause-fault : goal.returns-then-is_some-clause-fault
returns-then-is_some-clause-fault c =
    let lexed = c.in_ok-lexed.lexed in
    inr (refl, λ d b. broken_spells_none _ _ _ _ lexed.broken (sym c.is_some.ensures ∙ c.if-is_some.true) c.in_ok-lexed.ensures.cut d b)

pub returns-clause-spelled : goal.returns-clause-spelled
returns-clause-spelled c =
    let lexed = c.in_ok-lexed.lexed in
    MatchResult-weaker c.parse.result (rw c.as_slice.ensures.value at c.parse.ensures)
    (λ w is. line_spells _ _ _ _ lexed.broken _ (sym c.is_some.ensures ∙ c.if-is_some.false) c.in_ok-lexed.ensures.cut is) (λ e f. tt)

pub returns-clause-proper : goal.returns-clause-proper
returns-clause-proper c =
    MatchResult-weaker c.parse.result (rw c.as_slice.ensures.value at c.parse.ensures) (λ w is. line_proper _ _ c.in_ok-lexed.ensures.proper is) (λ e f. tt)

pub returns-clause-fault : goal.returns-clause-fault
returns-clause-fault c =
    let lexed = c.in_ok-lexed.lexed in
    MatchResult-weaker c.parse.result (rw c.as_slice.ensures.value at c.parse.ensures) (λ w is. tt)
    (λ e f. of_syntax (line_spells_none _ _ _ _ lexed.broken (sym c.is_some.ensures ∙ c.if-is_some.false) c.in_ok-lexed.ensures.cut) f)
