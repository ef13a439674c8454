use Rattle.std.proofs.Common.{◌≡◌, ◌∙◌, length, sym, eqb-true}
use Rattle.bl_entrance.proofs.FirstLines.{none-said, said-here, said-later}
use Rattle.bl_entrance.proofs.first.first_line.Goals as goal

pub loop-rest-preserved : goal.loop-rest-preserved
loop-rest-preserved c =
    c.loop-rest.invariant
    ∙ said-later c.loop-rest.rest.now c.split_line.result.0.now c.split_line.result.1.now c.split_line.ensures.lines (sym c.is_blank.ensures ∙ c.if-not-is_blank.false)

pub returns-then-not-is_blank : goal.returns-then-not-is_blank
returns-then-not-is_blank c =
    sym (c.loop-rest.invariant
    ∙ said-here c.loop-rest.rest.now c.split_line.result.0.now c.split_line.result.1.now c.split_line.ensures.lines (sym c.is_blank.ensures ∙ c.if-not-is_blank.true))

pub returns : goal.returns
returns c =
    let none : length c.loop-rest.rest.now ≡ 0 = eqb-true _ 0 (sym c.is_empty.ensures ∙ c.loop-rest-test.false) in
    sym (c.loop-rest.invariant ∙ none-said c.loop-rest.rest.now none)
