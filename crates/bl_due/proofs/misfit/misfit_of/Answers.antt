use Rattle.std.proofs.Common.{◌≡◌, ◌+◌, ◌-◌, ◌≤◌, length, refl, sym, ◌∙◌, arith}
use Rattle.bl_level.specs.Lexing.{past_blanks}
use Rattle.bl_level.specs.Token.{tok}
use Rattle.bl_name.proofs.Fronts.{broken_within}
use Rattle.bl_name.proofs.Runs.{past_le}
use Rattle.bl_name.specs.declared.lexer.Class.TheVariants as class
use Rattle.bl_due.specs.Points.{point}
use Rattle.bl_due.proofs.Reaching.{reached_more, token_fits, spells_whole, misfit_end, misfit_broken, misfit_token}
use Rattle.bl_due.proofs.misfit.misfit_of.Goals as goal

pub returns-then-may_end : goal.returns-then-may_end
returns-then-may_end c =
    spells_whole c.args.section c.args.line.now c.loop-point.rest.now (point c.loop-point.point) c.loop-point.invariant
    (sym c.in-Nothing.ensures.front) (sym c.may_end.ensures ∙ c.if-may_end.true)

pub returns-in-Nothing : goal.returns-in-Nothing
returns-in-Nothing c =
    misfit_end c.args.section c.args.line.now c.loop-point.rest.now (point c.loop-point.point) c.loop-point.invariant
    _ (sym c.in-Nothing.ensures.front) (sym c.may_end.ensures ∙ c.if-may_end.false) refl refl c.in_ok-due-in-Nothing.ensures

pub returns-in-Broken : goal.returns-in-Broken
returns-in-Broken c =
    let line = c.args.line.now in
    let rest = c.loop-point.rest.now in
    let from = c.in-Broken.from.now in
    let within : length from ≤ length line = omega (arith, broken_within (past_blanks rest) from (sym c.in-Broken.ensures.front), past_le class.Blank rest, c.loop-point.invariant.within) in
    let at : length line - length from + length from ≡ length line = omega arith in
    misfit_broken c.args.section line rest (point c.loop-point.point) c.loop-point.invariant
    _ from (sym c.in-Broken.ensures.front) at c.broken_length.ensures c.in_ok-due-in-Broken.ensures

pub loop-point-preserved : goal.loop-point-preserved
loop-point-preserved c =
    reached_more c.args.section c.args.line.now c.loop-point.rest.now c.in-Token.more.now (point c.loop-point.point) (point c.in-Some.next) (tok c.in-Token.token)
    c.loop-point.invariant (sym c.in-Token.ensures.front) (sym c.in-Some.ensures)

pub overflow_sub-result-in-None-2 : goal.overflow_sub-result-in-None-2
overflow_sub-result-in-None-2 c =
    let fits = token_fits c.args.section c.args.line.now c.loop-point.rest.now c.in-Token.more.now (point c.loop-point.point) (tok c.in-Token.token)
    c.loop-point.invariant (sym c.in-Token.ensures.front)
    in
    omega (arith, fits, c.width-len.ensures)

pub returns-in-None : goal.returns-in-None
returns-in-None c =
    let line = c.args.line.now in
    let more = c.in-Token.more.now in
    let len = c.width-len.result in
    let fits = token_fits c.args.section line c.loop-point.rest.now more (point c.loop-point.point) (tok c.in-Token.token)
    c.loop-point.invariant (sym c.in-Token.ensures.front)
    in
    let at : length line - length more - len + (len + length more) ≡ length line = omega (arith, fits, c.width-len.ensures) in
    misfit_token c.args.section line c.loop-point.rest.now (point c.loop-point.point) c.loop-point.invariant
    _ (tok c.in-Token.token) more (sym c.in-Token.ensures.front) (sym c.in-None.ensures) at c.width-len.ensures c.in_ok-due-in-None.ensures
