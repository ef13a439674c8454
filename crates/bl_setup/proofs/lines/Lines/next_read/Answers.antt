use Rattle.std.proofs.Common.{◌≡◌, length, sym, ◌∙◌, arith, eqb-true}
use Rattle.bl_setup.proofs.TakingLemmas.{next_read_on, next_skipped, next_taken, none_taken}
use Rattle.bl_setup.proofs.lines.Lines.next_read.Goals as goal

pub loop-line-preserved : goal.loop-line-preserved
loop-line-preserved c =
    let skipped = sym c.is_skipped.ensures ∙ c.if-not-is_skipped.false in
    let bytes = c.loop-line.self.rest.now in
    let rest = c.split_line.result.1.now in
    record {
      same = c.loop-line.invariant.same ∙ next_read_on bytes _ rest _ c.split_line.ensures.lines c.without_cr-line.ensures skipped;
      fewer = omega arith;
      skips = next_skipped _ _ _ bytes _ rest _ c.loop-line.invariant.skips c.split_line.ensures.lines c.without_cr-line.ensures skipped;
    }

pub returns-then-not-is_skipped-clause-taken : goal.returns-then-not-is_skipped-clause-taken
returns-then-not-is_skipped-clause-taken c =
    next_taken _ _ _ c.loop-line.self.rest.now _ c.split_line.result.1.now _ c.loop-line.invariant.skips c.split_line.ensures.lines c.without_cr-line.ensures
    (sym c.is_skipped.ensures ∙ c.if-not-is_skipped.true)

pub returns-clause-taken : goal.returns-clause-taken
returns-clause-taken c =
    let none : length c.loop-line.self.rest.now ≡ 0 = eqb-true _ 0 (sym c.is_empty.ensures ∙ c.loop-line-test.false) in
    none_taken _ _ _ c.loop-line.self.rest.now none c.loop-line.invariant.skips
