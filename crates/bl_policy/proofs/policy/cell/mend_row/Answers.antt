use Rattle.std.proofs.Common.{◌≡◌, ◌+◌, ◌<◌, length, get_or, arith, ◌∙◌, sym, subst}
use Rattle.std.proofs.lemmas.List.{get_or_default}
use Rattle.bl_policy.specs.Policy.{lowest}
use Rattle.bl_policy.specs.Cells.{clearance_from, AreFailuresOf}
use Rattle.bl_policy.proofs.FirstFailed.{modes-mended, row-mended, row-others}
use Rattle.bl_policy.proofs.policy.cell.mend_row.Goals as goal

pub loop-column-preserved : goal.loop-column-preserved
loop-column-preserved c =
    let first = c.args.first in
    let i = c.loop-column.column in
    let cells = c.loop-column.cells in
    let within : first + i < length cells = omega (arith, c.loop-column-test.true, c.requires.within, c.loop-column.auto.cells) in
    let level : c.index-levels-column.result ≡ get_or c.args.levels.now i lowest = c.index-levels-column.is ∙ get_or_default c.args.levels.now i c.index-levels-column.result lowest c.loop-column-test.true in
    let made = c.cell_from.ensures ∙ c.turn_to.ensures.failures _ in
    record {
      last = subst (λ l. AreFailuresOf (clearance_from c.args.subject.now) l c.turn_to.new.last.failures) (sym c.turn_to.ensures.level) c.turn_to.ensures.failures;
      modes = modes-mended cells c.args.cells.now (first + i) (clearance_from c.args.subject.now) c.index-levels-column.result _ c.cell_from.result c.loop-column.invariant.modes made;
      mended = row-mended first i (clearance_from c.args.subject.now) c.args.levels.now cells c.args.cells.now c.index-levels-column.result _ c.cell_from.result within c.loop-column.invariant.modes level made c.loop-column.invariant.mended;
      others = row-others first i cells c.args.cells.now c.cell_from.result c.loop-column.invariant.others;
    }
