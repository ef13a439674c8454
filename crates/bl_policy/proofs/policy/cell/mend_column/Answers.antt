use Rattle.std.proofs.Common.{◌≡◌, ◌+◌, ◌*◌, ◌<◌, length, map, get_or, arith, ◌∙◌, ap, sym}
use Rattle.std.proofs.lemmas.List.{get_or-map}
use Rattle.bl_policy.specs.Policy.{nobody}
use Rattle.bl_policy.specs.Cells.{clearance_from}
use Rattle.bl_policy.proofs.FirstFailed.{modes-mended, column-mended, column-others}
use Rattle.bl_policy.proofs.policy.cell.mend_column.Goals as goal

pub loop-row-preserved : goal.loop-row-preserved
loop-row-preserved c =
    let column = c.args.column in
    let i = c.loop-row.row in
    let cells = c.loop-row.cells in
    let read = c.index-subjects-row.result in
    let within : i * 1024 + column < length cells = omega (arith, c.loop-row-test.true, c.requires.within, c.requires.column, c.loop-row.auto.cells) in
    let subject : clearance_from read ≡ get_or (map clearance_from c.args.subjects.now) i nobody = ap clearance_from c.index-subjects-row.is ∙ sym (get_or-map clearance_from c.args.subjects.now i read nobody c.loop-row-test.true) in
    record {
      modes = modes-mended cells c.args.cells.now (i * 1024 + column) (clearance_from read) c.args.level.now _ c.cell.result c.loop-row.invariant.modes c.cell.ensures;
      mended = column-mended column i (map clearance_from c.args.subjects.now) cells c.args.cells.now (clearance_from read) c.args.level.now _ c.cell.result within c.loop-row.invariant.modes subject c.cell.ensures c.loop-row.invariant.mended;
      others = column-others column i cells c.args.cells.now c.cell.result c.requires.column c.loop-row.invariant.others;
    }
