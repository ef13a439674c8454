use Rattle.std.proofs.Common.{◌≡◌, ◌+◌, ◌*◌, ◌<◌, length, map, get_or, arith, ◌∙◌, ap, sym}
use Rattle.std.proofs.lemmas.List.{get_or-map}
use Rattle.bl_policy.specs.Policy.{nobody}
use Rattle.bl_policy.specs.Cells.{clearance_from, cell_of}
use Rattle.bl_policy.proofs.FirstFailed.{column-emptied, column-others}
use Rattle.bl_policy.proofs.policy.cell.empty_column.Goals as goal

pub loop-row-preserved : goal.loop-row-preserved
loop-row-preserved c =
    let column = c.args.column in
    let i = c.loop-row.row in
    let cells = c.loop-row.cells in
    let read = c.index-subjects-row.result in
    let within : i * 1024 + column < length cells = omega (arith, c.loop-row-test.true, c.requires.within, c.requires.column, c.loop-row.auto.cells) in
    let subject : clearance_from read ≡ get_or (map clearance_from c.args.subjects.now) i nobody = ap clearance_from c.index-subjects-row.is ∙ sym (get_or-map clearance_from c.args.subjects.now i read nobody c.loop-row-test.true) in
    let empty : c.cell.result ≡ cell_of (clearance_from read) c.args.level.now (record { 0 = 0 }) = c.cell.ensures ∙ (λ j. cell_of (clearance_from read) c.args.level.now (record { 0 = c.empty.ensures tt j })) in
    record {
      emptied = column-emptied column i (map clearance_from c.args.subjects.now) cells (clearance_from read) c.args.level.now c.cell.result within subject empty c.loop-row.invariant.emptied;
      others = column-others column i cells c.args.cells.now c.cell.result c.requires.column c.loop-row.invariant.others;
    }
