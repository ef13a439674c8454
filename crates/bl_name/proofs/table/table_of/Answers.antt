use Rattle.std.proofs.Common.{◌≡◌, ◌∙◌, ap, sym, Some, slice_get}
use Rattle.std.proofs.lemmas.Option.{slice_get-get_or}
use Rattle.bl_name.proofs.TableFaults.{refused}
use Rattle.bl_name.proofs.table.table_of.Goals as goal

pub returns-in-Err-add-clause-err : goal.returns-in-Err-add-clause-err
returns-in-Err-add-clause-err c =
    let name = c.copy.result in
    let at : slice_get c.args.names.now c.loop-name.name-index ≡ Some name = slice_get-get_or c.args.names.now c.loop-name.name-index c.name-item.result c.loop-name-test.true ∙ ap Some (sym c.name-item.is ∙ sym c.copy.ensures) in
    refused c.args.names.now c.loop-name.table name c.loop-name.name-index c.in-Err-add.fault
    c.in-Err-add.ensures.repeated c.in-Err-add.ensures.which c.loop-name.invariant.so_far at c.loop-name.invariant.table
