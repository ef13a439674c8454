use Rattle.std.proofs.Common.{◌≡◌, take}
use Rattle.bl_name.specs.Table.{IsTable}
use Rattle.bl_name.proofs.table.table_of.Given as goal

abbrev pub invariant-loop-name : goal.invariant-loop-name
invariant-loop-name l = record { so_far : l.table ≡ take l.name-index l.names; table : IsTable l.table }
