-- A fault of a table as a fault of the names.
use Rattle.std.specs.Prelude.{◌≡◌}
use Rattle.bl_name.specs.declared.table.TableFault.{TableFault}
use Rattle.bl_name.specs.declared.table.TableFault.TheVariants as tables
use Rattle.bl_work.specs.declared.names.NameFault.{NameFault}
use Rattle.bl_work.specs.declared.names.NameFault.TheVariants.{Repeated, Memory}

-- the same fault, of the names
abbrev pub IsFromTable : TableFault → NameFault → Type 0
IsFromTable (tables.Repeated name) fault = fault ≡ Repeated
IsFromTable tables.Memory fault = fault ≡ Memory
