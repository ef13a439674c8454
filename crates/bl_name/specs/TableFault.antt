-- Why names make no table.
use Rattle.std.specs.Prelude.{ℕ, List}
use Rattle.bl_name.specs.Table.{IsFirstRepeated}
use Rattle.bl_name.specs.declared.table.TableFault.{TableFault}
use Rattle.bl_name.specs.declared.table.TableFault.TheVariants.{Repeated, Memory}

-- the fault names the first name that stood before; of memory nothing is said
abbrev pub IsTableFault : List (List ℕ) → TableFault → Type 0
IsTableFault names (Repeated name) = IsFirstRepeated names name
IsTableFault names Memory = Unit {0}
