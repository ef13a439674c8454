-- Why names make no scheme.
use Rattle.std.specs.Prelude.{◌≡◌, ℕ, ◌<◌, ◌≤◌, ◌⊎◌, List, length}
use Rattle.bl_name.specs.Table.{IsTable, IsFirstRepeated}
use Rattle.bl_name.specs.declared.table.TableFault.{TableFault}
use Rattle.bl_name.specs.declared.table.TableFault.TheVariants as tables
use Rattle.bl_level.specs.declared.scheme.SchemeFault.{SchemeFault}
use Rattle.bl_level.specs.declared.scheme.SchemeFault.TheVariants.{Empty, TooMany, Repeated, Memory}

-- there is a rank, and there are at most 16 ranks and 32 categories
pub record Fits (ranks categories : List (List ℕ)) : Type 0 where
  pub some : 0 < length ranks
  pub ranks_fit : length ranks ≤ 16
  pub categories_fit : length categories ≤ 32

-- The first fault of these ranks and categories: each is asked only where no earlier one holds.
abbrev pub IsSchemeFault : List (List ℕ) → List (List ℕ) → SchemeFault → Type 0
IsSchemeFault ranks categories Empty = length ranks ≡ 0
IsSchemeFault ranks categories TooMany = (0 < length ranks) × ((16 < length ranks) ⊎ (32 < length categories))
IsSchemeFault ranks categories (Repeated name) =
    Fits ranks categories × (IsFirstRepeated ranks name ⊎ (IsTable ranks × IsFirstRepeated categories name))
IsSchemeFault ranks categories Memory = Fits ranks categories

-- the same fault, of a scheme
abbrev pub IsFromTable : TableFault → SchemeFault → Type 0
IsFromTable (tables.Repeated name) fault = fault ≡ Repeated name
IsFromTable tables.Memory fault = fault ≡ Memory
