-- The first name that stood before.
use Rattle.std.proofs.Common.{◌≡◌, ◌↔◌, ℕ, List, Contains, refl, sym, ap, subst, take, slice_get, Some, Err}
use Rattle.std.specs.Prelude.{IsErrOf}
use Rattle.bl_name.specs.Table.{IsTable, IsFirstRepeated}
use Rattle.bl_name.specs.TableFault.{IsTableFault}
use Rattle.bl_name.specs.declared.table.TableFault.{TableFault}
use Rattle.bl_name.specs.declared.table.TableFault.TheVariants.{Repeated, Memory}

-- a name that the table of the names before it refuses is the first repeated one
pub refused : (names table : List (List ℕ)) (name : List ℕ) (place : ℕ) (fault : TableFault) →
    (IsErrOf {T = Unit {0}} (Err fault) (Repeated name) ↔ Contains table name) →
    ((other : List ℕ) → IsErrOf {T = Unit {0}} (Err fault) (Repeated other) → other ≡ name) →
    table ≡ take place names → slice_get names place ≡ Some name → IsTable table → IsTableFault names fault
refused names table name place (Repeated other) repeated which so_far at is =
    let same : other ≡ name = which other refl in
    let before : Contains table name = repeated.0 (ap (λ n. Err (Repeated n)) same) in
    subst (IsFirstRepeated names) (sym same) (record {
      place = place;
      is = at;
      before = subst (λ t. Contains t name) so_far before;
      distinct = (subst IsTable so_far is).distinct;
    })
refused names table name place Memory repeated which so_far at is = tt
