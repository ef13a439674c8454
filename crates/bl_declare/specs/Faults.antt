-- What is said of a fault.
use Rattle.std.specs.Prelude.{◌≡◌, ◌⊎◌}
use Rattle.bl_level.specs.declared.scheme.LevelFault.{LevelFault}
use Rattle.bl_level.specs.declared.scheme.LevelFault.TheVariants as level
use Rattle.bl_level.specs.declared.scheme.SchemeFault.{SchemeFault}
use Rattle.bl_level.specs.declared.scheme.SchemeFault.TheVariants as scheme
use Rattle.bl_name.specs.declared.table.TableFault.{TableFault}
use Rattle.bl_name.specs.declared.table.TableFault.TheVariants as table
use Rattle.bl_policy.specs.declared.policy.AddFault.{AddFault}
use Rattle.bl_policy.specs.declared.policy.AddFault.TheVariants as add
use Rattle.bl_work.specs.declared.names.NameFault.{NameFault}
use Rattle.bl_work.specs.declared.names.NameFault.TheVariants as name
use Rattle.bl_declare.specs.declared.fault.SetupFaultKind.{SetupFaultKind}
use Rattle.bl_declare.specs.declared.fault.SetupFaultKind.TheVariants.{Syntax, Unknown, Repeated, CurrentAboveGreatest, TooMany, Memory}

-- the fault is that of memory, or this holds
abbrev pub UnlessMemory : SetupFaultKind → Type 0 → Type 0
UnlessMemory kind P = (kind ≡ Memory) ⊎ P

-- the fault is that of memory, or one of syntax that means this
abbrev pub OfSyntax : SetupFaultKind → Type 0 → Type 0
OfSyntax kind P = (kind ≡ Memory) ⊎ ((kind ≡ Syntax) × P)

-- the same faults, of a line

abbrev pub kind_of_add : AddFault → SetupFaultKind
kind_of_add add.TooMany = TooMany
kind_of_add add.CurrentAboveGreatest = CurrentAboveGreatest

abbrev pub kind_of_name : NameFault → SetupFaultKind
kind_of_name name.TooMany = TooMany
kind_of_name name.Repeated = Repeated
kind_of_name name.Memory = Memory

abbrev pub kind_of_level : LevelFault → SetupFaultKind
kind_of_level level.Syntax = Syntax
kind_of_level level.UnknownRank = Unknown
kind_of_level level.UnknownCategory = Unknown
kind_of_level level.RepeatedCategory = Repeated

abbrev pub kind_of_table : TableFault → SetupFaultKind
kind_of_table (table.Repeated n) = Repeated
kind_of_table table.Memory = Memory

abbrev pub kind_of_scheme : SchemeFault → SetupFaultKind
kind_of_scheme scheme.Empty = Syntax
kind_of_scheme scheme.TooMany = TooMany
kind_of_scheme (scheme.Repeated n) = Repeated
kind_of_scheme scheme.Memory = Memory
