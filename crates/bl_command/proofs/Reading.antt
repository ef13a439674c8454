-- What was read of a setup file.
use Rattle.std.proofs.Common.{◌≡◌, Bool, IsTrue, List, false, not, refl, sym, true, ℕ}
use Rattle.std.specs.Prelude.{IfErr, IfOk, Result, Ok, Err}
use Rattle.bl_setup.specs.Grammar.{IsSetup}
use Rattle.bl_setup.specs.Setup.{Setup}
use Rattle.bl_status.specs.Failure.{IsNoSetup}
use Rattle.bl_status.specs.declared.fault.ProgramFault.{ProgramFault}
use Rattle.bl_command.specs.Asked.{IsReadAs}

-- by cases
pub read_as : (bytes : List ℕ) (setup : Result Setup ProgramFault) → IfOk setup (IsSetup bytes) → IfErr setup (IsNoSetup bytes) → IsReadAs bytes setup
read_as bytes (Ok setup) is none = is
read_as bytes (Err fault) is none = none

pub is_of_not : (b : Bool) → not b ≡ false → IsTrue b
is_of_not true is = refl
is_of_not false is = sym is
