-- What reading a line answers where it fails.
use Rattle.std.specs.Prelude.{◌≡◌, ℕ, ◌-◌, List, length, if◌then◌else◌, ◌==◌, slice_index, unwrap_or, Option}
use Rattle.bl_work.specs.Fault.{SyntaxFault}
use Rattle.bl_syntax.specs.declared.read.RawFault.{RawFault}
use Rattle.bl_syntax.specs.declared.read.RawFault.TheVariants.{Memory, Syntax}

-- a fault of syntax is the first one, and of memory nothing is said
abbrev pub IsRawFault : List ℕ → RawFault → Type 0
IsRawFault bytes Memory = Unit {0}
IsRawFault bytes (Syntax place) = SyntaxFault bytes place

abbrev pub IsNoMemory : RawFault → Type 0
IsNoMemory e = e ≡ Memory

-- the place of the token with so many tokens from it on, or of what stands behind all of them
abbrev pub fault_place : ℕ → List ℕ → Option ℕ → ℕ → ℕ
fault_place total places broken left = if left == 0 then unwrap_or broken total else slice_index places (length places - left)
