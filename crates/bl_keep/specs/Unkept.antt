-- What a run says of a trail that is not kept.
use Rattle.std.specs.Prelude.{ℕ, List, [], ◌∷◌, ◌++◌, Option, Some, None, string_bytes}
use Rattle.bl_keep.specs.declared.whole.Left.{Left}
use Rattle.bl_keep.specs.declared.whole.Unkept.{Unkept}
use Rattle.bl_status.specs.declared.fault.ProgramFault.{ProgramFault}
use Rattle.bl_status.specs.Message.{fault_line}
use Rattle.bl_status.specs.Places.{trail_line}
use Rattle.bl_trail_file.specs.Telling.{left_text, unkept_fault}

-- where what is left is, on a line of its own; nothing where nothing is
abbrev pub left_line : Option Left → List ℕ
left_line None = []
left_line (Some left) = left_text left.whole (string_bytes left.name)

-- the fault of a trail that was not kept
abbrev pub unkept_faults : Option Unkept → List ProgramFault
unkept_faults None = []
unkept_faults (Some unkept) = unkept_fault unkept.fault ∷ []

-- behind the fault of a trail of this name: where what is left of it is, or where nothing is, which file it was to be
abbrev pub rest_line : List ℕ → ProgramFault → Option Left → List ℕ
rest_line name fault None = trail_line name fault
rest_line name fault (Some left) = left_line (Some left)

-- what is said of a trail of this name that was not kept
abbrev pub unkept_text : List ℕ → Option Unkept → List ℕ
unkept_text name None = []
unkept_text name (Some unkept) =
    fault_line (unkept_fault unkept.fault) ++ rest_line name (unkept_fault unkept.fault) unkept.left
