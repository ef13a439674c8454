-- A file of the system as a device.
use Rattle.std.specs.Prelude.{ℕ, List, string_bytes}
use Rattle.bl_disk.specs.File.{File}
use Rattle.bl_file.specs.Standing.{stand_now, stand_past}
use Rattle.bl_file.specs.declared.device.SystemFile.{SystemFile}
use Rattle.bl_file.specs.declared.kept.Keeping.{Keeping}

-- how it stands now, and stood before
abbrev pub file_now : {F : Type 0} → SystemFile F → File
file_now file = stand_now file.stand

abbrev pub file_past : {F : Type 0} → SystemFile F → List File
file_past file = stand_past file.stand

-- what its bytes are to outlive
abbrev pub keeping_of : {F : Type 0} → SystemFile F → Keeping
keeping_of file = file.held.keeping

-- the name under which it was opened
abbrev pub name_of : {F : Type 0} → SystemFile F → List ℕ
name_of file = string_bytes file.name
