-- A file that was made new for a trail.
use Rattle.std.specs.Prelude.{String}
use Rattle.std.specs.Global.{Global}
use Rattle.bl_trail_file.specs.declared.part.PartFile.{PartFile}

-- the name under which it was made
abbrev pub name_of_part : {F : Type 0} → PartFile F → String Global
name_of_part part = part.name

-- the file
abbrev pub file_of_part : {F : Type 0} → PartFile F → F
file_of_part part = part.file
