-- How a file stands after a call of the system.
use Rattle.std.specs.Prelude.{ℕ, ◌-◌, List, ◌++◌, length, take}
use Rattle.bl_disk.specs.File.{File}

-- the bytes that are kept, and those after them that are not
abbrev pub file_of : List ℕ × List ℕ → File
file_of bytes = record { kept = bytes.0; loose = bytes.1 }

-- with a text handed over that is not kept yet
abbrev pub added : File → List ℕ → File
added file text = record { kept = file.kept; loose = file.loose ++ text }

-- with so many of its bytes, of which those are kept that were
abbrev pub cut_to : ℕ → File → File
cut_to len file = record { kept = take len file.kept; loose = take (len - length file.kept) file.loose }
