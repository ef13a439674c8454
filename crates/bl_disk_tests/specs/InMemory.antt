-- How a file in memory stands.
use Rattle.std.specs.Prelude.{List, map}
use Rattle.bl_disk.specs.File.{File}
use Rattle.bl_disk_tests.specs.declared.memory.Memory.{Memory}
use Rattle.bl_disk_tests.specs.declared.memory.Moment.{Moment}

abbrev pub file_of : Moment → File
file_of moment = record { kept = moment.kept.items; loose = moment.loose.items }

-- how it stands now
abbrev pub memory_now : Memory → File
memory_now memory = file_of memory.stands

-- how it stood at each moment before
abbrev pub memory_past : Memory → List File
memory_past memory = map file_of memory.past.items
