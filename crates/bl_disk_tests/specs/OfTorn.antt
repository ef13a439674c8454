-- How a torn file stands: as the file in memory in it.
use Rattle.std.specs.Prelude.{List}
use Rattle.bl_disk.specs.File.{File}
use Rattle.bl_disk_tests.specs.InMemory.{memory_now, memory_past}
use Rattle.bl_disk_tests.specs.declared.torn.Torn.{Torn}

abbrev pub torn_now : Torn → File
torn_now torn = memory_now torn.memory

abbrev pub torn_past : Torn → List File
torn_past torn = memory_past torn.memory
