-- How a faulty file stands: as the file in memory in it.
use Rattle.std.specs.Prelude.{List}
use Rattle.bl_disk.specs.File.{File}
use Rattle.bl_disk_tests.specs.InMemory.{memory_now, memory_past}
use Rattle.bl_record_tests.specs.declared.faulty.Faulty.{Faulty}

abbrev pub faulty_now : Faulty → File
faulty_now faulty = memory_now faulty.memory

abbrev pub faulty_past : Faulty → List File
faulty_past faulty = memory_past faulty.memory
