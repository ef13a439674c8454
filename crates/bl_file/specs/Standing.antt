-- How a file of the system stands, by what was noted of it.
use Rattle.std.specs.Prelude.{List, map}
use Rattle.bl_disk.specs.File.{File}
use Rattle.bl_file.specs.Stands.{file_of}
use Rattle.bl_file.specs.declared.stand.Stand.{Stand}

-- how it stands now
abbrev pub stand_now : Stand → File
stand_now stand = file_of (stand.kept, stand.loose)

-- how it stood at each moment before
abbrev pub stand_past : Stand → List File
stand_past stand = map file_of stand.past
