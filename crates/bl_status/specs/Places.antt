-- What a run says on standard error of what a fault is about, behind its words.
use Rattle.std.specs.Prelude.{ℕ, List, ◌∷◌, [], ◌++◌, codes, decimal, string_bytes}
use Rattle.bl_status.specs.declared.fault.ProgramFault.{ProgramFault}
use Rattle.bl_status.specs.declared.fault.ProgramFault.TheVariants.{CannotReadTrail, CannotWriteTrail}
use Rattle.bl_status.specs.declared.named.About.{About}
use Rattle.bl_status.specs.declared.named.About.TheVariants.{Nothing, File, Port, Trail}
use Rattle.bl_status.specs.declared.named.NamedFault.{NamedFault}
use Rattle.bl_status.specs.Message.{fault_line}

-- own choice: the port that cannot be listened on, on a line of its own
abbrev pub port_line : ℕ → List ℕ
port_line port = codes "port: " ++ (decimal port ++ 10 ∷ [])

-- own choice: the door that cannot be opened, on a line of its own
abbrev pub door_line : List ℕ → List ℕ
door_line name = codes "door: " ++ (name ++ 10 ∷ [])

-- own choice: the file that cannot be read or written, on a line of its own
abbrev pub file_line : List ℕ → List ℕ
file_line name = codes "file: " ++ (name ++ 10 ∷ [])

-- behind the words for a trail that cannot be read or written: which file that is
abbrev pub trail_line : List ℕ → ProgramFault → List ℕ
trail_line name CannotReadTrail = file_line name
trail_line name CannotWriteTrail = file_line name
trail_line name fault = []

-- own choice: a journal was named, and its trail has this name
abbrev pub wanted_line : List ℕ → List ℕ
wanted_line name = codes "say --trail " ++ (name ++ 10 ∷ [])

-- what a fault is about, on a line of its own
abbrev pub about_line : About → List ℕ
about_line Nothing = []
about_line (File name) = file_line (string_bytes name)
about_line (Port port) = port_line port
about_line (Trail name) = wanted_line (string_bytes name)

-- a fault, and what it is about
abbrev pub named_text : NamedFault → List ℕ
named_text named = fault_line named.fault ++ about_line named.about
