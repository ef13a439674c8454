-- What is written to a log.
use Rattle.std.specs.Prelude.{◌≡◌, ℕ, List, [], ◌∷◌}
use Rattle.bl_wire.specs.Watch.{EndState, Puts}
use Rattle.bl_log.specs.Lines.{IsLineOf, IsServerLineOf}
use Rattle.bl_log.specs.declared.note.Note.{Note}
use Rattle.bl_log.specs.declared.note.ServerNote.{ServerNote}

-- the line of a note was written; where the writer failed, a first part of it, and nothing where it had failed before
abbrev pub HasNoted : Note → EndState → EndState → Type 0
HasNoted note old new = (line : List ℕ) × IsLineOf note line × Puts line old new

-- these notes were made, one after the other
abbrev pub HaveBeenNoted : List Note → EndState → EndState → Type 0
HaveBeenNoted [] old new = new ≡ old
HaveBeenNoted (note ∷ notes) old new = (middle : EndState) × HasNoted note old middle × HaveBeenNoted notes middle new

-- the line of a note of the server was written, in the same way
abbrev pub HasNotedServer : ServerNote → EndState → EndState → Type 0
HasNotedServer note old new = (line : List ℕ) × IsServerLineOf note line × Puts line old new
