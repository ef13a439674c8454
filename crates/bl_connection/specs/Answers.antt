-- What a stream's answer says of its bytes.
use Rattle.std.specs.Prelude.{◌≡◌, ◌<◌, ◌≤◌, ℕ, List, Option, length, take}
use Rattle.std.specs.Io.KnownBytes.{Appends, Consumes, IsAtEnd, Keeps}
use Rattle.bl_connection.specs.declared.stream.Answer.{Answer}
use Rattle.bl_connection.specs.declared.stream.Answer.TheVariants.{Moved, WouldBlock, Failed}

-- a read into this room gave so many bytes, and none only at the end of the input
abbrev pub Gives : Option (List ℕ) → Option (List ℕ) → Answer → List ℕ → Type 0
Gives before after (Moved n) room = (n ≤ length room) × Consumes before after (take n room)
    × (n ≡ 0 → 0 < length room → IsAtEnd after)
Gives before after WouldBlock room = Keeps before after
Gives before after Failed room = Keeps before after

-- a write of these bytes took so many of them
abbrev pub Takes : Option (List ℕ) → Option (List ℕ) → Answer → List ℕ → Type 0
Takes before after (Moved n) bytes = (n ≤ length bytes) × Appends before after (take n bytes)
Takes before after WouldBlock bytes = Keeps before after
Takes before after Failed bytes = Keeps before after
