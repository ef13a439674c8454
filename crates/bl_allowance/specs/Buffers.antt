-- Bytes that are held.
use Rattle.std.specs.Prelude.{ℕ, List, drop, take}
use Rattle.bl_allowance.specs.declared.buffer.Buffer.{Buffer}

-- what is held and was not given
abbrev pub pending : Buffer → List ℕ
pending buffer = drop buffer.given buffer.bytes.items

-- what is due of that
abbrev pub due_of : Buffer → List ℕ
due_of buffer = take buffer.due (pending buffer)
