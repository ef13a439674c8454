-- What is kept of a line while it comes.
use Rattle.std.specs.Prelude.{◌≡◌, ℕ, List, length, take, nat_lt}
use Rattle.bl_wire.specs.declared.held.Held.{Held}
use Rattle.bl_wire.specs.Look.{look_of}

-- the first bytes of the line are kept; of all of them, how they look and whether there are more
pub record HoldsLine (held : Held) (line : List ℕ) : Type 0 where
  pub front : held.bytes.items ≡ take 8193 line
  pub look : held.look ≡ look_of line
  pub over : held.over ≡ nat_lt 8193 (length line)
