-- What a reader shows of a line.
use Rattle.std.specs.Prelude.{◌≡◌, ℕ, ◌+◌, ◌<◌, ◌≤◌, take, List, [], ◌∷◌, ◌++◌, length, Option, Some, None, ⊤}
use Rattle.bl_wire.specs.declared.held.Held.{Held}
use Rattle.bl_wire.specs.declared.part.Part.{Part}
use Rattle.bl_wire.specs.declared.part.Part.TheVariants.{Ends, More}
use Rattle.bl_wire.specs.Lines.{HasNoLf}
use Rattle.bl_wire.specs.HoldsLine.{HoldsLine}

-- a byte is left
abbrev pub HasMore : Option (List ℕ) → Type 0
HasMore None = ⊤
HasMore (Some bytes) = 0 < length bytes

-- a part of a line, and how it ended
abbrev pub part_bytes : Part → List ℕ → List ℕ
part_bytes Ends part = part ++ 10 ∷ []
part_bytes More part = part

abbrev pub IsFound : Part → List ℕ → Type 0
IsFound Ends part = ⊤
IsFound More part = 0 < length part

-- what is shown begins with a line that ends at this place, by an LF, and may be taken whole
pub record IsWholeLine (at : ℕ) (shown : List ℕ) (left : ℕ) : Type 0 where
  pub plain : HasNoLf (take at shown)
  pub front : take (at + 1) shown ≡ take at shown ++ 10 ∷ []
  pub within : at < length shown
  pub fits : at < left

-- what is shown begins with this part
pub record Scanned (n : ℕ) (part : Part) (shown : List ℕ) (old new : Held) (left : ℕ) : Type 0 where
  pub some : List ℕ
  pub plain : HasNoLf some
  pub within : n ≤ length shown
  pub fits : n ≤ left
  pub front : take n shown ≡ part_bytes part some
  pub holds : (line : List ℕ) → HoldsLine old line → HoldsLine new (line ++ some)
  pub kind : IsFound part some
