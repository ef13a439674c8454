-- Lines in bytes, and what may be given of them at once. What is too long to be a line, and how many lines are given
-- together, is our own choice.
use Rattle.std.specs.Prelude.{◌≡◌, ◌==◌, ◌<◌, ◌≤◌, ◌⊎◌, ℕ, Bool, true, false}
use Rattle.std.specs.Prelude.{List, [], ◌∷◌, ◌++◌, count_by, length, min, take}

-- how many lines end in these bytes
abbrev pub lines_in : List ℕ → ℕ
lines_in bytes = count_by (λ b. b == 10) bytes

-- the last of these bytes ends a line
abbrev pub EndsLine : List ℕ → Type 0
EndsLine bytes = (line : List ℕ) × (bytes ≡ line ++ 10 ∷ [])

-- so many bytes are the longest front of whole lines, of so many at most
pub record AreWhole (bytes : List ℕ) (most count lines : ℕ) : Type 0 where
  pub within : count ≤ length bytes
  pub ends : (count ≡ 0) ⊎ EndsLine (take count bytes)
  pub counted : lines ≡ lines_in (take count bytes)
  pub longest : lines ≡ min most (lines_in bytes)

-- ---- what may be given at once

-- whole lines, with room for each of them
pub record GivesLines (lines : ℕ) (given : List ℕ) : Type 0 where
  pub ends : EndsLine given
  pub room : lines ≡ lines_in given
  pub few : lines ≤ 128

-- a part of a line that is too long to be one, up to its end at most, with no room
pub record GivesLong (before after : Bool) (lines : ℕ) (given : List ℕ) : Type 0 where
  pub room : lines ≡ 0
  pub long : (before ≡ true) ⊎ (8193 < length given)
  pub ends : ((after ≡ true) × (lines_in given ≡ 0)) ⊎ ((before ≡ true) × (after ≡ false) × EndsLine given
      × (lines_in given ≡ 1))

-- the last line, which has no end, with room for it
pub record GivesLast (lines : ℕ) (given : List ℕ) : Type 0 where
  pub room : lines ≡ 1
  pub ends : lines_in given ≡ 0

-- These bytes may be given at once, with room for so many lines, where nothing comes behind what is held, or more does,
-- and where the line that they begin in, and the one behind them, is too long to be one, or not.
abbrev pub MayGive : (ended before after : Bool) → ℕ → List ℕ → Type 0
MayGive ended before after lines given =
    ((before ≡ false) × (after ≡ false) × GivesLines lines given)
    ⊎ GivesLong before after lines given
    ⊎ ((ended ≡ true) × (before ≡ false) × (after ≡ false) × GivesLast lines given)

-- no front of these bytes may be given
abbrev pub HasNoMore : (ended before : Bool) → List ℕ → Type 0
HasNoMore ended before bytes =
    (bytes ≡ [])
    ⊎ ((ended ≡ false) × (before ≡ false) × (lines_in bytes ≡ 0) × (length bytes ≤ 8193))
