-- How far a name is from a word, and which name is nearest.
use Rattle.std.specs.Prelude.{◌≡◌, ◌<◌, ◌≤◌, ℕ, List, length, nat_eq, slice_get, Some}
use Rattle.strsim.specs.Edits.{levenshtein_row}

-- the least number of bytes put in, taken out or replaced that lead from one to the other (Levenshtein 1966; by the table of Wagner and
-- Fischer 1974)
abbrev pub distance : List ℕ → List ℕ → ℕ
distance word name = levenshtein_row nat_eq word name (length name)

-- own choice: a name is near a word at a distance of at most 2 that is less than the word's length
abbrev pub IsNear : List ℕ → List ℕ → Type 0
IsNear word name = (distance word name ≤ 2) × (distance word name < length word)

-- One of the names, in their order, is near the word; none is nearer, and each one before it is farther.
pub record IsNearest (names : List (List ℕ)) (word name : List ℕ) : Type 0 where
  pub place : ℕ
  pub at : slice_get names place ≡ Some name
  pub near : IsNear word name
  pub least : (k : ℕ) (other : List ℕ) → slice_get names k ≡ Some other → distance word name ≤ distance word other
  pub first : (k : ℕ) (other : List ℕ) → k < place → slice_get names k ≡ Some other → distance word name < distance word other

-- no name is near the word
abbrev pub NoneIsNear : List (List ℕ) → List ℕ → Type 0
NoneIsNear names word = (k : ℕ) (other : List ℕ) → slice_get names k ≡ Some other → ¬ IsNear word other
