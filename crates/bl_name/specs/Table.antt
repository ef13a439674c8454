-- Names in an order, as a table keeps them.
use Rattle.std.specs.Prelude.{◌≡◌, ◌≢◌, ℕ, List, All, AllPairs, Contains, Option, position, take, slice_get, Some}
use Rattle.std.specs.Str.{bytes_eq}
use Rattle.bl_name.specs.Name.{IsName}

-- no name stands twice
abbrev pub AreDistinct : List (List ℕ) → Type 0
AreDistinct names = AllPairs (λ a b. a ≢ b) names

-- where the name stands first among the names
abbrev pub place_of : List ℕ → List (List ℕ) → Option ℕ
place_of name names = position (bytes_eq name) names

-- names, of which none stands twice
pub record IsTable (names : List (List ℕ)) : Type 0 where
  pub proper : All IsName names
  pub distinct : AreDistinct names

-- Read from the left, this name is the first that stood before.
pub record IsFirstRepeated (names : List (List ℕ)) (name : List ℕ) : Type 0 where
  pub place : ℕ
  pub is : slice_get names place ≡ Some name
  pub before : Contains (take place names) name
  pub distinct : AreDistinct (take place names)
