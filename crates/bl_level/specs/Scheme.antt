-- A scheme: the names of the ranks, lowest first, and of the categories.
use Rattle.std.specs.Prelude.{ℕ, ◌<◌, ◌≤◌, List, length}
use Rattle.bl_level.specs.Level.{SecurityLevel, HasCategory}
use Rattle.bl_name.specs.Table.{IsTable}

-- own choice: ranks and categories have names, and their places in these lists are the numbers of a level
pub record SchemeNames : Type 0 where
  pub ranks : List (List ℕ)
  pub categories : List (List ℕ)

-- There are 1 to 16 ranks and at most 32 categories. A rank and a category may have the same name.
pub record IsScheme (scheme : SchemeNames) : Type 0 where
  pub some : 0 < length scheme.ranks
  pub ranks_fit : length scheme.ranks ≤ 16
  pub categories_fit : length scheme.categories ≤ 32
  pub ranks : IsTable scheme.ranks
  pub categories : IsTable scheme.categories

-- the level's rank and each of its categories are the scheme's
pub record HoldsLevel (scheme : SchemeNames) (level : SecurityLevel) : Type 0 where
  pub rank : level.rank < length scheme.ranks
  pub categories : (k : ℕ) → HasCategory level k → k < length scheme.categories
