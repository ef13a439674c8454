-- How the behaviours of a script stand in one another.
use Rattle.std.specs.Prelude.{◌≡◌, ℕ, ◌+◌, ◌-◌, ◌<◌, max, length, List, [], ◌∷◌, ◌++◌, sum_by, slice_index_or}
use Rattle.bl_work.specs.Statements.{Statements, Nothing, Show, Say, Add, Set, Copy, Pour, If, Spawn, Part, no_part}

-- the behaviours that the statements name, in the order of the text
abbrev pub spawned : Statements → List ℕ
spawned Nothing = []
spawned (Show doc rest) = spawned rest
spawned (Say text rest) = spawned rest
spawned (Add doc text rest) = spawned rest
spawned (Set doc text rest) = spawned rest
spawned (Copy from to rest) = spawned rest
spawned (Pour from to rest) = spawned rest
spawned (If doc asks text then_body else_body rest) = spawned then_body ++ spawned else_body ++ spawned rest
spawned (Spawn behaviour rest) = behaviour ∷ spawned rest

-- the behaviours within each behaviour, itself among them, for the behaviours from number k on
abbrev pub sizes_from : ℕ → List Part → List ℕ
sizes_from k [] = []
sizes_from k (part ∷ rest) =
    (1 + sum_by (λ j. slice_index_or (sizes_from (k + 1) rest) (j - (k + 1)) 0) (spawned part.body)) ∷ sizes_from (k + 1) rest

abbrev pub size_at : List Part → ℕ → ℕ
size_at script k = slice_index_or (sizes_from 0 script) k 0

-- the greatest depth of a `when` or an `if` below these statements, where `below` says how deep a spawned behaviour goes
abbrev pub depth_below : (ℕ → ℕ) → Statements → ℕ
depth_below below Nothing = 0
depth_below below (Show doc rest) = depth_below below rest
depth_below below (Say text rest) = depth_below below rest
depth_below below (Add doc text rest) = depth_below below rest
depth_below below (Set doc text rest) = depth_below below rest
depth_below below (Copy from to rest) = depth_below below rest
depth_below below (Pour from to rest) = depth_below below rest
depth_below below (If doc asks text then_body else_body rest) =
    max (1 + max (depth_below below then_body) (depth_below below else_body)) (depth_below below rest)
depth_below below (Spawn behaviour rest) = max (below behaviour) (depth_below below rest)

-- how deep each behaviour goes, its own `when` being one step, for the behaviours from number k on
abbrev pub depths_from : ℕ → List Part → List ℕ
depths_from k [] = []
depths_from k (part ∷ rest) =
    (1 + depth_below (λ j. slice_index_or (depths_from (k + 1) rest) (j - (k + 1)) 0) part.body) ∷ depths_from (k + 1) rest

abbrev pub depth_at : List Part → ℕ → ℕ
depth_at script k = slice_index_or (depths_from 0 script) k 0

-- the behaviours named are numbered one whole behaviour after another, from this number on, and each is one of the script's
abbrev pub AreNumbered : List Part → ℕ → List ℕ → Type 0
AreNumbered script next [] = Unit {0}
AreNumbered script next (j ∷ more) = (j ≡ next) × (j < length script) × AreNumbered script (next + size_at script j) more

-- Pre-order: the outermost behaviour comes first and has all the others within it, and behind each behaviour come those
-- that it names, one whole behaviour after another.
pub record IsPreorder (script : List Part) : Type 0 where
  pub some : 0 < length script
  pub whole : size_at script 0 ≡ length script
  pub numbered : (k : ℕ) → k < length script → AreNumbered script (k + 1) (spawned (slice_index_or script k no_part).body)
