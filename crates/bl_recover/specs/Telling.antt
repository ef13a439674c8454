-- What a recovery tells.
use Rattle.std.specs.Prelude.{ℕ, List, ◌++◌, codes, decimal}

-- own choice: how many events the trail has that was recovered
abbrev pub recovered_line : ℕ → List ℕ
recovered_line events = codes "recovered " ++ (decimal events ++ codes "\n")
