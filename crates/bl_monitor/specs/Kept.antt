-- The behaviours that a place keeps as spawned.
use Rattle.std.specs.Prelude.{ℕ, List, [], Option, Some, None}
use Rattle.std.specs.Prelude.{Vec}
use Rattle.std.specs.Global.{Global}

-- the behaviours that were spawned; none where nothing ran
abbrev pub spawned_of : Option (Vec ℕ Global) → List ℕ
spawned_of None = []
spawned_of (Some children) = children.items
