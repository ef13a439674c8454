-- What a session tells the machine behind it.
use Rattle.std.specs.Prelude.{◌≡◌, ℕ, ◌+◌, ◌≤◌, List, [], ◌∷◌, ◌++◌}
pub use Rattle.bl_engine.specs.declared.request.Request.{Request}
pub use Rattle.bl_engine.specs.declared.request.Request.TheVariants.{Opens, Admits, Settles}
use Rattle.bl_wire.specs.declared.turn.Turn.{Turn}
use Rattle.bl_wire.specs.declared.turn.Turn.TheVariants.{Skip, Wait, Greets, Bad, Ask}

-- what the lines after an ordinal tell
abbrev pub told_of : ℕ → List Turn → List Request
told_of k [] = []
told_of k (Skip ∷ turns) = told_of k turns
told_of k (Wait ∷ turns) = Settles ∷ told_of k turns
told_of k (Greets subject ∷ turns) = told_of (k + 1) turns
told_of k (Bad fault ∷ turns) = told_of (k + 1) turns
told_of k (Ask work ∷ turns) = Admits (k + 1) work ∷ told_of (k + 1) turns

-- what all lines of an input and its end tell: nothing unless the first line that isn't skipped opens the session
abbrev pub told_by : List Turn → List Request
told_by [] = []
told_by (Skip ∷ turns) = told_by turns
told_by (Greets subject ∷ turns) = Opens subject ∷ (told_of 0 turns ++ Settles ∷ [])
told_by (Wait ∷ turns) = []
told_by (Bad fault ∷ turns) = []
told_by (Ask work ∷ turns) = []

-- the replies to the ordinals up to n are the same
abbrev pub SameUpTo : ℕ → (ℕ → List ℕ) → (ℕ → List ℕ) → Type 0
SameUpTo n old new = (k : ℕ) → k ≤ n → new k ≡ old k
