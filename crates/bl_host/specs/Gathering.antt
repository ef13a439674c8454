-- What is gathered of what was told.
use Rattle.std.specs.Prelude.{List, Option, Some}
use Rattle.std.specs.Iterator.{YieldsThen}

-- these are given, in their order, and then one more
abbrev pub GivesMore : {S A : Type 0} → (S → Option A → S → Type 0) → S → List A → Type 0
GivesMore {S} {A} gives told items = (one : A) × (rest : S) × YieldsThen gives told items (Some one) rest
