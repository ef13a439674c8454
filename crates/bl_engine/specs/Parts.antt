-- What is taken of the replies to the lines of a block.
use Rattle.std.specs.Prelude.{◌≡◌, ◌+◌, ◌<◌, ◌≤◌, ℕ, Bool, true, false, List, [], ◌++◌, length}
use Rattle.bl_wire.specs.Watch.{EndState, Puts}

-- the next part of a text was put, and is not empty unless it is the last one
pub record PutsPart (was left : List ℕ) (last : Bool) (old new : EndState) : Type 0 where
  pub part : List ℕ
  pub split : was ≡ part ++ left
  pub puts : Puts part old new
  pub some : last ≡ false → 0 < length part
  pub none : last ≡ true → left ≡ []

-- what is left of the replies above an ordinal is the same
abbrev pub SameAbove : ℕ → (ℕ → List ℕ) → (ℕ → List ℕ) → Type 0
SameAbove n was left = (k : ℕ) → n < k → left k ≡ was k

-- between two ordinals the texts are the same
abbrev pub SameWithin : ℕ → ℕ → (ℕ → List ℕ) → (ℕ → List ℕ) → Type 0
SameWithin after upto f g = (k : ℕ) → after < k → k ≤ upto → g k ≡ f k

-- what is left after a part: nothing after the last one
abbrev pub rest_of : Bool → List ℕ → List ℕ
rest_of true text = []
rest_of false text = text

-- what stands above an ordinal may be taken from this one on
abbrev pub MayTake : (ℕ → Type 0) → ℕ → Type 0
MayTake Stands ordinal = (n : ℕ) × (n < ordinal) × Stands n

-- the ordinal whose replies come next
abbrev pub next_behind : Bool → ℕ → ℕ
next_behind true ordinal = ordinal + 1
next_behind false ordinal = ordinal
