-- Counting in lists, and lists that begin with others.
use Rattle.std.specs.Prelude.{◌≡◌, ℕ, zero, suc, ◌+◌, ◌-◌, Bool, cond, ◌&&◌, nat_lt, nat_le, ◌==◌, List, [], ◌∷◌, ◌++◌}

abbrev pub one_if : Bool → ℕ
one_if b = cond b 1 0

-- 1 where x is from a on and below b, else 0
abbrev pub within : ℕ → ℕ → ℕ → ℕ
within a b x = one_if (nat_le a x && nat_lt x b)

-- how often x stands in the list
abbrev pub times : ℕ → List ℕ → ℕ
times x [] = 0
times x (y ∷ ys) = one_if (y == x) + times x ys

-- so many positions, from this one on
abbrev pub from : ℕ → ℕ → List ℕ
from first zero = []
from first (suc n) = first ∷ from (first + 1) n

-- the positions that a trail of one length has more than one of another
abbrev pub gained : ℕ → ℕ → List ℕ
gained before after = from before (after - before)

-- f of each, added up
abbrev pub total : {A : Type 0} → (A → ℕ) → List A → ℕ
total f [] = 0
total f (v ∷ vs) = f v + total f vs

-- the list begins with this one
abbrev pub StartsWith : {A : Type 0} → List A → List A → Type 0
StartsWith {A} whole front = (rest : List A) × (whole ≡ front ++ rest)
