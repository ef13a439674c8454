-- What may come of rules, and what stands beyond a list.
use Rattle.std.proofs.Common.{◌≡◌, ℕ, zero, suc, ◌≤◌, List, [], ◌∷◌, length, get_or, refl, arith}

pub none-beyond : (xs : List (List ℕ)) (i : ℕ) → length xs ≤ i → get_or xs i [] ≡ []
none-beyond [] i le = refl
none-beyond (x ∷ xs) zero le = absurd (omega (arith, le))
none-beyond (x ∷ xs) (suc i) le = none-beyond xs i (omega (arith, le))
