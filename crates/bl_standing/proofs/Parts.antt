-- First parts of a text that were written.
use Rattle.std.proofs.Common.{◌≡◌, ◌∙◌, ℕ, zero, suc, List, [], ◌∷◌, ◌++◌, take, drop, ap, refl, sym, append_assoc}

pub take-drop : (n : ℕ) (text : List ℕ) → text ≡ take n text ++ drop n text
take-drop zero text = refl
take-drop (suc n) [] = refl
take-drop (suc n) (byte ∷ text) = ap (λ rest. byte ∷ rest) (take-drop n text)

-- what was put of a first part, and what is left
pub split-put : (n : ℕ) (text front rest : List ℕ) → text ≡ front ++ rest → text ≡ take n front ++ (drop n front ++ rest)
split-put n text front rest is = is ∙ ap (λ f. f ++ rest) (take-drop n front) ∙ append_assoc (take n front) (drop n front) rest
