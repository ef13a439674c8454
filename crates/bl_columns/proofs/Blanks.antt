-- One more blank behind a text.
use Rattle.std.proofs.Common.{◌≡◌, ℕ, ◌+◌, refl, ◌∙◌, ap, List, [], ◌∷◌, ◌++◌, replicate}
use Rattle.std.proofs.lemmas.List.{replicate_more}

behind : (xs ys zs : List ℕ) → (xs ++ ys) ++ zs ≡ xs ++ (ys ++ zs)
behind [] ys zs = refl
behind (x ∷ xs) ys zs = ap (λ l. x ∷ l) (behind xs ys zs)

pub one_blank : (old text : List ℕ) (n : ℕ) → text ≡ old ++ replicate n 32 → text ++ 32 ∷ [] ≡ old ++ replicate (n + 1) 32
one_blank old text n e = ap (λ l. l ++ 32 ∷ []) e ∙ behind old (replicate n 32) (32 ∷ []) ∙ ap (λ l. old ++ l) (replicate_more n 32)

pub no_blank : (old : List ℕ) → old ≡ old ++ replicate 0 32
no_blank [] = refl
no_blank (x ∷ old) = ap (λ l. x ∷ l) (no_blank old)
