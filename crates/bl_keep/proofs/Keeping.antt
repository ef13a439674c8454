-- What a file has once all that was written to it was handed on.
use Rattle.std.proofs.Common.{◌≡◌, ◌∙◌, ℕ, List, [], ◌++◌, Option, Some, None, ap, subst, append-nil}
use Rattle.std.specs.Io.KnownBytes.{Appends, Keeps, append_known}

-- the file began with nothing kept back, a text was appended, and what was kept back went to the file
pub wrote_file : (file first mid mid' out : Option (List ℕ)) (kept text : List ℕ) → first ≡ file → kept ≡ [] → Appends (append_known first kept) mid text → mid' ≡ mid → Keeps mid' out
    → Appends file out text
wrote_file file first mid mid' out kept text is none wrote same keeps =
    go file mid out (subst (λ (b : List ℕ). Appends (append_known file b) mid text) none (subst (λ (f : Option (List ℕ)). Appends (append_known f kept) mid text) is wrote))
    (subst (λ (m : Option (List ℕ)). Keeps m out) same keeps)
  where
    go : (file mid out : Option (List ℕ)) → Appends (append_known file []) mid text → Keeps mid out → Appends file out text
    go None mid out h k = tt
    go (Some xs) None out h k = absurd h
    go (Some xs) (Some ys) None h k = absurd k
    go (Some xs) (Some ys) (Some zs) h k = k ∙ (h ∙ ap (λ l. l ++ text) (append-nil xs))
