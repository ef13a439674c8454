-- Texts that begin with others.
use Rattle.std.proofs.Common.{ℕ, zero, suc, ◌≤◌, List, [], ◌∷◌, ◌++◌, length, take, refl, sym, ◌∙◌, ap, arith, append_assoc, append-nil}
use Rattle.bl_disk.specs.File.{Begins, File, Keeps}

-- a text begins with itself
pub itself : {A : Type 0} (a : List A) → Begins a a
itself a = ([], sym (append-nil a))

-- what begins with a text begins with what that begins with
pub through : {A : Type 0} (a b c : List A) → Begins a b → Begins b c → Begins a c
through a b c (s, p) (t, q) = (s ++ t, q ∙ ap (λ l. l ++ t) p ∙ append_assoc a s t)

-- a cut behind a front leaves it
pub take-behind : (front rest : List ℕ) (n : ℕ) → length front ≤ n → Begins front (take n (front ++ rest))
take-behind [] rest n le = (take n rest, refl)
take-behind (b ∷ front) rest zero le = absurd (omega (arith, le))
take-behind (b ∷ front) rest (suc n) le =
    let t : Begins front (take n (front ++ rest)) = take-behind front rest n (omega (arith, le)) in
    (t.0, ap (λ l. b ∷ l) t.1)

-- what is kept, each crash leaves
pub crash-keeps : (front : List ℕ) (file : File) → Begins front file.kept → Keeps front file
crash-keeps front file begins left may = through front file.kept left begins may
