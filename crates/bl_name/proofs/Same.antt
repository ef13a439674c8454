-- Whether bytes are the same.
use Rattle.std.proofs.Common.{◌≡◌, ℕ, Bool, true, false, bytes_eq, List, refl, sym, true≢false}
use Rattle.std.specs.Prelude.{◌↔◌, IsTrue}
use Rattle.std.proofs.lemmas.Slice.Eq.{bytes_eq-Decides}

-- bytes that are not the same are told so
not_same : (xs ys : List ℕ) → (xs ≡ ys → ⊥) → bytes_eq xs ys ≡ false
not_same xs ys ne = go (bytes_eq xs ys) refl
  where
    go : (b : Bool) → bytes_eq xs ys ≡ b → bytes_eq xs ys ≡ false
    go true is = absurd (ne ((bytes_eq-Decides xs ys).0 is))
    go false is = is

-- what says whether they are the same is the test
pub told : (b : Bool) (xs ys : List ℕ) → (IsTrue b ↔ (xs ≡ ys)) → b ≡ bytes_eq xs ys
told true xs ys says = sym ((bytes_eq-Decides xs ys).1 (says.0 refl))
told false xs ys says = sym (not_same xs ys (λ e. true≢false (sym (says.1 e))))
