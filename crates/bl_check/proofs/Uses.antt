-- Whether some access declares a document so.
use Rattle.std.proofs.Common.{◌≡◌, ℕ, ◌<◌, ◌≤◌, Bool, true, false, ◌||◌, List, ◌∷◌, length, get_or, map, take, refl, ap, sym, subst, ◌∙◌, arith}
use Rattle.std.specs.List.{list_any}
use Rattle.std.proofs.lemmas.Bool.{false≢true}
use Rattle.std.proofs.lemmas.List.{length-map, get_or-map, take_all}
use Rattle.std.proofs.lemmas.List.Folds.{list_any_at}
use Rattle.bl_work.specs.Spelled.{SpelledAccess}
use Rattle.bl_syntax.specs.RawBodies.{raw_access}
use Rattle.bl_syntax.specs.declared.raw.RawAccess.{RawAccess}

or_right : (a b : Bool) → b ≡ true → (a || b) ≡ true
or_right true b e = refl
or_right false b e = e

neither : (a b : Bool) → a ≡ false → b ≡ false → (a || b) ≡ true → ⊥
neither true b p q e = false≢true (sym p)
neither false b p q e = false≢true (sym q ∙ e)

-- one behind the first does
pub any_behind : (p : SpelledAccess → Bool) (first : SpelledAccess) (xs : List RawAccess) (i : ℕ) (d : RawAccess) → i < length xs → true ≡ p (raw_access (get_or xs i d))
    → list_any p (first ∷ map raw_access xs) ≡ true
any_behind p first xs i d lt e =
    let within : i < length (map raw_access xs) = omega (arith, length-map xs raw_access) in
    or_right (p first) (list_any p (map raw_access xs))
    (list_any_at p (map raw_access xs) i (raw_access d) within (ap p (get_or-map raw_access xs i d (raw_access d) lt) ∙ sym e))

-- none does
pub none_at_all : (p : SpelledAccess → Bool) (first : SpelledAccess) (xs : List RawAccess) (i : ℕ) → length xs ≤ i → false ≡ p first
    → list_any p (map raw_access (take i xs)) ≡ false → list_any p (first ∷ map raw_access xs) ≡ true → ⊥
none_at_all p first xs i le e none some =
    neither (p first) (list_any p (map raw_access xs)) (sym e) (subst (λ l. list_any p (map raw_access l) ≡ false) (take_all i xs le) none) some
