-- Whether something is told.
use Rattle.std.proofs.Common.{◌≡◌, ◌<◌, ◌≤◌, ◌+◌, ◌-◌, ℕ, Bool, true, false, List, [], ◌∷◌, ◌++◌, length, eqb, refl, sym, ◌∙◌, ap, arith, flat_map, true≢false}
use Rattle.std.specs.Prelude.{◌==◌, ◌||◌, not, if◌then◌else◌}
use Rattle.std.specs.List.{range_with_len}
use Rattle.std.proofs.lemmas.Bool.Decides.{nat_tests}
use Rattle.bl_rights_text.specs.Table.{is_told}
use Rattle.bl_rights_text.proofs.Putting.{from-end, from-here}

-- of two texts one is told at least
pub told-both : (a b : List ℕ) → is_told (a ++ b) ≡ (is_told a || is_told b)
told-both [] b = refl
told-both (x ∷ a) b = refl

-- of five
pub told-five : (a b c d e : List ℕ) → is_told (a ++ (b ++ (c ++ (d ++ e)))) ≡ (is_told a || (is_told b || (is_told c || (is_told d || is_told e))))
told-five a b c d e =
    told-both a (b ++ (c ++ (d ++ e)))
    ∙ ap (λ x. is_told a || x) (told-both b (c ++ (d ++ e)) ∙ ap (λ x. is_told b || x) (told-both c (d ++ e) ∙ ap (λ x. is_told c || x) (told-both d e)))

-- a text that is told unless something holds
pub told-unless : (b : Bool) (text : List ℕ) → is_told text ≡ true → is_told (if b then [] else text) ≡ not b
told-unless true text some = refl
told-unless false text some = some

none-zero : (n : ℕ) → 0 < n → eqb n 0 ≡ false
none-zero n some = grind (arith, nat_tests)

-- a text that is not empty is told
pub told-where : (text : List ℕ) → is_told text ≡ not (length text == 0)
told-where [] = refl
told-where (x ∷ text) = sym (ap not (none-zero (length (x ∷ text)) (omega arith)))

first-true : (a b : Bool) → a ≡ true → (a || b) ≡ true
first-true true b h = refl
first-true false b h = absurd (true≢false (sym h))

-- the rest decides
first-false : (a b : Bool) → a ≡ false → (a || b) ≡ b
first-false true b h = absurd (true≢false h)
first-false false b h = refl

module _ (piece : ℕ → List ℕ) (a n : ℕ) where
  pub told-here : a < n → is_told (piece a) ≡ true → is_told (flat_map piece (range_with_len a (n - a))) ≡ true
  told-here within here =
      ap is_told (from-here piece a n within) ∙ told-both (piece a) (flat_map piece (range_with_len (a + 1) (n - (a + 1))))
      ∙ first-true (is_told (piece a)) (is_told (flat_map piece (range_with_len (a + 1) (n - (a + 1))))) here

  pub told-later : a < n → is_told (piece a) ≡ false
      → is_told (flat_map piece (range_with_len a (n - a))) ≡ is_told (flat_map piece (range_with_len (a + 1) (n - (a + 1))))
  told-later within nothing =
      ap is_told (from-here piece a n within) ∙ told-both (piece a) (flat_map piece (range_with_len (a + 1) (n - (a + 1))))
      ∙ first-false (is_told (piece a)) (is_told (flat_map piece (range_with_len (a + 1) (n - (a + 1))))) nothing

  pub told-nowhere : n ≤ a → is_told (flat_map piece (range_with_len a (n - a))) ≡ false
  told-nowhere over = ap is_told (from-end piece a n over)

-- from the first on
pub told-all : (piece : ℕ → List ℕ) (n : ℕ) → is_told (flat_map piece (range_with_len 0 n)) ≡ is_told (flat_map piece (range_with_len 0 (n - 0)))
told-all piece n = let all : n ≡ n - 0 = omega arith in ap (λ k. is_told (flat_map piece (range_with_len 0 k))) all
