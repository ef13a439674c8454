-- What the lowest of several levels dominates.
use Rattle.std.proofs.Common.{◌≡◌, ℕ, ◌+◌, Bool, true, false, [], ◌∷◌, refl, sym, ap, ap₂, ◌∙◌, arith, true≢false}
use Rattle.std.specs.Prelude.{◌&&◌, ◌||◌, ◌↔◌, bit_and, not, IsTrue, Option}
use Rattle.std.specs.Int.{bit_at}
use Rattle.std.specs.List.{list_any, range_with_len}
use Rattle.std.proofs.lemmas.List.Folds.{list_any-append}
use Rattle.std.proofs.lemmas.Nat.Bits.{bit_at_and, bit_at-lt}
use Rattle.bl_level.specs.Level.{SecurityLevel, Dominates, dominates}
use Rattle.bl_explain.specs.Ranges.{meet_of}
use Rattle.bl_rights.specs.Remarks.{is_above}
use Rattle.bl_rights.proofs.Numbers.{one-more}

-- a category of the meet is one of both
meet-first : (a b k : ℕ) → bit_at (bit_and a b) k ≡ 1 → bit_at a k ≡ 1
meet-first a b k h = omega (arith, bit_at_and a b k, bit_at-lt a k, bit_at-lt b k)

meet-second : (a b k : ℕ) → bit_at (bit_and a b) k ≡ 1 → bit_at b k ≡ 1
meet-second a b k h = omega (arith, bit_at_and a b k, bit_at-lt a k, bit_at-lt b k)

meet-both : (a b k : ℕ) → bit_at a k ≡ 1 → bit_at b k ≡ 1 → bit_at (bit_and a b) k ≡ 1
meet-both a b k h i = omega (arith, bit_at_and a b k)

-- the meet dominates what both dominate
dominates-both : (a b c : SecurityLevel) → Dominates (meet_of a b) c → Dominates a c × Dominates b c
dominates-both a b c d = (
  record { rank = omega (arith, d.rank); categories = λ k h. meet-first a.categories b.categories k (d.categories k h) },
  record { rank = omega (arith, d.rank); categories = λ k h. meet-second a.categories b.categories k (d.categories k h) },
)

both-dominate : (a b c : SecurityLevel) → Dominates a c → Dominates b c → Dominates (meet_of a b) c
both-dominate a b c d e =
    record { rank = omega (arith, d.rank, e.rank); categories = λ k h. meet-both a.categories b.categories k (d.categories k h) (e.categories k h) }

same : (x y z : Bool) → (x ≡ true → (y ≡ true) × (z ≡ true)) → ((y ≡ true) → (z ≡ true) → x ≡ true) → x ≡ (y && z)
same true y z to back = let both = to refl in sym (ap₂ (λ a b. a && b) both.0 both.1)
same false true true to back = back refl refl
same false true false to back = refl
same false false z to back = refl

abbrev pub DominanceMeant : Type 0
DominanceMeant = (a b : SecurityLevel) → IsTrue (dominates a b) ↔ Dominates a b

pub meet-dominates : DominanceMeant → (a b c : SecurityLevel) → dominates (meet_of a b) c ≡ (dominates a c && dominates b c)
meet-dominates means a b c =
    same (dominates (meet_of a b) c) (dominates a c) (dominates b c)
    (λ h. let both = dominates-both a b c ((means (meet_of a b) c).0 h) in ((means a c).1 both.0, (means b c).1 both.1))
    (λ h i. (means (meet_of a b) c).1 (both-dominate a b c ((means a c).0 h) ((means b c).0 i)))

-- ---- one level more

and-not : (any above dominated : Bool) → any ≡ not above → (any || ((true && not dominated) || false)) ≡ not (above && dominated)
and-not true true dominated e = absurd (true≢false e)
and-not false true true e = refl
and-not false true false e = refl
and-not true false dominated e = refl
and-not false false dominated e = absurd (true≢false (sym e))

or-none : (any : Bool) → (any || (false || false)) ≡ any
or-none true = refl
or-none false = refl

module _ (alters : ℕ → Bool) (level : ℕ → SecurityLevel) where
  abbrev pub below : SecurityLevel → ℕ → Bool
  below l o = alters o && not (dominates (level o) l)

  more : (l : SecurityLevel) (k : ℕ) → list_any (below l) (range_with_len 0 (k + 1)) ≡ (list_any (below l) (range_with_len 0 k) || (below l k || false))
  more l k = ap (list_any (below l)) (one-more k) ∙ list_any-append (below l) (range_with_len 0 k) (k ∷ [])

  pub altered : (low new : Option SecurityLevel) (k : ℕ) (l : SecurityLevel) → alters k ≡ true → is_above new l ≡ (is_above low l && dominates (level k) l)
      → list_any (below l) (range_with_len 0 k) ≡ not (is_above low l) → list_any (below l) (range_with_len 0 (k + 1)) ≡ not (is_above new l)
  altered low new k l does lowers so_far =
      more l k ∙ ap (λ b. list_any (below l) (range_with_len 0 k) || ((b && not (dominates (level k) l)) || false)) does
      ∙ and-not (list_any (below l) (range_with_len 0 k)) (is_above low l) (dominates (level k) l) so_far ∙ sym (ap not lowers)

  pub unaltered : (low : Option SecurityLevel) (k : ℕ) (l : SecurityLevel) → alters k ≡ false
      → list_any (below l) (range_with_len 0 k) ≡ not (is_above low l) → list_any (below l) (range_with_len 0 (k + 1)) ≡ not (is_above low l)
  unaltered low k l fails so_far =
      more l k ∙ ap (λ b. list_any (below l) (range_with_len 0 k) || ((b && not (dominates (level k) l)) || false)) fails
      ∙ or-none (list_any (below l) (range_with_len 0 k)) ∙ so_far
