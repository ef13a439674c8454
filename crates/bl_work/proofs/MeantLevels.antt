-- A text of a level whose rank and categories are the scheme's, of which none stands twice, means a level.
use Rattle.std.proofs.Common.{◌≡◌, ◌⊎◌, ℕ, zero, suc, ◌<◌, ◌^◌, max, true, false, List, [], ◌∷◌, Some, refl, sym, ap, ◌∙◌, inl, inr, arith}
use Rattle.std.specs.Prelude.{All, Contains, unwrap_or, ◌==◌}
use Rattle.std.specs.Int.{bit_at}
use Rattle.std.specs.Int.RustNames.{bit_or}
use Rattle.std.specs.List.{position_or_len}
use Rattle.std.specs.Str.{bytes_eq}
use Rattle.std.proofs.lemmas.Bool.Decides.{eqb_tells}
use Rattle.std.proofs.lemmas.List.Elements.{All-head, All-tail}
use Rattle.std.proofs.lemmas.Nat.Bits.{bit_at_or, bit_at-lt, bit_at-zero, bit_at-pow_same, bit_at-pow_other}
use Rattle.bl_level.specs.Level.{SecurityLevel}
use Rattle.bl_level.specs.LevelText.{LevelText, Means}
use Rattle.bl_level.specs.Scheme.{SchemeNames}
use Rattle.bl_level.specs.Table.{AreDistinct, place_of}
use Rattle.bl_work.proofs.Behaviours.{has_place}

-- a name that is there has a place
pub place_some : (name : List ℕ) (names : List (List ℕ)) → Contains names name → (i : ℕ) × (place_of name names ≡ Some i)
place_some name names there = (position_or_len (bytes_eq name) names, (has_place names name there).0)

-- the set of the categories that are named
bits_of : List (List ℕ) → List (List ℕ) → ℕ
bits_of known [] = 0
bits_of known (name ∷ names) = bit_or (2 ^ unwrap_or (place_of name known) 0) (bits_of known names)

-- the category of this number is one of those named
abbrev IsAmong : List (List ℕ) → List (List ℕ) → ℕ → Type 0
IsAmong known names k = (name : List ℕ) × Contains names name × (place_of name known ≡ Some k)

one_of_max : (a b : ℕ) → max a b ≡ 1 → a < 2 → b < 2 → (a ≡ 1) ⊎ (b ≡ 1)
one_of_max a b e p q = grind arith

max_one_left : (a b : ℕ) → a ≡ 1 → b < 2 → max a b ≡ 1
max_one_left a b e q = grind arith

max_one_right : (a b : ℕ) → b ≡ 1 → a < 2 → max a b ≡ 1
max_one_right a b e q = grind arith

pow_is : (p k : ℕ) → bit_at (2 ^ p) k ≡ 1 → k ≡ p
pow_is p k h = go (eqb_tells k p)
  where
    go : (((k == p) ≡ true) × (k ≡ p)) ⊎ (((k == p) ≡ false) × (k ≡ p → ⊥)) → k ≡ p
    go (inl t) = t.1
    go (inr t) = absurd (omega (arith, h, bit_at-pow_other p k t.1))

in_tail : (x name : List ℕ) (names : List (List ℕ)) → Contains names name → Contains (x ∷ names) name
in_tail x name names (i, lt, at) = (suc i, omega (arith, lt), at)

bits-among : (known names : List (List ℕ)) (k : ℕ) → All (Contains known) names → bit_at (bits_of known names) k ≡ 1 → IsAmong known names k
unfolding bits_of
bits-among known [] k all h = absurd (omega (arith, h, bit_at-zero k))
bits-among known (name ∷ names) k all h = go (one_of_max (bit_at (2 ^ at.0) k) (bit_at (bits_of known names) k) (sym or ∙ h) (bit_at-lt (2 ^ at.0) k) (bit_at-lt (bits_of known names) k)) (bits-among known names k (All-tail (Contains known) name names all))
  where
    at : (i : ℕ) × (place_of name known ≡ Some i)
    at = place_some name known (All-head (Contains known) name names all)

    or : bit_at (bit_or (2 ^ unwrap_or (place_of name known) 0) (bits_of known names)) k ≡ max (bit_at (2 ^ at.0) k) (bit_at (bits_of known names) k)
    or = bit_at_or (2 ^ unwrap_or (place_of name known) 0) (bits_of known names) k ∙ ap (λ o. max (bit_at (2 ^ unwrap_or o 0) k) (bit_at (bits_of known names) k)) at.1

    go : (bit_at (2 ^ at.0) k ≡ 1) ⊎ (bit_at (bits_of known names) k ≡ 1) → (bit_at (bits_of known names) k ≡ 1 → IsAmong known names k) → IsAmong known (name ∷ names) k
    go (inl here) deeper = (name, (0, omega arith, refl), at.1 ∙ ap Some (sym (pow_is at.0 k here)))
    go (inr there) deeper = let by = deeper there in (by.0, in_tail name by.0 names by.1, by.2)

among-bits : (known names : List (List ℕ)) (k : ℕ) → IsAmong known names k → bit_at (bits_of known names) k ≡ 1
unfolding bits_of
among-bits known [] k (c, (i, lt, at), place) = absurd (omega arith)
among-bits known (name ∷ names) k (c, (zero, lt, at), place) =
    let is : place_of name known ≡ Some k = ap (λ n. place_of n known) at ∙ place in
    bit_at_or (2 ^ unwrap_or (place_of name known) 0) (bits_of known names) k
    ∙ max_one_left _ _ (ap (λ o. bit_at (2 ^ unwrap_or o 0) k) is ∙ bit_at-pow_same k) (bit_at-lt (bits_of known names) k)
among-bits known (name ∷ names) k (c, (suc i, lt, at), place) =
    bit_at_or (2 ^ unwrap_or (place_of name known) 0) (bits_of known names) k
    ∙ max_one_right _ _ (among-bits known names k (c, (i, omega (arith, lt), at), place)) (bit_at-lt (2 ^ unwrap_or (place_of name known) 0) k)

pub level_meant : (scheme : SchemeNames) (text : LevelText) → Contains scheme.ranks text.rank → All (Contains scheme.categories) text.categories → AreDistinct text.categories
    → (level : SecurityLevel) × Means scheme text level
level_meant scheme text rank known distinct =
    let at = place_some text.rank scheme.ranks rank in (
      record { rank = at.0; categories = bits_of scheme.categories text.categories },
      record {
        rank = at.1;
        known = known;
        distinct = distinct;
        categories = λ k. (bits-among scheme.categories text.categories k known, among-bits scheme.categories text.categories k);
      },
    )
