-- How long the categories of a level are as they are written: those of a text that names each of them are no shorter.
use Rattle.std.proofs.Common.{◌≡◌, ℕ, zero, suc, ◌+◌, ◌<◌, ◌≤◌, inl, inr, Some, false, true, List, [], ◌∷◌, ◌++◌, length, get_or, refl, sym, ap, subst, ◌∙◌, arith, length-append}
use Rattle.std.specs.Prelude.{Contains}
use Rattle.std.specs.Str.{bytes_eq}
use Rattle.std.proofs.lemmas.List.Elements.{Contains-append_left, Contains-append_right, Contains-append_cases}
use Rattle.std.proofs.lemmas.List.Quantifiers.{position-Some}
use Rattle.bl_level.specs.Canonical.{canonical}
use Rattle.bl_level.specs.Level.{SecurityLevel}
use Rattle.bl_level.specs.LevelFronts.{tail_of}
use Rattle.bl_level.specs.LevelText.{LevelText, IsNamed, spell_level, held_names, text_of}
use Rattle.bl_level.specs.LevelText as of_level
use Rattle.bl_level.specs.Scheme.{SchemeNames, IsScheme, HoldsLevel}
use Rattle.bl_level.specs.Table.{AreDistinct, place_of}
use Rattle.bl_level.proofs.LevelTexts.{same_place}
use Rattle.bl_level.proofs.WritingLevels.{level_bytes, text_means}
use Rattle.bl_work.proofs.Behaviours.{same_bytes, has_place}

-- ---- names with a sign before each

abbrev width : List (List ℕ) → ℕ
width [] = 0
width (c ∷ cs) = suc (length c) + width cs

width_append : (xs ys : List (List ℕ)) → width (xs ++ ys) ≡ width xs + width ys
width_append [] ys = omega arith
width_append (x ∷ xs) ys = omega (arith, width_append xs ys)

-- a name among others: those before it and those behind it
record Split (xs : List (List ℕ)) (c : List ℕ) : Type 0 where
  before : List (List ℕ)
  after : List (List ℕ)
  is : xs ≡ before ++ c ∷ after

split_at : (xs : List (List ℕ)) (c : List ℕ) → Contains xs c → Split xs c
split_at [] c (k, lt, at) = absurd (omega arith)
split_at (x ∷ xs) c (zero, lt, at) = record { before = []; after = xs; is = ap (λ y. y ∷ xs) at }
split_at (x ∷ xs) c (suc k, lt, at) =
    let s = split_at xs c (k, omega arith, at) in
    record { before = x ∷ s.before; after = s.after; is = ap (λ l. x ∷ l) s.is }

-- each of these names is one of those
abbrev Within : List (List ℕ) → List (List ℕ) → Type 0
Within xs ys = (c : List ℕ) → Contains xs c → Contains ys c

only_one : (x c : List ℕ) → Contains (x ∷ []) c → x ≡ c
only_one x c (zero, lt, at) = at
only_one x c (suc k, lt, at) = absurd (omega arith)

-- another name than the one that is taken out stays
others_stay : (before after : List (List ℕ)) (x c : List ℕ) → (x ≡ c → ⊥) → Contains (before ++ x ∷ after) c → Contains (before ++ after) c
others_stay before after x c other there =
    elim (Contains-append_cases before (x ∷ after) c there) [
      | inl front ↦ Contains-append_left before after c front
      | inr behind ↦ elim (Contains-append_cases (x ∷ []) after c behind) [
        | inl here ↦ absurd (other (only_one x c here))
        | inr later ↦ Contains-append_right before after c later
      ]
    ]

-- names of which none stands twice are no longer than names that have each of them
narrower : (xs ys : List (List ℕ)) → AreDistinct xs → Within xs ys → width xs ≤ width ys
narrower [] ys distinct within = omega arith
narrower (x ∷ xs) ys distinct within =
    let s = split_at ys x (within x (0, omega arith, refl)) in
    let fresh : (c : List ℕ) → Contains xs c → x ≡ c → ⊥ =
    λ c (k, lt, at) same. distinct 0 (suc k) c (omega arith) (omega arith) (same ∙ sym at) in
    let rest = narrower xs (s.before ++ s.after) (λ i j d before lt. distinct (suc i) (suc j) d (omega arith) (omega arith))
    (λ c there. others_stay s.before s.after x c (fresh c there) (subst (λ l. Contains l c) s.is (within c (Contains-append_right (x ∷ []) xs c there)))) in
    omega (arith, rest, ap width s.is, width_append s.before (x ∷ s.after), width_append s.before s.after)

-- ---- in braces

behind_others : (cs : List (List ℕ)) → length (tail_of true cs) ≡ width cs + 1
behind_others [] = omega arith
behind_others (c ∷ cs) = omega (arith, length-append (44 ∷ c) (tail_of true cs), behind_others cs)

in_braces : (c : List ℕ) (cs : List (List ℕ)) → length (tail_of false (c ∷ cs)) ≡ width (c ∷ cs) + 1
in_braces c cs = omega (arith, length-append (123 ∷ c) (tail_of true cs), behind_others cs)

shorter : (xs ys : List (List ℕ)) → AreDistinct xs → Within xs ys → length (tail_of false xs) ≤ length (tail_of false ys)
shorter [] ys distinct within = omega arith
shorter (x ∷ xs) [] distinct within = go (within x (0, omega arith, refl))
  where
    go : Contains [] x → length (tail_of false (x ∷ xs)) ≤ length (tail_of false [])
    go (k, lt, at) = absurd (omega arith)
shorter (x ∷ xs) (y ∷ ys) distinct within = omega (arith, in_braces x xs, in_braces y ys, narrower (x ∷ xs) (y ∷ ys) distinct within)

-- ---- the text of a level

-- a name has its place
pub name_is : (table : List (List ℕ)) (n : List ℕ) (i : ℕ) → place_of n table ≡ Some i → n ≡ get_or table i []
name_is table n i at = same_bytes n (get_or table i []) (position-Some (bytes_eq n) table i [] at).1

-- the place of a name is before the end
pub place_within : (table : List (List ℕ)) (n : List ℕ) (i : ℕ) → place_of n table ≡ Some i → i < length table
place_within table n i at = (position-Some (bytes_eq n) table i [] at).0

module _ (scheme : SchemeNames) (text : LevelText) (level : SecurityLevel) (means : of_level.Means scheme text level) where
  -- the scheme holds what a text means
  pub held : HoldsLevel scheme level
  held = record { rank = place_within scheme.ranks text.rank level.rank means.rank; categories = λ k has. go k ((means.categories k).0 has) }
    where
      go : (k : ℕ) → IsNamed scheme text k → k < length scheme.categories
      go k (c, there, at) = place_within scheme.categories c k at

  -- each category of the canonical text is one of the text
  named_there : IsScheme scheme → Within (held_names level 0 scheme.categories) text.categories
  named_there table c (k, lt, at) =
      let own = text_means scheme level table held in
      let place = has_place scheme.categories c (subst (Contains scheme.categories) at (own.known k c lt)) in
      go place.0 ((means.categories _).0 ((own.categories _).1 (c, (k, lt, at), place.0)))
    where
      go : {p : ℕ} → place_of c scheme.categories ≡ Some p → IsNamed scheme text p → Contains text.categories c
      go {p} here (d, there, same) = subst (Contains text.categories) (same_place d c scheme.categories p same here) there

  -- the canonical text of a level is no longer than any text of it
  pub level_shorter : IsScheme scheme → length (canonical (spell_level (text_of scheme level))) ≤ length (canonical (spell_level text))
  level_shorter table =
      let own = text_means scheme level table held in
      let rank = get_or scheme.ranks level.rank [] in
      let names = held_names level 0 scheme.categories in
      omega (
        arith,
        ap length (level_bytes rank names),
        length-append rank (tail_of false names),
        ap length (level_bytes text.rank text.categories),
        length-append text.rank (tail_of false text.categories),
        ap length (name_is scheme.ranks text.rank level.rank means.rank),
        shorter names text.categories own.distinct (named_there table),
      )
