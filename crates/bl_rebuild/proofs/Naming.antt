-- One subject has a name.
use Rattle.std.proofs.Common.{◌≡◌, ℕ, ◌<◌, List, [], length, get_or, sym, ◌∙◌, arith, inl, inr, ◌⊎◌}
use Rattle.std.specs.Prelude.{Some}
use Rattle.bl_name.specs.Table.{AreDistinct, place_of}
use Rattle.bl_setup.specs.Agreement.{Agree}
use Rattle.bl_setup.specs.Setup.{Setup}
use Rattle.bl_work.specs.Names.{AreNames}
use Rattle.bl_work.proofs.Widths.{name_is, place_within}

order : (m n : ℕ) → (m ≡ n) ⊎ ((m < n) ⊎ (n < m))
order m n = grind arith

-- of two places of a table with one name, there is one
one-name : (names : List (List ℕ)) → AreDistinct names → (m n : ℕ) → m < length names → n < length names → get_or names m [] ≡ get_or names n [] → m ≡ n
one-name names apart m n lm ln h = go (order m n)
  where
    go : (m ≡ n) ⊎ ((m < n) ⊎ (n < m)) → m ≡ n
    go (inl e) = e
    go (inr (inl lt)) = absurd (apart m n [] lt ln h)
    go (inr (inr lt)) = absurd (apart n m [] lt lm (sym h))

-- the subject of a name is the one that is found
pub same-subject : (setup : Setup) → Agree setup → AreNames setup.names → (name : List ℕ) (m n : ℕ) → m < length setup.policy.subjects
    → name ≡ get_or setup.names.subjects m [] → place_of name setup.names.subjects ≡ Some n → n ≡ m
same-subject setup agree names name m n lm is found =
    one-name setup.names.subjects names.subjects.distinct n m (place_within setup.names.subjects name n found) (omega (arith, lm, agree.subjects))
    (sym (name_is setup.names.subjects name n found) ∙ is)
