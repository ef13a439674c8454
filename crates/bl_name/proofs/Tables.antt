-- Tables of names, compared byte by byte.
use Rattle.std.proofs.Common.{◌≡◌, ℕ, List, [], ◌∷◌, Bool, true, false, nat_eq, Contains, refl, sym, ap, subst, ◌∙◌, slice_get, Option, Some, None, get_or, ◌++◌, ◌≢◌, true≢false}
use Rattle.std.specs.List.{list_any, position}
use Rattle.std.specs.Cmp.Lexicographic.{pointwise}
use Rattle.std.specs.Bool.{Decides}
use Rattle.std.proofs.lemmas.Slice.Eq.{slice_eq-Decides}
use Rattle.std.proofs.lemmas.Bool.Decides.{Decides-eqb}
use Rattle.std.proofs.lemmas.Map.Views.{Contains-from_any, list_any-from_Contains}
use Rattle.std.proofs.lemmas.Cmp.{nat_list_eq_equiv}
use Rattle.std.proofs.lemmas.List.Quantifiers.{position-Some, all_pairs_push}
use Rattle.std.proofs.lemmas.Option.{slice_get-get_or}
use Rattle.std.proofs.lemmas.List.Elements.{All-push, Contains-get_or}
use Rattle.bl_name.specs.Name.{IsName}
use Rattle.bl_name.specs.Table.{IsTable}

abbrev pub same : List ℕ → List ℕ → Bool
same = pointwise nat_eq

pub same-Decides : (x y : List ℕ) → Decides (same x y) (x ≡ y)
same-Decides x y = slice_eq-Decides Decides-eqb x y (same x y) refl

-- a search finds what the list contains
pub found : (q : List ℕ) (ks : List (List ℕ)) → (list_any (same q) ks ≡ true → Contains ks q) × (Contains ks q → list_any (same q) ks ≡ true)
found q ks = (Contains-from_any (λ x y. (same-Decides x y).0) q ks, list_any-from_Contains nat_list_eq_equiv q ks)

-- and the place of the first
pub place : (q : List ℕ) (ks : List (List ℕ)) (i : ℕ) → position (same q) ks ≡ Some i → slice_get ks i ≡ Some q
place q ks i e =
    let at = position-Some (same q) ks i q e in
    slice_get-get_or ks i q at.0 ∙ ap Some (sym ((same-Decides q (get_or ks i q)).0 at.1))

-- what a search does not find the list does not contain
pub absent : (q : List ℕ) (ks : List (List ℕ)) → list_any (same q) ks ≡ false → Contains ks q → ⊥
absent q ks e h = true≢false (sym ((found q ks).1 h) ∙ e)

-- a table stays one behind which a new name is put
pub IsTable-push : (names : List (List ℕ)) (name : List ℕ) → IsTable names → IsName name → (Contains names name → ⊥) → IsTable (names ++ name ∷ [])
IsTable-push names name table proper new = record {
  proper = All-push IsName names name table.proper proper;
  distinct = all_pairs_push (λ a b. a ≢ b) names name table.distinct (λ k d h e. new (subst (Contains names) e (Contains-get_or names k d h)));
}

-- what stands nowhere has no place
pub no_place : (q : List ℕ) (ks : List (List ℕ)) → (Contains ks q → ⊥) → position (same q) ks ≡ None
no_place q ks absent = go (position (same q) ks) refl
  where
    go : (o : Option ℕ) → position (same q) ks ≡ o → o ≡ None
    go None e = refl
    go (Some i) e = let at = position-Some (same q) ks i q e in absurd (absent (i, at.0, sym ((same-Decides q (get_or ks i q)).0 at.1)))

-- what is in a table is a name
pub in_table : (q : List ℕ) (ks : List (List ℕ)) → IsTable ks → Contains ks q → IsName q
in_table q ks table h = subst IsName h.2 (table.proper h.0 q h.1)
