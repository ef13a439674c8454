-- What one more category makes of what was read of a level.
use Rattle.std.proofs.Common.{◌≡◌, ◌≢◌, ◌↔◌, ◌⊎◌, ℕ, List, [], ◌∷◌, ◌++◌, Contains, Some, refl, sym, ap, subst, ◌∙◌, append_assoc, inl, inr, take, length, get_or, map, Bor, ◌<◌, ◌+◌}
use Rattle.std.proofs.lemmas.List.{take_more, map-append}
use Rattle.std.proofs.lemmas.List.Elements.{All-push, Contains-push, Contains-push_cases, Contains-append_left, Contains-get_or}
use Rattle.std.proofs.lemmas.List.Quantifiers.{all_pairs_push, position-Some}
use Rattle.bl_level.specs.Level.{SecurityLevel, HasCategory}
use Rattle.bl_name.specs.Table.{place_of}
use Rattle.bl_level.specs.Scheme.{SchemeNames}
use Rattle.bl_level.specs.LevelText.{LevelText, Means, StandsBehind, IsNamed}
use Rattle.bl_level.specs.LevelFault.{IsLevelFault}
use Rattle.bl_level.specs.LevelFronts.{with_name}
use Rattle.bl_level.specs.declared.scheme.LevelFault.{LevelFault}
use Rattle.bl_level.specs.declared.scheme.LevelFault.TheVariants.{Syntax, UnknownRank, UnknownCategory, RepeatedCategory}
use Rattle.bl_name.proofs.Tables.{same, same-Decides}

-- what has a place is there
pub placed : (q : List ℕ) (ks : List (List ℕ)) (i : ℕ) → place_of q ks ≡ Some i → Contains ks q
placed q ks i e = let at = position-Some (same q) ks i q e in (i, at.0, sym ((same-Decides q (get_or ks i q)).0 at.1))

-- two names with one place are one
pub same_place : (p q : List ℕ) (ks : List (List ℕ)) (i : ℕ) → place_of p ks ≡ Some i → place_of q ks ≡ Some i → p ≡ q
same_place p q ks i d e =
    let at = position-Some (same p) ks i p d in
    let here = position-Some (same q) ks i p e in
    (same-Decides p (get_or ks i p)).0 at.1 ∙ sym ((same-Decides q (get_or ks i p)).0 here.1)

-- a category that is at fault stays so where more are read
stands_on : (scheme : SchemeNames) (text : LevelText) (more : List ℕ) (before : List (List ℕ)) (category : List ℕ) →
    StandsBehind scheme text before category → StandsBehind scheme (with_name text more) before category
stands_on scheme text more before category at = record {
  after = at.after ++ more ∷ [];
  split = ap (λ names. names ++ more ∷ []) at.split ∙ append_assoc before (category ∷ at.after) (more ∷ []);
  known = at.known;
  distinct = at.distinct;
}

pub fault_stays : (scheme : SchemeNames) (text : LevelText) (more : List ℕ) (fault : LevelFault) →
    IsLevelFault scheme text fault → IsLevelFault scheme (with_name text more) fault
fault_stays scheme text more Syntax at = at
fault_stays scheme text more UnknownRank at = at
fault_stays scheme text more UnknownCategory at =
    (at.0, (at.1.0, at.1.1, stands_on scheme text more at.1.0 at.1.1 at.1.2, at.1.3))
fault_stays scheme text more RepeatedCategory at =
    (at.0, (at.1.0, at.1.1, stands_on scheme text more at.1.0 at.1.1 at.1.2, at.1.3))

-- behind the categories of a text that means a level
stands_last : (scheme : SchemeNames) (text : LevelText) (level : SecurityLevel) (category : List ℕ) → Means scheme text level →
    StandsBehind scheme (with_name text category) text.categories category
stands_last scheme text level category means = record { after = []; split = refl; known = means.known; distinct = means.distinct }

pub unknown : (scheme : SchemeNames) (text : LevelText) (level : SecurityLevel) (category : List ℕ) → Means scheme text level →
    (Contains scheme.categories category → ⊥) → IsLevelFault scheme (with_name text category) UnknownCategory
unknown scheme text level category means absent =
    (placed text.rank scheme.ranks level.rank means.rank, (text.categories, category, stands_last scheme text level category means, absent))

-- a category that the level has is one of those named
named : (scheme : SchemeNames) (text : LevelText) (level : SecurityLevel) (category : List ℕ) (k : ℕ) → Means scheme text level →
    place_of category scheme.categories ≡ Some k → HasCategory level k → Contains text.categories category
named scheme text level category k means at has =
    let by = (means.categories k).0 has in
    subst (Contains text.categories) (same_place by.0 category scheme.categories k by.2 at) by.1

pub repeated : (scheme : SchemeNames) (text : LevelText) (level : SecurityLevel) (category : List ℕ) (k : ℕ) → Means scheme text level →
    place_of category scheme.categories ≡ Some k → HasCategory level k → IsLevelFault scheme (with_name text category) RepeatedCategory
repeated scheme text level category k means at has = (
  placed text.rank scheme.ranks level.rank means.rank,
  (text.categories, category, stands_last scheme text level category means, named scheme text level category k means at has),
)

module _ (scheme : SchemeNames) (text : LevelText) (category : List ℕ) where
  more_named : (j : ℕ) → IsNamed scheme text j → IsNamed scheme (with_name text category) j
  more_named j by = (by.0, Contains-append_left text.categories (category ∷ []) by.0 by.1, by.2)

  last_named : (k : ℕ) → place_of category scheme.categories ≡ Some k → IsNamed scheme (with_name text category) k
  last_named k at = (category, Contains-push text.categories category, at)

  named_before : (k j : ℕ) → place_of category scheme.categories ≡ Some k → IsNamed scheme (with_name text category) j →
      IsNamed scheme text j ⊎ (j ≡ k)
  named_before k j at by = go (Contains-push_cases text.categories category by.0 by.1)
    where
      go : Contains text.categories by.0 ⊎ (category ≡ by.0) → IsNamed scheme text j ⊎ (j ≡ k)
      go (inl there) = inl (by.0, there, by.2)
      go (inr e) = inr (cc (by.2, at, ap (λ n. place_of n scheme.categories) e))

pub taken : (scheme : SchemeNames) (text : LevelText) (level more : SecurityLevel) (category : List ℕ) (k : ℕ) → Means scheme text level →
    place_of category scheme.categories ≡ Some k → (HasCategory level k → ⊥) → more.rank ≡ level.rank →
    ((j : ℕ) → HasCategory more j ↔ (HasCategory level j ⊎ (j ≡ k))) → Means scheme (with_name text category) more
taken scheme text level more category k means at new rank members = record {
  rank = means.rank ∙ ap Some (sym rank);
  known = All-push (Contains scheme.categories) text.categories category means.known (placed category scheme.categories k at);
  distinct = all_pairs_push (λ a b. a ≢ b) text.categories category means.distinct (λ i d h e. fresh (subst (Contains text.categories) e (Contains-get_or text.categories i d h)));
  categories = λ j. ((λ has. there j ((members j).0 has)), (λ by. (members j).1 (back j (named_before scheme text category k j at by))));
}
  where
    fresh : Contains text.categories category → ⊥
    fresh h = new ((means.categories k).1 (category, h, at))

    there : (j : ℕ) → HasCategory level j ⊎ (j ≡ k) → IsNamed scheme (with_name text category) j
    there j (inl has) = more_named scheme text category j ((means.categories j).0 has)
    there j (inr e) = subst (IsNamed scheme (with_name text category)) (sym e) (last_named scheme text category k at)

    back : (j : ℕ) → IsNamed scheme text j ⊎ (j ≡ k) → HasCategory level j ⊎ (j ≡ k)
    back j (inl by) = inl ((means.categories j).1 by)
    back j (inr e) = inr e

-- one more of the names that are borrowed
pub names_more : (names : List (Bor (List ℕ))) (i : ℕ) (d : Bor (List ℕ)) → i < length names →
    map (λ n. n.now) (take (i + 1) names) ≡ map (λ n. n.now) (take i names) ++ (get_or names i d).now ∷ []
names_more names i d h = ap (map (λ n. n.now)) (take_more names i d h) ∙ map-append (λ n. n.now) (take i names) (get_or names i d ∷ [])
