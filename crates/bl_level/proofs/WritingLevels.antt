-- The canonical text of a level, and that it reads as the level.
use Rattle.std.proofs.Common.{◌≡◌, ◌≢◌, ◌⊎◌, ◌<◌, ◌+◌, ℕ, zero, suc, Bool, true, false, eqb, ltb, not, cond, List, [], ◌∷◌, ◌++◌, Contains, Option, Some, None, Result, Ok, Err, refl, sym, ap, subst, ◌∙◌, inl, inr, length, get_or, arith, drop, append_assoc, add-one, drop-cons}
use Rattle.std.specs.Prelude.{All}
use Rattle.std.specs.List.{position, position_or_len, AllByRecursion}
use Rattle.std.specs.Int.{bit_at}
use Rattle.std.proofs.lemmas.Bool.{cases_order, eqb-true, eq-eqb, ne_eqb, ltb-false, false≢true}
use Rattle.std.proofs.lemmas.List.{length-append}
use Rattle.std.proofs.lemmas.List.Elements.{Contains-append_right, Contains-append_cases, Contains-get_or}
use Rattle.std.proofs.lemmas.List.Quantifiers.{position-Some}
use Rattle.std.proofs.lemmas.List.Sums.{prefix_len_passes}
use Rattle.bl_name.specs.Canonical.{canonical, gap}
use Rattle.bl_name.specs.Token.{name}
use Rattle.bl_name.specs.Name.{IsName, AreProper}
use Rattle.bl_level.specs.Level.{SecurityLevel, HasCategory}
use Rattle.bl_name.specs.Table.{AreDistinct, place_of}
use Rattle.bl_level.specs.Scheme.{SchemeNames, IsScheme, HoldsLevel}
use Rattle.bl_level.specs.LevelText.{LevelText, Means, IsNamed, ReadsAsLevel, spell_level, spell_more, spell_categories, held_names, text_of, canonical_level}
use Rattle.bl_level.specs.LevelFault.{IsLevelFault, Reads, IsReadBack}
use Rattle.bl_level.specs.LevelFronts.{tail_of}
use Rattle.bl_level.specs.declared.level.Level.{Level}
use Rattle.bl_level.specs.declared.scheme.LevelFault.{LevelFault}
use Rattle.bl_level.specs.declared.scheme.LevelFault.TheVariants.{Syntax, UnknownRank, UnknownCategory, RepeatedCategory}
use Rattle.bl_name.proofs.Tables.{same, same-Decides}
use Rattle.bl_level.proofs.LevelTexts.{placed}
use Rattle.bl_level.proofs.Masks.{same_members}
use Rattle.bl_name.proofs.Again.{canonical_begins}

-- ---- the bytes

more_bytes : (category : List ℕ) (names : List (List ℕ)) → gap (name category) (spell_more names) ++ canonical (spell_more names) ≡ tail_of true names
more_bytes category [] = refl
more_bytes category (n ∷ names) = ap (λ bytes. 44 ∷ (n ++ bytes)) (more_bytes n names)

-- the rank, and then the categories in their braces
pub level_bytes : (rank : List ℕ) (names : List (List ℕ)) → canonical (spell_level (record { rank = rank; categories = names })) ≡ rank ++ tail_of false names
level_bytes rank [] = refl
level_bytes rank (n ∷ names) = ap (λ bytes. rank ++ (123 ∷ (n ++ bytes))) (more_bytes n names)

-- ---- the tokens are proper

tail_all : (P : List ℕ → Type 0) (x : List ℕ) (xs : List (List ℕ)) → All P (x ∷ xs) → All P xs
tail_all P x xs all = λ k d h. all (suc k) d (omega arith)

choose : (P : List (List ℕ) → Type 0) (b : Bool) (xs ys : List (List ℕ)) → P xs → P ys → P (cond b xs ys)
choose P true xs ys p q = p
choose P false xs ys p q = q

held_proper : (level : SecurityLevel) (k : ℕ) (names : List (List ℕ)) → All IsName names → AllByRecursion IsName (held_names level k names)
held_proper level k [] all = tt
held_proper level k (n ∷ names) all =
    let rest = held_proper level (suc k) names (tail_all IsName n names all) in
    let first : IsName n = all 0 [] (omega arith) in
    choose (AllByRecursion IsName) (eqb (bit_at level.categories k) 1) (n ∷ held_names level (suc k) names) (held_names level (suc k) names) (first, rest) rest

more_proper : (names : List (List ℕ)) → AllByRecursion IsName names → AreProper (spell_more names)
more_proper [] all = (tt, tt)
more_proper (n ∷ names) all = (tt, (all.0, more_proper names all.1))

categories_proper : (names : List (List ℕ)) → AllByRecursion IsName names → AreProper (spell_categories names)
categories_proper [] all = tt
categories_proper (n ∷ names) all = (tt, (all.0, more_proper names all.1))

-- ---- the categories that a level has

in_one : (x y : List ℕ) → Contains (y ∷ []) x → y ≡ x
in_one x y (k, h, e) = let first : k ≡ 0 = omega arith in ap (λ i. get_or (y ∷ []) i x) (sym first) ∙ e

-- a place among the names
record At (names : List (List ℕ)) (c : List ℕ) (P : ℕ → Type 0) : Type 0 where
  place : ℕ
  there : place < length names
  is : get_or names place [] ≡ c
  has : P place

at_next : (P Q : ℕ → Type 0) (n : List ℕ) (names : List (List ℕ)) (c : List ℕ) → ((j : ℕ) → P j → Q (suc j)) → At names c P → At (n ∷ names) c Q
at_next P Q n names c step at = record { place = suc at.place; there = omega (arith, at.there); is = at.is; has = step at.place at.has }

-- the categories from this one on: the first of them where its bit is set, and then others
step_at : (level : SecurityLevel) (k : ℕ) (n : List ℕ) (names : List (List ℕ)) (c : List ℕ) (b : Bool) → eqb (bit_at level.categories k) 1 ≡ b →
    (Contains (held_names level (suc k) names) c → At names c (λ j. HasCategory level (suc k + j))) →
    Contains (cond b (n ∷ held_names level (suc k) names) (held_names level (suc k) names)) c → At (n ∷ names) c (λ j. HasCategory level (k + j))
step_at level k n names c b bit others held = go b bit held
  where
    shifted : (j : ℕ) → HasCategory level (suc k + j) → HasCategory level (k + suc j)
    shifted j h = subst (HasCategory level) (let e : suc k + j ≡ k + suc j = omega arith in e) h

    rest : Contains (held_names level (suc k) names) c → At (n ∷ names) c (λ j. HasCategory level (k + j))
    rest h = at_next (λ j. HasCategory level (suc k + j)) (λ j. HasCategory level (k + j)) n names c shifted (others h)

    first : eqb (bit_at level.categories k) 1 ≡ true → n ≡ c → At (n ∷ names) c (λ j. HasCategory level (k + j))
    first bit e = record {
      place = 0;
      there = omega arith;
      is = e;
      has = subst (HasCategory level) (let q : k ≡ k + 0 = omega arith in q) (eqb-true (bit_at level.categories k) 1 bit);
    }

    split : eqb (bit_at level.categories k) 1 ≡ true → Contains (n ∷ []) c ⊎ Contains (held_names level (suc k) names) c → At (n ∷ names) c (λ j. HasCategory level (k + j))
    split bit (inl one) = first bit (in_one c n one)
    split bit (inr others) = rest others

    go : (b : Bool) → eqb (bit_at level.categories k) 1 ≡ b →
        Contains (cond b (n ∷ held_names level (suc k) names) (held_names level (suc k) names)) c → At (n ∷ names) c (λ j. HasCategory level (k + j))
    go true bit h = split bit (Contains-append_cases (n ∷ []) (held_names level (suc k) names) c h)
    go false bit h = rest h

-- a name that the level's text has stands at a category of the level
held_at : (level : SecurityLevel) (k : ℕ) (names : List (List ℕ)) (c : List ℕ) → Contains (held_names level k names) c →
    At names c (λ j. HasCategory level (k + j))
held_at level k [] c (i, h, e) = absurd (omega arith)
held_at level k (n ∷ names) c held =
    step_at level k n names c (eqb (bit_at level.categories k) 1) refl (held_at level (suc k) names c) held

-- each category of the level is named in its text
held_has : (level : SecurityLevel) (k : ℕ) (names : List (List ℕ)) (j : ℕ) → j < length names → HasCategory level (k + j) →
    Contains (held_names level k names) (get_or names j [])
held_has level k [] j h has = absurd (omega arith)
held_has level k (n ∷ names) zero h has =
    let bit : eqb (bit_at level.categories k) 1 ≡ true = eq-eqb (bit_at level.categories k) 1 (subst (HasCategory level) (let q : k + 0 ≡ k = omega arith in q) has) in
    subst (λ b. Contains (cond b (n ∷ held_names level (suc k) names) (held_names level (suc k) names)) n) (sym bit) (0, omega arith, refl)
held_has level k (n ∷ names) (suc j) h has =
    let others = held_has level (suc k) names j (omega arith) (subst (HasCategory level) (let q : k + suc j ≡ suc k + j = omega arith in q) has) in
    go (eqb (bit_at level.categories k) 1) others
  where
    go : (b : Bool) → Contains (held_names level (suc k) names) (get_or names j []) →
        Contains (cond b (n ∷ held_names level (suc k) names) (held_names level (suc k) names)) (get_or names j [])
    go true others = Contains-append_right (n ∷ []) (held_names level (suc k) names) (get_or names j []) others
    go false others = others

-- ---- names that stand once

-- where an element passes there is a place
not_none : (p : List ℕ → Bool) (xs : List (List ℕ)) (i : ℕ) (d : List ℕ) → i < length xs → p (get_or xs i d) ≡ true → position p xs ≡ None → ⊥
not_none p xs i d h passes = go (ltb (position_or_len p xs) (length xs)) refl
  where
    go : (b : Bool) → ltb (position_or_len p xs) (length xs) ≡ b → cond b (Some (position_or_len p xs)) None ≡ None → ⊥
    go true lt e = absurd (cc)
    go false ge e =
        let below : i < position_or_len p xs = omega (arith, ltb-false (position_or_len p xs) (length xs) ge) in
        let no : not (p (get_or xs i d)) ≡ true = prefix_len_passes (λ x. not (p x)) xs i d below in
        false≢true (rw passes at no)

same_self : (q : List ℕ) → same q q ≡ true
same_self q = (same-Decides q q).1 refl

-- in a list of distinct names a place is that of its name
pub place_is : (names : List (List ℕ)) (i : ℕ) (d : List ℕ) → AreDistinct names → i < length names → place_of (get_or names i d) names ≡ Some i
place_is names i d distinct h = go (position (same q) names) refl
  where
    q : List ℕ
    q = get_or names i d

    one : (j : ℕ) → j < length names → get_or names j d ≡ q → (j ≡ i) ⊎ ((j < i) ⊎ (i < j)) → j ≡ i
    one j l e (inl same) = same
    one j l e (inr (inl before)) = absurd (distinct j i d before h e)
    one j l e (inr (inr after)) = absurd (distinct i j d after l (sym e))

    go : (o : Option ℕ) → position (same q) names ≡ o → position (same q) names ≡ Some i
    go None e = absurd (not_none (same q) names i d h (same_self q) e)
    go (Some j) e =
        let at = position-Some (same q) names j d e in
        let is : j ≡ i = one j at.0 (sym ((same-Decides q (get_or names j d)).0 at.1)) (cases_order j i) in
        e ∙ ap Some is

-- no category of the level is named twice in its text
held_distinct : (level : SecurityLevel) (k : ℕ) (names : List (List ℕ)) → AreDistinct names → AreDistinct (held_names level k names)
held_distinct level k [] distinct = λ i j d before h e. absurd (omega arith)
held_distinct level k (n ∷ names) distinct =
    let others : AreDistinct names = λ i j d before h. distinct (suc i) (suc j) d (omega arith) (omega arith) in
    let rest = held_distinct level (suc k) names others in
    let fresh : Contains (held_names level (suc k) names) n → ⊥ =
    λ h. let at = held_at level (suc k) names n h in distinct 0 (suc at.place) [] (omega arith) (omega (arith, at.there)) (sym at.is) in
    choose AreDistinct (eqb (bit_at level.categories k) 1) (n ∷ held_names level (suc k) names) (held_names level (suc k) names)
    (distinct_cons n (held_names level (suc k) names) fresh rest) rest
  where
    distinct_cons : (x : List ℕ) (xs : List (List ℕ)) → (Contains xs x → ⊥) → AreDistinct xs → AreDistinct (x ∷ xs)
    distinct_cons x xs fresh rest = both
      where
        both : (i j : ℕ) (d : List ℕ) → i < j → j < length (x ∷ xs) → get_or (x ∷ xs) i d ≢ get_or (x ∷ xs) j d
        both i zero d before h = absurd (omega arith)
        both zero (suc j) d before h = λ e. fresh (subst (Contains xs) (sym e) (Contains-get_or xs j d (omega arith)))
        both (suc i) (suc j) d before h = rest i j d (omega arith) (omega arith)

-- ---- the text means the level

known_all : (names : List (List ℕ)) (level : SecurityLevel) → All (Contains names) (held_names level 0 names)
known_all names level = λ i d h.
    let at = held_at level 0 names (get_or (held_names level 0 names) i d) (Contains-get_or (held_names level 0 names) i d h) in
    subst (Contains names) at.is (Contains-get_or names at.place [] at.there)

pub text_means : (scheme : SchemeNames) (level : SecurityLevel) → IsScheme scheme → HoldsLevel scheme level → Means scheme (text_of scheme level) level
text_means scheme level is holds = record {
  rank = place_is scheme.ranks level.rank [] is.ranks.distinct holds.rank;
  known = known_all scheme.categories level;
  distinct = held_distinct level 0 scheme.categories is.categories.distinct;
  categories = λ k. (there k, back k);
}
  where
    there : (k : ℕ) → HasCategory level k → IsNamed scheme (text_of scheme level) k
    there k has =
        let within = holds.categories k has in (
          get_or scheme.categories k [],
          held_has level 0 scheme.categories k within (subst (HasCategory level) (let e : k ≡ 0 + k = omega arith in e) has),
          place_is scheme.categories k [] is.categories.distinct within,
        )

    back : (k : ℕ) → IsNamed scheme (text_of scheme level) k → HasCategory level k
    back k (c, held, at) =
        let here = held_at level 0 scheme.categories c held in
        let place : place_of c scheme.categories ≡ Some here.place =
        subst (λ n. place_of n scheme.categories ≡ Some here.place) here.is (place_is scheme.categories here.place [] is.categories.distinct here.there) in
        let one : here.place ≡ k = cc (place, at) in
        subst (HasCategory level) (let e : 0 + here.place ≡ k = omega (arith, one) in e) here.has

-- a text means one level
one_meaning : (scheme : SchemeNames) (text : LevelText) (a b : SecurityLevel) → Means scheme text a → Means scheme text b → a ≡ b
one_meaning scheme text a b means also =
    let rank : a.rank ≡ b.rank = cc (means.rank, also.rank) in
    let categories : a.categories ≡ b.categories =
    same_members a.categories b.categories (λ k h. (also.categories k).1 ((means.categories k).0 h)) (λ k h. (means.categories k).1 ((also.categories k).0 h)) in
    ap (λ r. record { rank = r; categories = a.categories }) rank ∙ ap (λ c. record { rank = b.rank; categories = c }) categories

at_split : (before after : List (List ℕ)) (c d : List ℕ) → get_or (before ++ c ∷ after) (length before) d ≡ c
at_split [] after c d = refl
at_split (x ∷ before) after c d = at_split before after c d

in_before : (before after : List (List ℕ)) (c x : List ℕ) (i : ℕ) → i < length before → get_or (before ++ c ∷ after) i x ≡ get_or before i x
in_before [] after c x i h = absurd (omega arith)
in_before (y ∷ before) after c x zero h = refl
in_before (y ∷ before) after c x (suc i) h = in_before before after c x i (omega arith)

split_long : (before after : List (List ℕ)) (c : List ℕ) → length before < length (before ++ c ∷ after)
split_long before after c = omega (arith, length-append before (c ∷ after))

no_fault : (scheme : SchemeNames) (text : LevelText) (level : SecurityLevel) (fault : LevelFault) → Means scheme text level → IsLevelFault scheme text fault → ⊥
no_fault scheme text level Syntax means at = at
no_fault scheme text level UnknownRank means at = at (placed text.rank scheme.ranks level.rank means.rank)
no_fault scheme text level UnknownCategory means (rank, (before, c, stands, absent)) =
    let here : Contains (before ++ c ∷ stands.after) c = (length before, split_long before stands.after c, at_split before stands.after c c) in
    let there : Contains text.categories c = subst (λ cs. Contains cs c) (sym stands.split) here in
    absent (subst (Contains scheme.categories) there.2 (means.known there.0 c there.1))
no_fault scheme text level RepeatedCategory means (rank, (before, c, stands, (i, h, e))) =
    let distinct : AreDistinct (before ++ c ∷ stands.after) = subst AreDistinct stands.split means.distinct in
    distinct i (length before) c h (split_long before stands.after c) (in_before before stands.after c c i h ∙ e ∙ sym (at_split before stands.after c c))

-- what reads the text of a level answers the level
same_level : (scheme : SchemeNames) (text : LevelText) (level : SecurityLevel) (read : Result Level LevelFault) → Means scheme text level → Reads scheme text read → read ≡ Ok level
same_level scheme text level (Ok other) means reads = ap Ok (one_meaning scheme text other level reads means)
same_level scheme text level (Err fault) means reads = absurd (no_fault scheme text level fault means reads)

pub level_reads_back : (scheme : SchemeNames) (level : SecurityLevel) → IsScheme scheme → HoldsLevel scheme level → (bytes : List ℕ) → bytes ≡ canonical_level scheme level → IsReadBack scheme level bytes
level_reads_back scheme level is holds bytes e = record {
  spelled = subst (λ b. ReadsAsLevel b (text_of scheme level)) (sym e) (canonical_begins (spell_level (text_of scheme level)) proper);
  same = λ read reads. same_level scheme (text_of scheme level) level read (text_means scheme level is holds) reads;
}
  where
    proper : AreProper (spell_level (text_of scheme level))
    proper = (is.ranks.proper level.rank [] holds.rank, categories_proper (held_names level 0 scheme.categories) (held_proper level 0 scheme.categories is.categories.proper))

-- ---- writing the categories from the left

module _ (level : SecurityLevel) (names : List (List ℕ)) (k : ℕ) (d text whole : List ℕ) (opened : Bool) where
  from_here : k < length names → held_names level k (drop k names) ≡ held_names level k (get_or names k d ∷ drop (suc k) names)
  from_here h = ap (held_names level k) (drop-cons names k d h)

  pub step_taken : k < length names → HasCategory level k → (more : List ℕ) → more ≡ text ++ (cond opened 44 123 ∷ get_or names k d) →
      text ++ tail_of opened (held_names level k (drop k names)) ≡ whole →
      more ++ tail_of true (held_names level (k + 1) (drop (k + 1) names)) ≡ whole
  step_taken h has more is before =
      let rest = held_names level (suc k) (drop (suc k) names) in
      let bit : eqb (bit_at level.categories k) 1 ≡ true = eq-eqb (bit_at level.categories k) 1 has in
      let now : held_names level k (drop k names) ≡ get_or names k d ∷ rest = from_here h ∙ ap (λ b. cond b (get_or names k d ∷ rest) rest) bit in
      let next : held_names level (k + 1) (drop (k + 1) names) ≡ rest = ap (λ j. held_names level j (drop j names)) (add-one k) in
      ap (λ xs. more ++ tail_of true xs) next ∙ ap (λ t. t ++ tail_of true rest) is
      ∙ append_assoc text (cond opened 44 123 ∷ get_or names k d) (tail_of true rest) ∙ ap (λ xs. text ++ tail_of opened xs) (sym now) ∙ before

  pub step_left : k < length names → (HasCategory level k → ⊥) → text ++ tail_of opened (held_names level k (drop k names)) ≡ whole →
      text ++ tail_of opened (held_names level (k + 1) (drop (k + 1) names)) ≡ whole
  step_left h has before =
      let rest = held_names level (suc k) (drop (suc k) names) in
      let bit : eqb (bit_at level.categories k) 1 ≡ false = ne_eqb (bit_at level.categories k) 1 has in
      let now : held_names level k (drop k names) ≡ rest = from_here h ∙ ap (λ b. cond b (get_or names k d ∷ rest) rest) bit in
      let next : held_names level (k + 1) (drop (k + 1) names) ≡ rest = ap (λ j. held_names level j (drop j names)) (add-one k) in
      ap (λ xs. text ++ tail_of opened xs) (next ∙ sym now) ∙ before
