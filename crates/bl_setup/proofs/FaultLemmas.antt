-- What is asked of the words of a line: what holds of a line that is right, and which fault is the first.
use Rattle.std.proofs.Common.{◌≡◌, ◌⊎◌, ℕ, zero, suc, List, [], ◌∷◌, ◌++◌, take, Some, refl, sym, subst, ◌∙◌, inl, inr, arith}
use Rattle.std.specs.Prelude.{slice_get, Contains}
use Rattle.std.specs.List.{All}
use Rattle.std.proofs.lemmas.List.{append-nil, append_assoc}
use Rattle.std.proofs.lemmas.List.Elements.{All-contains}
use Rattle.bl_level.specs.Level.{SecurityLevel}
use Rattle.bl_level.specs.LevelFault.{IsLevelFault}
use Rattle.bl_level.specs.LevelText.{LevelText, Means, StandsBehind}
use Rattle.bl_level.specs.Scheme.{SchemeNames}
use Rattle.bl_level.specs.Table.{AreDistinct, IsFirstRepeated}
use Rattle.bl_level.specs.declared.scheme.LevelFault.{LevelFault}
use Rattle.bl_level.specs.declared.scheme.LevelFault.TheVariants as levels
use Rattle.bl_setup.specs.FirstSetupFault.{Question, is_new, is_known, AllHold, FirstFails, asked_of_names, asked_of_categories, asked_of_level}
use Rattle.bl_declare.specs.Faults.{kind_of_level}
use Rattle.bl_declare.specs.declared.fault.SetupFaultKind.{SetupFaultKind}
use Rattle.bl_declare.specs.declared.fault.SetupFaultKind.TheVariants.{Unknown, Repeated}
use Rattle.bl_setup.proofs.MeaningLemmas.{contains_from_place, stands_twice}

-- where all hold, none is the first to fail
pub fails_not : (qs : List Question) (kind : SetupFaultKind) → FirstFails qs kind → AllHold qs → ⊥
fails_not [] kind f h = f
fails_not (q ∷ qs) kind (inl f) h = f.1 h.0
fails_not (q ∷ qs) kind (inr f) h = fails_not qs kind f.1 h.1

-- one is the first to fail
pub fails_one : (qs : List Question) (kind other : SetupFaultKind) → FirstFails qs kind → FirstFails qs other → other ≡ kind
fails_one [] kind other f g = absurd f
fails_one (q ∷ qs) kind other (inl f) (inl g) = g.0 ∙ sym f.0
fails_one (q ∷ qs) kind other (inl f) (inr g) = absurd (f.1 g.0)
fails_one (q ∷ qs) kind other (inr f) (inl g) = absurd (g.1 f.0)
fails_one (q ∷ qs) kind other (inr f) (inr g) = fails_one qs kind other f.1 g.1

-- no question fails when out of memory
pub fails_in_time : (qs : List Question) (kind : SetupFaultKind) → FirstFails qs kind → (kind ≡ Unknown) ⊎ (kind ≡ Repeated)
fails_in_time [] kind f = absurd f
fails_in_time (is_new others name ∷ qs) kind (inl f) = inr f.0
fails_in_time (is_known known name ∷ qs) kind (inl f) = inl f.0
fails_in_time (q ∷ qs) kind (inr f) = fails_in_time qs kind f.1

pub fails_left : (qs more : List Question) (kind : SetupFaultKind) → FirstFails qs kind → FirstFails (qs ++ more) kind
fails_left [] more kind f = absurd f
fails_left (q ∷ qs) more kind (inl f) = inl f
fails_left (q ∷ qs) more kind (inr f) = inr (f.0, fails_left qs more kind f.1)

pub fails_right : (qs more : List Question) (kind : SetupFaultKind) → AllHold qs → FirstFails more kind → FirstFails (qs ++ more) kind
fails_right [] more kind h f = f
fails_right (q ∷ qs) more kind h f = inr (h.0, fails_right qs more kind h.1 f)

pub hold_both : (qs more : List Question) → AllHold qs → AllHold more → AllHold (qs ++ more)
hold_both [] more h g = g
hold_both (q ∷ qs) more h g = (h.0, hold_both qs more h.1 g)

-- names of which none stands twice are each new
pub distinct_hold : (before names : List (List ℕ)) → AreDistinct (before ++ names) → AllHold (asked_of_names before names)
distinct_hold before [] d = tt
distinct_hold before (n ∷ names) d =
    (λ b. stands_twice before names n b d, distinct_hold (before ++ n ∷ []) names (subst AreDistinct (sym (append_assoc before (n ∷ []) names)) d))

-- the first that stood before is the first that is not new
pub repeated_fails : (before names : List (List ℕ)) (n : List ℕ) (place : ℕ) → slice_get names place ≡ Some n → Contains (before ++ take place names) n
    → AreDistinct (before ++ take place names) → FirstFails (asked_of_names before names) Repeated
repeated_fails before [] n zero is b d = absurd (cc)
repeated_fails before [] n (suc place) is b d = absurd (cc)
repeated_fails before (x ∷ names) n zero is b d =
    let e : x ≡ n = cc in
    let P : List (List ℕ) → Type 0 = λ xs. Contains xs n in
    let c = subst P (append-nil before) b in
    inl (refl, λ new. new (subst (Contains before) (sym e) c))
repeated_fails before (x ∷ names) n (suc place) is b d =
    let e = append_assoc before (x ∷ []) (take place names) in
    let P : List (List ℕ) → Type 0 = λ xs. Contains xs n in
    inr (λ twice. stands_twice before (take place names) x twice d, repeated_fails (before ++ x ∷ []) names n place is (subst P (sym e) b) (subst AreDistinct (sym e) d))

pub first_repeated_fails : (names : List (List ℕ)) (n : List ℕ) → IsFirstRepeated names n → FirstFails (asked_of_names [] names) Repeated
first_repeated_fails names n r = repeated_fails [] names n r.place r.is r.before r.distinct

-- the categories of a level that is meant
pub categories_hold : (scheme : SchemeNames) (before names : List (List ℕ)) → All (Contains scheme.categories) names → AreDistinct (before ++ names)
    → AllHold (asked_of_categories scheme before names)
categories_hold scheme before [] known d = tt
categories_hold scheme before (n ∷ names) known d = (
  known 0 n (omega arith),
  (
    λ b. stands_twice before names n b d,
    categories_hold scheme (before ++ n ∷ []) names (λ k o within. known (suc k) o (omega arith)) (subst AreDistinct (sym (append_assoc before (n ∷ []) names)) d),
  ),
)

-- a category behind others that are right
pub behind_categories : (scheme : SchemeNames) (before names after : List (List ℕ)) (kind : SetupFaultKind) → All (Contains scheme.categories) names → AreDistinct (before ++ names)
    → FirstFails (asked_of_categories scheme (before ++ names) after) kind → FirstFails (asked_of_categories scheme before (names ++ after)) kind
behind_categories scheme before [] after kind known d f =
    subst (λ xs. FirstFails (asked_of_categories scheme xs after) kind) (append-nil before) f
behind_categories scheme before (n ∷ names) after kind known d f =
    let e = sym (append_assoc before (n ∷ []) names) in
    inr (
      known 0 n (omega arith),
      inr (
        λ b. stands_twice before names n b d,
        behind_categories scheme (before ++ n ∷ []) names after kind (λ k o within. known (suc k) o (omega arith)) (subst AreDistinct e d)
            (subst (λ xs. FirstFails (asked_of_categories scheme xs after) kind) e f),
      ),
    )

-- the words of a level that is meant
pub level_holds : (scheme : SchemeNames) (text : LevelText) (level : SecurityLevel) → Means scheme text level → AllHold (asked_of_level scheme text)
level_holds scheme text level m =
    (contains_from_place text.rank scheme.ranks level.rank m.rank, categories_hold scheme [] text.categories m.known m.distinct)

category_fails : (scheme : SchemeNames) (text : LevelText) (before : List (List ℕ)) (category : List ℕ) (kind : SetupFaultKind) → (s : StandsBehind scheme text before category)
    → FirstFails (asked_of_categories scheme before (category ∷ s.after)) kind → FirstFails (asked_of_categories scheme [] text.categories) kind
category_fails scheme text before category kind s f =
    subst (λ xs. FirstFails (asked_of_categories scheme [] xs) kind) (sym s.split) (behind_categories scheme [] before (category ∷ s.after) kind s.known s.distinct f)

-- the first word at fault of a level
pub level_fails : (scheme : SchemeNames) (text : LevelText) (fault : LevelFault) → IsLevelFault scheme text fault → FirstFails (asked_of_level scheme text) (kind_of_level fault)
level_fails scheme text levels.Syntax f = absurd f
level_fails scheme text levels.UnknownRank f = inl (refl, f)
level_fails scheme text levels.UnknownCategory (known, (before, category, behind, unknown)) =
    inr (known, category_fails scheme text before category Unknown behind (inl (refl, unknown)))
level_fails scheme text levels.RepeatedCategory (known, (before, category, behind, twice)) =
    inr (known, category_fails scheme text before category Repeated behind (inr (All-contains (Contains scheme.categories) before category behind.known twice, inl (refl, λ new. new twice))))
