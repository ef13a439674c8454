-- The names in a rule: what is known of them, and that they are names.
use Rattle.std.proofs.Common.{◌≡◌, ◌≢◌, ℕ, zero, suc, ◌+◌, ◌<◌, ◌≤◌, ◌⊎◌, inl, inr, List, [], ◌∷◌, length, get_or, slice_get, map, take, Some, Bor, Result, refl, sym, ap, subst, ◌∙◌, arith}
use Rattle.std.specs.Prelude.{All, Contains}
use Rattle.std.proofs.lemmas.List.{length-take, get_or-take, take-take, take-map, take_all, map_more, length-map, get_or-map}
use Rattle.std.proofs.lemmas.List.Elements.{All-cons, All-nil, All-head, All-tail, Contains-get_or, Contains-push, Contains-push_cases, Contains-append_left, Contains-append_right}
use Rattle.std.proofs.lemmas.List.Quantifiers.{all_pairs_push}
use Rattle.std.proofs.lemmas.Bool.{cases_order}
use Rattle.std.proofs.lemmas.Option.{slice_get-get_or, slice_get_within, get_or_from_slice_get}
use Rattle.bl_level.specs.LevelText.{LevelText, spell_categories, spell_level}
use Rattle.bl_level.specs.LevelText as of_level
use Rattle.bl_level.specs.Name.{IsName, AreProper}
use Rattle.bl_level.specs.Table.{AreDistinct, IsFirstRepeated}
use Rattle.bl_read.specs.declared.rules.Role.TheVariants.{Subject, Document, Rank}
use Rattle.bl_work.specs.Names.{KnownNames}
use Rattle.bl_syntax.specs.RawRules.{raw_names, raw_rule}
use Rattle.bl_syntax.specs.declared.raw.RawRule.{RawRule}
use Rattle.bl_read.specs.RuleFaults.{Mention, mentioned, category_mention, right_mentions, mentions_in_level, mentions_in, categories_in, IsKnown}
use Rattle.bl_work.specs.SpelledRules.{SpelledRule, give, rescind, current, classify, create, delete, spell_rule}
use Rattle.bl_check.proofs.Firsts.{Finds}
use Rattle.bl_check.proofs.Passes.{IsAdditive}

-- what stands for a name past the end
abbrev pub no_name : Bor (List ℕ)
no_name = record { ref_ptr = (0, 0); now = [] }

-- ---- the categories of a level

abbrev pub mentions_of : List (Bor (List ℕ)) → List Mention
mentions_of categories = map category_mention (raw_names categories)

pub mentions_additive : IsAdditive mentions_of
mentions_additive [] b = refl
mentions_additive (x ∷ a) b = ap (λ l. category_mention x.now ∷ l) (mentions_additive a b)

-- categories that the scheme has are what their places ask, and the other way round
pub categories_known : (names : KnownNames) (cs : List (List ℕ)) → All (Contains names.scheme.categories) cs → All (IsKnown names) (map category_mention cs)
categories_known names [] all = All-nil (IsKnown names)
categories_known names (c ∷ cs) all =
    All-cons (IsKnown names) (category_mention c) (map category_mention cs) (All-head (Contains names.scheme.categories) c cs all)
    (categories_known names cs (All-tail (Contains names.scheme.categories) c cs all))

pub categories_held : (names : KnownNames) (cs : List (List ℕ)) → All (IsKnown names) (map category_mention cs) → All (Contains names.scheme.categories) cs
categories_held names [] all = All-nil (Contains names.scheme.categories)
categories_held names (c ∷ cs) all =
    All-cons (Contains names.scheme.categories) c cs (All-head (IsKnown names) (category_mention c) (map category_mention cs) all)
    (categories_held names cs (All-tail (IsKnown names) (category_mention c) (map category_mention cs) all))

-- a search in a rule that is known to be this one
pub in_rule : {U : Type 0} (names : KnownNames) (r q : RawRule) (found : Result U (Bor (List ℕ))) → r ≡ q → Finds (IsKnown names) mentioned (mentions_in (raw_rule q)) found
    → Finds (IsKnown names) mentioned (mentions_in (raw_rule r)) found
in_rule names r q found same finds = subst (λ x. Finds (IsKnown names) mentioned (mentions_in (raw_rule x)) found) (sym same) finds

-- ---- names that stand once

-- one more that did not stand before
pub distinct_more : (xs : List (Bor (List ℕ))) (i : ℕ) (d : Bor (List ℕ)) → i < length xs → AreDistinct (raw_names (take i xs)) → (Contains (raw_names (take i xs)) (get_or xs i d).now → ⊥)
    → AreDistinct (raw_names (take (i + 1) xs))
distinct_more xs i d lt so_far new =
    let before : List (List ℕ) = raw_names (take i xs) in
    let name : List ℕ = (get_or xs i d).now in
    subst AreDistinct (sym (map_more (λ (n : Bor (List ℕ)). n.now) xs i d lt))
    (all_pairs_push (λ a b. a ≢ b) before name so_far (λ k e h same. new (subst (Contains before) same (Contains-get_or before k e h))))

-- one that stood before
pub repeated_here : (xs : List (Bor (List ℕ))) (i : ℕ) (d : Bor (List ℕ)) → i < length xs → AreDistinct (raw_names (take i xs)) → Contains (raw_names (take i xs)) (get_or xs i d).now
    → IsFirstRepeated (raw_names xs) (get_or xs i d).now
repeated_here xs i d lt so_far there =
    let name : List ℕ = (get_or xs i d).now in
    let within : i < length (raw_names xs) = omega (arith, lt, length-map xs (λ (n : Bor (List ℕ)). n.now)) in
    let same : take i (raw_names xs) ≡ raw_names (take i xs) = take-map (λ (n : Bor (List ℕ)). n.now) i xs in record {
      place = i;
      is = slice_get-get_or (raw_names xs) i [] within ∙ ap Some (get_or-map (λ (n : Bor (List ℕ)). n.now) xs i d [] lt);
      before = subst (λ l. Contains l name) (sym same) there;
      distinct = subst AreDistinct (sym same) so_far;
    }

-- names are distinct as far as all of them
pub distinct_all : (xs : List (Bor (List ℕ))) (i : ℕ) → length xs ≤ i → AreDistinct (raw_names (take i xs)) → AreDistinct (raw_names xs)
distinct_all xs i le so_far = subst (λ l. AreDistinct (raw_names l)) (take_all i xs le) so_far

pub none_distinct : AreDistinct []
none_distinct = λ i j d before h e. absurd (omega arith)

-- a name of these is one of them
pub name_there : (xs : List (Bor (List ℕ))) (i : ℕ) (d : Bor (List ℕ)) → i < length xs → Contains (raw_names xs) (get_or xs i d).now
name_there [] i d lt = absurd (omega arith)
name_there (x ∷ xs) zero d lt = Contains-append_left (x.now ∷ []) (raw_names xs) x.now (Contains-push [] x.now)
name_there (x ∷ xs) (suc i) d lt = Contains-append_right (x.now ∷ []) (raw_names xs) (get_or xs i d).now (name_there xs i d (omega arith))

-- one more that is another
pub not_more : (xs : List (Bor (List ℕ))) (i : ℕ) (d : Bor (List ℕ)) (name : List ℕ) → i < length xs → (Contains (raw_names (take i xs)) name → ⊥) → ((get_or xs i d).now ≡ name → ⊥)
    → Contains (raw_names (take (i + 1) xs)) name → ⊥
not_more xs i d name lt none other there =
    elim (Contains-push_cases (raw_names (take i xs)) (get_or xs i d).now name (subst (λ l. Contains l name) (map_more (λ (n : Bor (List ℕ)). n.now) xs i d lt) there)) [
      | inl before ↦ none before
      | inr here ↦ other here
    ]

-- a name that stood before is one of two
pub not_distinct : (xs : List (List ℕ)) (name : List ℕ) (p : ℕ) → slice_get xs p ≡ Some name → Contains (take p xs) name → AreDistinct xs → ⊥
not_distinct xs name p at (i, below, e) distinct =
    let within : p < length xs = slice_get_within xs p name at in
    let before : i < p = omega (arith, below, length-take p xs) in
    let here : get_or xs i name ≡ name = sym (get_or-take p xs i name before) ∙ e in
    distinct i p name before within (here ∙ sym (get_or_from_slice_get xs p name name at))

not_before : (xs : List (List ℕ)) (n m : List ℕ) (a : IsFirstRepeated xs n) (b : IsFirstRepeated xs m) → a.place < b.place → ⊥
not_before xs n m a b lt =
    let front : List (List ℕ) = take b.place xs in
    let within : a.place < length xs = slice_get_within xs a.place n a.is in
    let short : a.place < length front = omega (arith, lt, within, length-take b.place xs) in
    let at : slice_get front a.place ≡ Some n =
    slice_get-get_or front a.place n short ∙ ap Some (get_or-take b.place xs a.place n lt ∙ get_or_from_slice_get xs a.place n n a.is) in
    not_distinct front n a.place at (subst (λ l. Contains l n) (sym (take-take a.place b.place xs (omega (arith, lt)))) a.before) b.distinct

-- one name is the first that stood before
pub one_repeated : (xs : List (List ℕ)) (n m : List ℕ) → IsFirstRepeated xs n → IsFirstRepeated xs m → n ≡ m
one_repeated xs n m a b = go (cases_order a.place b.place)
  where
    go : (a.place ≡ b.place) ⊎ ((a.place < b.place) ⊎ (b.place < a.place)) → n ≡ m
    go (inl same) = let p : Some n ≡ Some m = sym a.is ∙ ap (slice_get xs) same ∙ b.is in cc
    go (inr (inl before)) = absurd (not_before xs n m a b before)
    go (inr (inr after)) = absurd (not_before xs m n b a after)

pub none_repeated : (xs : List (List ℕ)) (n : List ℕ) → AreDistinct xs → IsFirstRepeated xs n → ⊥
none_repeated xs n distinct f = not_distinct xs n f.place f.is f.before distinct

-- ---- names are names

abbrev IsNamed : Mention → Type 0
IsNamed mention = IsName mention.word

more_names : (cs : List (List ℕ)) → AreProper (of_level.spell_more cs) → All IsName cs
more_names [] proper = All-nil IsName
more_names (c ∷ cs) (x, (here, more)) = All-cons IsName c cs here (more_names cs more)

category_names : (cs : List (List ℕ)) → AreProper (spell_categories cs) → All IsName cs
category_names [] proper = All-nil IsName
category_names (c ∷ cs) (x, (here, more)) = All-cons IsName c cs here (more_names cs more)

mention_names : (cs : List (List ℕ)) → All IsName cs → All IsNamed (map category_mention cs)
mention_names [] all = All-nil IsNamed
mention_names (c ∷ cs) all = All-cons IsNamed (category_mention c) (map category_mention cs) (All-head IsName c cs all) (mention_names cs (All-tail IsName c cs all))

level_names : (level : LevelText) → AreProper (spell_level level) → All IsNamed (mentions_in_level level)
level_names level (rank, more) =
    All-cons IsNamed (record { role = Rank; word = level.rank }) (map category_mention level.categories) rank (mention_names level.categories (category_names level.categories more))

right_names : (subject document : List ℕ) → IsName subject → IsName document → All IsNamed (right_mentions subject document)
right_names subject document s o =
    All-cons IsNamed (record { role = Subject; word = subject }) (record { role = Document; word = document } ∷ []) s
    (All-cons IsNamed (record { role = Document; word = document }) [] o (All-nil IsNamed))

document_names : (document : List ℕ) → IsName document → All IsNamed (record { role = Document; word = document } ∷ [])
document_names document o = All-cons IsNamed (record { role = Document; word = document }) [] o (All-nil IsNamed)

pub rule_names : (r : SpelledRule) → AreProper (spell_rule r) → All (λ mention. IsName (mentioned mention)) (mentions_in r)
rule_names (give subject document m) (x, (s, (o, more))) = right_names subject document s o
rule_names (rescind subject document m) (x, (s, (o, more))) = right_names subject document s o
rule_names (current level) (x, more) = level_names level more
rule_names (classify document level) (x, (o, more)) =
    All-cons IsNamed (record { role = Document; word = document }) (mentions_in_level level) o (level_names level more)
rule_names (create document) (x, (o, more)) = document_names document o
rule_names (delete document) (x, (o, more)) = document_names document o

pub categories_names : (r : SpelledRule) → AreProper (spell_rule r) → All IsName (categories_in r)
categories_names (give subject document m) proper = All-nil IsName
categories_names (rescind subject document m) proper = All-nil IsName
categories_names (current level) (x, (rank, more)) = category_names level.categories more
categories_names (classify document level) (x, (o, (rank, more))) = category_names level.categories more
categories_names (create document) proper = All-nil IsName
categories_names (delete document) proper = All-nil IsName

-- a category that stands a second time has a name
pub repeated_named : (xs : List (List ℕ)) (n : List ℕ) → All IsName xs → IsFirstRepeated xs n → IsName n
repeated_named xs n all f = subst IsName (get_or_from_slice_get xs f.place n n f.is) (all f.place n (slice_get_within xs f.place n f.is))
