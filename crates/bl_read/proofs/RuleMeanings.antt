-- A rule asks one thing, or has one fault.
use Rattle.std.proofs.Common.{◌≡◌, ℕ, List, [], ◌∷◌, ◌++◌, refl, ap, sym, subst, ◌∙◌, map, length, take, slice_get, Some, Result, Ok, Err}
use Rattle.std.specs.Prelude.{All, Contains}
use Rattle.std.proofs.lemmas.List.Elements.{All-cons, All-nil, All-head, All-tail}
use Rattle.std.specs.Result.{IsOk}
use Rattle.std.proofs.lemmas.List.{take_at}
use Rattle.std.proofs.lemmas.Option.{slice_get_within, get_or_from_slice_get}
use Rattle.bl_level.specs.declared.level.Level.{Level}
use Rattle.bl_level.specs.declared.scheme.LevelFault.{LevelFault}
use Rattle.bl_level.specs.declared.scheme.LevelFault.TheVariants as level_fault
use Rattle.bl_level.specs.LevelFault.{Reads}
use Rattle.bl_level.specs.Level.{SecurityLevel}
use Rattle.bl_level.specs.LevelText.{LevelText, IsNamed}
use Rattle.bl_level.specs.LevelText as of_level
use Rattle.bl_level.specs.Scheme.{SchemeNames}
use Rattle.bl_level.specs.Table.{AreDistinct, place_of}
use Rattle.bl_level.proofs.Masks.{same_members}
use Rattle.bl_level.proofs.LevelTexts.{placed}
use Rattle.bl_policy.specs.declared.rule.Rule.{Rule}
use Rattle.bl_policy.specs.declared.rule.Rule.TheVariants as asked
use Rattle.bl_work.specs.declared.asked.LineFault.{LineFault}
use Rattle.bl_work.specs.declared.asked.LineFault.TheVariants.{Unknown, Twice}
use Rattle.bl_read.specs.declared.rules.Role.TheVariants.{Subject, Document, Rank}
use Rattle.bl_work.specs.Names.{KnownNames}
use Rattle.bl_read.specs.RuleFaults.{mentioned, category_mention, right_mentions, mentions_in_level, mentions_in, categories_in, IsKnown, IsFaultOfRule}
use Rattle.bl_work.specs.RuleMeaning.{MeansRule}
use Rattle.bl_work.specs.SpelledRules.{SpelledRule, give, rescind, current, classify, create, delete}
use Rattle.bl_read.proofs.RuleNames.{categories_known, categories_held, not_distinct, one_repeated, none_repeated, none_distinct}
use Rattle.bl_work.proofs.WhenFaults.{one_named, none_named}

-- a text means one level
one_level : (scheme : SchemeNames) (text : LevelText) (a b : SecurityLevel) → of_level.Means scheme text a → of_level.Means scheme text b → a ≡ b
one_level scheme text a b means also =
    let rank : a.rank ≡ b.rank = cc (means.rank, also.rank) in
    let categories : a.categories ≡ b.categories =
    same_members a.categories b.categories (λ k h. (also.categories k).1 ((means.categories k).0 h)) (λ k h. (means.categories k).1 ((also.categories k).0 h)) in
    λ i. record { rank = rank i; categories = categories i }

-- a rule asks one thing
pub one_rule : (names : KnownNames) (r : SpelledRule) (a b : Rule) → MeansRule names r a → MeansRule names r b → a ≡ b
one_rule names (give s o m) (asked.Give t d k) (asked.Give t' d' k') p q =
    let x : t ≡ t' = cc (p.0, q.0) in
    let y : d ≡ d' = cc (p.1, q.1) in
    let z : k ≡ k' = sym p.2 ∙ q.2 in
    λ i. asked.Give (x i) (y i) (z i)
one_rule names (give s o m) (asked.Give t d k) _ p q = absurd q
one_rule names (give s o m) _ _ p q = absurd p
one_rule names (rescind s o m) (asked.Rescind t d k) (asked.Rescind t' d' k') p q =
    let x : t ≡ t' = cc (p.0, q.0) in
    let y : d ≡ d' = cc (p.1, q.1) in
    let z : k ≡ k' = sym p.2 ∙ q.2 in
    λ i. asked.Rescind (x i) (y i) (z i)
one_rule names (rescind s o m) (asked.Rescind t d k) _ p q = absurd q
one_rule names (rescind s o m) _ _ p q = absurd p
one_rule names (current text) (asked.Current l) (asked.Current l') p q = ap asked.Current (one_level names.scheme text l l' p q)
one_rule names (current text) (asked.Current l) _ p q = absurd q
one_rule names (current text) _ _ p q = absurd p
one_rule names (classify o text) (asked.Classify d l) (asked.Classify d' l') p q =
    let y : d ≡ d' = cc (p.0, q.0) in
    let z = one_level names.scheme text l l' p.1 q.1 in
    λ i. asked.Classify (y i) (z i)
one_rule names (classify o text) (asked.Classify d l) _ p q = absurd q
one_rule names (classify o text) _ _ p q = absurd p
one_rule names (create o) (asked.Create d) (asked.Create d') p q =
    let y : d ≡ d' = cc (p, q) in
    ap asked.Create y
one_rule names (create o) (asked.Create d) _ p q = absurd q
one_rule names (create o) _ _ p q = absurd p
one_rule names (delete o) (asked.Delete d) (asked.Delete d') p q =
    let y : d ≡ d' = cc (p, q) in
    ap asked.Delete y
one_rule names (delete o) (asked.Delete d) _ p q = absurd q
one_rule names (delete o) _ _ p q = absurd p

-- ---- what each name of a rule without fault is

pub subject_there : (names : KnownNames) (s o : List ℕ) → All (IsKnown names) (right_mentions s o) → Contains names.subjects s
subject_there names s o all = All-head (IsKnown names) (record { role = Subject; word = s }) (record { role = Document; word = o } ∷ []) all

pub document_there : (names : KnownNames) (s o : List ℕ) → All (IsKnown names) (right_mentions s o) → Contains names.documents o
document_there names s o all =
    All-head (IsKnown names) (record { role = Document; word = o }) [] (All-tail (IsKnown names) (record { role = Subject; word = s }) (record { role = Document; word = o } ∷ []) all)

-- where this category stands
at_split : (before after : List (List ℕ)) (c : List ℕ) → slice_get (before ++ c ∷ after) (length before) ≡ Some c
at_split [] after c = refl
at_split (x ∷ before) after c = at_split before after c

stands_at : (scheme : SchemeNames) (text : LevelText) (before : List (List ℕ)) (c : List ℕ) → of_level.StandsBehind scheme text before c → slice_get text.categories (length before) ≡ Some c
stands_at scheme text before c at = ap (λ cs. slice_get cs (length before)) at.split ∙ at_split before at.after c

-- a text of known names, none of which stands twice, means a level
reads_level : (scheme : SchemeNames) (text : LevelText) → Contains scheme.ranks text.rank → All (Contains scheme.categories) text.categories → AreDistinct text.categories
    → (r : Result Level LevelFault) → Reads scheme text r → IsOk r
reads_level scheme text rank known once (Ok l) reads = refl
reads_level scheme text rank known once (Err level_fault.Syntax) reads = absurd reads
reads_level scheme text rank known once (Err level_fault.UnknownRank) reads = absurd (reads rank)
reads_level scheme text rank known once (Err level_fault.UnknownCategory) (_, (before, c, at, absent)) =
    let here = stands_at scheme text before c at in
    absurd (absent (subst (Contains scheme.categories) (get_or_from_slice_get text.categories (length before) c c here)
    (known (length before) c (slice_get_within text.categories (length before) c here))))
reads_level scheme text rank known once (Err level_fault.RepeatedCategory) (_, (before, c, at, again)) =
    let front : take (length before) text.categories ≡ before = ap (take (length before)) at.split ∙ take_at before (c ∷ at.after) (length before) refl in
    absurd (not_distinct text.categories c (length before) (stands_at scheme text before c at) (subst (λ cs. Contains cs c) (sym front) again) once)

pub level_there : (names : KnownNames) (scheme : SchemeNames) (text same : LevelText) → scheme ≡ names.scheme → same ≡ text → All (IsKnown names) (mentions_in_level text) → AreDistinct text.categories
    → (r : Result Level LevelFault) → Reads scheme same r → IsOk r
level_there names scheme text same e f all once r reads =
    reads_level names.scheme text (All-head (IsKnown names) (record { role = Rank; word = text.rank }) (map category_mention text.categories) all)
    (categories_held names text.categories (All-tail (IsKnown names) (record { role = Rank; word = text.rank }) (map category_mention text.categories) all)) once r
    (subst (λ t. Reads names.scheme t r) f (subst (λ s. Reads s same r) e reads))

-- ---- a rule that asks something has no fault

right_known : (names : KnownNames) (s o : List ℕ) (t d : ℕ) → place_of s names.subjects ≡ Some t → place_of o names.documents ≡ Some d → All (IsKnown names) (right_mentions s o)
right_known names s o t d p q =
    All-cons (IsKnown names) (record { role = Subject; word = s }) (record { role = Document; word = o } ∷ []) (placed s names.subjects t p)
    (All-cons (IsKnown names) (record { role = Document; word = o }) [] (placed o names.documents d q) (All-nil (IsKnown names)))

level_known : (names : KnownNames) (text : LevelText) (l : SecurityLevel) → of_level.Means names.scheme text l → All (IsKnown names) (mentions_in_level text)
level_known names text l m =
    All-cons (IsKnown names) (record { role = Rank; word = text.rank }) (map category_mention text.categories) (placed text.rank names.scheme.ranks l.rank m.rank)
    (categories_known names text.categories m.known)

document_known : (names : KnownNames) (o : List ℕ) (d : ℕ) → place_of o names.documents ≡ Some d → All (IsKnown names) (record { role = Document; word = o } ∷ [])
document_known names o d p = All-cons (IsKnown names) (record { role = Document; word = o }) [] (placed o names.documents d p) (All-nil (IsKnown names))

known_of : (names : KnownNames) (r : SpelledRule) (a : Rule) → MeansRule names r a → All (IsKnown names) (mentions_in r)
known_of names (give s o m) (asked.Give t d k) p = right_known names s o t d p.0 p.1
known_of names (give s o m) _ p = absurd p
known_of names (rescind s o m) (asked.Rescind t d k) p = right_known names s o t d p.0 p.1
known_of names (rescind s o m) _ p = absurd p
known_of names (current text) (asked.Current l) p = level_known names text l p
known_of names (current text) _ p = absurd p
known_of names (classify o text) (asked.Classify d l) p =
    All-cons (IsKnown names) (record { role = Document; word = o }) (mentions_in_level text) (placed o names.documents d p.0) (level_known names text l p.1)
known_of names (classify o text) _ p = absurd p
known_of names (create o) (asked.Create d) p = document_known names o d p
known_of names (create o) _ p = absurd p
known_of names (delete o) (asked.Delete d) p = document_known names o d p
known_of names (delete o) _ p = absurd p

once_of : (names : KnownNames) (r : SpelledRule) (a : Rule) → MeansRule names r a → AreDistinct (categories_in r)
once_of names (give s o m) a p = none_distinct
once_of names (rescind s o m) a p = none_distinct
once_of names (current text) (asked.Current l) p = p.distinct
once_of names (current text) _ p = absurd p
once_of names (classify o text) (asked.Classify d l) p = p.1.distinct
once_of names (classify o text) _ p = absurd p
once_of names (create o) a p = none_distinct
once_of names (delete o) a p = none_distinct

pub meant_no_fault : (names : KnownNames) (r : SpelledRule) (a : Rule) (fault : LineFault) → MeansRule names r a → IsFaultOfRule names r fault → ⊥
meant_no_fault names r a (Unknown n) m f = none_named (IsKnown names) mentioned (mentions_in r) n (known_of names r a m) f
meant_no_fault names r a (Twice n) m f = none_repeated (categories_in r) n (once_of names r a m) f.1
meant_no_fault names r a _ m f = f

-- a rule has one fault
pub one_rule_fault : (names : KnownNames) (r : SpelledRule) (f g : LineFault) → IsFaultOfRule names r f → IsFaultOfRule names r g → f ≡ g
one_rule_fault names r (Unknown n) (Unknown m) a b = ap Unknown (one_named (IsKnown names) mentioned (mentions_in r) n m a b)
one_rule_fault names r (Unknown n) (Twice m) a b = absurd (none_named (IsKnown names) mentioned (mentions_in r) n b.0 a)
one_rule_fault names r (Twice n) (Unknown m) a b = absurd (none_named (IsKnown names) mentioned (mentions_in r) m a.0 b)
one_rule_fault names r (Twice n) (Twice m) a b = ap Twice (one_repeated (categories_in r) n m a.1 b.1)
one_rule_fault names r (Unknown n) _ a b = absurd b
one_rule_fault names r (Twice n) _ a b = absurd b
one_rule_fault names r _ _ a b = absurd a
