-- A line that asks nothing has a fault.
use Rattle.std.proofs.Common.{◌≡◌, ◌≢◌, ℕ, zero, suc, ◌+◌, ◌-◌, ◌<◌, ◌≤◌, List, [], ◌∷◌, ◌++◌, length, take, drop, length-drop, refl, sym, ap, subst, ◌∙◌, ◌⊎◌, inl, inr, arith, append_assoc, append-nil}
use Rattle.std.specs.Prelude.{All, Contains, Some, map, slice_get}
use Rattle.std.proofs.lemmas.List.{take_at}
use Rattle.std.proofs.lemmas.List.Elements.{All-cons, All-nil, All-head, All-tail, Contains-get_or}
use Rattle.std.proofs.lemmas.List.Quantifiers.{all_pairs_push}
use Rattle.bl_name.specs.declared.token.Keyword.TheVariants as keyword
use Rattle.bl_level.specs.LevelText.{LevelText}
use Rattle.bl_level.specs.Lexing.{Front, nothing, token, broken, front, past_blanks, Begins}
use Rattle.bl_level.specs.Table.{AreDistinct, IsFirstRepeated}
use Rattle.bl_level.specs.Token.{Tok, reserved}
use Rattle.bl_name.proofs.Fronts.{front_nothing, front_shorter, broken_within}
use Rattle.bl_policy.specs.declared.rule.Rule.{Rule}
use Rattle.bl_policy.specs.declared.rule.Rule.TheVariants as asked
use Rattle.bl_work.proofs.MeantLevels.{level_meant, place_some}
use Rattle.bl_work.specs.Fault.{ReadsAs, FaultAt, SyntaxFault}
use Rattle.bl_work.specs.First.{IsFirstWithout, IsNameOfFirst}
use Rattle.bl_work.specs.FirstWhenFault.{IsWhenFault, declared_document, used_document}
use Rattle.bl_work.specs.Grammar.{SpelledLine, hello, wait, when, rule, spell, CanGoOn}
use Rattle.bl_work.specs.LineGrammar.{most_line_bytes, LineOf}
use Rattle.bl_work.specs.Meaning.{script_of}
use Rattle.bl_work.specs.Names.{KnownNames}
use Rattle.bl_work.specs.RuleMeaning.{MeansRule}
use Rattle.bl_work.specs.Spelled.{SpelledAccess, SpelledBody}
use Rattle.bl_work.specs.SpelledRules.{SpelledRule, give, rescind, current, classify, create, delete}
use Rattle.bl_work.specs.WhenFaults.{IsShallow, AreFew, names_of_when, IsOnce, declarations_of_when, IsDeclared, uses_in}
use Rattle.bl_work.specs.declared.asked.Line.{Line}
use Rattle.bl_work.specs.declared.asked.Line.TheVariants as line
use Rattle.bl_work.specs.declared.asked.LineFault.{LineFault}
use Rattle.bl_work.specs.declared.asked.LineFault.TheVariants.{Long, Syntax, Deep, Many, Unknown, Twice, Mode, Memory}
use Rattle.bl_work.specs.declared.work.Work.TheVariants.{Behaviour, Rule as AskedRule}
use Rattle.bl_read.specs.LineFaults.{HasFault, IsLineFault}
use Rattle.bl_read.specs.RuleFaults.{IsKnown, mentioned, mentions_in, mentions_in_level, categories_in, category_mention}
use Rattle.bl_read.specs.declared.rules.Role.TheVariants.{Document, Rank}
use Rattle.bl_read.proofs.RuleMeanings.{subject_there, document_there}
use Rattle.bl_read.proofs.RuleNames.{categories_held}

-- what is shown to be absurd is shown from both answers to a question
either : (P : Type 0) → ((P ⊎ (P → ⊥)) → ⊥) → ⊥
either P k = k (inr (λ p. k (inl p)))

below_or_not : (a b : ℕ) → (a < b) ⊎ (b ≤ a)
below_or_not a b = grind arith

-- ---- lists

-- it holds of all, or some element is the first of which it does not
first_or_all : {X : Type 0} (P : X → Type 0) (xs : List X) → (All P xs → ⊥) → ((x : X) → IsFirstWithout P xs x → ⊥) → ⊥
first_or_all P [] all first = all (All-nil P)
first_or_all {X} P (x ∷ xs) all first = either (P x) (go (first_or_all P xs))
  where
    go : ((All P xs → ⊥) → ((y : X) → IsFirstWithout P xs y → ⊥) → ⊥) → (P x ⊎ (P x → ⊥)) → ⊥
    go others (inl p) =
        others (λ rest. all (All-cons P x xs p rest))
        (λ y f. first y (record { before = x ∷ f.before; after = f.after; split = ap (λ l. x ∷ l) f.split; holds = All-cons P x f.before p f.holds; fails = f.fails }))
    go others (inr fails) = first x (record { before = []; after = xs; split = refl; holds = All-nil P; fails = fails })

name_or_all : {X : Type 0} (P : X → Type 0) (name_of : X → List ℕ) (xs : List X) → (All P xs → ⊥) → ((name : List ℕ) → IsNameOfFirst P name_of xs name → ⊥) → ⊥
name_or_all P name_of xs all first = first_or_all P xs all (λ x f. first (name_of x) (record { one = x; first = f; name_is = refl }))

at_split : (before after : List (List ℕ)) (name : List ℕ) → slice_get (before ++ name ∷ after) (length before) ≡ Some name
at_split [] after name = refl
at_split (x ∷ before) after name = at_split before after name

-- no name stands twice, or some name is the first that does
repeated_or_not : (before names : List (List ℕ)) → AreDistinct before → (AreDistinct (before ++ names) → ⊥) → ((name : List ℕ) → IsFirstRepeated (before ++ names) name → ⊥) → ⊥
repeated_or_not before [] d once twice = once (subst AreDistinct (sym (append-nil before)) d)
repeated_or_not before (n ∷ names) d once twice = either (Contains before n) (go (repeated_or_not (before ++ n ∷ []) names))
  where
    same : (before ++ n ∷ []) ++ names ≡ before ++ n ∷ names
    same = append_assoc before (n ∷ []) names

    front : take (length before) (before ++ n ∷ names) ≡ before
    front = take_at before (n ∷ names) (length before) refl

    go : (AreDistinct (before ++ n ∷ []) → (AreDistinct ((before ++ n ∷ []) ++ names) → ⊥) → ((name : List ℕ) → IsFirstRepeated ((before ++ n ∷ []) ++ names) name → ⊥) → ⊥)
        → (Contains before n ⊎ (Contains before n → ⊥)) → ⊥
    go others (inl stood) = twice n (record {
      place = length before;
      is = at_split before names n;
      before = subst (λ l. Contains l n) (sym front) stood;
      distinct = subst AreDistinct (sym front) d;
    })
    go others (inr new) =
        others (all_pairs_push (λ a b. a ≢ b) before n d (λ k e lt is. new (subst (Contains before) is (Contains-get_or before k e lt))))
        (λ all. once (subst AreDistinct same all)) (λ name f. twice name (subst (λ l. IsFirstRepeated l name) same f))

-- ---- what is asked

-- a rule without a fault means something
level_there : (names : KnownNames) (text : LevelText) → All (IsKnown names) (mentions_in_level text) → Contains names.scheme.ranks text.rank
level_there names text all = All-head (IsKnown names) (record { role = Rank; word = text.rank }) (map category_mention text.categories) all

rule_meant : (names : KnownNames) (r : SpelledRule) → All (IsKnown names) (mentions_in r) → AreDistinct (categories_in r) → (a : Rule) × MeansRule names r a
rule_meant names (give s o m) known once =
    let t = place_some s names.subjects (subject_there names s o known) in
    let d = place_some o names.documents (document_there names s o known) in
    (asked.Give t.0 d.0 m, (t.1, d.1, refl))
rule_meant names (rescind s o m) known once =
    let t = place_some s names.subjects (subject_there names s o known) in
    let d = place_some o names.documents (document_there names s o known) in
    (asked.Rescind t.0 d.0 m, (t.1, d.1, refl))
rule_meant names (current text) known once =
    let l = level_meant names.scheme text (level_there names text known)
    (categories_held names text.categories (All-tail (IsKnown names) (record { role = Rank; word = text.rank }) (map category_mention text.categories) known)) once in
    (asked.Current l.0, l.1)
rule_meant names (classify o text) known once =
    let d = place_some o names.documents (All-head (IsKnown names) (record { role = Document; word = o }) (mentions_in_level text) known) in
    let rest = All-tail (IsKnown names) (record { role = Document; word = o }) (mentions_in_level text) known in
    let l = level_meant names.scheme text (level_there names text rest)
    (categories_held names text.categories (All-tail (IsKnown names) (record { role = Rank; word = text.rank }) (map category_mention text.categories) rest)) once in
    (asked.Classify d.0 l.0, (d.1, l.1))
rule_meant names (create o) known once =
    let d = place_some o names.documents (All-head (IsKnown names) (record { role = Document; word = o }) [] known) in
    (asked.Create d.0, d.1)
rule_meant names (delete o) known once =
    let d = place_some o names.documents (All-head (IsKnown names) (record { role = Document; word = o }) [] known) in
    (asked.Delete d.0, d.1)

module _ (names : KnownNames) (bytes : List ℕ) (short : length bytes ≤ most_line_bytes) (asks : (l : Line) → LineOf names bytes l → ⊥)
    (faults : (fault : LineFault) → IsLineFault names bytes fault → fault ≢ Memory → ⊥) where
  hello_answers : (name : List ℕ) → ReadsAs bytes (hello name) → ⊥
  hello_answers name reads = either (Contains names.subjects name) go
    where
      go : (Contains names.subjects name ⊎ (Contains names.subjects name → ⊥)) → ⊥
      go (inl there) =
          let at = place_some name names.subjects there in
          asks (line.Hello at.0) (record { short = short; spelled = hello name; reads = reads; means = at.1 })
      go (inr none) = faults (Unknown name) (record { short = short; spelled = hello name; reads = reads; fault_is = (refl, none) }) (λ e. cc)

  module _ (first : SpelledAccess) (more : List SpelledAccess) (body : SpelledBody) (reads : ReadsAs bytes (when first more body)) where
    has : (fault : LineFault) → IsWhenFault names first more body fault → HasFault names bytes fault
    has fault is = record { short = short; spelled = when first more body; reads = reads; fault_is = is }

    when_answers : ⊥
    when_answers = either (IsShallow body) shallow
      where
        declared : IsShallow body → AreFew first more body → All (Contains names.documents) (names_of_when first more body) → All IsOnce (declarations_of_when first more body) → ⊥
        declared s f k o =
            name_or_all IsDeclared used_document (uses_in (first ∷ more) body)
            (λ d. asks (line.Work (Behaviour (script_of names first more body)))
            (record {
              short = short;
              spelled = when first more body;
              reads = reads;
              means = (record { shallow = s; few = f; known = k; once = o; declared = d }, refl);
            }))
            (λ name at. faults (Mode name) (has (Mode name) (s, f, k, o, at)) (λ e. cc))

        once : IsShallow body → AreFew first more body → All (Contains names.documents) (names_of_when first more body) → ⊥
        once s f k =
            name_or_all IsOnce declared_document (declarations_of_when first more body) (declared s f k)
            (λ name at. faults (Twice name) (has (Twice name) (s, f, k, at)) (λ e. cc))

        few : IsShallow body → (AreFew first more body ⊎ (AreFew first more body → ⊥)) → ⊥
        few s (inl f) =
            first_or_all (Contains names.documents) (names_of_when first more body) (once s f)
            (λ name at. faults (Unknown name) (has (Unknown name) (s, f, at)) (λ e. cc))
        few s (inr many) = faults Many (has Many (s, many)) (λ e. cc)

        shallow : (IsShallow body ⊎ (IsShallow body → ⊥)) → ⊥
        shallow (inl s) = either (AreFew first more body) (few s)
        shallow (inr deep) = faults Deep (has Deep deep) (λ e. cc)

  rule_answers : (r : SpelledRule) → ReadsAs bytes (rule r) → ⊥
  rule_answers r reads =
      name_or_all (IsKnown names) mentioned (mentions_in r)
      (λ known. repeated_or_not [] (categories_in r) (λ i j d lt within. absurd (omega arith))
      (λ once. let a = rule_meant names r known once in asks (line.Work (AskedRule a.0)) (record { short = short; spelled = rule r; reads = reads; means = a.1 }))
      (λ name at. faults (Twice name) (record { short = short; spelled = rule r; reads = reads; fault_is = (known, at) }) (λ e. cc)))
      (λ name at. faults (Unknown name) (record { short = short; spelled = rule r; reads = reads; fault_is = at }) (λ e. cc))

  spelled_answers : (s : SpelledLine) → ReadsAs bytes s → ⊥
  spelled_answers (hello name) reads = hello_answers name reads
  spelled_answers wait reads = asks line.Wait (record { short = short; spelled = wait; reads = reads; means = tt })
  spelled_answers (when first more body) reads = when_answers first more body reads
  spelled_answers (rule r) reads = rule_answers r reads

-- ---- tokens

drop_short : (n : ℕ) (bytes : List ℕ) → length (drop n bytes) ≤ length bytes
drop_short n bytes = omega (arith, length-drop n bytes)

-- past the blanks at the front there are no more bytes
past_short : (bytes : List ℕ) → length (past_blanks bytes) ≤ length bytes
past_short bytes = drop_short _ bytes

begins_more : (before : List Tok) (bytes rest : List ℕ) (t : Tok) (more : List ℕ) → Begins bytes before rest → front rest ≡ token t more → Begins bytes (before ++ t ∷ []) (past_blanks more)
begins_more [] bytes rest t more is e = (more, ap front (sym is) ∙ e, refl)
begins_more (u ∷ before) bytes rest t more (m, f, b) e = (m, f, begins_more before m rest t more b e)

rest_within : (before : List Tok) (bytes rest : List ℕ) → Begins bytes before rest → length rest ≤ length bytes
rest_within [] bytes rest is = omega (arith, ap length is, past_short bytes)
rest_within (t ∷ before) bytes rest (more, f, b) =
    omega (arith, rest_within before more rest b, front_shorter (past_blanks bytes) t more f, past_short bytes)

module _ (bytes : List ℕ) (reads : (s : SpelledLine) → ReadsAs bytes s → ⊥) (faults : (place : ℕ) → SyntaxFault bytes place → ⊥) where
  at_fault : (before : List Tok) (rest : List ℕ) (left : ℕ) → Begins bytes before rest → CanGoOn before → FaultAt before rest (front rest) left → left ≤ length bytes → ⊥
  at_fault before rest left begins goes_on fault le =
      faults (length bytes - left) (record { before = before; rest = rest; left = left; begins = begins; goes_on = goes_on; fault = fault; place_is = omega (arith, le) })

  ends_here : (before : List Tok) (rest : List ℕ) → Begins bytes before rest → CanGoOn before → front rest ≡ nothing → ⊥
  ends_here before rest begins goes_on is = either ((s : SpelledLine) × (spell s ≡ before)) go
    where
      go : ((s : SpelledLine) × (spell s ≡ before)) ⊎ ((s : SpelledLine) × (spell s ≡ before) → ⊥) → ⊥
      go (inl (s, spelled)) = reads s (subst (λ ts. Begins bytes ts []) (sym spelled) (subst (Begins bytes before) (front_nothing rest is) begins))
      go (inr none) = at_fault before rest 0 begins goes_on (subst (λ f. FaultAt before rest f 0) (sym is) (refl, λ s spelled. none (s, spelled))) (omega arith)

  tokens_answer : (most : ℕ) (before : List Tok) (rest : List ℕ) → Begins bytes before rest → CanGoOn before → length rest ≤ most → ⊥
  tokens_answer zero before rest begins goes_on le = go (front rest) refl
    where
      go : (f : Front) → front rest ≡ f → ⊥
      go nothing is = ends_here before rest begins goes_on is
      go (broken from) is =
          at_fault before rest (length from) begins goes_on (subst (λ f. FaultAt before rest f (length from)) (sym is) refl)
          (omega (arith, broken_within rest from is, rest_within before bytes rest begins))
      go (token t more) is = absurd (omega (arith, le, front_shorter rest t more is))
  tokens_answer (suc most) before rest begins goes_on le = go (front rest) refl (tokens_answer most)
    where
      go : (f : Front) → front rest ≡ f → ((before : List Tok) (rest : List ℕ) → Begins bytes before rest → CanGoOn before → length rest ≤ most → ⊥) → ⊥
      go nothing is further = ends_here before rest begins goes_on is
      go (broken from) is further =
          at_fault before rest (length from) begins goes_on (subst (λ f. FaultAt before rest f (length from)) (sym is) refl)
          (omega (arith, broken_within rest from is, rest_within before bytes rest begins))
      go (token t more) is further = either (CanGoOn (before ++ t ∷ [])) on
        where
          on : (CanGoOn (before ++ t ∷ []) ⊎ (CanGoOn (before ++ t ∷ []) → ⊥)) → ⊥
          on (inl can) =
              further (before ++ t ∷ []) (past_blanks more) (begins_more before bytes rest t more begins is) can
              (omega (arith, le, front_shorter rest t more is, past_short more))
          on (inr none) =
              at_fault before rest (length rest) begins goes_on (subst (λ f. FaultAt before rest f (length rest)) (sym is) (refl, none))
              (rest_within before bytes rest begins)

  begun : ⊥
  begun = tokens_answer (length (past_blanks bytes)) [] (past_blanks bytes) refl (wait, reserved keyword.Wait ∷ [], refl, (tt, tt)) (omega arith)

-- a line asks something, or has a fault
pub some_answer : (names : KnownNames) (bytes : List ℕ) → ((l : Line) → LineOf names bytes l → ⊥) → ((fault : LineFault) → IsLineFault names bytes fault → fault ≢ Memory → ⊥) → ⊥
some_answer names bytes asks faults = go (below_or_not most_line_bytes (length bytes))
  where
    go : (most_line_bytes < length bytes) ⊎ (length bytes ≤ most_line_bytes) → ⊥
    go (inl long) = faults Long long (λ e. cc)
    go (inr short) =
        begun bytes (spelled_answers names bytes short asks faults) (λ place f. faults (Syntax place) (short, f) (λ e. cc))
