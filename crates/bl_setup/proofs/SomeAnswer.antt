-- A text that is no setup has a first fault: its lines lead to a setup, or one of them is at fault.
use Rattle.std.proofs.Common.{◌≡◌, ◌≢◌, ℕ, suc, ◌<◌, ◌≤◌, Bool, true, false, List, [], ◌∷◌, ◌++◌, length, refl, sym, ap, subst, ◌⊎◌, inl, inr, arith, append_assoc, append-nil}
use Rattle.std.specs.Prelude.{All, Contains, is_some}
use Rattle.std.specs.Int.RustNames.{bit_or}
use Rattle.std.proofs.lemmas.List.Elements.{All-cons, All-nil, Contains-get_or}
use Rattle.std.proofs.lemmas.List.Quantifiers.{all_pairs_push}
use Rattle.bl_level.specs.Level.{SecurityLevel, Dominates}
use Rattle.bl_level.specs.Lexing.{Begins}
use Rattle.bl_level.specs.LevelText.{LevelText, Means}
use Rattle.bl_level.specs.Name.{AreProper}
use Rattle.bl_level.specs.Scheme.{SchemeNames, IsScheme}
use Rattle.bl_level.specs.Table.{AreDistinct}
use Rattle.bl_name.proofs.Readings.{read_proper}
use Rattle.bl_policy.specs.declared.access.Mode.{Mode}
use Rattle.bl_policy.specs.declared.access.ModeSet.{ModeSet}
use Rattle.bl_policy.specs.Mode.{flag_of}
use Rattle.bl_work.proofs.MeantLevels.{level_meant, place_some}
use Rattle.bl_setup.specs.Agreement.{of_scheme}
use Rattle.bl_declare.specs.Declaration.{Declaration, SubjectText, DocumentText, declared_content, AllowText, ranks, categories, subject, document, allow, spell_declaration}
use Rattle.bl_setup.specs.FirstSetupFault.{SoFar, nothing, ranked, declared, IsDue, Declares, Passes, LeadTo, Question, IsSo, kind_of, AllHold, FirstFails, asked, asked_of_names, asked_of_categories, asked_of_level, IsTooMuch, IsAbove, LineFault, FaultNext, FirstSetupFaultWithin}
use Rattle.bl_setup.specs.Grammar.{IsSetupWithin, AddsSubject, AddsDocument, AddsModes}
use Rattle.bl_setup.specs.Heads.{AreRanks}
use Rattle.bl_setup.specs.Lines.{is_skipped, file_lines}
use Rattle.bl_setup.specs.Setup.{Setup}
use Rattle.bl_declare.specs.declared.fault.SetupFault.{SetupFault}
use Rattle.bl_declare.specs.declared.fault.SetupFaultKind.{SetupFaultKind}
use Rattle.bl_declare.specs.declared.fault.SetupFaultKind.TheVariants.{Syntax, CurrentAboveGreatest, TooMany}
use Rattle.bl_policy.specs.Policy.{with_subject, with_declared, with_modes}
use Rattle.bl_setup.proofs.FirstLemmas.{IsRight}
use Rattle.bl_setup.proofs.HeadLemmas.{names_proper}
use Rattle.bl_setup.proofs.LedLemmas.{led_is_setup}
use Rattle.bl_setup.proofs.ModeLemmas.{Has, has_one, has_more}

-- what is shown to be absurd is shown from both answers to a question
either : (P : Type 0) → ((P ⊎ (P → ⊥)) → ⊥) → ⊥
either P k = k (inr (λ p. k (inl p)))

below_or_not : (a b : ℕ) → (a < b) ⊎ (b ≤ a)
below_or_not a b = grind arith

most_from : (a b : ℕ) → (a < b → ⊥) → b ≤ a
most_from a b none = go (below_or_not a b)
  where
    go : (a < b) ⊎ (b ≤ a) → b ≤ a
    go (inl lt) = absurd (none lt)
    go (inr le) = le

-- ---- words

-- all hold, or one is the first that does not
questions : (qs : List Question) → (AllHold qs → ⊥) → ((kind : SetupFaultKind) → FirstFails qs kind → ⊥) → ⊥
questions [] hold fails = hold tt
questions (q ∷ qs) hold fails = either (IsSo q) (go (questions qs))
  where
    go : ((AllHold qs → ⊥) → ((kind : SetupFaultKind) → FirstFails qs kind → ⊥) → ⊥) → (IsSo q ⊎ (IsSo q → ⊥)) → ⊥
    go others (inl h) = others (λ all. hold (h, all)) (λ kind f. fails kind (inr (h, f)))
    go others (inr n) = fails (kind_of q) (inl (refl, n))

none_distinct : AreDistinct []
none_distinct i j d lt within = absurd (omega arith)

one_distinct : (before : List (List ℕ)) (name : List ℕ) → AreDistinct before → (Contains before name → ⊥) → AreDistinct (before ++ name ∷ [])
one_distinct before name d new =
    all_pairs_push (λ a b. a ≢ b) before name d (λ k e lt same. new (subst (Contains before) same (Contains-get_or before k e lt)))

hold_names : (before names : List (List ℕ)) → AllHold (asked_of_names before names) → AreDistinct before → AreDistinct (before ++ names)
hold_names before [] h d = subst AreDistinct (sym (append-nil before)) d
hold_names before (n ∷ names) h d =
    subst AreDistinct (append_assoc before (n ∷ []) names) (hold_names (before ++ n ∷ []) names h.1 (one_distinct before n d h.0))

hold_categories : (scheme : SchemeNames) (before names : List (List ℕ)) → AllHold (asked_of_categories scheme before names) → AreDistinct before
    → All (Contains scheme.categories) names × AreDistinct (before ++ names)
hold_categories scheme before [] h d = (All-nil (Contains scheme.categories), subst AreDistinct (sym (append-nil before)) d)
hold_categories scheme before (n ∷ names) h d =
    let rest = hold_categories scheme (before ++ n ∷ []) names h.1.1 (one_distinct before n d h.1.0) in
    (All-cons (Contains scheme.categories) n names h.0 rest.0, subst AreDistinct (append_assoc before (n ∷ []) names) rest.1)

-- a level whose words are right is meant
hold_level : (scheme : SchemeNames) (text : LevelText) → AllHold (asked_of_level scheme text) → (level : SecurityLevel) × Means scheme text level
hold_level scheme text h =
    let c = hold_categories scheme [] text.categories h.1 none_distinct in
    level_meant scheme text h.0 c.0 c.1

hold_parts : (qs more : List Question) → AllHold (qs ++ more) → AllHold qs × AllHold more
hold_parts [] more h = (tt, h)
hold_parts (q ∷ qs) more h = let rest = hold_parts qs more h.1 in ((h.0, rest.0), rest.1)

-- some set has just these modes
more_modes : (done more : List Mode) (set : ModeSet) → Has set done → (new : ModeSet) × Has new (done ++ more)
more_modes done [] set has = (set, subst (Has set) (sym (append-nil done)) has)
more_modes done (m ∷ more) set has =
    let next : ModeSet = record { 0 = bit_or set.0 (flag_of m) } in
    let rest = more_modes (done ++ m ∷ []) more next (has_more set next done m (flag_of m) refl refl has) in
    (rest.0, subst (Has rest.0) (append_assoc done (m ∷ []) more) rest.1)

-- ---- declarations

-- the ranks so far are some, not too many, and none stands twice
abbrev IsWell : SoFar → Type 0
IsWell nothing = Unit {0}
IsWell (ranked names) = AreRanks names
IsWell (declared setup) = Unit {0}

abbrev Onward : SoFar → List ℕ → Type 0
Onward before line = (after : SoFar) → IsWell after → Declares before line after → ⊥

ranks_declare : (line lowest : List ℕ) (higher : List (List ℕ)) → Begins line (spell_declaration (ranks lowest higher)) [] → IsRight nothing (ranks lowest higher) → Onward nothing line → ⊥
ranks_declare line lowest higher spelled r k =
    let proper : AreProper (spell_declaration (ranks lowest higher)) = read_proper line [] (spell_declaration (ranks lowest higher)) spelled in
    let are : AreRanks (lowest ∷ higher) = record {
      some = omega arith;
      fit = most_from 16 (length (lowest ∷ higher)) r.few;
      table = record { proper = names_proper (lowest ∷ higher) proper.1; distinct = hold_names [] (lowest ∷ higher) r.hold none_distinct };
    } in
    k (ranked (lowest ∷ higher)) are (lowest ∷ higher, record { lowest = lowest; higher = higher; is = refl; spelled = spelled; fit = are }, refl)

categories_declare : (names : List (List ℕ)) → AreRanks names → (line : List ℕ) (words : List (List ℕ)) → Begins line (spell_declaration (categories words)) [] → IsRight (ranked names) (categories words)
    → Onward (ranked names) line → ⊥
categories_declare names are line words spelled r k =
    let proper : AreProper (spell_declaration (categories words)) = read_proper line [] (spell_declaration (categories words)) spelled in
    let scheme : SchemeNames = record { ranks = names; categories = words } in
    let some : 1 ≤ length names = are.some in
    let whole : IsScheme scheme = record {
      some = omega (arith, some);
      ranks_fit = are.fit;
      categories_fit = most_from 32 (length words) r.few;
      ranks = are.table;
      categories = record { proper = names_proper words proper.1; distinct = hold_names [] words r.hold none_distinct };
    } in
    k (declared (of_scheme scheme)) tt (scheme, record { words = words; is = refl; spelled = spelled; whole = whole }, refl)

subject_declares : (b : Setup) (line : List ℕ) (s : SubjectText) → Begins line (spell_declaration (subject s)) [] → IsRight (declared b) (subject s) → Onward (declared b) line → ⊥
subject_declares b line s spelled r k = either (Dominates greatest.0 current.0) go
  where
    words : AllHold (asked_of_level b.names.scheme s.greatest) × AllHold (asked_of_level b.names.scheme s.current)
    words = hold_parts (asked_of_level b.names.scheme s.greatest) (asked_of_level b.names.scheme s.current) r.hold.1

    greatest : (level : SecurityLevel) × Means b.names.scheme s.greatest level
    greatest = hold_level b.names.scheme s.greatest words.0

    current : (level : SecurityLevel) × Means b.names.scheme s.current level
    current = hold_level b.names.scheme s.current words.1

    next : Setup
    next = record b {
      names = record b.names { subjects = b.names.subjects ++ s.name ∷ [] };
      policy = with_subject b.policy (record { greatest = greatest.0; current = current.0; trusted = s.trusted; admin = s.admin });
    }

    go : (Dominates greatest.0 current.0 ⊎ (Dominates greatest.0 current.0 → ⊥)) → ⊥
    go (inl dominates) =
        let room : suc (length b.names.subjects) ≤ 256 = most_from 256 (suc (length b.names.subjects)) r.few in
        let adds : AddsSubject b s next = record {
          room = omega (arith, room);
          is_new = r.hold.0;
          greatest = greatest.0;
          current = current.0;
          means_greatest = greatest.1;
          means_current = current.1;
          dominates = dominates;
          is = refl;
        } in
        k (declared next) tt (next, (subject s, spelled, adds), refl)
    go (inr not) = r.below (greatest.0, current.0, greatest.1, current.1, not)

document_declares : (b : Setup) (line : List ℕ) (d : DocumentText) → Begins line (spell_declaration (document d)) [] → IsRight (declared b) (document d) → Onward (declared b) line → ⊥
document_declares b line d spelled r k =
    let level = hold_level b.names.scheme d.level r.hold.1 in
    let room : suc (length b.names.documents) ≤ 1024 = most_from 1024 (suc (length b.names.documents)) (λ many. r.few (inl many)) in
    let next : Setup = record b {
      names = record b.names { documents = b.names.documents ++ d.name ∷ [] };
      policy = with_declared b.policy level.0 (is_some d.content);
      contents = b.contents ++ declared_content d ∷ [];
    } in
    let adds : AddsDocument b d next = record {
      room = omega (arith, room);
      short = most_from 65536 (length (declared_content d)) (λ long. r.few (inr long));
      is_new = r.hold.0;
      level = level.0;
      means = level.1;
      is = refl;
    } in
    k (declared next) tt (next, (document d, spelled, adds), refl)

modes_declare : (b : Setup) (line : List ℕ) (a : AllowText) → Begins line (spell_declaration (allow a)) [] → IsRight (declared b) (allow a) → Onward (declared b) line → ⊥
modes_declare b line a spelled r k =
    let subject_at = place_some a.subject b.names.subjects r.hold.0 in
    let document_at = place_some a.document b.names.documents r.hold.1.0 in
    let first : ModeSet = record { 0 = flag_of a.mode } in
    let set = more_modes (a.mode ∷ []) a.modes first (has_one first a.mode refl) in
    let next : Setup = record b { policy = with_modes b.policy subject_at.0 document_at.0 set.0 } in
    let adds : AddsModes b a next = record {
      subject = subject_at.0;
      document = document_at.0;
      subject_is = subject_at.1;
      document_is = document_at.1;
      modes = set.0;
      modes_are = set.1;
      is = refl;
    } in
    k (declared next) tt (next, (allow a, spelled, adds), refl)

right_declares : (before : SoFar) → IsWell before → (line : List ℕ) (d : Declaration) → Begins line (spell_declaration d) [] → IsRight before d → Onward before line → ⊥
right_declares nothing well line (ranks lowest higher) spelled r k = ranks_declare line lowest higher spelled r k
right_declares nothing well line (categories words) spelled r k = r.due
right_declares nothing well line (subject s) spelled r k = r.due
right_declares nothing well line (document d) spelled r k = r.due
right_declares nothing well line (allow a) spelled r k = r.due
right_declares (ranked names) well line (ranks lowest higher) spelled r k = r.due
right_declares (ranked names) well line (categories words) spelled r k = categories_declare names well line words spelled r k
right_declares (ranked names) well line (subject s) spelled r k = r.due
right_declares (ranked names) well line (document d) spelled r k = r.due
right_declares (ranked names) well line (allow a) spelled r k = r.due
right_declares (declared b) well line (ranks lowest higher) spelled r k = r.due
right_declares (declared b) well line (categories words) spelled r k = r.due
right_declares (declared b) well line (subject s) spelled r k = subject_declares b line s spelled r k
right_declares (declared b) well line (document d) spelled r k = document_declares b line d spelled r k
right_declares (declared b) well line (allow a) spelled r k = modes_declare b line a spelled r k

-- ---- lines

-- a line declares what is due, or has a fault
module _ (before : SoFar) (well : IsWell before) (line : List ℕ) (right : Onward before line) (wrong : (kind : SetupFaultKind) → LineFault before line kind → ⊥) where
  declared_due : (d : Declaration) → Begins line (spell_declaration d) [] → IsDue before d → ⊥
  declared_due d spelled due = either (IsTooMuch before d) much_or_not
    where
      above_or_not : (IsTooMuch before d → ⊥) → AllHold (asked before d) → (IsAbove before d ⊎ (IsAbove before d → ⊥)) → ⊥
      above_or_not few hold (inl above) = wrong CurrentAboveGreatest (inr (d, spelled, due, inr (few, inr (hold, refl, above))))
      above_or_not few hold (inr below) = right_declares before well line d spelled (record { due = due; few = few; hold = hold; below = below }) right

      much_or_not : (IsTooMuch before d ⊎ (IsTooMuch before d → ⊥)) → ⊥
      much_or_not (inl much) = wrong TooMany (inr (d, spelled, due, inl (refl, much)))
      much_or_not (inr few) =
          questions (asked before d) (λ hold. either (IsAbove before d) (above_or_not few hold)) (λ kind f. wrong kind (inr (d, spelled, due, inr (few, inl f))))

  line_answers : ⊥
  line_answers = either ((d : Declaration) × Begins line (spell_declaration d) [] × IsDue before d) go
    where
      go : ((d : Declaration) × Begins line (spell_declaration d) [] × IsDue before d) ⊎ ((d : Declaration) × Begins line (spell_declaration d) [] × IsDue before d → ⊥) → ⊥
      go (inl (d, spelled, due)) = declared_due d spelled due
      go (inr none) = wrong Syntax (inl (refl, λ d spelled due. none (d, spelled, due)))

-- the line at fault, and those before it
record IsAt (before : SoFar) (lines : List (List ℕ)) (kind : SetupFaultKind) : Type 0 where
  front : List (List ℕ)
  rest : List (List ℕ)
  after : SoFar
  split : lines ≡ front ++ rest
  right : LeadTo before front after
  fault : FaultNext kind after rest

one_before : (before next : SoFar) (line : List ℕ) (lines : List (List ℕ)) (kind : SetupFaultKind) → Passes before line next → IsAt next lines kind → IsAt before (line ∷ lines) kind
one_before before next line lines kind p at = record {
  front = line ∷ at.front;
  rest = at.rest;
  after = at.after;
  split = ap (λ l. line ∷ l) at.split;
  right = (next, p, at.right);
  fault = at.fault;
}

lines_answer : (lines : List (List ℕ)) (before : SoFar) → IsWell before → ((after : SoFar) → LeadTo before lines after → ⊥) → ((kind : SetupFaultKind) → IsAt before lines kind → ⊥) → ⊥
lines_answer [] before well lead wrong = lead before refl
lines_answer (line ∷ lines) before well lead wrong = go (is_skipped line) refl (lines_answer lines)
  where
    go : (b : Bool) → is_skipped line ≡ b
        → ((next : SoFar) → IsWell next → ((after : SoFar) → LeadTo next lines after → ⊥) → ((kind : SetupFaultKind) → IsAt next lines kind → ⊥) → ⊥) → ⊥
    go true skipped others =
        others before well (λ after l. lead after (before, inl (skipped, refl), l)) (λ kind at. wrong kind (one_before before before line lines kind (inl (skipped, refl)) at))
    go false read others =
        line_answers before well line
        (λ next fine declares. others next fine (λ after l. lead after (next, inr (read, declares), l)) (λ kind at. wrong kind (one_before before next line lines kind (inr (read, declares)) at)))
        (λ kind f. wrong kind (record { front = []; rest = line ∷ lines; after = before; split = refl; right = refl; fault = (read, f) }))

-- ---- a text

fault_at : (most : ℕ) (bytes : List ℕ) (kind : SetupFaultKind) → length bytes ≤ most → (at : IsAt nothing (file_lines bytes) kind)
    → FirstSetupFaultWithin most bytes (record { line = suc (length at.front); kind = kind })
fault_at most bytes kind size at = inr (
  size,
  record {
    after = at.after;
    taken = length at.front;
    rest = at.rest;
    right = record { front = at.front; split = at.split; right = at.right; counted = omega arith };
    holds = at.fault;
    is = refl;
  },
)

-- a file that ended before its categories
too_short : (bytes : List ℕ) (after : SoFar) → LeadTo nothing (file_lines bytes) after → FaultNext Syntax after [] → IsAt nothing (file_lines bytes) Syntax
too_short bytes after l f =
    record { front = file_lines bytes; rest = []; after = after; split = sym (append-nil (file_lines bytes)); right = l; fault = f }

pub some_answer : (most : ℕ) (bytes : List ℕ) → ((setup : Setup) → IsSetupWithin most bytes setup → ⊥) → ((fault : SetupFault) → FirstSetupFaultWithin most bytes fault → ⊥) → ⊥
some_answer most bytes none fine = go (below_or_not most (length bytes))
  where
    go : (most < length bytes) ⊎ (length bytes ≤ most) → ⊥
    go (inl large) = fine (record { line = 0; kind = TooMany }) (inl (large, refl, refl))
    go (inr size) = lines_answer (file_lines bytes) nothing tt ends (λ kind at. fine _ (fault_at most bytes kind size at))
      where
        ends : (after : SoFar) → LeadTo nothing (file_lines bytes) after → ⊥
        ends nothing l = fine _ (fault_at most bytes Syntax size (too_short bytes nothing l (refl, λ begun. begun)))
        ends (ranked names) l = fine _ (fault_at most bytes Syntax size (too_short bytes (ranked names) l (refl, λ begun. begun)))
        ends (declared setup) l = none setup (led_is_setup most bytes setup size l)
