-- A line is right or has one fault, and a text has one first fault or is a setup.
use Rattle.std.proofs.Common.{◌≡◌, ℕ, suc, ◌≤◌, Bool, true, false, not, if◌then◌else◌, List, [], ◌∷◌, ◌++◌, length, refl, sym, ap, subst, ◌∙◌, inl, inr, arith}
use Rattle.bl_level.specs.Level.{Dominates}
use Rattle.bl_level.specs.Lexing.{Begins}
use Rattle.bl_level.specs.Scheme.{SchemeNames, IsScheme}
use Rattle.bl_level.specs.Table.{AreDistinct}
use Rattle.bl_setup.specs.Agreement.{of_scheme}
use Rattle.bl_declare.specs.Declaration.{Declaration, SubjectText, DocumentText, AllowText, ranks, categories, subject, document, allow, spell_declaration}
use Rattle.bl_setup.specs.FirstSetupFault.{SoFar, nothing, ranked, declared, IsDue, Declares, Passes, LeadTo, asked, asked_of_level, AllHold, IsTooMuch, IsAbove, DeclarationFault, LineFault, FaultNext, FirstSetupFaultWithin, HasOneAnswer}
use Rattle.bl_setup.specs.Grammar.{IsSetupWithin, Adds, AddsSubject, AddsDocument, AddsModes, Leads, Spells}
use Rattle.bl_setup.specs.Heads.{DeclaresRanks, DeclaresCategories}
use Rattle.bl_setup.specs.Lines.{is_skipped, kept, lines_read, file_lines}
use Rattle.bl_setup.specs.Setup.{Setup}
use Rattle.bl_declare.specs.declared.fault.SetupFault.{SetupFault}
use Rattle.bl_declare.specs.declared.fault.SetupFaultKind.{SetupFaultKind}
use Rattle.bl_setup.proofs.FaultLemmas.{fails_not, fails_one, hold_both, distinct_hold, level_holds}
use Rattle.bl_setup.proofs.FileLemmas.{Parts, parts_of}
use Rattle.bl_setup.proofs.HeadLemmas.{ranks_are, categories_are}
use Rattle.bl_setup.proofs.MeaningLemmas.{contains_from_place, one_level}
use Rattle.bl_setup.proofs.WholeLemmas.{one_spelled, line_adds_one}

-- nothing is wrong with the declaration
pub record IsRight (before : SoFar) (d : Declaration) : Type 0 where
  pub due : IsDue before d
  pub few : IsTooMuch before d → ⊥
  pub hold : AllHold (asked before d)
  pub below : IsAbove before d → ⊥

-- the levels that are meant do not stand the wrong way round
not_above : (b : Setup) (s : SubjectText) (next : Setup) → AddsSubject b s next → IsAbove (declared b) (subject s) → ⊥
not_above b s next a (g, c, mg, mc, above) =
    above (subst (λ x. Dominates x c) (one_level b.names.scheme s.greatest a.greatest g a.means_greatest mg)
    (subst (λ x. Dominates a.greatest x) (one_level b.names.scheme s.current a.current c a.means_current mc) a.dominates))

subject_right : (b : Setup) (s : SubjectText) (next : Setup) → AddsSubject b s next → IsRight (declared b) (subject s)
subject_right b s next a = record {
  due = tt;
  few = λ many. let room = a.room in omega arith;
  hold = (
    a.is_new,
    hold_both (asked_of_level b.names.scheme s.greatest) (asked_of_level b.names.scheme s.current) (level_holds b.names.scheme s.greatest a.greatest a.means_greatest)
        (level_holds b.names.scheme s.current a.current a.means_current),
  );
  below = not_above b s next a;
}

document_fits : (b : Setup) (d : DocumentText) (next : Setup) → AddsDocument b d next → IsTooMuch (declared b) (document d) → ⊥
document_fits b d next a (inl many) = let room = a.room in omega arith
document_fits b d next a (inr long) = let short = a.short in omega arith

document_right : (b : Setup) (d : DocumentText) (next : Setup) → AddsDocument b d next → IsRight (declared b) (document d)
document_right b d next a = record {
  due = tt;
  few = document_fits b d next a;
  hold = (a.is_new, level_holds b.names.scheme d.level a.level a.means);
  below = λ f. f;
}

modes_right : (b : Setup) (m : AllowText) (next : Setup) → AddsModes b m next → IsRight (declared b) (allow m)
modes_right b m next a = record {
  due = tt;
  few = λ f. f;
  hold = (
    contains_from_place m.subject b.names.subjects a.subject a.subject_is,
    (contains_from_place m.document b.names.documents a.document a.document_is, tt),
  );
  below = λ f. f;
}

-- a declaration that adds something is right
pub adds_right : (b : Setup) (d : Declaration) (next : Setup) → Adds b d next → IsRight (declared b) d
adds_right b (ranks lowest higher) next a = absurd a
adds_right b (categories names) next a = absurd a
adds_right b (subject s) next a = subject_right b s next a
adds_right b (document d) next a = document_right b d next a
adds_right b (allow m) next a = modes_right b m next a

-- the line spells a declaration that is right
pub record SpellsRight (before : SoFar) (line : List ℕ) : Type 0 where
  pub d : Declaration
  pub spelled : Begins line (spell_declaration d) []
  pub right : IsRight before d

ranks_right : (line : List ℕ) (names : List (List ℕ)) → DeclaresRanks line names → SpellsRight nothing line
ranks_right line names r =
    let e = r.is in
    let few : length (r.lowest ∷ r.higher) ≤ 16 = subst (λ xs. length xs ≤ 16) e r.fit.fit in
    let distinct = subst AreDistinct e r.fit.table.distinct in
    record {
      d = ranks r.lowest r.higher;
      spelled = r.spelled;
      right = record { due = tt; few = λ many. omega arith; hold = distinct_hold [] (r.lowest ∷ r.higher) distinct; below = λ f. f };
    }

categories_right : (line : List ℕ) (names : List (List ℕ)) (scheme : SchemeNames) → DeclaresCategories line names scheme → SpellsRight (ranked names) line
categories_right line names scheme r =
    let whole = subst IsScheme r.is r.whole in
    let few = whole.categories_fit in
    record {
      d = categories r.words;
      spelled = r.spelled;
      right = record { due = tt; few = λ many. omega arith; hold = distinct_hold [] r.words whole.categories.distinct; below = λ f. f };
    }

pub declares_right : (before : SoFar) (line : List ℕ) (after : SoFar) → Declares before line after → SpellsRight before line
declares_right nothing line after (names, r, is) = ranks_right line names r
declares_right (ranked names) line after (scheme, r, is) = categories_right line names scheme r
declares_right (declared b) line after (next, (d, spelled, adds), is) = record { d = d; spelled = spelled; right = adds_right b d next adds }

right_not_at_fault : (before : SoFar) (d : Declaration) (kind : SetupFaultKind) → IsRight before d → DeclarationFault before d kind → ⊥
right_not_at_fault before d kind r (inl f) = r.few f.1
right_not_at_fault before d kind r (inr (few, inl f)) = fails_not (asked before d) kind f r.hold
right_not_at_fault before d kind r (inr (few, inr f)) = r.below f.2

-- a line that is right has no fault
pub never_both : (before : SoFar) (line : List ℕ) (after : SoFar) (kind : SetupFaultKind) → Declares before line after → LineFault before line kind → ⊥
never_both before line after kind declares (inl f) = let r = declares_right before line after declares in f.1 r.d r.spelled r.right.due
never_both before line after kind declares (inr (d, spelled, due, f)) =
    let r = declares_right before line after declares in
    right_not_at_fault before d kind (subst (IsRight before) (one_spelled line r.d d r.spelled spelled) r.right) f

one_declaration_fault : (before : SoFar) (d : Declaration) (kind other : SetupFaultKind) → DeclarationFault before d kind → DeclarationFault before d other → other ≡ kind
one_declaration_fault before d kind other (inl f) (inl g) = g.0 ∙ sym f.0
one_declaration_fault before d kind other (inl f) (inr g) = absurd (g.0 f.1)
one_declaration_fault before d kind other (inr f) (inl g) = absurd (f.0 g.1)
one_declaration_fault before d kind other (inr (few, inl f)) (inr (few', inl g)) = fails_one (asked before d) kind other f g
one_declaration_fault before d kind other (inr (few, inl f)) (inr (few', inr g)) = absurd (fails_not (asked before d) kind f g.0)
one_declaration_fault before d kind other (inr (few, inr f)) (inr (few', inl g)) = absurd (fails_not (asked before d) other g f.0)
one_declaration_fault before d kind other (inr (few, inr f)) (inr (few', inr g)) = g.1 ∙ sym f.1

-- a line has one fault
pub one_line_fault : (before : SoFar) (line : List ℕ) (kind other : SetupFaultKind) → LineFault before line kind → LineFault before line other → other ≡ kind
one_line_fault before line kind other (inl f) (inl g) = g.0 ∙ sym f.0
one_line_fault before line kind other (inl f) (inr (d, spelled, due, g)) = absurd (f.1 d spelled due)
one_line_fault before line kind other (inr (d, spelled, due, f)) (inl g) = absurd (g.1 d spelled due)
one_line_fault before line kind other (inr (d, spelled, due, f)) (inr (e, spelled', due', g)) =
    one_declaration_fault before d kind other f (subst (λ x. DeclarationFault before x other) (one_spelled line e d spelled' spelled) g)

-- a line that is right leads to one place
pub declares_one : (before : SoFar) (line : List ℕ) (a b : SoFar) → Declares before line a → Declares before line b → b ≡ a
declares_one nothing line a b (names, r, is) (names', r', is') =
    is' ∙ ap ranked (ranks_are line r.lowest r.higher r.spelled names' r' ∙ sym r.is) ∙ sym is
declares_one (ranked names) line a b (scheme, r, is) (scheme', r', is') =
    is' ∙ ap (λ x. declared (of_scheme x)) (categories_are line names r.words r.spelled scheme' r' ∙ sym r.is) ∙ sym is
declares_one (declared setup) line a b (next, adds, is) (next', adds', is') = is' ∙ ap declared (line_adds_one setup line next' next adds' adds) ∙ sym is

skipped_not_read : (line : List ℕ) → is_skipped line ≡ true → is_skipped line ≡ false → ⊥
skipped_not_read line s r = let e : true ≡ false = sym s ∙ r in cc

pub passes_one : (before : SoFar) (line : List ℕ) (a b : SoFar) → Passes before line a → Passes before line b → b ≡ a
passes_one before line a b (inl p) (inl q) = q.1 ∙ sym p.1
passes_one before line a b (inl p) (inr q) = absurd (skipped_not_read line p.0 q.0)
passes_one before line a b (inr p) (inl q) = absurd (skipped_not_read line q.0 p.0)
passes_one before line a b (inr p) (inr q) = declares_one before line a b p.1 q.1

-- a line that passes is not the line at fault
fault_does_not_pass : (kind : SetupFaultKind) (before : SoFar) (line : List ℕ) (lines : List (List ℕ)) (after : SoFar) → Passes before line after → FaultNext kind before (line ∷ lines) → ⊥
fault_does_not_pass kind before line lines after (inl p) f = skipped_not_read line p.0 f.0
fault_does_not_pass kind before line lines after (inr p) f = never_both before line after kind p.1 f.1

one_fault_next : (kind other : SetupFaultKind) (before : SoFar) (rest : List (List ℕ)) → FaultNext kind before rest → FaultNext other before rest → other ≡ kind
one_fault_next kind other before [] f g = g.0 ∙ sym f.0
one_fault_next kind other before (line ∷ lines) f g = one_line_fault before line kind other f.1 g.1

-- lines are at fault in one place
pub one_place : (before : SoFar) (front front' rest rest' : List (List ℕ)) (to to' : SoFar) (kind other : SetupFaultKind) → front ++ rest ≡ front' ++ rest'
    → LeadTo before front to → LeadTo before front' to' → FaultNext kind to rest → FaultNext other to' rest' → (length front' ≡ length front) × (other ≡ kind)
one_place before [] [] rest rest' to to' kind other e l l' f f' =
    (refl, one_fault_next kind other before rest (subst (λ x. FaultNext kind x rest) l f) (subst (λ x. FaultNext other before x) (sym e) (subst (λ x. FaultNext other x rest') l' f')))
one_place before [] (x ∷ front') rest rest' to to' kind other e l (next, p, l') f f' =
    absurd (fault_does_not_pass kind before x (front' ++ rest') next p (subst (λ y. FaultNext kind before y) e (subst (λ y. FaultNext kind y rest) l f)))
one_place before (x ∷ front) [] rest rest' to to' kind other e (next, p, l) l' f f' =
    absurd (fault_does_not_pass other before x (front ++ rest) next p (subst (λ y. FaultNext other before y) (sym e) (subst (λ y. FaultNext other y rest') l' f')))
one_place before (x ∷ front) (y ∷ front') rest rest' to to' kind other e (next, p, l) (next', p', l') f f' =
    let same : y ≡ x = cc in
    let tails : front ++ rest ≡ front' ++ rest' = cc in
    let n = passes_one before x next next' p (subst (λ z. Passes before z next') same p') in
    let r = one_place next front front' rest rest' to to' kind other tails l (subst (λ z. LeadTo z front' to') n l') f f' in
    (ap suc r.0, r.1)

-- lines that lead somewhere else than to a fault have none on the way
pub no_place : (before : SoFar) (front rest : List (List ℕ)) (to end : SoFar) (kind : SetupFaultKind) → LeadTo before (front ++ rest) end → LeadTo before front to
    → FaultNext kind to rest → FaultNext kind end []
no_place before [] [] to end kind all l f = subst (λ x. FaultNext kind x []) (l ∙ sym all) f
no_place before [] (x ∷ rest) to end kind (next, p, all) l f = absurd (fault_does_not_pass kind before x rest next p (subst (λ y. FaultNext kind y (x ∷ rest)) l f))
no_place before (x ∷ front) rest to end kind (next, p, all) (next', p', l) f =
    let n = passes_one before x next next' p p' in
    no_place next front rest to end kind all (subst (λ z. LeadTo z front to) n l) f

-- the lines that are read, one after the other
abbrev pub ReadTo : SoFar → List (List ℕ) → SoFar → Type 0
ReadTo before [] after = after ≡ before
ReadTo before (line ∷ lines) after = (next : SoFar) × Declares before line next × ReadTo next lines after

onto_read : (before : SoFar) (line : List ℕ) (lines : List (List ℕ)) (after : SoFar) (b : Bool) → is_skipped line ≡ b
    → ((from : SoFar) → ReadTo from (kept lines) after → LeadTo from lines after) → ReadTo before (if not b then line ∷ kept lines else kept lines) after → LeadTo before (line ∷ lines) after
onto_read before line lines after true skipped onward r = (before, inl (skipped, refl), onward before r)
onto_read before line lines after false read onward (next, declares, r) = (next, inr (read, declares), onward next r)

-- skipping the others
read_leads : (before : SoFar) (lines : List (List ℕ)) (after : SoFar) → ReadTo before (kept lines) after → LeadTo before lines after
read_leads before [] after r = r
read_leads before (line ∷ lines) after r = onto_read before line lines after (is_skipped line) refl (λ from. read_leads from lines after) r

-- the declarations behind the first two lead on
declarations_lead : (b : Setup) (lines : List (List ℕ)) (ds : List Declaration) (after : Setup) → Spells lines ds → Leads b ds after → ReadTo (declared b) lines (declared after)
declarations_lead b [] [] after s l = ap declared l
declarations_lead b [] (d ∷ ds) after s l = absurd (cc)
declarations_lead b (line ∷ lines) [] after (d, rest, e, spelled, s) l = absurd (cc)
declarations_lead b (line ∷ lines) (d' ∷ ds) after (d, rest, e, spelled, s) (next, adds, l) =
    let same : d ≡ d' = cc in
    let same' : rest ≡ ds = cc in (
      declared next,
      (next, (d', subst (λ x. Begins line (spell_declaration x) []) same spelled, adds), refl),
      declarations_lead next lines ds after (subst (Spells lines) same' s) l,
    )

parts_lead : (lines : List (List ℕ)) (setup : Setup) → Parts lines setup → ReadTo nothing lines (declared setup)
parts_lead lines setup p =
    let b = p.begins in
    let r = p.remain in
    rw b.split (
      ranked b.names,
      (b.names, b.ranks, refl),
      (
        declared (of_scheme p.scheme),
        (p.scheme, b.categories, refl),
        declarations_lead (of_scheme p.scheme) p.rest r.declarations setup r.spelled r.leads,
      ),
    )

-- the lines of a setup's text lead to it
pub setup_leads : (most : ℕ) (bytes : List ℕ) (setup : Setup) → IsSetupWithin most bytes setup → LeadTo nothing (file_lines bytes) (declared setup)
setup_leads most bytes setup s = read_leads nothing (file_lines bytes) (declared setup) (parts_lead (lines_read bytes) setup (parts_of most bytes setup s))

-- a text with a fault is no setup
pub fault_is_no_setup : (most : ℕ) (bytes : List ℕ) (setup : Setup) (fault : SetupFault) → IsSetupWithin most bytes setup → FirstSetupFaultWithin most bytes fault → ⊥
fault_is_no_setup most bytes setup fault s (inl f) = let size = s.size in let large = f.0 in omega arith
fault_is_no_setup most bytes setup fault s (inr (size, f)) =
    let r = f.right in
    let l = subst (λ x. LeadTo nothing x (declared setup)) r.split (setup_leads most bytes setup s) in
    let e = no_place nothing r.front f.rest f.after (declared setup) fault.kind l r.right f.holds in
    e.1 tt

same_fault : (fault other : SetupFault) → other.line ≡ fault.line → other.kind ≡ fault.kind → other ≡ fault
same_fault fault other line kind = λ i. record { line = line i; kind = kind i }

-- a text has one first fault
pub one_fault : (most : ℕ) (bytes : List ℕ) (fault other : SetupFault) → FirstSetupFaultWithin most bytes fault → FirstSetupFaultWithin most bytes other → other ≡ fault
one_fault most bytes fault other (inl f) (inl g) = same_fault fault other (g.1 ∙ sym f.1) (g.2 ∙ sym f.2)
one_fault most bytes fault other (inl f) (inr (size, g)) = let large = f.0 in absurd (omega arith)
one_fault most bytes fault other (inr (size, f)) (inl g) = let large = g.0 in absurd (omega arith)
one_fault most bytes fault other (inr (size, f)) (inr (size', g)) =
    let r = f.right in
    let q = g.right in
    let p = one_place nothing r.front q.front f.rest g.rest f.after g.after fault.kind other.kind (sym r.split ∙ q.split) r.right q.right f.holds g.holds in
    let n = p.0 in
    let a = r.counted in
    let b = q.counted in
    let c = f.is in
    let d = g.is in
    same_fault fault other (omega arith) p.1

lead_one : (before : SoFar) (lines : List (List ℕ)) (a b : SoFar) → LeadTo before lines a → LeadTo before lines b → b ≡ a
lead_one before [] a b l m = m ∙ sym l
lead_one before (line ∷ lines) a b (next, p, l) (next', p', m) = lead_one next lines a b l (subst (λ x. LeadTo x lines b) (passes_one before line next next' p p') m)

-- a text is one setup
one_setup : (most : ℕ) (bytes : List ℕ) (setup other : Setup) → IsSetupWithin most bytes setup → IsSetupWithin most bytes other → other ≡ setup
one_setup most bytes setup other s t =
    let e : declared other ≡ declared setup = lead_one nothing (file_lines bytes) (declared setup) (declared other) (setup_leads most bytes setup s) (setup_leads most bytes other t) in
    cc

-- a text has one answer
pub one_answer : (most : ℕ) (bytes : List ℕ) → HasOneAnswer most bytes
one_answer most bytes = record { setups = one_setup most bytes; faults = one_fault most bytes; never_both = fault_is_no_setup most bytes }
