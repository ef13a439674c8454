-- The text of a whole setup reads as it.
use Rattle.std.proofs.Common.{◌≡◌, ℕ, suc, ◌≤◌, Bool, true, false, cond, Some, None, List, [], ◌∷◌, ◌++◌, length, refl, sym, ap, subst, arith}
use Rattle.std.specs.Prelude.{map}
use Rattle.std.specs.List.{AllByRecursion}
use Rattle.bl_name.specs.declared.token.Keyword.{Keyword}
use Rattle.bl_name.specs.declared.token.Keyword.TheVariants.{Trusted, Admin}
use Rattle.bl_name.specs.Canonical.{canonical}
use Rattle.bl_name.specs.Lexing.{Begins}
use Rattle.bl_name.specs.Name.{IsName, AreProper}
use Rattle.bl_name.specs.Token.{Tok, name}
use Rattle.bl_level.specs.Level.{SecurityLevel}
use Rattle.bl_level.specs.LevelText.{spell_level, text_of, canonical_level}
use Rattle.bl_level.proofs.WritingLevels.{level_reads_back}
use Rattle.bl_policy.specs.declared.access.Mode.{Mode}
use Rattle.bl_policy.specs.declared.access.Mode.TheVariants.{Read, Append, Write}
use Rattle.bl_policy.specs.Policy.{Clearance}
use Rattle.std.proofs.lemmas.List.Elements.{recursion_from_All}
use Rattle.bl_level.specs.Scheme.{SchemeNames, IsScheme, HoldsLevel}
use Rattle.bl_policy.specs.Matrix.{Matrix, Triple, is_in, no_triple}
use Rattle.bl_declare.specs.Declaration.{Declaration, ranks, categories, letter_of, spell_content, spell_names, spell_flag, spell_modes}
use Rattle.bl_setup.specs.Grammar.{IsSetupWithin, Leads, Spells}
use Rattle.bl_setup.specs.Lines.{lines_read}
use Rattle.bl_setup.specs.Setup.{Setup}
use Rattle.bl_setup.specs.declared.version.Version.TheVariants.{Two}
use Rattle.bl_work.specs.Content.{IsContent}
use Rattle.bl_setup.specs.Agreement.{of_scheme}
use Rattle.bl_state.specs.Texts.{allow_lines, body_lines, cell_lines, declarations_of, document_lines, joined, line_text, modes_at, rank_lines, row_lines, setup_text, subject_lines}
use Rattle.bl_state.specs.Whole.{IsCleared, IsWhole}
use Rattle.bl_state.proofs.Lines.{AllProper, text-spells}
use Rattle.bl_state.proofs.Leading.{empty-each, leads-append, made, subjects-lead, documents-lead}
use Rattle.bl_state.proofs.Cells.{cells-lead}

module _ (none : (t : Triple) → is_in no_triple t ≡ true → ⊥) (setup : Setup) (whole : IsWhole setup) where
  abbrev scheme : SchemeNames
  scheme = setup.names.scheme

  is : IsScheme scheme
  is = whole.names.scheme

  leads-two : Leads (of_scheme setup.names.scheme) (body_lines setup) (record setup { version = Two })
  leads-two =
      let scheme = setup.names.scheme in
      let is = whole.names.scheme in
      let s = setup.names.subjects in
      let d = setup.names.documents in
      let p = setup.policy in
      leads-append (of_scheme scheme) (made scheme is s p.subjects [] [] [] [] no_triple) (record setup { version = Two })
      (subject_lines scheme s p.subjects) (document_lines scheme d p.documents p.present setup.contents ++ cell_lines p.matrix d 0 s)
      (subjects-lead scheme is [] [] s p.subjects whole.agree.subjects whole.names.subjects_fit whole.names.subjects.distinct whole.cleared)
      (leads-append (made scheme is s p.subjects [] [] [] [] no_triple) (made scheme is s p.subjects d p.documents p.present setup.contents no_triple) (record setup { version = Two })
      (document_lines scheme d p.documents p.present setup.contents) (cell_lines p.matrix d 0 s)
      (documents-lead scheme is s p.subjects [] [] [] [] d p.documents p.present setup.contents whole.agree.documents whole.agree.presence
      whole.agree.contents whole.names.documents_fit whole.names.documents.distinct whole.held whole.contents
      (empty-each p.present setup.contents whole.agree.absent))
      (cells-lead scheme is s p.subjects d p.documents p.present setup.contents whole.names.subjects.distinct whole.names.documents.distinct p.matrix none whole.cells))

  leads : Leads (of_scheme setup.names.scheme) (body_lines setup) setup
  leads = subst (λ v. Leads (of_scheme setup.names.scheme) (body_lines setup) (record setup { version = v })) (sym whole.two) leads-two

proper-append : (a b : List Tok) → AreProper a → AreProper b → AreProper (a ++ b)
proper-append [] b p q = q
proper-append (t ∷ a) b p q = (p.0, proper-append a b p.1 q)

proper-names : (ns : List (List ℕ)) → AllByRecursion IsName ns → AreProper (spell_names ns)
proper-names [] h = tt
proper-names (n ∷ ns) h = (h.0, proper-names ns h.1)

proper-flag : (k : Keyword) (b : Bool) → AreProper (spell_flag k b)
proper-flag k true = (tt, tt)
proper-flag k false = tt

-- a letter reads as a name
letter-reads : (mode : Mode) → Begins (letter_of mode) (name (letter_of mode) ∷ []) []
letter-reads Read = ([], refl, refl)
letter-reads Append = ([], refl, refl)
letter-reads Write = ([], refl, refl)

all-append : (a b : List Declaration) → AllProper a → AllProper b → AllProper (a ++ b)
all-append [] b p q = q
all-append (d ∷ a) b p q = (p.0, all-append a b p.1 q)

module _ (letter-name : (mode : Mode) → IsName (letter_of mode)) where
  proper-modes : (ms : List Mode) → AreProper (spell_modes ms)
  proper-modes [] = tt
  proper-modes (m ∷ ms) = (letter-name m, proper-modes ms)

  proper-allow : (s d : List ℕ) → IsName s → IsName d → (ms : List Mode) → AllProper (allow_lines s d ms)
  proper-allow s d p q [] = tt
  proper-allow s d p q (m ∷ ms) = ((tt, (p, (q, (letter-name m, proper-modes ms)))), tt)

  proper-row : (m : Matrix) (s : ℕ) (n : List ℕ) (o : ℕ) (ds : List (List ℕ)) → IsName n → AllByRecursion IsName ds → AllProper (row_lines m s n o ds)
  proper-row m s n o [] p q = tt
  proper-row m s n o (d ∷ ds) p q = all-append (allow_lines n d (modes_at m s o)) (row_lines m s n (suc o) ds) (proper-allow n d p q.0 (modes_at m s o)) (proper-row m s n (suc o) ds p q.1)

  proper-cells : (m : Matrix) (ds : List (List ℕ)) (s : ℕ) (ns : List (List ℕ)) → AllByRecursion IsName ds → AllByRecursion IsName ns → AllProper (cell_lines m ds s ns)
  proper-cells m ds s [] p q = tt
  proper-cells m ds s (n ∷ ns) p q = all-append (row_lines m s n 0 ds) (cell_lines m ds (suc s) ns) (proper-row m s n 0 ds q.0 p) (proper-cells m ds (suc s) ns p q.1)

module _ (scheme : SchemeNames) (level : (l : SecurityLevel) → HoldsLevel scheme l → AreProper (spell_level (text_of scheme l))) where
  proper-subjects : (ns : List (List ℕ)) (cs : List Clearance) → AllByRecursion IsName ns → AllByRecursion (IsCleared scheme) cs → AllProper (subject_lines scheme ns cs)
  proper-subjects [] cs p q = tt
  proper-subjects (n ∷ ns) [] p q = tt
  proper-subjects (n ∷ ns) (c ∷ cs) p q = (
    (
      tt,
      (
        p.0,
        (
          tt,
          proper-append (spell_level (text_of scheme c.greatest)) _ (level c.greatest q.0.greatest) (
            tt,
            proper-append (spell_level (text_of scheme c.current)) _ (level c.current q.0.current)
                (proper-append (spell_flag Trusted c.trusted) (spell_flag Admin c.admin) (proper-flag Trusted c.trusted) (proper-flag Admin c.admin)),
          ),
        ),
      ),
    ),
    proper-subjects ns cs p.1 q.1,
  )

  proper-content : (p : Bool) (x : List ℕ) → IsContent x → AreProper (spell_content (cond p (Some x) None))
  proper-content true x h = (h.plain, tt)
  proper-content false x h = tt

  proper-documents : (ns : List (List ℕ)) (ls : List SecurityLevel) (ps : List Bool) (xs : List (List ℕ)) → AllByRecursion IsName ns
      → AllByRecursion (HoldsLevel scheme) ls → AllByRecursion IsContent xs → AllProper (document_lines scheme ns ls ps xs)
  proper-documents [] ls ps xs p q r = tt
  proper-documents (n ∷ ns) [] ps xs p q r = tt
  proper-documents (n ∷ ns) (l ∷ ls) [] xs p q r = tt
  proper-documents (n ∷ ns) (l ∷ ls) (there ∷ ps) [] p q r = tt
  proper-documents (n ∷ ns) (l ∷ ls) (there ∷ ps) (x ∷ xs) p q r = (
    (tt, (p.0, proper-append (spell_level (text_of scheme l)) _ (level l q.0) (proper-content there x r.0))),
    proper-documents ns ls ps xs p.1 q.1 r.1,
  )

module _ (again : (tokens : List Tok) → AreProper tokens → Begins (canonical tokens) tokens [])
    (read_proper : (bytes rest : List ℕ) (tokens : List Tok) → Begins bytes tokens rest → AreProper tokens)
    (none : (t : Triple) → is_in no_triple t ≡ true → ⊥) where
  letter-is : (mode : Mode) → IsName (letter_of mode)
  letter-is mode = (read_proper (letter_of mode) [] (name (letter_of mode) ∷ []) (letter-reads mode)).0

  level-proper : (scheme : SchemeNames) → IsScheme scheme → (l : SecurityLevel) → HoldsLevel scheme l → AreProper (spell_level (text_of scheme l))
  level-proper scheme is l holds = read_proper (canonical_level scheme l) [] (spell_level (text_of scheme l)) (level_reads_back scheme l is holds (canonical_level scheme l) refl).spelled

  body-proper : (setup : Setup) → IsWhole setup → AllProper (body_lines setup)
  body-proper setup whole =
      let scheme = setup.names.scheme in
      let level = level-proper scheme whole.names.scheme in
      let ns = recursion_from_All IsName setup.names.subjects whole.names.subjects.proper in
      let ds = recursion_from_All IsName setup.names.documents whole.names.documents.proper in
      all-append (subject_lines scheme setup.names.subjects setup.policy.subjects) _
      (proper-subjects scheme level setup.names.subjects setup.policy.subjects ns whole.cleared)
      (all-append (document_lines scheme setup.names.documents setup.policy.documents setup.policy.present setup.contents) _
      (proper-documents scheme level setup.names.documents setup.policy.documents setup.policy.present setup.contents ds whole.held whole.contents)
      (proper-cells letter-is setup.policy.matrix setup.names.documents 0 setup.names.subjects ds ns))

  pub reads-again : (most : ℕ) (setup : Setup) → IsWhole setup → length (setup_text setup) ≤ most → IsSetupWithin most (setup_text setup) setup
  reads-again most setup whole size = go setup.names.scheme.ranks refl
    where
      cats : List (List ℕ)
      cats = setup.names.scheme.categories

      go : (rs : List (List ℕ)) → setup.names.scheme.ranks ≡ rs → IsSetupWithin most (setup_text setup) setup
      go [] e = absurd (omega (arith, whole.names.scheme.some, ap length e))
      go (lowest ∷ higher) e =
          let all : declarations_of setup ≡ ranks lowest higher ∷ categories cats ∷ body_lines setup = ap (λ l. rank_lines l ++ categories cats ∷ body_lines setup) e in
          let same : setup.names.scheme ≡ record { ranks = lowest ∷ higher; categories = cats } = (λ i. record { ranks = e i; categories = cats }) in
          let names : AllByRecursion IsName (lowest ∷ higher) = subst (AllByRecursion IsName) e (recursion_from_All IsName setup.names.scheme.ranks whole.names.scheme.ranks.proper) in
          let proper : AllProper (ranks lowest higher ∷ categories cats ∷ body_lines setup) =
          ((tt, (names.0, proper-names higher names.1)), ((tt, proper-names cats (recursion_from_All IsName cats whole.names.scheme.categories.proper)), body-proper setup whole)) in
          record {
            size = size;
            lowest = lowest;
            higher = higher;
            names = cats;
            declarations = body_lines setup;
            spelled = subst (λ ds. Spells (lines_read (joined (map line_text ds))) (ranks lowest higher ∷ categories cats ∷ body_lines setup)) (sym all)
                (text-spells again (ranks lowest higher ∷ categories cats ∷ body_lines setup) proper);
            scheme = subst IsScheme same whole.names.scheme;
            leads = subst (λ s. Leads (of_scheme s) (body_lines setup) setup) same (leads none setup whole);
          }
