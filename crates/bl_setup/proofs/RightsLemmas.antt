-- Which rights the lines of a setup file give.
use Rattle.std.proofs.Common.{◌≡◌, ◌↔◌, ◌⊎◌, ℕ, zero, suc, ◌+◌, ◌<◌, Bool, true, false, not, cond, ◌&&◌, ◌||◌, ◌==◌, ltb, ltb-true, lt-ltb, bytes_eq, List, [], ◌∷◌, ◌++◌, length, length-append, Some, None, refl, sym, ap, subst, ◌∙◌, inl, inr, arith}
use Rattle.std.specs.Prelude.{IsTrue, Contains}
use Rattle.std.specs.List.{prefix_len, position_or_len}
use Rattle.std.proofs.lemmas.List.{append-nil, append_assoc}
use Rattle.std.proofs.lemmas.Bool.Decides.{nat_tests}
use Rattle.bl_level.specs.Table.{place_of}
use Rattle.bl_policy.specs.declared.access.Mode.{Mode}
use Rattle.bl_policy.specs.declared.access.ModeSet.{ModeSet}
use Rattle.bl_policy.specs.Matrix.{Matrix, Triple, triple, is_in, put_modes}
use Rattle.bl_policy.specs.Mode.{has_mode}
use Rattle.bl_policy.specs.Policy.{allows}
use Rattle.bl_policy.proofs.Triples.{is_at, is_in-put_modes}
use Rattle.bl_level.specs.Scheme.{SchemeNames}
use Rattle.bl_setup.specs.Agreement.{of_scheme}
use Rattle.bl_setup.specs.Setup.{Setup}
use Rattle.bl_declare.specs.Declaration.{Declaration, AllowText, ranks, categories, subject, document, allow}
use Rattle.bl_setup.specs.Grammar.{AddsModes, Leads}
use Rattle.bl_setup.specs.WholeLists.{rights_of, IsNamed}

-- the first that passes is the first with more behind it
still_first : (p : List ℕ → Bool) (xs ys : List (List ℕ)) → prefix_len p xs < length xs → prefix_len p (xs ++ ys) ≡ prefix_len p xs
still_first p [] ys lt = absurd (omega (arith, lt))
still_first p (x ∷ xs) ys lt = go (p x) (still_first p xs ys) lt
  where
    go : (b : Bool) → (prefix_len p xs < length xs → prefix_len p (xs ++ ys) ≡ prefix_len p xs) → cond b (1 + prefix_len p xs) 0 < suc (length xs)
        → cond b (1 + prefix_len p (xs ++ ys)) 0 ≡ cond b (1 + prefix_len p xs) 0
    go true more h = ap (λ n. 1 + n) (more (omega (arith, h)))
    go false more h = refl

-- a name keeps its place with more names behind
place_stays : (n : List ℕ) (xs ys : List (List ℕ)) (i : ℕ) → place_of n xs ≡ Some i → place_of n (xs ++ ys) ≡ Some i
place_stays n xs ys i = go (ltb (position_or_len (bytes_eq n) xs) (length xs)) refl
  where
    go : (b : Bool) → ltb (position_or_len (bytes_eq n) xs) (length xs) ≡ b → cond b (Some (position_or_len (bytes_eq n) xs)) None ≡ Some i
        → place_of n (xs ++ ys) ≡ Some i
    go true lt is =
        let within : position_or_len (bytes_eq n) xs < length xs = ltb-true (position_or_len (bytes_eq n) xs) (length xs) lt in
        let same = still_first (λ x. not (bytes_eq n x)) xs ys within in
        let inside : ltb (position_or_len (bytes_eq n) (xs ++ ys)) (length (xs ++ ys)) ≡ true =
        lt-ltb (position_or_len (bytes_eq n) (xs ++ ys)) (length (xs ++ ys)) (omega (arith, within, same, length-append xs ys)) in
        ap (λ b. cond b (Some (position_or_len (bytes_eq n) (xs ++ ys))) None) inside ∙ ap Some same ∙ is
    go false ge is = absurd (cc)

and_both : (a b : Bool) → IsTrue (a && b) → IsTrue a × IsTrue b
and_both true b h = (refl, h)
and_both false b h = absurd (cc)

or_either : (a b : Bool) → IsTrue (a || b) → IsTrue a ⊎ IsTrue b
or_either true b h = inl refl
or_either false b h = inr h

or_left : (a b : Bool) → IsTrue a → IsTrue (a || b)
or_left true b h = refl
or_left false b h = absurd (cc)

or_right : (a b : Bool) → IsTrue b → IsTrue (a || b)
or_right true b h = refl
or_right false b h = h

same_number : (a b : ℕ) → IsTrue (a == b) → a ≡ b
same_number a b h = grind (arith, nat_tests)

-- what a set of modes puts into the matrix
put_gives : (m : Matrix) (s o : ℕ) (modes : ModeSet) (t : Triple) → IsTrue (is_in (put_modes m s o modes) t)
    → (((t.subject ≡ s) × (t.document ≡ o)) × IsTrue (has_mode modes t.mode)) ⊎ IsTrue (is_in m t)
put_gives m s o modes t h = go (or_either ((is_at t s o) && has_mode modes t.mode) (is_in m t) (sym (is_in-put_modes m s o modes t) ∙ h))
  where
    go : IsTrue (is_at t s o && has_mode modes t.mode) ⊎ IsTrue (is_in m t) → (((t.subject ≡ s) × (t.document ≡ o)) × IsTrue (has_mode modes t.mode)) ⊎ IsTrue (is_in m t)
    go (inl put) =
        let two = and_both (is_at t s o) (has_mode modes t.mode) put in
        let at = and_both (t.subject == s) (t.document == o) two.0 in
        inl ((same_number t.subject s at.0, same_number t.document o at.1), two.1)
    go (inr old) = inr old

put_is_there : (m : Matrix) (s o : ℕ) (modes : ModeSet) (mode : Mode) → IsTrue (has_mode modes mode) → IsTrue (is_in (put_modes m s o modes) (triple s o mode))
put_is_there m s o modes mode h =
    let test : ((is_at (triple s o mode) s o && has_mode modes mode) || is_in m (triple s o mode)) ≡ true =
    or_left (is_at (triple s o mode) s o && has_mode modes mode) (is_in m (triple s o mode)) (both s o (has_mode modes mode) h) in
    is_in-put_modes m s o modes (triple s o mode) ∙ test
  where
    both : (a b : ℕ) (c : Bool) → IsTrue c → IsTrue (((a == a) && (b == b)) && c)
    both a b c h = grind (arith, nat_tests)

old_is_there : (m : Matrix) (s o : ℕ) (modes : ModeSet) (t : Triple) → IsTrue (is_in m t) → IsTrue (is_in (put_modes m s o modes) t)
old_is_there m s o modes t h = is_in-put_modes m s o modes t ∙ or_right (is_at t s o && has_mode modes t.mode) (is_in m t) h

-- The names that were there keep their places, and a triple is in the matrix where it was before, or where some line names it.
record Rights (before : Setup) (lines : List AllowText) (after : Setup) : Type 0 where
  pub subjects : List (List ℕ)
  pub subjects_grown : after.names.subjects ≡ before.names.subjects ++ subjects
  pub documents : List (List ℕ)
  pub documents_grown : after.names.documents ≡ before.names.documents ++ documents
  pub gives : (s d : ℕ) (mode : Mode) → IsTrue (allows after.policy s d mode) → IsTrue (allows before.policy s d mode) ⊎ IsNamed after.names lines s d mode
  pub keeps : (s d : ℕ) (mode : Mode) → IsTrue (allows before.policy s d mode) → IsTrue (allows after.policy s d mode)
  pub puts : (s d : ℕ) (mode : Mode) → IsNamed after.names lines s d mode → IsTrue (allows after.policy s d mode)

grown : (whole next before rest more : List (List ℕ)) → next ≡ before ++ rest → whole ≡ next ++ more → whole ≡ before ++ (rest ++ more)
grown whole next before rest more e f = f ∙ ap (λ y. y ++ more) e ∙ append_assoc before rest more

-- a declaration that leaves the matrix, and adds these names
with_names : (before next after : Setup) (lines : List AllowText) (subjects documents : List (List ℕ)) → next.names.subjects ≡ before.names.subjects ++ subjects
    → next.names.documents ≡ before.names.documents ++ documents → next.policy.matrix ≡ before.policy.matrix → Rights next lines after → Rights before lines after
with_names before next after lines subjects documents s d m r =
    record {
      subjects = subjects ++ r.subjects;
      subjects_grown = grown after.names.subjects next.names.subjects before.names.subjects subjects r.subjects s r.subjects_grown;
      documents = documents ++ r.documents;
      documents_grown = grown after.names.documents next.names.documents before.names.documents documents r.documents d r.documents_grown;
      gives = λ a b mode h. subst (λ x. IsTrue (is_in x (triple a b mode)) ⊎ IsNamed after.names lines a b mode) m (r.gives a b mode h);
      keeps = λ a b mode h. r.keeps a b mode (subst (λ x. IsTrue (is_in x (triple a b mode))) (sym m) h);
      puts = r.puts;
    }

module _ (before : Setup) (line : AllowText) (lines : List AllowText) (next after : Setup) (a : AddsModes before line next) (r : Rights next lines after) where
  subjects_are : after.names.subjects ≡ before.names.subjects ++ r.subjects
  subjects_are = r.subjects_grown ∙ ap (λ x. x.names.subjects ++ r.subjects) a.is

  documents_are : after.names.documents ≡ before.names.documents ++ r.documents
  documents_are = r.documents_grown ∙ ap (λ x. x.names.documents ++ r.documents) a.is

  -- the subject and the document of the line are those that it names in the end
  subject_in_the_end : place_of line.subject after.names.subjects ≡ Some a.subject
  subject_in_the_end = ap (place_of line.subject) subjects_are ∙ place_stays line.subject before.names.subjects r.subjects a.subject a.subject_is

  document_in_the_end : place_of line.document after.names.documents ≡ Some a.document
  document_in_the_end = ap (place_of line.document) documents_are ∙ place_stays line.document before.names.documents r.documents a.document a.document_is

  matrix_is : next.policy.matrix ≡ put_modes before.policy.matrix a.subject a.document a.modes
  matrix_is = ap (λ x. x.policy.matrix) a.is

  later : (s d : ℕ) (mode : Mode) → IsNamed after.names lines s d mode → IsNamed after.names (line ∷ lines) s d mode
  later s d mode n = record { line = n.line; there = behind n.there; subject_is = n.subject_is; document_is = n.document_is; mode_is = n.mode_is }
    where
      behind : Contains lines n.line → Contains (line ∷ lines) n.line
      behind (k, within, is) = (suc k, omega (arith, within), is)

  line_gives : (s d : ℕ) (mode : Mode) → IsTrue (allows after.policy s d mode) → IsTrue (allows before.policy s d mode) ⊎ IsNamed after.names (line ∷ lines) s d mode
  line_gives s d mode h = go (r.gives s d mode h)
    where
      own : (((s ≡ a.subject) × (d ≡ a.document)) × IsTrue (has_mode a.modes mode)) ⊎ IsTrue (is_in before.policy.matrix (triple s d mode))
          → IsTrue (allows before.policy s d mode) ⊎ IsNamed after.names (line ∷ lines) s d mode
      own (inl ((subject_at, document_at), has)) =
          inr (record {
            line = line;
            there = (0, omega arith, refl);
            subject_is = subject_in_the_end ∙ ap Some (sym subject_at);
            document_is = document_in_the_end ∙ ap Some (sym document_at);
            mode_is = (a.modes_are mode).0 has;
          })
      own (inr old) = inl old

      go : IsTrue (allows next.policy s d mode) ⊎ IsNamed after.names lines s d mode → IsTrue (allows before.policy s d mode) ⊎ IsNamed after.names (line ∷ lines) s d mode
      go (inl new) = own (put_gives before.policy.matrix a.subject a.document a.modes (triple s d mode) (subst (λ x. IsTrue (is_in x (triple s d mode))) matrix_is new))
      go (inr named) = inr (later s d mode named)

  from_next : (s d : ℕ) (mode : Mode) → IsTrue (is_in (put_modes before.policy.matrix a.subject a.document a.modes) (triple s d mode)) → IsTrue (allows after.policy s d mode)
  from_next s d mode h = r.keeps s d mode (subst (λ x. IsTrue (is_in x (triple s d mode))) (sym matrix_is) h)

  line_keeps : (s d : ℕ) (mode : Mode) → IsTrue (allows before.policy s d mode) → IsTrue (allows after.policy s d mode)
  line_keeps s d mode h = from_next s d mode (old_is_there before.policy.matrix a.subject a.document a.modes (triple s d mode) h)

  -- the line itself
  line_puts : (s d : ℕ) (mode : Mode) (other : AllowText) → line ≡ other → place_of other.subject after.names.subjects ≡ Some s → place_of other.document after.names.documents ≡ Some d
      → Contains (other.mode ∷ other.modes) mode → IsTrue (allows after.policy s d mode)
  line_puts s d mode other same subject_is document_is there =
      let by_subject : Some a.subject ≡ Some s = sym subject_in_the_end ∙ ap (λ (x : AllowText). place_of x.subject after.names.subjects) same ∙ subject_is in
      let by_document : Some a.document ≡ Some d = sym document_in_the_end ∙ ap (λ (x : AllowText). place_of x.document after.names.documents) same ∙ document_is in
      let subject_at : a.subject ≡ s = cc in
      let document_at : a.document ≡ d = cc in
      let named : Contains (line.mode ∷ line.modes) mode = subst (λ (x : AllowText). Contains (x.mode ∷ x.modes) mode) (sym same) there in
      let put = from_next a.subject a.document mode (put_is_there before.policy.matrix a.subject a.document a.modes mode ((a.modes_are mode).1 named)) in
      subst (λ x. IsTrue (allows after.policy s x mode)) document_at (subst (λ x. IsTrue (allows after.policy x a.document mode)) subject_at put)

  puts_all : (s d : ℕ) (mode : Mode) → IsNamed after.names (line ∷ lines) s d mode → IsTrue (allows after.policy s d mode)
  puts_all s d mode n = go n.there
    where
      go : Contains (line ∷ lines) n.line → IsTrue (allows after.policy s d mode)
      go (zero, within, is) = line_puts s d mode n.line is n.subject_is n.document_is n.mode_is
      go (suc k, within, is) =
          r.puts s d mode (record { line = n.line; there = (k, omega (arith, within), is); subject_is = n.subject_is; document_is = n.document_is; mode_is = n.mode_is })

  with_modes_of_a_line : Rights before (line ∷ lines) after
  with_modes_of_a_line =
      record { subjects = r.subjects; subjects_grown = subjects_are; documents = r.documents; documents_grown = documents_are; gives = line_gives; keeps = line_keeps; puts = puts_all }

rights_given : (ds : List Declaration) (before after : Setup) → Leads before ds after → Rights before (rights_of ds) after
rights_given [] before after e =
    record {
      subjects = [];
      subjects_grown = ap (λ x. x.names.subjects) e ∙ sym (append-nil before.names.subjects);
      documents = [];
      documents_grown = ap (λ x. x.names.documents) e ∙ sym (append-nil before.names.documents);
      gives = λ s d mode h. inl (subst (λ x. IsTrue (allows x.policy s d mode)) e h);
      keeps = λ s d mode h. subst (λ x. IsTrue (allows x.policy s d mode)) (sym e) h;
      puts = λ s d mode n. absurd (nothing_there n.line n.there);
    }
  where
    nothing_there : (line : AllowText) → Contains [] line → ⊥
    nothing_there line (k, within, is) = omega (arith, within)
rights_given (ranks lowest higher ∷ ds) before after (next, a, l) = absurd a
rights_given (categories names ∷ ds) before after (next, a, l) = absurd a
rights_given (subject s ∷ ds) before after (next, a, l) =
    with_names before next after (rights_of ds) (s.name ∷ []) [] (ap (λ x. x.names.subjects) a.is) (ap (λ x. x.names.documents) a.is ∙ sym (append-nil before.names.documents)) (ap (λ x. x.policy.matrix) a.is)
    (rights_given ds next after l)
rights_given (document d ∷ ds) before after (next, a, l) =
    with_names before next after (rights_of ds) [] (d.name ∷ []) (ap (λ x. x.names.subjects) a.is ∙ sym (append-nil before.names.subjects)) (ap (λ x. x.names.documents) a.is) (ap (λ x. x.policy.matrix) a.is)
    (rights_given ds next after l)
rights_given (allow line ∷ ds) before after (next, a, l) = with_modes_of_a_line before line (rights_of ds) next after a (rights_given ds next after l)

-- from a scheme alone, the rights are just those that some line names
pub rights_are_named : (scheme : SchemeNames) (ds : List Declaration) (after : Setup) → Leads (of_scheme scheme) ds after
    → (s d : ℕ) (mode : Mode) → IsTrue (allows after.policy s d mode) ↔ IsNamed after.names (rights_of ds) s d mode
rights_are_named scheme ds after l s d mode = (λ h. go (r.gives s d mode h), r.puts s d mode)
  where
    r : Rights (of_scheme scheme) (rights_of ds) after
    r = rights_given ds (of_scheme scheme) after l

    go : IsTrue (allows (of_scheme scheme).policy s d mode) ⊎ IsNamed after.names (rights_of ds) s d mode → IsNamed after.names (rights_of ds) s d mode
    go (inl none) = absurd (cc)
    go (inr named) = named
