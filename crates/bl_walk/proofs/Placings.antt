-- Documents by their places: what their names have, and what accesses of them declare.
use Rattle.std.proofs.Common.{◌≡◌, ◌≢◌, ℕ, zero, suc, ◌<◌, true, Bool, ◌&&◌, inl, inr, List, [], ◌∷◌, ◌++◌, length, map, get_or, Some, refl, sym, ap, ◌∙◌, subst, arith, length-append}
use Rattle.std.specs.Prelude.{All, AllPairs, Contains, unwrap_or, ◌==◌}
use Rattle.std.specs.List.{list_any}
use Rattle.std.specs.Str.{bytes_eq}
use Rattle.std.proofs.lemmas.Bool.{and_parts, and_from, or_cases, or_left, or_right, eq-eqb}
use Rattle.std.proofs.lemmas.Bool.Decides.{Decides-eqb}
use Rattle.std.proofs.lemmas.Slice.Eq.{bytes_eq-Decides}
use Rattle.std.proofs.lemmas.List.Elements.{All-cons, All-nil, All-head, All-tail, All-push}
use Rattle.bl_level.specs.Table.{place_of}
use Rattle.bl_level.specs.Lexing.{token, front, past_blanks}
use Rattle.bl_level.specs.Token.{Tok, reserved, name, sign}
use Rattle.bl_name.proofs.Tables.{in_table}
use Rattle.bl_name.specs.declared.token.Sign.TheVariants.{Comma}
use Rattle.bl_policy.specs.declared.access.Access.{Access}
use Rattle.bl_policy.specs.declared.access.Mode.{Mode}
use Rattle.bl_level.proofs.LevelTexts.{placed}
use Rattle.bl_work.proofs.Widths.{name_is}
use Rattle.bl_work.specs.Meaning.{document_of, access_of}
use Rattle.bl_work.specs.Modes.{declares}
use Rattle.bl_work.specs.Names.{KnownNames, AreNames}
use Rattle.bl_work.specs.Spelled.{SpelledAccess, mode_word, spell_access, spell_more}
use Rattle.bl_work.specs.WhenFaults.{documents_in, declarations_behind, Declaration, IsOnce, IsDeclared}
use Rattle.bl_walk.specs.Placed.{name_at, IsPlaced, IsOfDocument, spelled_access, spelled_accesses, spell_accesses, TakesAccess, TakesAccesses}
use Rattle.bl_walk.specs.Takes.{IsCut, Takes}
use Rattle.bl_walk.proofs.Takings.{takes_join, takes_then}
use Rattle.bl_work.specs.Script.{most_accesses}
use Rattle.std.proofs.lemmas.List.{map-append}
use Rattle.std.proofs.lemmas.List.Quantifiers.{all_pairs_push}
use Rattle.bl_walk.proofs.Cuts.{name_front}

-- the tokens of accesses, and then these
pub more_then : (more : List SpelledAccess) (ts : List Tok) → spell_more more ts ≡ spell_more more [] ++ ts
more_then [] ts = refl
more_then (a ∷ more) ts = ap (λ l. sign Comma ∷ reserved (mode_word a.mode) ∷ name a.document ∷ l) (more_then more ts)

more_push : (more : List SpelledAccess) (a : SpelledAccess) → spell_more (more ++ a ∷ []) [] ≡ spell_more more [] ++ (sign Comma ∷ spell_access a [])
more_push [] a = refl
more_push (b ∷ more) a = ap (λ l. sign Comma ∷ reserved (mode_word b.mode) ∷ name b.document ∷ l) (more_push more a)

module _ (names : KnownNames) where
  -- the place of its name is the document's
  pub document_placed : (doc : ℕ) → IsPlaced names doc → doc ≡ document_of names (name_at names doc)
  document_placed doc is = sym (ap (λ o. unwrap_or o 0) is)

  pub known_placed : (doc : ℕ) → IsPlaced names doc → Contains names.documents (name_at names doc)
  known_placed doc is = placed (name_at names doc) names.documents doc is

  -- what stands at a place that was found
  pub placed_found : (word : List ℕ) (doc : ℕ) → place_of word names.documents ≡ Some doc → word ≡ name_at names doc
  placed_found word doc is = name_is names.documents word doc is

  pub is_placed : (word : List ℕ) (doc : ℕ) → place_of word names.documents ≡ Some doc → IsPlaced names doc
  is_placed word doc is = subst (λ w. place_of w names.documents ≡ Some doc) (placed_found word doc is) is

  -- an access that was looked up
  pub access_taken : (mode : Mode) (doc : ℕ) (bytes behind word rest : List ℕ) → AreNames names
      → front (past_blanks bytes) ≡ token (reserved (mode_word mode)) behind → IsCut (past_blanks behind) word rest → place_of word names.documents ≡ Some doc
      → TakesAccess names bytes rest (record { mode = mode; doc = doc })
  access_taken mode doc bytes behind word rest are begins cut is =
      let same = placed_found word doc is in
      let proper = in_table word names.documents are.documents (placed word names.documents doc is) in
      record {
        placed = is_placed word doc is;
        takes = (behind, begins, (rest, name_front word (past_blanks behind) rest proper cut ∙ ap (λ w. token (name w) rest) same, refl));
      }

  -- each access as it is spelled is the access
  pub accesses_placed : (accesses : List Access) → All (IsOfDocument names) accesses → accesses ≡ map (access_of names) (spelled_accesses names accesses)
  accesses_placed [] are = refl
  accesses_placed (a ∷ accesses) are =
      let here = document_placed a.doc (All-head (IsOfDocument names) a accesses are) in
      let later = accesses_placed accesses (All-tail (IsOfDocument names) a accesses are) in
      λ i. record { mode = a.mode; doc = here i } ∷ later i

  pub documents_known : (accesses : List Access) → All (IsOfDocument names) accesses → All (Contains names.documents) (documents_in (spelled_accesses names accesses))
  documents_known [] are = All-nil (Contains names.documents)
  documents_known (a ∷ accesses) are =
      All-cons (Contains names.documents) (name_at names a.doc) (documents_in (spelled_accesses names accesses))
      (known_placed a.doc (All-head (IsOfDocument names) a accesses are)) (documents_known accesses (All-tail (IsOfDocument names) a accesses are))

  -- documents of one name are one
  one_document : (doc other : ℕ) → IsPlaced names doc → IsPlaced names other → name_at names doc ≡ name_at names other → doc ≡ other
  one_document doc other is that same =
      document_placed doc is ∙ ap (document_of names) same ∙ sym (document_placed other that)

  -- ---- no document twice

  not_in : (x : List ℕ) (earlier : List (List ℕ)) (y : List ℕ) → (x ≡ y → ⊥) → (Contains earlier y → ⊥) → Contains (x ∷ earlier) y → ⊥
  not_in x earlier y other none (zero, within, at) = other at
  not_in x earlier y other none (suc j, within, at) = none (j, omega (arith, within), at)

  -- no two are of one document
  abbrev Apart : Access → Access → Type 0
  Apart a b = a.doc ≢ b.doc

  pub apart_once : (accesses : List Access) (earlier : List (List ℕ)) → All (IsOfDocument names) accesses → AllPairs Apart accesses
      → All (λ (a : Access). Contains earlier (name_at names a.doc) → ⊥) accesses → All IsOnce (declarations_behind earlier (spelled_accesses names accesses))
  apart_once [] earlier are apart new = All-nil IsOnce
  apart_once (a ∷ accesses) earlier are apart new =
      let here : Declaration = record { earlier = earlier; document = name_at names a.doc } in
      let own = All-head (IsOfDocument names) a accesses are in
      let others = All-tail (IsOfDocument names) a accesses are in
      let later : All (λ (b : Access). Contains (name_at names a.doc ∷ earlier) (name_at names b.doc) → ⊥) accesses =
      λ k d lt. not_in (name_at names a.doc) earlier (name_at names (get_or accesses k d).doc)
      (λ same. apart 0 (suc k) d (omega arith) (omega (arith, lt)) (one_document a.doc (get_or accesses k d).doc own (others k d lt) same))
      (All-tail (λ (b : Access). Contains earlier (name_at names b.doc) → ⊥) a accesses new k d lt) in
      All-cons IsOnce here (declarations_behind (name_at names a.doc ∷ earlier) (spelled_accesses names accesses))
      (All-head (λ (b : Access). Contains earlier (name_at names b.doc) → ⊥) a accesses new)
      (apart_once accesses (name_at names a.doc ∷ earlier) others (λ i j d lt within. apart (suc i) (suc j) d (omega (arith, lt)) (omega (arith, within))) later)

  -- none is declared twice in one `when`
  pub accesses_once : (accesses : List Access) → All (IsOfDocument names) accesses → AllPairs Apart accesses
      → All IsOnce (declarations_behind [] (spelled_accesses names accesses))
  accesses_once accesses are apart = apart_once accesses [] are apart (λ k d lt (j, within, at). omega (arith, within))

  -- ---- what is declared

  -- what is declared by its place is declared by its name
  declared_named : (test : Mode → Bool) (accesses : List Access) (doc : ℕ) → declares test accesses doc ≡ true
      → list_any (λ (a : SpelledAccess). bytes_eq a.document (name_at names doc) && test a.mode) (spelled_accesses names accesses) ≡ true
  declared_named test [] doc h = h
  declared_named test (a ∷ accesses) doc h =
      elim (or_cases ((a.doc == doc) && test a.mode) (declares test accesses doc) h) [
        | inl here ↦
            let parts = and_parts (a.doc == doc) (test a.mode) here in
            or_left (bytes_eq (name_at names a.doc) (name_at names doc) && test a.mode)
            (list_any (λ (a : SpelledAccess). bytes_eq a.document (name_at names doc) && test a.mode) (spelled_accesses names accesses))
            (and_from (bytes_eq (name_at names a.doc) (name_at names doc)) (test a.mode)
            ((bytes_eq-Decides (name_at names a.doc) (name_at names doc)).1 (ap (name_at names) ((Decides-eqb a.doc doc).0 parts.0))) parts.1)
        | inr later ↦
            or_right (bytes_eq (name_at names a.doc) (name_at names doc) && test a.mode)
            (list_any (λ (a : SpelledAccess). bytes_eq a.document (name_at names doc) && test a.mode) (spelled_accesses names accesses))
            (declared_named test accesses doc later)
      ]

  pub use_declared : (test : Mode → Bool) (accesses : List Access) (doc : ℕ) → declares test accesses doc ≡ true
      → IsDeclared (record { declared = spelled_accesses names accesses; asked = test; document = name_at names doc })
  use_declared test accesses doc h = declared_named test accesses doc h

  -- ---- one more access

  spelled_push : (accesses : List Access) (a : Access) → 0 < length accesses
      → spell_accesses (spelled_accesses names (accesses ++ a ∷ [])) [] ≡ spell_accesses (spelled_accesses names accesses) [] ++ (sign Comma ∷ spell_access (spelled_access names a) [])
  spelled_push [] a some = absurd (omega arith)
  spelled_push (b ∷ accesses) a some =
      ap (λ l. spell_access (spelled_access names b) (spell_more l [])) (map-append (spelled_access names) accesses (a ∷ []))
      ∙ ap (λ l. spell_access (spelled_access names b) l) (more_push (spelled_accesses names accesses) (spelled_access names a))

  pub accesses_more : (bytes mid behind rest : List ℕ) (accesses : List Access) (a : Access) → TakesAccesses names bytes mid accesses → Takes mid (sign Comma ∷ []) behind
      → TakesAccess names behind rest a → length accesses < most_accesses → All (λ (b : Access). b.doc ≢ a.doc) accesses → TakesAccesses names bytes rest (accesses ++ a ∷ [])
  accesses_more bytes mid behind rest accesses a taken comma one few others = record {
    some = omega (arith, length-append accesses (a ∷ []));
    few = omega (arith, few, length-append accesses (a ∷ []));
    placed = All-push (IsOfDocument names) accesses a taken.placed one.placed;
    apart = all_pairs_push Apart accesses a taken.apart (λ k d lt. others k d lt);
    takes = subst (λ l. Takes bytes l rest) (sym (spelled_push accesses a taken.some))
        (takes_join (spell_accesses (spelled_accesses names accesses) []) (sign Comma ∷ spell_access (spelled_access names a) []) bytes mid rest taken.takes
        (takes_then (sign Comma) (spell_access (spelled_access names a) []) mid behind rest comma one.takes));
  }

-- one of the accesses declares its document
pub declared_by : (test : Mode → Bool) (accesses : List Access) (k : ℕ) (a : Access) → k < length accesses → get_or accesses k a ≡ a → test a.mode ≡ true
    → declares test accesses a.doc ≡ true
declared_by test [] k a lt at passes = absurd (omega arith)
declared_by test (x ∷ xs) zero a lt at passes =
    or_left ((x.doc == a.doc) && test x.mode) (declares test xs a.doc)
    (and_from (x.doc == a.doc) (test x.mode) (eq-eqb x.doc a.doc (ap (λ (y : Access). y.doc) at)) (ap (λ (y : Access). test y.mode) at ∙ passes))
declared_by test (x ∷ xs) (suc k) a lt at passes =
    or_right ((x.doc == a.doc) && test x.mode) (declares test xs a.doc) (declared_by test xs k a (omega (arith, lt)) at passes)
