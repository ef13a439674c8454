-- A `when` whose names are documents' and that stands for a script is faultless, its texts are contents, and its tokens are proper.
use Rattle.std.proofs.Common.{◌≡◌, ◌≢◌, ℕ, zero, suc, ◌+◌, Bool, true, false, ◌&&◌, ◌||◌, List, [], ◌∷◌, ◌++◌, map, refl, ap, subst, arith}
use Rattle.std.specs.Prelude.{All, Contains, ◌==◌}
use Rattle.std.specs.List.{list_any}
use Rattle.std.specs.Str.{bytes_eq}
use Rattle.std.proofs.lemmas.Bool.{and_parts, and_from, eqb-true}
use Rattle.std.proofs.lemmas.List.{length-map}
use Rattle.std.proofs.lemmas.List.Elements.{All-cons, All-nil, All-head, All-tail, All-append, All-from_get_or, All-contains}
use Rattle.std.proofs.lemmas.Slice.Eq.{bytes_eq-Decides}
use Rattle.bl_name.specs.declared.token.Keyword.TheVariants.{Do, End, Else}
use Rattle.bl_name.specs.declared.token.Sign.TheVariants.{Semicolon}
use Rattle.bl_level.specs.Name.{IsName, AreProper}
use Rattle.bl_level.specs.Token.{Tok, reserved, sign}
use Rattle.bl_policy.specs.declared.access.Access.{Access}
use Rattle.bl_policy.specs.declared.access.Mode.{Mode}
use Rattle.bl_work.specs.Meaning.{whens, document_of, access_of, numbered, spawned_from, script_of}
use Rattle.bl_work.specs.Modes.{observes, alters, is_write, declares, KeepsModes}
use Rattle.bl_work.specs.Names.{KnownNames}
use Rattle.bl_work.specs.Script.{HasContents, AreApart, IsBehaviour, IsScript}
use Rattle.bl_work.specs.Spelled.{SpelledAccess, SpelledBody, empty, show, say, add, set, copy, pour, if_then, if_else, spawn, spell_more, spell_body, spell_when}
use Rattle.bl_work.specs.Statements.{Part}
use Rattle.bl_work.specs.WhenFaults.{lists_in, documents_in, names_in, names_of_when, declarations_behind, declarations_in, IsOnce, uses_in, IsDeclared, IsFaultless, AreContents}
use Rattle.bl_work.proofs.Behaviours.{one_place, IsShort, IsRight, used}
use Rattle.bl_work.proofs.Lists.{proper_append}
use Rattle.bl_work.proofs.Numbering.{script_long, script_depth}
use Rattle.bl_write.proofs.ReadBack.{IsDocument}
use Rattle.bl_work.proofs.WhenFaults.{all_left, all_right}

-- ---- what is declared by its place is declared by its name

or_right : (a b : Bool) → b ≡ true → (a || b) ≡ true
or_right true b h = refl
or_right false b h = h

module _ (names : KnownNames) where
  declared_name : (test : Mode → Bool) (list : List SpelledAccess) (d : List ℕ) → All (IsDocument names) (documents_in list) → IsDocument names d
      → declares test (map (access_of names) list) (document_of names d) ≡ true → list_any (λ (a : SpelledAccess). bytes_eq a.document d && test a.mode) list ≡ true
  declared_name test [] d listed known h = h
  declared_name test (a ∷ list) d listed known h =
      go ((document_of names a.document == document_of names d) && test a.mode) refl h (declared_name test list d (All-tail (IsDocument names) a.document (documents_in list) listed) known)
    where
      go : (b : Bool) → ((document_of names a.document == document_of names d) && test a.mode) ≡ b → (b || declares test (map (access_of names) list) (document_of names d)) ≡ true
          → (declares test (map (access_of names) list) (document_of names d) ≡ true → list_any (λ (a : SpelledAccess). bytes_eq a.document d && test a.mode) list ≡ true)
          → ((bytes_eq a.document d && test a.mode) || list_any (λ (a : SpelledAccess). bytes_eq a.document d && test a.mode) list) ≡ true
      go true e now later =
          let parts = and_parts (document_of names a.document == document_of names d) (test a.mode) e in
          let same : a.document ≡ d =
          one_place names.documents a.document d (All-head (IsDocument names) a.document (documents_in list) listed) known (eqb-true (document_of names a.document) (document_of names d) parts.0) in
          let is : bytes_eq a.document d ≡ true = let e = bytes_eq-Decides a.document d in grind (arith, e, same) in
          ap (λ b. b || list_any (λ (a : SpelledAccess). bytes_eq a.document d && test a.mode) list) (and_from (bytes_eq a.document d) (test a.mode) is parts.1)
      go false e now later = or_right (bytes_eq a.document d && test a.mode) _ (later now)

  -- ---- documents that are declared apart are declared once

  -- no access of the list is of a document that was declared before
  abbrev AreNew : List (List ℕ) → List SpelledAccess → Type 0
  AreNew earlier list = (x : List ℕ) → Contains earlier x → All (λ (b : SpelledAccess). x ≢ b.document) list

  head_apart : (x : Access) (xs : List Access) → AreApart (x ∷ xs) → All (λ (y : Access). x.doc ≢ y.doc) xs
  head_apart x xs apart = All-from_get_or (λ (y : Access). x.doc ≢ y.doc) xs x (λ i within. apart 0 (suc i) x (omega arith) (omega arith))

  tail_apart : (x : Access) (xs : List Access) → AreApart (x ∷ xs) → AreApart xs
  tail_apart x xs apart = λ i j d less within. apart (suc i) (suc j) d (omega arith) (omega arith)

  others_new : (a : SpelledAccess) (list : List SpelledAccess) → All (λ (y : Access). document_of names a.document ≢ y.doc) (map (access_of names) list)
      → All (λ (b : SpelledAccess). a.document ≢ b.document) list
  others_new a [] apart = All-nil (λ (b : SpelledAccess). a.document ≢ b.document)
  others_new a (b ∷ list) apart =
      All-cons (λ (b : SpelledAccess). a.document ≢ b.document) b list
      (λ same. All-head (λ (y : Access). document_of names a.document ≢ y.doc) (access_of names b) (map (access_of names) list) apart (ap (document_of names) same))
      (others_new a list (All-tail (λ (y : Access). document_of names a.document ≢ y.doc) (access_of names b) (map (access_of names) list) apart))

  new_behind : (a : SpelledAccess) (list : List SpelledAccess) (earlier : List (List ℕ)) → All (λ (b : SpelledAccess). a.document ≢ b.document) list → AreNew earlier (a ∷ list)
      → AreNew (a.document ∷ earlier) list
  new_behind a list earlier apart new x (zero, lt, at) = subst (λ y. All (λ (b : SpelledAccess). y ≢ b.document) list) at apart
  new_behind a list earlier apart new x (suc k, lt, at) = All-tail (λ (b : SpelledAccess). x ≢ b.document) a list (new x (k, omega arith, at))

  declared_once : (list : List SpelledAccess) (earlier : List (List ℕ)) → AreApart (map (access_of names) list) → AreNew earlier list → All IsOnce (declarations_behind earlier list)
  declared_once [] earlier apart new = All-nil IsOnce
  declared_once (a ∷ list) earlier apart new =
      let others = others_new a list (head_apart (access_of names a) (map (access_of names) list) apart) in
      All-cons IsOnce (record { earlier = earlier; document = a.document }) (declarations_behind (a.document ∷ earlier) list)
      (λ there. All-head (λ (b : SpelledAccess). a.document ≢ b.document) a list (new a.document there) refl)
      (declared_once list (a.document ∷ earlier) (tail_apart (access_of names a) (map (access_of names) list) apart) (new_behind a list earlier others new))

  none_before : (list : List SpelledAccess) → AreNew [] list
  none_before list x (k, lt, at) = absurd (omega arith)

  -- ---- a body

  -- what a script says of a body in it, under these accesses, the behaviours that it spawns being numbered from this number on
  record IsOfScript (list : List SpelledAccess) (b : SpelledBody) (next : ℕ) : Type 0 where
    pub known : All (IsDocument names) (names_in b)
    pub each : All IsBehaviour (spawned_from names next b)
    pub modes : KeepsModes (map (access_of names) list) (numbered names next b)
    pub texts : HasContents (numbered names next b)

  abbrev IsUsed : (list : List SpelledAccess) (test : Mode → Bool) (d : List ℕ) → Type 0
  IsUsed list test d = IsDeclared (used names list test d)

  module _ (list : List SpelledAccess) (listed : All (IsDocument names) (documents_in list)) where
    use_is : (test : Mode → Bool) (d : List ℕ) → IsDocument names d → declares test (map (access_of names) list) (document_of names d) ≡ true → IsUsed list test d
    use_is test d known h = declared_name test list d listed known h

    abbrev RightAt : SpelledBody → Type 0
    RightAt b = (next : ℕ) → IsOfScript list b next → IsRight names list b

    right_show : (d : List ℕ) (r : SpelledBody) → RightAt r → RightAt (show d r)
    right_show d r rest_is next p =
        let here = All-head (IsDocument names) d (names_in r) p.known in
        let q = rest_is next (record { known = All-tail (IsDocument names) d (names_in r) p.known; each = p.each; modes = p.modes.1; texts = p.texts }) in
        record {
          short = q.short;
          known = p.known;
          once = q.once;
          declared = All-cons IsDeclared (used names list observes d) (uses_in list r) (use_is observes d here p.modes.0) q.declared;
          texts = q.texts;
        }

    right_say : (w : List ℕ) (r : SpelledBody) → RightAt r → RightAt (say w r)
    right_say w r rest_is next p =
        let q = rest_is next (record { known = p.known; each = p.each; modes = p.modes; texts = p.texts.1 }) in
        record { short = q.short; known = p.known; once = q.once; declared = q.declared; texts = (p.texts.0, q.texts) }

    right_add : (d w : List ℕ) (r : SpelledBody) → RightAt r → RightAt (add d w r)
    right_add d w r rest_is next p =
        let here = All-head (IsDocument names) d (names_in r) p.known in
        let q = rest_is next (record { known = All-tail (IsDocument names) d (names_in r) p.known; each = p.each; modes = p.modes.1; texts = p.texts.1 }) in
        record {
          short = q.short;
          known = p.known;
          once = q.once;
          declared = All-cons IsDeclared (used names list alters d) (uses_in list r) (use_is alters d here p.modes.0) q.declared;
          texts = (p.texts.0, q.texts);
        }

    right_set : (d w : List ℕ) (r : SpelledBody) → RightAt r → RightAt (set d w r)
    right_set d w r rest_is next p =
        let here = All-head (IsDocument names) d (names_in r) p.known in
        let q = rest_is next (record { known = All-tail (IsDocument names) d (names_in r) p.known; each = p.each; modes = p.modes.1; texts = p.texts.1 }) in
        record {
          short = q.short;
          known = p.known;
          once = q.once;
          declared = All-cons IsDeclared (used names list is_write d) (uses_in list r) (use_is is_write d here p.modes.0) q.declared;
          texts = (p.texts.0, q.texts);
        }

    right_copy : (d e : List ℕ) (r : SpelledBody) → RightAt r → RightAt (copy d e r)
    right_copy d e r rest_is next p =
        let later = All-tail (IsDocument names) d (e ∷ names_in r) p.known in
        let from = All-head (IsDocument names) d (e ∷ names_in r) p.known in
        let to = All-head (IsDocument names) e (names_in r) later in
        let q = rest_is next (record { known = All-tail (IsDocument names) e (names_in r) later; each = p.each; modes = p.modes.2; texts = p.texts }) in
        record {
          short = q.short;
          known = p.known;
          once = q.once;
          declared = All-cons IsDeclared (used names list observes d) (used names list is_write e ∷ uses_in list r) (use_is observes d from p.modes.0)
              (All-cons IsDeclared (used names list is_write e) (uses_in list r) (use_is is_write e to p.modes.1) q.declared);
          texts = q.texts;
        }

    right_pour : (d e : List ℕ) (r : SpelledBody) → RightAt r → RightAt (pour d e r)
    right_pour d e r rest_is next p =
        let later = All-tail (IsDocument names) d (e ∷ names_in r) p.known in
        let from = All-head (IsDocument names) d (e ∷ names_in r) p.known in
        let to = All-head (IsDocument names) e (names_in r) later in
        let q = rest_is next (record { known = All-tail (IsDocument names) e (names_in r) later; each = p.each; modes = p.modes.2; texts = p.texts }) in
        record {
          short = q.short;
          known = p.known;
          once = q.once;
          declared = All-cons IsDeclared (used names list observes d) (used names list alters e ∷ uses_in list r) (use_is observes d from p.modes.0)
              (All-cons IsDeclared (used names list alters e) (uses_in list r) (use_is alters e to p.modes.1) q.declared);
          texts = q.texts;
        }

  -- what a script says of a body makes it right
  right_is : (b : SpelledBody) (list : List SpelledAccess) → All (IsDocument names) (documents_in list) → (next : ℕ) → IsOfScript list b next → IsRight names list b
  right_is empty list listed next p = record {
    short = All-nil (IsShort names);
    known = p.known;
    once = All-nil IsOnce;
    declared = All-nil IsDeclared;
    texts = tt;
  }
  right_is (show d r) list listed next p = right_show list listed d r (right_is r list listed) next p
  right_is (say w r) list listed next p = right_say list listed w r (right_is r list listed) next p
  right_is (add d w r) list listed next p = right_add list listed d w r (right_is r list listed) next p
  right_is (set d w r) list listed next p = right_set list listed d w r (right_is r list listed) next p
  right_is (copy d e r) list listed next p = right_copy list listed d e r (right_is r list listed) next p
  right_is (pour d e r) list listed next p = right_pour list listed d e r (right_is r list listed) next p
  right_is (if_then d a w t r) list listed next p =
      let s = spawned_from names next t in
      let x = spawned_from names (next + whens t) r in
      let later = All-tail (IsDocument names) d (names_in t ++ names_in r) p.known in
      let here = All-head (IsDocument names) d (names_in t ++ names_in r) p.known in
      let q = right_is t list listed next (record {
        known = all_left (IsDocument names) (names_in t) (names_in r) later;
        each = all_left IsBehaviour s x p.each;
        modes = p.modes.1;
        texts = p.texts.1;
      }) in
      let o = right_is r list listed (next + whens t) (record {
        known = all_right (IsDocument names) (names_in t) (names_in r) later;
        each = all_right IsBehaviour s x p.each;
        modes = p.modes.3;
        texts = p.texts.3;
      }) in
      record {
        short = All-append (IsShort names) (lists_in t) (lists_in r) q.short o.short;
        known = p.known;
        once = All-append IsOnce (declarations_in t) (declarations_in r) q.once o.once;
        declared = All-cons IsDeclared (used names list observes d) (uses_in list t ++ uses_in list r) (use_is list listed observes d here p.modes.0)
            (All-append IsDeclared (uses_in list t) (uses_in list r) q.declared o.declared);
        texts = (p.texts.0, (q.texts, o.texts));
      }
  right_is (if_else d a w t e r) list listed next p =
      let s = spawned_from names next t in
      let y = spawned_from names (next + whens t) e in
      let x = spawned_from names (next + whens t + whens e) r in
      let later = All-tail (IsDocument names) d (names_in t ++ (names_in e ++ names_in r)) p.known in
      let last = all_right (IsDocument names) (names_in t) (names_in e ++ names_in r) later in
      let here = All-head (IsDocument names) d (names_in t ++ (names_in e ++ names_in r)) p.known in
      let behind = all_right IsBehaviour s (y ++ x) p.each in
      let q = right_is t list listed next (record {
        known = all_left (IsDocument names) (names_in t) (names_in e ++ names_in r) later;
        each = all_left IsBehaviour s (y ++ x) p.each;
        modes = p.modes.1;
        texts = p.texts.1;
      }) in
      let u = right_is e list listed (next + whens t) (record {
        known = all_left (IsDocument names) (names_in e) (names_in r) last;
        each = all_left IsBehaviour y x behind;
        modes = p.modes.2;
        texts = p.texts.2;
      }) in
      let o = right_is r list listed (next + whens t + whens e) (record {
        known = all_right (IsDocument names) (names_in e) (names_in r) last;
        each = all_right IsBehaviour y x behind;
        modes = p.modes.3;
        texts = p.texts.3;
      }) in
      record {
        short = All-append (IsShort names) (lists_in t) (lists_in e ++ lists_in r) q.short (All-append (IsShort names) (lists_in e) (lists_in r) u.short o.short);
        known = p.known;
        once = All-append IsOnce (declarations_in t) (declarations_in e ++ declarations_in r) q.once (All-append IsOnce (declarations_in e) (declarations_in r) u.once o.once);
        declared = All-cons IsDeclared (used names list observes d) (uses_in list t ++ (uses_in list e ++ uses_in list r)) (use_is list listed observes d here p.modes.0)
            (All-append IsDeclared (uses_in list t) (uses_in list e ++ uses_in list r) q.declared (All-append IsDeclared (uses_in list e) (uses_in list r) u.declared o.declared));
        texts = (p.texts.0, (q.texts, (u.texts, o.texts)));
      }
  right_is (spawn f m b r) list listed next p =
      let part : Part = record { accesses = map (access_of names) (f ∷ m); body = numbered names (next + 1) b } in
      let s = spawned_from names (next + 1) b in
      let x = spawned_from names (next + 1 + whens b) r in
      let own : IsBehaviour part = All-head IsBehaviour part (s ++ x) p.each in
      let behind = All-tail IsBehaviour part (s ++ x) p.each in
      let documents = all_left (IsDocument names) (documents_in (f ∷ m)) (names_in b ++ names_in r) p.known in
      let later = all_right (IsDocument names) (documents_in (f ∷ m)) (names_in b ++ names_in r) p.known in
      let q = right_is b (f ∷ m) documents (next + 1) (record {
        known = all_left (IsDocument names) (names_in b) (names_in r) later;
        each = all_left IsBehaviour s x behind;
        modes = own.modes;
        texts = own.texts;
      }) in
      let o = right_is r list listed (next + 1 + whens b) (record {
        known = all_right (IsDocument names) (names_in b) (names_in r) later;
        each = all_right IsBehaviour s x behind;
        modes = p.modes;
        texts = p.texts;
      }) in
      record {
        short = All-cons (IsShort names) (f ∷ m) (lists_in b ++ lists_in r) (omega (arith, length-map m (access_of names), own.few))
            (All-append (IsShort names) (lists_in b) (lists_in r) q.short o.short);
        known = p.known;
        once = All-append IsOnce (declarations_behind [] (f ∷ m)) (declarations_in b ++ declarations_in r) (declared_once (f ∷ m) [] own.apart (none_before (f ∷ m)))
            (All-append IsOnce (declarations_in b) (declarations_in r) q.once o.once);
        declared = All-append IsDeclared (uses_in (f ∷ m) b) (uses_in list r) q.declared o.declared;
        texts = (q.texts, o.texts);
      }

  -- ---- a `when`

  -- what a script says of the body of its outermost `when`
  whole_is : (f : SpelledAccess) (m : List SpelledAccess) (b : SpelledBody) → IsScript (script_of names f m b) → All (IsDocument names) (names_of_when f m b) → IsRight names (f ∷ m) b
  whole_is f m b script known =
      let part : Part = record { accesses = map (access_of names) (f ∷ m); body = numbered names 1 b } in
      let own : IsBehaviour part = All-head IsBehaviour part (spawned_from names 1 b) script.each in
      right_is b (f ∷ m) (all_left (IsDocument names) (documents_in (f ∷ m)) (names_in b) known) 1 (record {
        known = all_right (IsDocument names) (documents_in (f ∷ m)) (names_in b) known;
        each = All-tail IsBehaviour part (spawned_from names 1 b) script.each;
        modes = own.modes;
        texts = own.texts;
      })

  pub faultless_is : (f : SpelledAccess) (m : List SpelledAccess) (b : SpelledBody) → IsScript (script_of names f m b) → All (IsDocument names) (names_of_when f m b) → IsFaultless names f m b
  faultless_is f m b script known =
      let part : Part = record { accesses = map (access_of names) (f ∷ m); body = numbered names 1 b } in
      let own : IsBehaviour part = All-head IsBehaviour part (spawned_from names 1 b) script.each in
      let right = whole_is f m b script known in
      record {
        shallow = omega (arith, script_depth names f m b, script.shallow);
        few = record {
          whens = omega (arith, script_long names f m b, script.few);
          accesses = All-cons (IsShort names) (f ∷ m) (lists_in b) (omega (arith, length-map m (access_of names), own.few)) right.short;
        };
        known = known;
        once = All-append IsOnce (declarations_behind [] (f ∷ m)) (declarations_in b) (declared_once (f ∷ m) [] own.apart (none_before (f ∷ m))) right.once;
        declared = right.declared;
      }

  pub contents_are : (f : SpelledAccess) (m : List SpelledAccess) (b : SpelledBody) → IsScript (script_of names f m b) → All (IsDocument names) (names_of_when f m b) → AreContents b
  contents_are f m b script known = (whole_is f m b script known).texts

  -- ---- its tokens

  module _ (proper : All IsName names.documents) where
    name_proper : (d : List ℕ) → IsDocument names d → IsName d
    name_proper d known = All-contains IsName names.documents d proper known

    more_proper : (list : List SpelledAccess) (ts : List Tok) → All (IsDocument names) (documents_in list) → AreProper ts → AreProper (spell_more list ts)
    more_proper [] ts known p = p
    more_proper (a ∷ list) ts known p =
        (tt, (tt, (name_proper a.document (All-head (IsDocument names) a.document (documents_in list) known), more_proper list ts (All-tail (IsDocument names) a.document (documents_in list) known) p)))

    body_proper : (b : SpelledBody) → All (IsDocument names) (names_in b) → AreContents b → AreProper (spell_body b)
    body_proper empty known texts = tt
    body_proper (show d r) known texts =
        (tt, (name_proper d (All-head (IsDocument names) d (names_in r) known), (tt, body_proper r (All-tail (IsDocument names) d (names_in r) known) texts)))
    body_proper (say w r) known (words, texts) = (tt, (words.plain, (tt, body_proper r known texts)))
    body_proper (add d w r) known (words, texts) =
        (tt, (name_proper d (All-head (IsDocument names) d (names_in r) known), (words.plain, (tt, body_proper r (All-tail (IsDocument names) d (names_in r) known) texts))))
    body_proper (set d w r) known (words, texts) =
        (tt, (name_proper d (All-head (IsDocument names) d (names_in r) known), (words.plain, (tt, body_proper r (All-tail (IsDocument names) d (names_in r) known) texts))))
    body_proper (copy d e r) known texts =
        let later = All-tail (IsDocument names) d (e ∷ names_in r) known in (
          tt,
          (
            name_proper d (All-head (IsDocument names) d (e ∷ names_in r) known),
            (
              tt,
              (
                name_proper e (All-head (IsDocument names) e (names_in r) later),
                (tt, body_proper r (All-tail (IsDocument names) e (names_in r) later) texts),
              ),
            ),
          ),
        )
    body_proper (pour d e r) known texts =
        let later = All-tail (IsDocument names) d (e ∷ names_in r) known in (
          tt,
          (
            name_proper d (All-head (IsDocument names) d (e ∷ names_in r) known),
            (
              tt,
              (
                name_proper e (All-head (IsDocument names) e (names_in r) later),
                (tt, body_proper r (All-tail (IsDocument names) e (names_in r) later) texts),
              ),
            ),
          ),
        )
    body_proper (if_then d a w t r) known (words, (texts, others)) =
        let later = All-tail (IsDocument names) d (names_in t ++ names_in r) known in (
          tt,
          (
            name_proper d (All-head (IsDocument names) d (names_in t ++ names_in r) known),
            (
              tt,
              (
                words.plain,
                (
                  tt,
                  proper_append (spell_body t) (reserved End ∷ sign Semicolon ∷ spell_body r) (body_proper t (all_left (IsDocument names) (names_in t) (names_in r) later) texts)
                      (tt, (tt, body_proper r (all_right (IsDocument names) (names_in t) (names_in r) later) others)),
                ),
              ),
            ),
          ),
        )
    body_proper (if_else d a w t e r) known (words, (texts, (second, others))) =
        let later = All-tail (IsDocument names) d (names_in t ++ (names_in e ++ names_in r)) known in
        let last = all_right (IsDocument names) (names_in t) (names_in e ++ names_in r) later in (
          tt,
          (
            name_proper d (All-head (IsDocument names) d (names_in t ++ (names_in e ++ names_in r)) known),
            (
              tt,
              (
                words.plain,
                (
                  tt,
                  proper_append (spell_body t) (reserved Else ∷ (spell_body e ++ reserved End ∷ sign Semicolon ∷ spell_body r))
                      (body_proper t (all_left (IsDocument names) (names_in t) (names_in e ++ names_in r) later) texts) (
                        tt,
                        proper_append (spell_body e) (reserved End ∷ sign Semicolon ∷ spell_body r) (body_proper e (all_left (IsDocument names) (names_in e) (names_in r) last) second)
                            (tt, (tt, body_proper r (all_right (IsDocument names) (names_in e) (names_in r) last) others)),
                      ),
                ),
              ),
            ),
          ),
        )
    body_proper (spawn f m b r) known (texts, others) =
        let documents = all_left (IsDocument names) (documents_in (f ∷ m)) (names_in b ++ names_in r) known in
        let later = all_right (IsDocument names) (documents_in (f ∷ m)) (names_in b ++ names_in r) known in (
          tt,
          (
            tt,
            (
              tt,
              (
                name_proper f.document (All-head (IsDocument names) f.document (documents_in m) documents),
                more_proper m (reserved Do ∷ (spell_body b ++ reserved End ∷ sign Semicolon ∷ spell_body r)) (All-tail (IsDocument names) f.document (documents_in m) documents) (
                  tt,
                  proper_append (spell_body b) (reserved End ∷ sign Semicolon ∷ spell_body r) (body_proper b (all_left (IsDocument names) (names_in b) (names_in r) later) texts)
                      (tt, (tt, body_proper r (all_right (IsDocument names) (names_in b) (names_in r) later) others)),
                ),
              ),
            ),
          ),
        )

    pub when_proper : (f : SpelledAccess) (m : List SpelledAccess) (b : SpelledBody) → All (IsDocument names) (names_of_when f m b) → AreContents b → AreProper (spell_when f m b)
    when_proper f m b known texts =
        let documents = all_left (IsDocument names) (documents_in (f ∷ m)) (names_in b) known in (
          tt,
          (
            tt,
            (
              name_proper f.document (All-head (IsDocument names) f.document (documents_in m) documents),
              more_proper m (reserved Do ∷ (spell_body b ++ reserved End ∷ [])) (All-tail (IsDocument names) f.document (documents_in m) documents)
                  (tt, proper_append (spell_body b) (reserved End ∷ []) (body_proper b (all_right (IsDocument names) (documents_in (f ∷ m)) (names_in b) known) texts) (tt, tt)),
            ),
          ),
        )
