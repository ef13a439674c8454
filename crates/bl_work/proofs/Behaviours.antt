-- Each behaviour of a faultless `when` is one: its accesses are few and apart, and its statements keep to them.
use Rattle.std.proofs.Common.{◌≡◌, ◌≢◌, ℕ, zero, suc, ◌+◌, ◌<◌, ◌≤◌, Bool, true, false, ◌&&◌, ◌||◌, List, [], ◌∷◌, ◌++◌, length, Some, None, refl, sym, ap, ◌∙◌, subst, arith, get_or, cond}
use Rattle.std.specs.Prelude.{All, Contains, map, unwrap_or, not, ◌==◌}
use Rattle.std.specs.List.{list_any, position_or_len}
use Rattle.std.proofs.lemmas.List.{length-map}
use Rattle.std.specs.Str.{bytes_eq}
use Rattle.std.proofs.lemmas.Bool.{and_parts, and_from, eq-eqb, lt-ltb}
use Rattle.std.proofs.lemmas.Slice.Eq.{bytes_eq-Decides}
use Rattle.std.proofs.lemmas.List.Elements.{All-cons, All-nil, All-head, All-tail, All-append}
use Rattle.std.proofs.lemmas.List.Kept.{AllPairs-cons}
use Rattle.std.proofs.lemmas.List.Quantifiers.{position-Some}
use Rattle.bl_level.specs.Table.{place_of}
use Rattle.bl_policy.specs.declared.access.Access.{Access}
use Rattle.bl_policy.specs.declared.access.Mode.{Mode}
use Rattle.bl_work.specs.Names.{KnownNames}
use Rattle.bl_work.specs.Spelled.{SpelledAccess, SpelledBody, empty, show, say, add, set, copy, pour, if_then, if_else, spawn}
use Rattle.bl_work.specs.Modes.{observes, alters, is_write, declares, KeepsModes}
use Rattle.bl_work.specs.Script.{most_accesses, HasContents, AreApart, IsBehaviour, IsScript}
use Rattle.bl_work.specs.Meaning.{whens, document_of, access_of, numbered, spawned_from, script_of}
use Rattle.bl_work.proofs.Numbering.{script_long, script_depth, script_preorder}
use Rattle.bl_work.specs.WhenFaults.{lists_in, documents_in, names_in, Declaration, declarations_behind, declarations_in, IsOnce, Usage, uses_in, IsDeclared, IsFaultless, AreContents}

-- ---- parts of a list

module _ {X : Type 0} (P : X → Type 0) where
  -- what holds of all holds of the front
  pub all_left : (xs ys : List X) → All P (xs ++ ys) → All P xs
  all_left [] ys h = All-nil P
  all_left (x ∷ xs) ys h = All-cons P x xs (All-head P x (xs ++ ys) h) (all_left xs ys (All-tail P x (xs ++ ys) h))

  -- what holds of all holds of what stands behind
  pub all_right : (xs ys : List X) → All P (xs ++ ys) → All P ys
  all_right [] ys h = h
  all_right (x ∷ xs) ys h = all_right xs ys (All-tail P x (xs ++ ys) h)

-- ---- texts

-- the statements have the texts of the body
contents_numbered : (names : KnownNames) (b : SpelledBody) (next : ℕ) → AreContents b → HasContents (numbered names next b)
contents_numbered names empty next h = tt
contents_numbered names (show d rest) next h = contents_numbered names rest next h
contents_numbered names (say w rest) next (c, h) = (c, contents_numbered names rest next h)
contents_numbered names (add d w rest) next (c, h) = (c, contents_numbered names rest next h)
contents_numbered names (set d w rest) next (c, h) = (c, contents_numbered names rest next h)
contents_numbered names (copy d e rest) next h = contents_numbered names rest next h
contents_numbered names (pour d e rest) next h = contents_numbered names rest next h
contents_numbered names (if_then d a w t rest) next (c, (h, i)) =
    (c, contents_numbered names t next h, tt, contents_numbered names rest (next + whens t) i)
contents_numbered names (if_else d a w t e rest) next (c, (h, (i, j))) =
    (c, contents_numbered names t next h, contents_numbered names e (next + whens t) i, contents_numbered names rest (next + whens t + whens e) j)
contents_numbered names (spawn f m b rest) next (h, i) = contents_numbered names rest (next + 1 + whens b) i

-- ---- modes

-- bytes that compare as equal are the same
pub same_bytes : (a b : List ℕ) → bytes_eq a b ≡ true → a ≡ b
same_bytes a b h = let d = bytes_eq-Decides a b in grind (arith, d)

module _ (names : KnownNames) where
  -- a document by its place
  abbrev doc : List ℕ → ℕ
  doc = document_of names

  -- what is declared by its name is declared by its place
  declared_doc : (test : Mode → Bool) (list : List SpelledAccess) (d : List ℕ)
      → list_any (λ (a : SpelledAccess). bytes_eq a.document d && test a.mode) list ≡ true → declares test (map (access_of names) list) (doc d) ≡ true
  declared_doc test [] d h = h
  declared_doc test (a ∷ list) d h = go (bytes_eq a.document d && test a.mode) refl h (declared_doc test list d)
    where
      go : (b : Bool) → (bytes_eq a.document d && test a.mode) ≡ b → (b || list_any (λ (a : SpelledAccess). bytes_eq a.document d && test a.mode) list) ≡ true
          → (list_any (λ (a : SpelledAccess). bytes_eq a.document d && test a.mode) list ≡ true → declares test (map (access_of names) list) (doc d) ≡ true)
          → (((doc a.document == doc d) && test a.mode) || declares test (map (access_of names) list) (doc d)) ≡ true
      go true e now later =
          let parts = and_parts (bytes_eq a.document d) (test a.mode) e in
          let here = and_from (doc a.document == doc d) (test a.mode) (eq-eqb (doc a.document) (doc d) (ap doc (same_bytes a.document d parts.0))) parts.1 in
          ap (λ b. b || declares test (map (access_of names) list) (doc d)) here
      go false e now later = or_right ((doc a.document == doc d) && test a.mode) (declares test (map (access_of names) list) (doc d)) (later now)
        where
          or_right : (a b : Bool) → b ≡ true → (a || b) ≡ true
          or_right true b h = refl
          or_right false b h = h

  module _ (list : List SpelledAccess) where
    -- the accesses, by places
    abbrev accesses : List Access
    accesses = map (access_of names) list

    -- a document that a statement uses under these accesses
    abbrev pub used : (Mode → Bool) → List ℕ → Usage
    used test d = record { declared = list; asked = test; document = d }

    -- statements whose documents are declared as they ask keep to the accesses
    keeps : (b : SpelledBody) (next : ℕ) → All IsDeclared (uses_in list b) → KeepsModes accesses (numbered names next b)
    keeps empty next h = tt
    keeps (show d rest) next h =
        (declared_doc observes list d (All-head IsDeclared (used observes d) (uses_in list rest) h), keeps rest next (All-tail IsDeclared (used observes d) (uses_in list rest) h))
    keeps (say w rest) next h = keeps rest next h
    keeps (add d w rest) next h =
        (declared_doc alters list d (All-head IsDeclared (used alters d) (uses_in list rest) h), keeps rest next (All-tail IsDeclared (used alters d) (uses_in list rest) h))
    keeps (set d w rest) next h =
        (declared_doc is_write list d (All-head IsDeclared (used is_write d) (uses_in list rest) h), keeps rest next (All-tail IsDeclared (used is_write d) (uses_in list rest) h))
    keeps (copy d e rest) next h =
        let tail = All-tail IsDeclared (used observes d) (used is_write e ∷ uses_in list rest) h in (
          declared_doc observes list d (All-head IsDeclared (used observes d) (used is_write e ∷ uses_in list rest) h),
          declared_doc is_write list e (All-head IsDeclared (used is_write e) (uses_in list rest) tail),
          keeps rest next (All-tail IsDeclared (used is_write e) (uses_in list rest) tail),
        )
    keeps (pour d e rest) next h =
        let tail = All-tail IsDeclared (used observes d) (used alters e ∷ uses_in list rest) h in (
          declared_doc observes list d (All-head IsDeclared (used observes d) (used alters e ∷ uses_in list rest) h),
          declared_doc alters list e (All-head IsDeclared (used alters e) (uses_in list rest) tail),
          keeps rest next (All-tail IsDeclared (used alters e) (uses_in list rest) tail),
        )
    keeps (if_then d a w t rest) next h =
        let tail = All-tail IsDeclared (used observes d) (uses_in list t ++ uses_in list rest) h in (
          declared_doc observes list d (All-head IsDeclared (used observes d) (uses_in list t ++ uses_in list rest) h),
          keeps t next (all_left IsDeclared (uses_in list t) (uses_in list rest) tail),
          tt,
          keeps rest (next + whens t) (all_right IsDeclared (uses_in list t) (uses_in list rest) tail),
        )
    keeps (if_else d a w t e rest) next h =
        let tail = All-tail IsDeclared (used observes d) (uses_in list t ++ (uses_in list e ++ uses_in list rest)) h in
        let later = all_right IsDeclared (uses_in list t) (uses_in list e ++ uses_in list rest) tail in (
          declared_doc observes list d (All-head IsDeclared (used observes d) (uses_in list t ++ (uses_in list e ++ uses_in list rest)) h),
          keeps t next (all_left IsDeclared (uses_in list t) (uses_in list e ++ uses_in list rest) tail),
          keeps e (next + whens t) (all_left IsDeclared (uses_in list e) (uses_in list rest) later),
          keeps rest (next + whens t + whens e) (all_right IsDeclared (uses_in list e) (uses_in list rest) later),
        )
    keeps (spawn f m b rest) next h =
        keeps rest (next + 1 + whens b) (all_right IsDeclared (uses_in (f ∷ m) b) (uses_in list rest) h)

-- ---- accesses

-- an element that passes stands before the end
pub first_within : (p : List ℕ → Bool) (xs : List (List ℕ)) (k : ℕ) (d : List ℕ) → k < length xs → p (get_or xs k d) ≡ true → position_or_len p xs < length xs
first_within p [] k d lt h = absurd (omega arith)
first_within p (x ∷ xs) zero d lt h = rw h (omega arith)
first_within p (x ∷ xs) (suc k) d lt h = go (p x) (first_within p xs k d (omega arith) h)
  where
    go : (b : Bool) → position_or_len p xs < length xs → cond (not b) (1 + position_or_len p xs) 0 < suc (length xs)
    go true deeper = omega arith
    go false deeper = omega arith

module _ (documents : List (List ℕ)) where
  -- a name that stands there has a place, which is before the end
  pub has_place : (a : List ℕ) → Contains documents a
      → (place_of a documents ≡ Some (position_or_len (bytes_eq a) documents)) × (position_or_len (bytes_eq a) documents < length documents)
  has_place a (k, lt, at) =
      let itself : bytes_eq a a ≡ true = let d = bytes_eq-Decides a a in grind (arith, d) in
      let within = first_within (bytes_eq a) documents k a lt (ap (bytes_eq a) at ∙ itself) in
      (ap (λ b. cond b (Some (position_or_len (bytes_eq a) documents)) None) (lt-ltb _ _ within), within)

  -- the place of a name that stands there has the name
  pub at_place : (a : List ℕ) → Contains documents a → get_or documents (unwrap_or (place_of a documents) 0) [] ≡ a
  at_place a there =
      let place = (has_place a there).0 in
      let found = position-Some (bytes_eq a) documents (position_or_len (bytes_eq a) documents) [] place in
      ap (λ o. get_or documents (unwrap_or o 0) []) place ∙ sym (same_bytes a _ found.1)

  -- names with one place are one name
  pub one_place : (a b : List ℕ) → Contains documents a → Contains documents b → unwrap_or (place_of a documents) 0 ≡ unwrap_or (place_of b documents) 0 → a ≡ b
  one_place a b here there same = sym (at_place a here) ∙ ap (λ n. get_or documents n []) same ∙ at_place b there

-- what was declared before is not declared again
later_once : (list : List SpelledAccess) (earlier : List (List ℕ)) (x : List ℕ) → Contains earlier x → All IsOnce (declarations_behind earlier list)
    → All (λ (b : SpelledAccess). x ≢ b.document) list
later_once [] earlier x there h = All-nil (λ (b : SpelledAccess). x ≢ b.document)
later_once (b ∷ list) earlier x (k, lt, at) h =
    let here : Declaration = record { earlier = earlier; document = b.document } in
    All-cons (λ (b : SpelledAccess). x ≢ b.document) b list
    (λ same. All-head IsOnce here (declarations_behind (b.document ∷ earlier) list) h (subst (λ y. Contains earlier y) same (k, lt, at)))
    (later_once list (b.document ∷ earlier) x (suc k, omega arith, at) (All-tail IsOnce here (declarations_behind (b.document ∷ earlier) list) h))

module _ (names : KnownNames) where
  -- the place of a document is not that of any that is declared after it
  others_apart : (a : SpelledAccess) (list : List SpelledAccess) → Contains names.documents a.document → All (Contains names.documents) (documents_in list)
      → All (λ (b : SpelledAccess). a.document ≢ b.document) list → All (λ (x : Access). document_of names a.document ≢ x.doc) (map (access_of names) list)
  others_apart a [] here known other = All-nil (λ (x : Access). document_of names a.document ≢ x.doc)
  others_apart a (b ∷ list) here known other =
      let there = All-head (Contains names.documents) b.document (documents_in list) known in
      All-cons (λ (x : Access). document_of names a.document ≢ x.doc) (access_of names b) (map (access_of names) list)
      (λ same. All-head (λ (b : SpelledAccess). a.document ≢ b.document) b list other (one_place names.documents a.document b.document here there same))
      (others_apart a list here (All-tail (Contains names.documents) b.document (documents_in list) known) (All-tail (λ (b : SpelledAccess). a.document ≢ b.document) b list other))

  -- documents that are declared once have different places
  accesses_apart : (list : List SpelledAccess) (earlier : List (List ℕ)) → All (Contains names.documents) (documents_in list)
      → All IsOnce (declarations_behind earlier list) → AreApart (map (access_of names) list)
  accesses_apart [] earlier known once = λ i j d lt within. absurd (omega arith)
  accesses_apart (a ∷ list) earlier known once =
      let here : Declaration = record { earlier = earlier; document = a.document } in
      let later = All-tail IsOnce here (declarations_behind (a.document ∷ earlier) list) once in
      let others = All-tail (Contains names.documents) a.document (documents_in list) known in
      AllPairs-cons (λ (x y : Access). x.doc ≢ y.doc) (access_of names a) (map (access_of names) list)
      (others_apart a list (All-head (Contains names.documents) a.document (documents_in list) known) others
      (later_once list (a.document ∷ earlier) a.document (0, omega arith, refl) later))
      (accesses_apart list (a.document ∷ earlier) others later)

  -- ---- the behaviours

  -- not too many accesses
  abbrev pub IsShort : List SpelledAccess → Type 0
  IsShort list = length list ≤ most_accesses

  -- what a faultless `when` says of a body in it, under these accesses
  pub record IsRight (list : List SpelledAccess) (b : SpelledBody) : Type 0 where
    pub short : All IsShort (lists_in b)
    pub known : All (Contains names.documents) (names_in b)
    pub once : All IsOnce (declarations_in b)
    pub declared : All IsDeclared (uses_in list b)
    pub texts : AreContents b

  -- the behaviour of a `when`
  behaviour_is : (first : SpelledAccess) (more : List SpelledAccess) (b : SpelledBody) (next : ℕ) → IsShort (first ∷ more)
      → All (Contains names.documents) (documents_in (first ∷ more)) → All IsOnce (declarations_behind [] (first ∷ more)) → IsRight (first ∷ more) b
      → IsBehaviour (record { accesses = map (access_of names) (first ∷ more); body = numbered names next b })
  behaviour_is first more b next short known once right = record {
    some = omega arith;
    few = omega (arith, length-map more (access_of names), short);
    apart = accesses_apart (first ∷ more) [] known once;
    modes = keeps names (first ∷ more) b next right.declared;
    texts = contents_numbered names b next right.texts;
  }

  -- each behaviour that a body spawns is one
  spawned_are : (list : List SpelledAccess) (b : SpelledBody) (next : ℕ) → IsRight list b → All IsBehaviour (spawned_from names next b)
  spawned_are list empty next r = All-nil IsBehaviour
  spawned_are list (show d rest) next r =
      spawned_are list rest next (record {
        short = r.short;
        known = All-tail (Contains names.documents) d (names_in rest) r.known;
        once = r.once;
        declared = All-tail IsDeclared (used names list observes d) (uses_in list rest) r.declared;
        texts = r.texts;
      })
  spawned_are list (say w rest) next r =
      spawned_are list rest next (record { short = r.short; known = r.known; once = r.once; declared = r.declared; texts = r.texts.1 })
  spawned_are list (add d w rest) next r =
      spawned_are list rest next (record {
        short = r.short;
        known = All-tail (Contains names.documents) d (names_in rest) r.known;
        once = r.once;
        declared = All-tail IsDeclared (used names list alters d) (uses_in list rest) r.declared;
        texts = r.texts.1;
      })
  spawned_are list (set d w rest) next r =
      spawned_are list rest next (record {
        short = r.short;
        known = All-tail (Contains names.documents) d (names_in rest) r.known;
        once = r.once;
        declared = All-tail IsDeclared (used names list is_write d) (uses_in list rest) r.declared;
        texts = r.texts.1;
      })
  spawned_are list (copy d e rest) next r =
      spawned_are list rest next (record {
        short = r.short;
        known = all_right (Contains names.documents) (d ∷ e ∷ []) (names_in rest) r.known;
        once = r.once;
        declared = all_right IsDeclared (used names list observes d ∷ used names list is_write e ∷ []) (uses_in list rest) r.declared;
        texts = r.texts;
      })
  spawned_are list (pour d e rest) next r =
      spawned_are list rest next (record {
        short = r.short;
        known = all_right (Contains names.documents) (d ∷ e ∷ []) (names_in rest) r.known;
        once = r.once;
        declared = all_right IsDeclared (used names list observes d ∷ used names list alters e ∷ []) (uses_in list rest) r.declared;
        texts = r.texts;
      })
  spawned_are list (if_then d a w t rest) next r =
      let known = All-tail (Contains names.documents) d (names_in t ++ names_in rest) r.known in
      let declared = All-tail IsDeclared (used names list observes d) (uses_in list t ++ uses_in list rest) r.declared in
      All-append IsBehaviour (spawned_from names next t) (spawned_from names (next + whens t) rest)
      (spawned_are list t next (record {
        short = all_left IsShort (lists_in t) (lists_in rest) r.short;
        known = all_left (Contains names.documents) (names_in t) (names_in rest) known;
        once = all_left IsOnce (declarations_in t) (declarations_in rest) r.once;
        declared = all_left IsDeclared (uses_in list t) (uses_in list rest) declared;
        texts = r.texts.1.0;
      }))
      (spawned_are list rest (next + whens t) (record {
        short = all_right IsShort (lists_in t) (lists_in rest) r.short;
        known = all_right (Contains names.documents) (names_in t) (names_in rest) known;
        once = all_right IsOnce (declarations_in t) (declarations_in rest) r.once;
        declared = all_right IsDeclared (uses_in list t) (uses_in list rest) declared;
        texts = r.texts.1.1;
      }))
  spawned_are list (if_else d a w t e rest) next r =
      let short = all_right IsShort (lists_in t) (lists_in e ++ lists_in rest) r.short in
      let known = All-tail (Contains names.documents) d (names_in t ++ (names_in e ++ names_in rest)) r.known in
      let known_later = all_right (Contains names.documents) (names_in t) (names_in e ++ names_in rest) known in
      let once = all_right IsOnce (declarations_in t) (declarations_in e ++ declarations_in rest) r.once in
      let declared = All-tail IsDeclared (used names list observes d) (uses_in list t ++ (uses_in list e ++ uses_in list rest)) r.declared in
      let declared_later = all_right IsDeclared (uses_in list t) (uses_in list e ++ uses_in list rest) declared in
      All-append IsBehaviour (spawned_from names next t) (spawned_from names (next + whens t) e ++ spawned_from names (next + whens t + whens e) rest)
      (spawned_are list t next (record {
        short = all_left IsShort (lists_in t) (lists_in e ++ lists_in rest) r.short;
        known = all_left (Contains names.documents) (names_in t) (names_in e ++ names_in rest) known;
        once = all_left IsOnce (declarations_in t) (declarations_in e ++ declarations_in rest) r.once;
        declared = all_left IsDeclared (uses_in list t) (uses_in list e ++ uses_in list rest) declared;
        texts = r.texts.1.0;
      }))
      (All-append IsBehaviour (spawned_from names (next + whens t) e) (spawned_from names (next + whens t + whens e) rest)
      (spawned_are list e (next + whens t) (record {
        short = all_left IsShort (lists_in e) (lists_in rest) short;
        known = all_left (Contains names.documents) (names_in e) (names_in rest) known_later;
        once = all_left IsOnce (declarations_in e) (declarations_in rest) once;
        declared = all_left IsDeclared (uses_in list e) (uses_in list rest) declared_later;
        texts = r.texts.1.1.0;
      }))
      (spawned_are list rest (next + whens t + whens e) (record {
        short = all_right IsShort (lists_in e) (lists_in rest) short;
        known = all_right (Contains names.documents) (names_in e) (names_in rest) known_later;
        once = all_right IsOnce (declarations_in e) (declarations_in rest) once;
        declared = all_right IsDeclared (uses_in list e) (uses_in list rest) declared_later;
        texts = r.texts.1.1.1;
      })))
  spawned_are list (spawn f m b rest) next r =
      let short = All-tail IsShort (f ∷ m) (lists_in b ++ lists_in rest) r.short in
      let known = all_right (Contains names.documents) (documents_in (f ∷ m)) (names_in b ++ names_in rest) r.known in
      let once = all_right IsOnce (declarations_behind [] (f ∷ m)) (declarations_in b ++ declarations_in rest) r.once in
      let inner : IsRight (f ∷ m) b = record {
        short = all_left IsShort (lists_in b) (lists_in rest) short;
        known = all_left (Contains names.documents) (names_in b) (names_in rest) known;
        once = all_left IsOnce (declarations_in b) (declarations_in rest) once;
        declared = all_left IsDeclared (uses_in (f ∷ m) b) (uses_in list rest) r.declared;
        texts = r.texts.0;
      } in
      All-cons IsBehaviour (record { accesses = map (access_of names) (f ∷ m); body = numbered names (next + 1) b })
      (spawned_from names (next + 1) b ++ spawned_from names (next + 1 + whens b) rest)
      (behaviour_is f m b (next + 1) (All-head IsShort (f ∷ m) (lists_in b ++ lists_in rest) r.short)
      (all_left (Contains names.documents) (documents_in (f ∷ m)) (names_in b ++ names_in rest) r.known)
      (all_left IsOnce (declarations_behind [] (f ∷ m)) (declarations_in b ++ declarations_in rest) r.once) inner)
      (All-append IsBehaviour (spawned_from names (next + 1) b) (spawned_from names (next + 1 + whens b) rest)
      (spawned_are (f ∷ m) b (next + 1) inner)
      (spawned_are list rest (next + 1 + whens b) (record {
        short = all_right IsShort (lists_in b) (lists_in rest) short;
        known = all_right (Contains names.documents) (names_in b) (names_in rest) known;
        once = all_right IsOnce (declarations_in b) (declarations_in rest) once;
        declared = all_right IsDeclared (uses_in (f ∷ m) b) (uses_in list rest) r.declared;
        texts = r.texts.1;
      })))

  -- a faultless `when` whose texts are contents stands for a script
  pub when_is_script : (first : SpelledAccess) (more : List SpelledAccess) (body : SpelledBody) → IsFaultless names first more body → AreContents body
      → IsScript (script_of names first more body)
  when_is_script first more body faultless texts =
      let right : IsRight (first ∷ more) body = record {
        short = All-tail IsShort (first ∷ more) (lists_in body) faultless.few.accesses;
        known = all_right (Contains names.documents) (documents_in (first ∷ more)) (names_in body) faultless.known;
        once = all_right IsOnce (declarations_behind [] (first ∷ more)) (declarations_in body) faultless.once;
        declared = faultless.declared;
        texts = texts;
      } in
      record {
        few = omega (arith, script_long names first more body, faultless.few.whens);
        preorder = script_preorder names first more body;
        shallow = omega (arith, script_depth names first more body, faultless.shallow);
        each = All-cons IsBehaviour (record { accesses = map (access_of names) (first ∷ more); body = numbered names 1 body }) (spawned_from names 1 body)
            (behaviour_is first more body 1 (All-head IsShort (first ∷ more) (lists_in body) faultless.few.accesses)
            (all_left (Contains names.documents) (documents_in (first ∷ more)) (names_in body) faultless.known)
            (all_left IsOnce (declarations_behind [] (first ∷ more)) (declarations_in body) faultless.once) right)
            (spawned_are (first ∷ more) body 1 right);
      }
