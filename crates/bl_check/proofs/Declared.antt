-- The documents that one `when` declares, each behind those before it.
use Rattle.std.proofs.Common.{◌≡◌, ℕ, zero, suc, ◌+◌, ◌<◌, true, false, ◌⊎◌, inl, inr, List, [], ◌∷◌, ◌++◌, length, get_or, map, take, drop, refl, ap, sym, subst, ◌∙◌, arith, append_assoc}
use Rattle.std.specs.Prelude.{All, Contains}
use Rattle.std.specs.Str.{bytes_eq}
use Rattle.std.proofs.lemmas.Bool.{false≢true}
use Rattle.std.proofs.lemmas.Slice.Eq.{bytes_eq-Decides}
use Rattle.std.proofs.lemmas.List.{take-append-drop, take_more, map-append}
use Rattle.std.proofs.lemmas.List.Elements.{All-cons, All-nil, All-append, Contains-append_left, Contains-append_right, Contains-append_cases, Contains-push, Contains-push_cases}
use Rattle.bl_work.specs.Spelled.{SpelledAccess}
use Rattle.bl_syntax.specs.RawBodies.{raw_access}
use Rattle.bl_work.specs.First.{IsNameOfFirst}
use Rattle.bl_work.specs.WhenFaults.{documents_in, Declaration, declarations_behind, IsOnce}
use Rattle.bl_work.specs.FirstWhenFault.{declared_document}
use Rattle.bl_syntax.specs.declared.raw.RawAccess.{RawAccess}
use Rattle.bl_check.proofs.Passes.{one_more, here_at, documents_of, documents_additive}
use Rattle.bl_check.proofs.Firsts.{first_here, first_behind}

-- those declared so far, the last of them first
abbrev heaped : List (List ℕ) → List SpelledAccess → List (List ℕ)
heaped earlier [] = earlier
heaped earlier (access ∷ more) = heaped (access.document ∷ earlier) more

nothing_in : {X : Type 0} (x : X) → Contains [] x → ⊥
nothing_in x (k, lt, at) = absurd (omega (arith, lt))

only_one : {X : Type 0} (y x : X) → Contains (y ∷ []) x → y ≡ x
only_one y x there = elim (Contains-push_cases [] y x there) [ inl none ↦ absurd (nothing_in x none) | inr same ↦ same ]

-- what is heaped was there before, or is one of these
heaped_to : (earlier : List (List ℕ)) (accesses : List SpelledAccess) (d : List ℕ) → Contains (heaped earlier accesses) d → Contains earlier d ⊎ Contains (documents_in accesses) d
heaped_to earlier [] d there = inl there
heaped_to earlier (access ∷ more) d there =
    elim (heaped_to (access.document ∷ earlier) more d there) [
      | inl before ↦ elim (Contains-append_cases (access.document ∷ []) earlier d before) [
        | inl here ↦ inr (Contains-append_left (access.document ∷ []) (documents_in more) d here)
        | inr old ↦ inl old
      ]
      | inr later ↦ inr (Contains-append_right (access.document ∷ []) (documents_in more) d later)
    ]

heaped_old : (earlier : List (List ℕ)) (accesses : List SpelledAccess) (d : List ℕ) → Contains earlier d → Contains (heaped earlier accesses) d
heaped_old earlier [] d there = there
heaped_old earlier (access ∷ more) d there =
    heaped_old (access.document ∷ earlier) more d (Contains-append_right (access.document ∷ []) earlier d there)

heaped_new : (earlier : List (List ℕ)) (accesses : List SpelledAccess) (d : List ℕ) → Contains (documents_in accesses) d → Contains (heaped earlier accesses) d
heaped_new earlier [] d there = absurd (nothing_in d there)
heaped_new earlier (access ∷ more) d there =
    elim (Contains-append_cases (access.document ∷ []) (documents_in more) d there) [
      | inl here ↦ heaped_old (access.document ∷ earlier) more d (Contains-append_left (access.document ∷ []) earlier d here)
      | inr later ↦ heaped_new (access.document ∷ earlier) more d later
    ]

behind-append : (earlier : List (List ℕ)) (xs ys : List SpelledAccess) → declarations_behind earlier (xs ++ ys) ≡ declarations_behind earlier xs ++ declarations_behind (heaped earlier xs) ys
behind-append earlier [] ys = refl
behind-append earlier (x ∷ xs) ys =
    ap (λ l. record { earlier = earlier; document = x.document } ∷ l) (behind-append (x.document ∷ earlier) xs ys)

-- the declarations of raw accesses, behind a first one
abbrev pub behind_first : List ℕ → List RawAccess → List Declaration
behind_first first accesses = declarations_behind (first ∷ []) (map raw_access accesses)

-- nothing is declared before the first
pub first_once : (first : List ℕ) → IsOnce (record { earlier = []; document = first })
first_once first there = nothing_in first there

abbrev declaration_at : List ℕ → List RawAccess → RawAccess → Declaration
declaration_at first before x = record { earlier = heaped (first ∷ []) (map raw_access before); document = (raw_access x).document }

behind_more : (first : List ℕ) (xs : List RawAccess) (i : ℕ) (x : RawAccess) → i < length xs → x ≡ get_or xs i x
    → behind_first first (take (i + 1) xs) ≡ behind_first first (take i xs) ++ declaration_at first (take i xs) x ∷ []
behind_more first xs i x lt at =
    ap (behind_first first) (one_more xs i x lt at) ∙ ap (declarations_behind (first ∷ [])) (map-append raw_access (take i xs) (x ∷ []))
    ∙ behind-append (first ∷ []) (map raw_access (take i xs)) (raw_access x ∷ [])

behind_whole : (first : List ℕ) (xs : List RawAccess) (i : ℕ) (x : RawAccess) → i < length xs → x ≡ get_or xs i x
    → behind_first first xs
    ≡ behind_first first (take i xs) ++ (declaration_at first (take i xs) x ∷ declarations_behind ((raw_access x).document ∷ heaped (first ∷ []) (map raw_access (take i xs))) (map raw_access (drop (i + 1) xs)))
behind_whole first xs i x lt at =
    let rest = map raw_access (drop (i + 1) xs) in
    let split : xs ≡ take i xs ++ (x ∷ drop (i + 1) xs) =
    sym (take-append-drop (i + 1) xs) ∙ ap (λ l. l ++ drop (i + 1) xs) (one_more xs i x lt at) ∙ append_assoc (take i xs) (x ∷ []) (drop (i + 1) xs) in
    ap (behind_first first) split ∙ ap (declarations_behind (first ∷ [])) (map-append raw_access (take i xs) (x ∷ drop (i + 1) xs))
    ∙ behind-append (first ∷ []) (map raw_access (take i xs)) (raw_access x ∷ rest)

-- one more is declared for the first time
pub once_goes_on : (first : List ℕ) (xs : List RawAccess) (i : ℕ) (x : RawAccess) → i < length xs → x ≡ get_or xs i x → All IsOnce (behind_first first (take i xs))
    → ((raw_access x).document ≡ first → ⊥) → (Contains (documents_in (map raw_access (take i xs))) (raw_access x).document → ⊥) → All IsOnce (behind_first first (take (i + 1) xs))
once_goes_on first xs i x lt at so_far other new =
    let once : IsOnce (declaration_at first (take i xs) x) =
    λ there. elim (heaped_to (first ∷ []) (map raw_access (take i xs)) (raw_access x).document there) [
      | inl old ↦ other (sym (only_one first (raw_access x).document old))
      | inr later ↦ new later
    ] in
    subst (All IsOnce) (sym (behind_more first xs i x lt at))
    (All-append IsOnce (behind_first first (take i xs)) (declaration_at first (take i xs) x ∷ []) so_far
    (All-cons IsOnce (declaration_at first (take i xs) x) [] once (All-nil IsOnce)))

-- one more is declared a second time
pub once_stops : (first : List ℕ) (xs : List RawAccess) (i : ℕ) (x : RawAccess) → i < length xs → x ≡ get_or xs i x → All IsOnce (behind_first first (take i xs))
    → ((raw_access x).document ≡ first) ⊎ Contains (documents_in (map raw_access (take i xs))) (raw_access x).document
    → IsNameOfFirst IsOnce declared_document (record { earlier = []; document = first } ∷ behind_first first xs) (raw_access x).document
once_stops first xs i x lt at so_far again =
    let d = (raw_access x).document in
    let before = take i xs in
    let rest = declarations_behind (d ∷ heaped (first ∷ []) (map raw_access before)) (map raw_access (drop (i + 1) xs)) in
    let there : Contains (heaped (first ∷ []) (map raw_access before)) d =
    elim again [
      | inl same ↦ heaped_old (first ∷ []) (map raw_access before) d (subst (λ y. Contains (first ∷ []) y) (sym same) (Contains-push [] first))
      | inr later ↦ heaped_new (first ∷ []) (map raw_access before) d later
    ] in
    let found = first_behind IsOnce declared_document (behind_first first before) (declaration_at first before x ∷ rest) d so_far
    (first_here IsOnce declared_document (declaration_at first before x) rest (λ once. once there)) in
    first_behind IsOnce declared_document (record { earlier = []; document = first } ∷ []) (behind_first first xs) d
    (All-cons IsOnce (record { earlier = []; document = first }) [] (first_once first) (All-nil IsOnce))
    (subst (λ l. IsNameOfFirst IsOnce declared_document l d) (sym (behind_whole first xs i x lt at)) found)

pub once_goes_on_at : (first : List ℕ) (xs : List RawAccess) (i : ℕ) (d : RawAccess) → i < length xs → All IsOnce (behind_first first (take i xs))
    → ((get_or xs i d).document.now ≡ first → ⊥) → (Contains (documents_of (take i xs)) (get_or xs i d).document.now → ⊥) → All IsOnce (behind_first first (take (i + 1) xs))
once_goes_on_at first xs i d lt so_far other new = once_goes_on first xs i (get_or xs i d) lt (here_at xs i d lt) so_far other new

pub once_stops_at : (first : List ℕ) (xs : List RawAccess) (i : ℕ) (d : RawAccess) → i < length xs → All IsOnce (behind_first first (take i xs))
    → ((get_or xs i d).document.now ≡ first) ⊎ Contains (documents_of (take i xs)) (get_or xs i d).document.now
    → IsNameOfFirst IsOnce declared_document (record { earlier = []; document = first } ∷ behind_first first xs) (get_or xs i d).document.now
once_stops_at first xs i d lt so_far again = once_stops first xs i (get_or xs i d) lt (here_at xs i d lt) so_far again

-- ---- whether an access is of a document

pub is_same : (a b : List ℕ) → true ≡ bytes_eq a b → a ≡ b
is_same a b e = (bytes_eq-Decides a b).0 (sym e)

pub is_other : (a b : List ℕ) → false ≡ bytes_eq a b → a ≡ b → ⊥
is_other a b e same = false≢true (e ∙ (bytes_eq-Decides a b).1 same)

-- the document of an access is one of them
pub document_at : (xs : List RawAccess) (i : ℕ) (d : RawAccess) → i < length xs → Contains (documents_of xs) (get_or xs i d).document.now
document_at [] i d lt = absurd (omega arith)
document_at (x ∷ xs) zero d lt = Contains-append_left (x.document.now ∷ []) (documents_of xs) x.document.now (Contains-push [] x.document.now)
document_at (x ∷ xs) (suc i) d lt =
    Contains-append_right (x.document.now ∷ []) (documents_of xs) (get_or xs i d).document.now (document_at xs i d (omega arith))

-- one more is of another document
pub none_more : (xs : List RawAccess) (i : ℕ) (d : RawAccess) (document : List ℕ) → i < length xs → (Contains (documents_of (take i xs)) document → ⊥)
    → ((get_or xs i d).document.now ≡ document → ⊥) → Contains (documents_of (take (i + 1) xs)) document → ⊥
none_more xs i d document lt none other there =
    let x = get_or xs i d in
    let split : documents_of (take (i + 1) xs) ≡ documents_of (take i xs) ++ x.document.now ∷ [] =
    ap documents_of (take_more xs i d lt) ∙ documents_additive (take i xs) (x ∷ []) in
    elim (Contains-append_cases (documents_of (take i xs)) (x.document.now ∷ []) document (subst (λ l. Contains l document) split there)) [
      | inl before ↦ none before
      | inr here ↦ other (only_one x.document.now document here)
    ]
