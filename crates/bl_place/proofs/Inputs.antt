-- What was lent is compared with the shelves, one content after another.
use Rattle.std.proofs.Common.{◌≡◌, ℕ, ◌<◌, ◌+◌, List, [], ◌∷◌, ◌++◌, length, get_or, take, ap, sym, ◌∙◌, arith}
use Rattle.std.specs.Prelude.{All}
use Rattle.std.proofs.lemmas.List.{get_or_read, get_or-map, length-map, take_more}
use Rattle.bl_policy.specs.declared.access.Access.{Access}
use Rattle.bl_place.specs.Shelves.{content_in, contents_in, new_shelf}
use Rattle.bl_place.specs.declared.shelf.Shelf.{Shelf}

-- one more content is the same
pub one_more : (xs : List (List ℕ)) (shelves : List Shelf) (accesses : List Access) (i p : ℕ) (a : Access) (s : Shelf) → take i xs ≡ take i (contents_in shelves accesses)
    → length xs ≡ length accesses → i < length accesses → All (λ (b : Access). b.doc < length shelves) accesses
    → a ≡ get_or accesses i a → p ≡ a.doc → s ≡ get_or shelves p s → get_or xs i [] ≡ s.content → take (i + 1) xs ≡ take (i + 1) (contents_in shelves accesses)
one_more xs shelves accesses i p a s so_far each lt there a_is p_is s_is same =
    let content = λ (b : Access). content_in shelves b.doc in
    let ys : List (List ℕ) = contents_in shelves accesses in
    let within : p < length shelves = omega (arith, there i a lt, p_is, ap (λ (b : Access). b.doc) a_is) in
    let at : get_or ys i [] ≡ s.content =
    get_or-map content accesses i a [] lt ∙ ap content (sym a_is) ∙ ap (content_in shelves) (sym p_is)
    ∙ ap (λ (v : Shelf). v.content) (sym (get_or_read shelves p s within s_is (new_shelf []))) in
    take_more xs i [] (omega (arith, lt, each)) ∙ ap (λ (v : List ℕ). take i xs ++ v ∷ []) (same ∙ sym at) ∙ ap (λ (l : List (List ℕ)). l ++ get_or ys i [] ∷ []) so_far
    ∙ sym (take_more ys i [] (omega (arith, lt, length-map accesses content)))
