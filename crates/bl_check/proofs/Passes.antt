-- A pass over a list, from the left, where what stands in two lists is what stands in each.
use Rattle.std.proofs.Common.{◌≡◌, ℕ, zero, suc, ◌+◌, ◌<◌, ◌≤◌, List, [], ◌∷◌, ◌++◌, length, get_or, map, take, drop, refl, ap, sym, subst, ◌∙◌, arith}
use Rattle.std.specs.Prelude.{All}
use Rattle.std.proofs.lemmas.List.{take_all, take_more, take-append-drop}
use Rattle.std.proofs.lemmas.List.Elements.{All-append}
use Rattle.bl_policy.specs.declared.access.Mode.TheVariants.{Read}
use Rattle.bl_work.specs.Spelled.{SpelledAccess}
use Rattle.bl_syntax.specs.RawBodies.{raw_access, raw_body}
use Rattle.bl_work.specs.First.{IsNameOfFirst}
use Rattle.bl_work.specs.WhenFaults.{documents_in, names_in, Declaration, declarations_in, Usage, uses_in}
use Rattle.bl_syntax.specs.declared.raw.RawAccess.{RawAccess}
use Rattle.bl_syntax.specs.declared.raw.RawStatement.{RawStatement}
use Rattle.bl_check.proofs.Joined.{raw_body-append, names_in-joined, declarations_in-joined, uses_in-joined}
use Rattle.bl_check.proofs.Firsts.{first_behind, first_before}

abbrev pub IsAdditive : {X Y : Type 0} → (List Y → List X) → Type 0
IsAdditive {Y = Y} F = (a b : List Y) → F (a ++ b) ≡ F a ++ F b

-- so far, and one more
pub one_more : {Y : Type 0} (xs : List Y) (i : ℕ) (x : Y) → i < length xs → x ≡ get_or xs i x → take (i + 1) xs ≡ take i xs ++ x ∷ []
one_more xs i x lt at = take_more xs i x lt ∙ ap (λ s. take i xs ++ s ∷ []) (sym at)

-- the pass goes on
pub pass_goes_on : {X Y : Type 0} (F : List Y → List X) → IsAdditive F → (P : X → Type 0) (xs : List Y) (i : ℕ) (x : Y) → i < length xs → x ≡ get_or xs i x
    → All P (F (take i xs)) → All P (F (x ∷ [])) → All P (F (take (i + 1) xs))
pass_goes_on F additive P xs i x lt at so_far one =
    let same : F (take (i + 1) xs) ≡ F (take i xs) ++ F (x ∷ []) = ap F (one_more xs i x lt at) ∙ additive (take i xs) (x ∷ []) in
    subst (All P) (sym same) (All-append P (F (take i xs)) (F (x ∷ [])) so_far one)

-- the pass stops at an element
pub pass_stops : {X Y : Type 0} (F : List Y → List X) → IsAdditive F → (P : X → Type 0) (name_of : X → List ℕ) (xs : List Y) (whole : List X) → F xs ≡ whole → (i : ℕ) (x : Y) (name : List ℕ)
    → i < length xs → x ≡ get_or xs i x → All P (F (take i xs)) → IsNameOfFirst P name_of (F (x ∷ [])) name → IsNameOfFirst P name_of whole name
pass_stops F additive P name_of xs whole is i x name lt at so_far first =
    let before = take i xs in
    let here = x ∷ [] in
    let after = drop (i + 1) xs in
    let same : whole ≡ F before ++ F here ++ F after =
    sym is ∙ ap F (sym (take-append-drop (i + 1) xs)) ∙ additive (take (i + 1) xs) after ∙ ap (λ l. F l ++ F after) (one_more xs i x lt at)
    ∙ ap (λ l. l ++ F after) (additive before here) in
    subst (λ l. IsNameOfFirst P name_of l name) (sym same)
    (first_before P name_of (F before ++ F here) (F after) name (first_behind P name_of (F before) (F here) name so_far first))

-- the pass has come to the end
pub pass_ends : {X Y : Type 0} (F : List Y → List X) (P : X → Type 0) (xs : List Y) (whole : List X) → F xs ≡ whole → (i : ℕ) → length xs ≤ i → All P (F (take i xs)) → All P whole
pass_ends F P xs whole is i le so_far = subst (All P) (ap F (take_all i xs le) ∙ is) so_far

-- what is read within a list does not depend on what is given for the rest
read_at : {Y : Type 0} (xs : List Y) (i : ℕ) (d e : Y) → i < length xs → get_or xs i d ≡ get_or xs i e
read_at [] i d e lt = absurd (omega arith)
read_at (x ∷ xs) zero d e lt = refl
read_at (x ∷ xs) (suc i) d e lt = read_at xs i d e (omega arith)

-- the element of this place
pub here_at : {Y : Type 0} (xs : List Y) (i : ℕ) (d : Y) → i < length xs → get_or xs i d ≡ get_or xs i (get_or xs i d)
here_at xs i d lt = read_at xs i d (get_or xs i d) lt

pub pass_goes_on_at : {X Y : Type 0} (F : List Y → List X) → IsAdditive F → (P : X → Type 0) (xs : List Y) (i : ℕ) (d : Y) → i < length xs
    → All P (F (take i xs)) → All P (F (get_or xs i d ∷ [])) → All P (F (take (i + 1) xs))
pass_goes_on_at F additive P xs i d lt so_far one = pass_goes_on F additive P xs i (get_or xs i d) lt (here_at xs i d lt) so_far one

pub pass_stops_at : {X Y : Type 0} (F : List Y → List X) → IsAdditive F → (P : X → Type 0) (name_of : X → List ℕ) (xs : List Y) (whole : List X) → F xs ≡ whole → (i : ℕ) (d : Y)
    (name : List ℕ) → i < length xs → All P (F (take i xs)) → IsNameOfFirst P name_of (F (get_or xs i d ∷ [])) name → IsNameOfFirst P name_of whole name
pass_stops_at F additive P name_of xs whole is i d name lt so_far first =
    pass_stops F additive P name_of xs whole is i (get_or xs i d) name lt (here_at xs i d lt) so_far first

-- what stands for an access past the end
abbrev pub no_access : RawAccess
no_access = record { mode = Read; document = record { ref_ptr = (0, 0); now = [] } }

-- ---- what stands in statements and in accesses

abbrev pub names_of : List RawStatement → List (List ℕ)
names_of statements = names_in (raw_body statements)

abbrev pub declarations_of : List RawStatement → List Declaration
declarations_of statements = declarations_in (raw_body statements)

abbrev pub uses_of : List SpelledAccess → List RawStatement → List Usage
uses_of declared statements = uses_in declared (raw_body statements)

abbrev pub documents_of : List RawAccess → List (List ℕ)
documents_of accesses = documents_in (map raw_access accesses)

pub names_additive : IsAdditive names_of
names_additive a b = ap names_in (raw_body-append a b) ∙ names_in-joined (raw_body a) (raw_body b)

pub declarations_additive : IsAdditive declarations_of
declarations_additive a b = ap declarations_in (raw_body-append a b) ∙ declarations_in-joined (raw_body a) (raw_body b)

pub uses_additive : (declared : List SpelledAccess) → IsAdditive (uses_of declared)
uses_additive declared a b = ap (uses_in declared) (raw_body-append a b) ∙ uses_in-joined declared (raw_body a) (raw_body b)

pub documents_additive : IsAdditive documents_of
documents_additive [] b = refl
documents_additive (x ∷ a) b = ap (λ l. (raw_access x).document ∷ l) (documents_additive a b)
