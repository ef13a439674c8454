-- Grants one by one.
use Rattle.std.proofs.Common.{◌≡◌, ℕ, zero, suc, ◌+◌, ◌<◌, List, [], ◌∷◌, ◌++◌, length, get_or, take, drop, set, refl, ap, sym, ◌∙◌, arith, add-one, ◌≤◌}
use Rattle.std.specs.Prelude.{map}
use Rattle.std.proofs.lemmas.List.{map-append, length-map, get_or-map}
use Rattle.std.proofs.lemmas.Simd.{map-map}
use Rattle.bl_policy.specs.declared.access.Access.{Access}
use Rattle.bl_grant.specs.Loaned.{Loaned, loan, as_lent, no_loan}
use Rattle.bl_grant.specs.Loans.{loans}
use Rattle.bl_grant.specs.Granted.{loaned_of}
use Rattle.bl_grant.specs.declared.grant.Grant.{Grant}

-- one more grant
loans-suc : (e : ℕ) (xs : List Access) (cs : List (List ℕ)) (i : ℕ) (d : Access) (c : List ℕ) → i < length xs → i < length cs
    → loans e (take (suc i) xs) (take (suc i) cs) ≡ loans e (take i xs) (take i cs) ++ loan e (get_or xs i d) (get_or cs i c) ∷ []
loans-suc e [] cs i d c lt lt' = absurd (omega arith)
loans-suc e (x ∷ xs) [] i d c lt lt' = absurd (omega arith)
loans-suc e (x ∷ xs) (y ∷ cs) zero d c lt lt' = refl
loans-suc e (x ∷ xs) (y ∷ cs) (suc i) d c lt lt' = ap (λ l. loan e x y ∷ l) (loans-suc e xs cs i d c (omega arith) (omega arith))

pub lend-more : (e : ℕ) (so_far now : List Loaned) (xs : List Access) (cs : List (List ℕ)) (i : ℕ) (a : Access) (t : List ℕ)
    → so_far ≡ loans e (take i xs) (take i cs) → a ≡ get_or xs i a → t ≡ get_or cs i t → now ≡ so_far ++ loan e a t ∷ []
    → i < length xs → i < length cs → now ≡ loans e (take (i + 1) xs) (take (i + 1) cs)
lend-more e so_far now xs cs i a t was from at one lt lt' =
    rw add-one (one ∙ ap (λ l. l ++ loan e a t ∷ []) was
    ∙ ap (λ x. loans e (take i xs) (take i cs) ++ x ∷ []) (ap (λ c. loan e a c) at ∙ ap (λ x. loan e x (get_or cs i t)) from) ∙ sym (loans-suc e xs cs i a t lt lt'))

-- of a first part of the accesses there are no more grants than accesses
pub loans-few : (e : ℕ) (xs : List Access) (cs : List (List ℕ)) (i : ℕ) → length (loans e (take i xs) (take i cs)) ≤ length xs
loans-few e xs cs zero = omega arith
loans-few e [] cs (suc i) = omega arith
loans-few e (x ∷ xs) [] (suc i) = omega arith
loans-few e (x ∷ xs) (y ∷ cs) (suc i) = omega (arith, loans-few e xs cs i)

-- a grant of the code, as it was lent
abbrev pub was : Grant → Loaned
was g = as_lent (loaned_of g)

map-take : (gs : List Grant) (i : ℕ) (d : Grant) → i < length gs → map was (take (suc i) gs) ≡ map was (take i gs) ++ was (get_or gs i d) ∷ []
map-take [] i d lt = absurd (omega arith)
map-take (g ∷ gs) zero d lt = refl
map-take (g ∷ gs) (suc i) d lt = ap (λ l. was g ∷ l) (map-take gs i d (omega arith))

-- one more grant that was lent of these
pub lent-more : (e : ℕ) (gs : List Grant) (g : Grant) (xs : List Access) (cs : List (List ℕ)) (i : ℕ) (a : Access) (t : List ℕ)
    → map was (take i gs) ≡ loans e (take i xs) (take i cs) → g ≡ get_or gs i g → a ≡ get_or xs i a → t ≡ get_or cs i t → was g ≡ loan e a t
    → i < length gs → i < length xs → i < length cs → map was (take (i + 1) gs) ≡ loans e (take (i + 1) xs) (take (i + 1) cs)
lent-more e gs g xs cs i a t so_far read from at one lt lt' lt'' =
    rw add-one (map-take gs i g lt ∙ ap (λ l. l ++ was (get_or gs i g) ∷ []) so_far
    ∙ ap (λ x. loans e (take i xs) (take i cs) ++ x ∷ []) (ap was (sym read) ∙ one ∙ ap (λ c. loan e a c) at ∙ ap (λ x. loan e x (get_or cs i t)) from)
    ∙ sym (loans-suc e xs cs i a t lt' lt''))

loans-at : (e : ℕ) (xs : List Access) (cs : List (List ℕ)) (i : ℕ) (d : Access) (c : List ℕ) → i < length xs → i < length cs
    → get_or (loans e xs cs) i no_loan ≡ loan e (get_or xs i d) (get_or cs i c)
loans-at e [] cs i d c lt lt' = absurd (omega arith)
loans-at e (x ∷ xs) [] i d c lt lt' = absurd (omega arith)
loans-at e (x ∷ xs) (y ∷ cs) zero d c lt lt' = refl
loans-at e (x ∷ xs) (y ∷ cs) (suc i) d c lt lt' = loans-at e xs cs i d c (omega arith) (omega arith)

-- where all were lent of these, each was
pub lent-one : (e : ℕ) (gs : List Grant) (g : Grant) (xs : List Access) (cs : List (List ℕ)) (i : ℕ) (a : Access) (t : List ℕ)
    → map as_lent (map loaned_of gs) ≡ loans e xs cs → g ≡ get_or gs i g → a ≡ get_or xs i a → t ≡ get_or cs i t
    → i < length gs → i < length xs → i < length cs → was g ≡ loan e a t
lent-one e gs g xs cs i a t all read from at lt lt' lt'' =
    ap was read ∙ sym (get_or-map was gs i g no_loan lt) ∙ ap (λ l. get_or l i no_loan) (sym (map-map as_lent loaned_of gs) ∙ all)
    ∙ loans-at e xs cs i a t lt' lt'' ∙ sym (ap (λ c. loan e a c) at ∙ ap (λ x. loan e x (get_or cs i t)) from)

length-loans : (e : ℕ) (xs : List Access) (cs : List (List ℕ)) → length cs ≡ length xs → length (loans e xs cs) ≡ length xs
length-loans e [] cs h = refl
length-loans e (x ∷ xs) [] h = absurd (omega (arith, h))
length-loans e (x ∷ xs) (y ∷ cs) h = ap suc (length-loans e xs cs (omega (arith, h)))

-- and there are as many
pub lent-length : (e : ℕ) (gs : List Grant) (xs : List Access) (cs : List (List ℕ)) → map as_lent (map loaned_of gs) ≡ loans e xs cs → length cs ≡ length xs → length gs ≡ length xs
lent-length e gs xs cs all h = sym (length-map (map loaned_of gs) as_lent ∙ length-map gs loaned_of) ∙ ap length all ∙ length-loans e xs cs h

-- grants of which some are lent again
pub reset-more : (gs now : List Loaned) (i : ℕ) (d : Loaned) → i < length gs → now ≡ map as_lent (take i gs) ++ drop i gs
    → set now i (as_lent (get_or gs i d)) ≡ map as_lent (take (i + 1) gs) ++ drop (i + 1) gs
reset-more gs now i d lt e = rw add-one (ap (λ l. set l i (as_lent (get_or gs i d))) e ∙ go gs i lt)
  where
    go : (gs : List Loaned) (i : ℕ) → i < length gs → set (map as_lent (take i gs) ++ drop i gs) i (as_lent (get_or gs i d)) ≡ map as_lent (take (suc i) gs) ++ drop (suc i) gs
    go [] i lt = absurd (omega arith)
    go (g ∷ gs) zero lt = refl
    go (g ∷ gs) (suc i) lt = ap (λ l. as_lent g ∷ l) (go gs i (omega arith))

-- the grant at that place is still as it was
pub reset-next : (gs now : List Loaned) (i : ℕ) (d : Loaned) → i < length gs → now ≡ map as_lent (take i gs) ++ drop i gs → get_or now i d ≡ get_or gs i d
reset-next gs now i d lt e = ap (λ l. get_or l i d) e ∙ go gs i lt
  where
    go : (gs : List Loaned) (i : ℕ) → i < length gs → get_or (map as_lent (take i gs) ++ drop i gs) i d ≡ get_or gs i d
    go [] i lt = absurd (omega arith)
    go (g ∷ gs) zero lt = refl
    go (g ∷ gs) (suc i) lt = go gs i (omega arith)

-- at the end all are
pub reset-all : (gs now : List Loaned) (i : ℕ) → length gs ≤ i → now ≡ map as_lent (take i gs) ++ drop i gs → now ≡ map as_lent gs
reset-all gs now i le e = e ∙ go gs i le
  where
    go : (gs : List Loaned) (i : ℕ) → length gs ≤ i → map as_lent (take i gs) ++ drop i gs ≡ map as_lent gs
    go [] zero le = refl
    go [] (suc i) le = refl
    go (g ∷ gs) zero le = absurd (omega arith)
    go (g ∷ gs) (suc i) le = ap (λ l. as_lent g ∷ l) (go gs i (omega arith))

take-front : (ws ys : List Grant) → take (length ws) (ws ++ ys) ≡ ws
take-front [] ys = refl
take-front (w ∷ ws) ys = ap (λ l. w ∷ l) (take-front ws ys)

-- grants that were written over as many are those grants
pub written : (n : ℕ) (ws olds : List Grant) → length ws ≡ n → take n (ws ++ drop (length ws) olds) ≡ ws
written n ws olds e = ap (λ k. take k (ws ++ drop (length ws) olds)) (sym e) ∙ take-front ws (drop (length ws) olds)
