-- Conflicts go both ways.
use Rattle.std.proofs.Common.{◌≡◌, ℕ, Bool, true, false, ◌&&◌, ◌||◌, not, ◌==◌, List, [], ◌∷◌, refl, ap, sym, ◌∙◌, arith}
use Rattle.std.specs.List.{list_any}
use Rattle.bl_queue.specs.declared.claim.Claim.{Claim}
use Rattle.bl_queue.specs.Claims.{excludes, conflict}

and-comm : (x y : Bool) → (x && y) ≡ (y && x)
and-comm true true = refl
and-comm true false = refl
and-comm false true = refl
and-comm false false = refl

or-swap : (x y z w : Bool) → ((x || y) || (z || w)) ≡ ((x || z) || (y || w))
or-swap true y z w = refl
or-swap false true true w = refl
or-swap false true false w = refl
or-swap false false z w = refl

eq-comm : (m n : ℕ) → (m == n) ≡ (n == m)
eq-comm m n = grind arith

excludes-comm : (a b : Claim) → excludes a b ≡ excludes b a
excludes-comm a b =
    ap (λ (t : Bool). t && not (a.shared && b.shared)) (eq-comm a.cown b.cown) ∙ ap (λ (t : Bool). (b.cown == a.cown) && not t) (and-comm a.shared b.shared)

-- the same test in both orders, at the head of each list
any-or : (p q : Claim → Bool) (xs : List Claim) → list_any (λ (x : Claim). p x || q x) xs ≡ (list_any p xs || list_any q xs)
any-or p q [] = refl
any-or p q (x ∷ xs) = ap (λ (t : Bool). (p x || q x) || t) (any-or p q xs) ∙ or-swap (p x) (q x) (list_any p xs) (list_any q xs)

any-same : (p q : Claim → Bool) (xs : List Claim) → ((x : Claim) → p x ≡ q x) → list_any p xs ≡ list_any q xs
any-same p q [] same = refl
any-same p q (x ∷ xs) same = ap (λ (t : Bool). t || list_any p xs) (same x) ∙ ap (λ (t : Bool). q x || t) (any-same p q xs same)

none : (xs : List Claim) → list_any (λ (x : Claim). false) xs ≡ false
none [] = refl
none (x ∷ xs) = none xs

pub conflict-comm : (a b : List Claim) → conflict a b ≡ conflict b a
conflict-comm [] b = sym (none b)
conflict-comm (x ∷ a) b =
    ap (λ (t : Bool). list_any (λ (y : Claim). excludes x y) b || t) (conflict-comm a b)
    ∙ ap (λ (t : Bool). t || conflict b a) (any-same (λ (y : Claim). excludes x y) (λ (y : Claim). excludes y x) b (λ y. excludes-comm x y))
    ∙ sym (any-or (λ (y : Claim). excludes y x) (λ (y : Claim). list_any (λ (z : Claim). excludes y z) a) b)
