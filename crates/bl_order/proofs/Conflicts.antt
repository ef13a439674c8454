-- Which tasks conflict.
use Rattle.std.proofs.Common.{◌≡◌, ℕ, Bool, true, false, ◌&&◌, ◌||◌, List, [], ◌∷◌, map, refl, sym, ap, arith, true≢false}
use Rattle.std.specs.Prelude.{◌==◌}
use Rattle.std.specs.List.{list_any}
use Rattle.std.proofs.lemmas.Bool.Decides.{nat_tests}
use Rattle.bl_policy.specs.declared.access.Access.{Access}
use Rattle.bl_work.specs.Modes.{alters}
use Rattle.bl_order.specs.Past.{may_alter}
use Rattle.bl_order.specs.Order.{Task, Runs, Applies, OfPolicy, OfDocument, is_rule, claims_of, excludes, conflict, is_altered, is_declared, accesses_of}

pub or_left : (a b : Bool) → a ≡ true → (a || b) ≡ true
or_left true b h = refl
or_left false b h = absurd (true≢false (sym h))

pub or_right : (a b : Bool) → b ≡ true → (a || b) ≡ true
or_right true b h = refl
or_right false b h = h

-- some element passes one test: then some element's image passes another, which each image of such an element passes
any_image : {X Y : Type 0} (f : X → Bool) (g : X → Y) (test : Y → Bool) (xs : List X) → ((x : X) → f x ≡ true → test (g x) ≡ true) → list_any f xs ≡ true → list_any test (map g xs) ≡ true
any_image f g test [] each h = h
any_image f g test (x ∷ xs) each h = go (f x) refl h (any_image f g test xs each)
  where
    go : (b : Bool) → f x ≡ b → (b || list_any f xs) ≡ true → (list_any f xs ≡ true → list_any test (map g xs) ≡ true) → (test (g x) || list_any test (map g xs)) ≡ true
    go true e now deeper = ap (λ b. b || list_any test (map g xs)) (each x e)
    go false e now deeper = or_right (test (g x)) (list_any test (map g xs)) (deeper now)

any_other : {X : Type 0} (f g : X → Bool) (xs : List X) → ((x : X) → f x ≡ true → g x ≡ true) → list_any f xs ≡ true → list_any g xs ≡ true
any_other f g [] each h = h
any_other f g (x ∷ xs) each h = go (f x) refl h (any_other f g xs each)
  where
    go : (b : Bool) → f x ≡ b → (b || list_any f xs) ≡ true → (list_any f xs ≡ true → list_any g xs ≡ true) → (g x || list_any g xs) ≡ true
    go true e now deeper = ap (λ b. b || list_any g xs) (each x e)
    go false e now deeper = or_right (g x) (list_any g xs) (deeper now)

altered_first : (a b o : ℕ) (e f : Bool) → ((a == o) && e) ≡ true → (b == o) ≡ true → ((a == b) && (e || f)) ≡ true
altered_first a b o e f h k = grind (arith, nat_tests)

altered_second : (a b o : ℕ) (e f : Bool) → (a == o) ≡ true → ((b == o) && f) ≡ true → ((a == b) && (e || f)) ≡ true
altered_second a b o e f h k = grind (arith, nat_tests)

-- a document's access clashes with a claim on it of another task
clash : (x : Access) (u : Task) (test : Access → Bool) → ((y : Access) → test y ≡ true → ((x.doc == y.doc) && (alters x.mode || alters y.mode)) ≡ true)
    → list_any test (accesses_of u) ≡ true → list_any (λ b. excludes (record { cown = OfDocument x.doc; exclusive = alters x.mode }) b) (claims_of u) ≡ true
clash x (Runs script index) test each h =
    any_image test (λ (y : Access). record { cown = OfDocument y.doc; exclusive = alters y.mode })
    (λ b. excludes (record { cown = OfDocument x.doc; exclusive = alters x.mode }) b) (accesses_of (Runs script index)) each h
clash x (Applies rule) test each h = absurd (true≢false (sym h))

-- two tasks conflict where an access of one clashes
conflict_from : (t u : Task) (test : Access → Bool)
    → ((x : Access) → test x ≡ true → list_any (λ b. excludes (record { cown = OfDocument x.doc; exclusive = alters x.mode }) b) (claims_of u) ≡ true)
    → list_any test (accesses_of t) ≡ true → conflict t u ≡ true
conflict_from (Runs script index) u test each h =
    or_right (list_any (λ b. excludes (record { cown = OfPolicy; exclusive = false }) b) (claims_of u))
    (list_any (λ a. list_any (λ b. excludes a b) (claims_of u)) (map (λ (x : Access). record { cown = OfDocument x.doc; exclusive = alters x.mode }) (accesses_of (Runs script index))))
    (any_image test (λ (x : Access). record { cown = OfDocument x.doc; exclusive = alters x.mode }) (λ a. list_any (λ b. excludes a b) (claims_of u)) (accesses_of (Runs script index)) each h)
conflict_from (Applies rule) u test each h = absurd (true≢false (sym h))

-- a task that alters a document conflicts with a later one that declares it
pub conflict_where_altered : (t u : Task) (o : ℕ) → is_altered (accesses_of t) o ≡ true → is_declared (accesses_of u) o ≡ true → conflict t u ≡ true
conflict_where_altered t u o h k =
    conflict_from t u (λ (x : Access). (x.doc == o) && alters x.mode)
    (λ x e. clash x u (λ (y : Access). y.doc == o) (λ y i. altered_first x.doc y.doc o (alters x.mode) (alters y.mode) e i) k) h

-- a task that declares a document conflicts with a later one that alters it
pub conflict_where_declared : (t u : Task) (o : ℕ) → is_declared (accesses_of t) o ≡ true → is_altered (accesses_of u) o ≡ true → conflict t u ≡ true
conflict_where_declared t u o h k =
    conflict_from t u (λ (x : Access). x.doc == o)
    (λ x e. clash x u (λ (y : Access). (y.doc == o) && alters y.mode) (λ y i. altered_second x.doc y.doc o (alters x.mode) (alters y.mode) e i) k) h

-- what is altered is declared
pub altered_is_declared : (xs : List Access) (o : ℕ) → is_altered xs o ≡ true → is_declared xs o ≡ true
altered_is_declared xs o h = any_other (λ (x : Access). (x.doc == o) && alters x.mode) (λ (x : Access). x.doc == o) xs (λ x e. first_of_and (x.doc == o) (alters x.mode) e) h
  where
    first_of_and : (a b : Bool) → (a && b) ≡ true → a ≡ true
    first_of_and true b e = refl
    first_of_and false b e = e

-- a rule conflicts with every task, before it and behind it
pub rule_conflicts : (t u : Task) → is_rule t ≡ true → conflict t u ≡ true
rule_conflicts (Runs script index) u h = absurd (true≢false (sym h))
rule_conflicts (Applies rule) (Runs script index) h = refl
rule_conflicts (Applies rule) (Applies other) h = refl

pub conflicts_with_rule : (t u : Task) → is_rule u ≡ true → conflict t u ≡ true
conflicts_with_rule t (Runs script index) h = absurd (true≢false (sym h))
conflicts_with_rule (Runs script index) (Applies rule) h = refl
conflicts_with_rule (Applies other) (Applies rule) h = refl

-- what is to alter a document conflicts with a later task that declares it
pub alters_then_declares : (t u : Task) (o : ℕ) → may_alter t o ≡ true → is_declared (accesses_of u) o ≡ true → conflict t u ≡ true
alters_then_declares (Runs script index) u o h k = conflict_where_altered (Runs script index) u o h k
alters_then_declares (Applies rule) u o h k = rule_conflicts (Applies rule) u refl

-- and with an earlier one
pub declares_then_alters : (t u : Task) (o : ℕ) → is_declared (accesses_of t) o ≡ true → may_alter u o ≡ true → conflict t u ≡ true
declares_then_alters t (Runs script index) o h k = conflict_where_declared t (Runs script index) o h k
declares_then_alters t (Applies rule) o h k = conflicts_with_rule t (Applies rule) refl

-- two tasks that are to alter one document conflict
pub both_alter : (t u : Task) (o : ℕ) → may_alter t o ≡ true → may_alter u o ≡ true → conflict t u ≡ true
both_alter t (Runs script index) o h k = alters_then_declares t (Runs script index) o h (altered_is_declared (accesses_of (Runs script index)) o k)
both_alter t (Applies rule) o h k = conflicts_with_rule t (Applies rule) refl
