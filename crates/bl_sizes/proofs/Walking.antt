-- A walk over statements, one after another.
use Rattle.std.proofs.Common.{◌≡◌, ℕ, zero, suc, ◌≤◌, ◌<◌, ◌+◌, List, [], ◌∷◌, ◌++◌, length, get_or, drop, refl, ap, sym, ◌∙◌, arith, subst}
use Rattle.std.specs.List.{AllByRecursion}
use Rattle.std.proofs.lemmas.List.{drop_more}
use Rattle.bl_work.specs.Body.{statements_of}
use Rattle.bl_work.specs.Names.{KnownNames}
use Rattle.bl_work.specs.Nesting.{spawned, IsPreorder}
use Rattle.bl_work.specs.Statements.{Statements, Nothing, Show, Say, Add, Set, Copy, Pour, If, Spawn, Part, no_part}
use Rattle.bl_work.specs.declared.script.Stmt.{Stmt}
use Rattle.bl_work.specs.declared.script.Stmt.TheVariants as stmt
use Rattle.bl_sizes.specs.Counts.{in_word}
use Rattle.bl_sizes.specs.Sizes.{NamesBelow, most_of}
use Rattle.bl_sizes.proofs.Spending.{each-left, each-map, each-right, numbered-above}

-- names that name nothing: how deep a script goes does not hang on names
abbrev pub no_names : KnownNames
no_names = record { scheme = record { ranks = []; categories = [] }; subjects = []; documents = [] }

-- a statement and the rest
most-first : (coming : ℕ → ℕ) (x : Stmt) (xs : List Stmt) → most_of coming (statements_of (x ∷ xs)) ≡ most_of coming (statements_of (x ∷ [])) + most_of coming (statements_of xs)
most-first coming (stmt.Show doc) xs = omega arith
most-first coming (stmt.Say words) xs = omega arith
most-first coming (stmt.Add doc words) xs = omega arith
most-first coming (stmt.Set doc words) xs = omega arith
most-first coming (stmt.Copy from to) xs = omega arith
most-first coming (stmt.Pour from to) xs = omega arith
most-first coming (stmt.If choice) xs = omega arith
most-first coming (stmt.Spawn behaviour) xs = omega arith

-- behind the last one nothing is left
pub drop-all : (n : ℕ) (xs : List Stmt) → length xs ≤ n → drop n xs ≡ []
drop-all zero [] le = refl
drop-all (suc n) [] le = refl
drop-all zero (x ∷ xs) le = absurd (omega (arith, le))
drop-all (suc n) (x ∷ xs) le = drop-all n xs (omega (arith, le))

-- the sum so far and what is left are all
pub most-on : (coming : ℕ → ℕ) (most one : ℕ) (xs : List Stmt) (i : ℕ) (x : Stmt) → i < length xs → x ≡ get_or xs i x
    → one ≡ in_word (most_of coming (statements_of (x ∷ [])))
    → in_word (in_word (most + one) + most_of coming (statements_of (drop (i + 1) xs))) ≡ in_word (most + most_of coming (statements_of (drop i xs)))
most-on coming most one xs i x lt at is =
    let rest = drop (i + 1) xs in
    let here : most_of coming (statements_of (drop i xs)) ≡ most_of coming (statements_of (x ∷ [])) + most_of coming (statements_of rest) =
    ap (λ l. most_of coming (statements_of l)) (drop_more xs i x lt ∙ ap (λ (s : Stmt). s ∷ rest) (sym at)) ∙ most-first coming x rest in
    omega (arith, is, here)

module _ (count : ℕ) where
  below-first : (x : Stmt) (xs : List Stmt) → NamesBelow count (statements_of (x ∷ xs)) → NamesBelow count (statements_of (x ∷ [])) × NamesBelow count (statements_of xs)
  below-first (stmt.Show doc) xs h = (tt, h)
  below-first (stmt.Say words) xs h = (tt, h)
  below-first (stmt.Add doc words) xs h = (tt, h)
  below-first (stmt.Set doc words) xs h = (tt, h)
  below-first (stmt.Copy from to) xs h = (tt, h)
  below-first (stmt.Pour from to) xs h = (tt, h)
  below-first (stmt.If choice) xs h = ((h.0, h.1, tt), h.2)
  below-first (stmt.Spawn behaviour) xs h = ((h.0, tt), h.1)

  -- so is each that one of them names
  pub below-each : (xs : List Stmt) (i : ℕ) (x : Stmt) → i < length xs → x ≡ get_or xs i x → NamesBelow count (statements_of xs) → NamesBelow count (statements_of (x ∷ []))
  below-each [] i x lt at h = absurd (omega (arith, lt))
  below-each (y ∷ xs) zero x lt at h = subst (λ (s : Stmt). NamesBelow count (statements_of (s ∷ []))) (sym at) (below-first y xs h).0
  below-each (y ∷ xs) (suc i) x lt at h = below-each xs i x (omega (arith, lt)) at (below-first y xs h).1

  names-below : (b : Statements) → AllByRecursion (λ j. j < count) (spawned b) → NamesBelow count b
  names-below Nothing h = tt
  names-below (Show doc rest) h = names-below rest h
  names-below (Say text rest) h = names-below rest h
  names-below (Add doc text rest) h = names-below rest h
  names-below (Set doc text rest) h = names-below rest h
  names-below (Copy from to rest) h = names-below rest h
  names-below (Pour from to rest) h = names-below rest h
  names-below (If doc asks text t e rest) h =
      let both = each-left (λ j. j < count) (spawned t ++ spawned e) (spawned rest) h in (
        names-below t (each-left (λ j. j < count) (spawned t) (spawned e) both),
        names-below e (each-right (λ j. j < count) (spawned t) (spawned e) both),
        names-below rest (each-right (λ j. j < count) (spawned t ++ spawned e) (spawned rest) h),
      )
  names-below (Spawn behaviour rest) h = (h.0, names-below rest h.1)

-- the behaviours that a behaviour names are the script's
pub below-script : (script : List Part) → IsPreorder script → (k : ℕ) → k < length script → (statements : Statements) → statements ≡ (get_or script k no_part).body
    → NamesBelow (length script) statements
below-script script preorder k lt statements is =
    subst (NamesBelow (length script)) (sym is)
    (names-below (length script) (get_or script k no_part).body
    (each-map (λ j. (k + 1 ≤ j) × (j < length script)) (λ j. j < length script) (spawned (get_or script k no_part).body) (λ j h. h.1)
    (numbered-above script (k + 1) (spawned (get_or script k no_part).body) (preorder.numbered k lt))))
