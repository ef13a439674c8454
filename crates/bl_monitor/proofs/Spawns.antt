-- The behaviours that a body may spawn are in its script, and there are not too many of them.
use Rattle.std.proofs.Common.{◌≡◌, ℕ, zero, suc, ◌+◌, ◌-◌, ◌<◌, ◌≤◌, Bool, true, false, cond, List, [], ◌∷◌, ◌++◌, length, refl, sym, ◌∙◌, ap, subst, arith, length-append}
use Rattle.std.specs.Prelude.{All, slice_index_or}
use Rattle.std.proofs.lemmas.List.Elements.{All-nil, All-cons}
use Rattle.bl_work.specs.Effects.{Effect, Out, Put, Add, Child, effects_from, effects_of, holds_of, seen, children}
use Rattle.bl_work.specs.Nesting.{spawned, sizes_from, size_at, AreNumbered}
use Rattle.bl_work.specs.Script.{IsScript}
use Rattle.bl_work.specs.Statements as statement
use Rattle.bl_work.specs.Statements.{Statements, Part, no_part}

-- by recursion, for what follows
abbrev Each : (ℕ → Type 0) → List ℕ → Type 0
Each P [] = Unit {0}
Each P (x ∷ xs) = P x × Each P xs

each_append : (P : ℕ → Type 0) (xs ys : List ℕ) → Each P xs → Each P ys → Each P (xs ++ ys)
each_append P [] ys a b = b
each_append P (x ∷ xs) ys a b = (a.0, each_append P xs ys a.1 b)

each_first : (P : ℕ → Type 0) (xs ys : List ℕ) → Each P (xs ++ ys) → Each P xs
each_first P [] ys a = tt
each_first P (x ∷ xs) ys a = (a.0, each_first P xs ys a.1)

each_second : (P : ℕ → Type 0) (xs ys : List ℕ) → Each P (xs ++ ys) → Each P ys
each_second P [] ys a = a
each_second P (x ∷ xs) ys a = each_second P xs ys a.1

each_all : (P : ℕ → Type 0) (xs : List ℕ) → Each P xs → All P xs
each_all P [] a = All-nil P
each_all P (x ∷ xs) a = All-cons P x xs a.0 (each_all P xs a.1)

children-append : (xs ys : List Effect) → children (xs ++ ys) ≡ children xs ++ children ys
children-append [] ys = refl
children-append (Out text ∷ xs) ys = children-append xs ys
children-append (Put d text ∷ xs) ys = children-append xs ys
children-append (Add d text ∷ xs) ys = children-append xs ys
children-append (Child behaviour ∷ xs) ys = ap (λ l. behaviour ∷ l) (children-append xs ys)

-- so many children that pass, and at most this many
record Within (P : ℕ → Type 0) (most : ℕ) (effects : List Effect) : Type 0 where
  pub each : Each P (children effects)
  pub few : length (children effects) ≤ most

module _ (P : ℕ → Type 0) where
  same : (most : ℕ) (so_far : List Effect) (e : Effect) → children (e ∷ []) ≡ [] → Within P most so_far → Within P most (so_far ++ e ∷ [])
  same most so_far e none w =
      let is : children (so_far ++ e ∷ []) ≡ children so_far ++ [] = children-append so_far (e ∷ []) ∙ ap (λ l. children so_far ++ l) none in
      record {
        each = subst (Each P) (sym is) (each_append P (children so_far) [] w.each tt);
        few = let h : length (children so_far) ≤ most = w.few in omega (arith, ap length is, length-append (children so_far) []);
      }

  wider : (most more : ℕ) (effects : List Effect) → most ≤ more → Within P most effects → Within P more effects
  wider most more effects le w = record { each = w.each; few = let h : length (children effects) ≤ most = w.few in omega arith }

  one_of : (b : Bool) (most : ℕ) (xs ys : List Effect) → Within P most xs → Within P most ys → Within P most (cond b xs ys)
  one_of true most xs ys v w = v
  one_of false most xs ys v w = w

  module _ (contents : ℕ → List ℕ) where
    from : (body : Statements) (most : ℕ) (so_far : List Effect) → Each P (spawned body) → Within P most so_far
        → Within P (most + length (spawned body)) (effects_from contents so_far body)
    from statement.Nothing most so_far p w = wider most (most + 0) so_far (omega arith) w
    from (statement.Show doc rest) most so_far p w = from rest most (so_far ++ Out (seen contents so_far doc) ∷ []) p (same most so_far _ refl w)
    from (statement.Say text rest) most so_far p w = from rest most (so_far ++ Out text ∷ []) p (same most so_far _ refl w)
    from (statement.Add doc text rest) most so_far p w = from rest most (so_far ++ Add doc text ∷ []) p (same most so_far _ refl w)
    from (statement.Set doc text rest) most so_far p w = from rest most (so_far ++ Put doc text ∷ []) p (same most so_far _ refl w)
    from (statement.Copy a b rest) most so_far p w = from rest most (so_far ++ Put b (seen contents so_far a) ∷ []) p (same most so_far _ refl w)
    from (statement.Pour a b rest) most so_far p w = from rest most (so_far ++ Add b (seen contents so_far a) ∷ []) p (same most so_far _ refl w)
    from (statement.If doc asks text then_body else_body rest) most so_far p w =
        let first : Each P (spawned then_body ++ spawned else_body) = each_first P (spawned then_body ++ spawned else_body) (spawned rest) p in
        let inner : ℕ = most + length (spawned then_body ++ spawned else_body) in
        wider (inner + length (spawned rest)) (most + length (spawned then_body ++ spawned else_body ++ spawned rest)) _
        (omega (arith, length-append (spawned then_body ++ spawned else_body) (spawned rest)))
        (from rest inner _ (each_second P (spawned then_body ++ spawned else_body) (spawned rest) p)
        (one_of (holds_of asks (seen contents so_far doc) text) inner _ _
        (wider (most + length (spawned then_body)) inner _ (omega (arith, length-append (spawned then_body) (spawned else_body)))
        (from then_body most so_far (each_first P (spawned then_body) (spawned else_body) first) w))
        (wider (most + length (spawned else_body)) inner _ (omega (arith, length-append (spawned then_body) (spawned else_body)))
        (from else_body most so_far (each_second P (spawned then_body) (spawned else_body) first) w))))
    from (statement.Spawn behaviour rest) most so_far p w =
        let is : children (so_far ++ Child behaviour ∷ []) ≡ children so_far ++ behaviour ∷ [] = children-append so_far (Child behaviour ∷ []) in
        wider ((most + 1) + length (spawned rest)) (most + suc (length (spawned rest))) _ (omega arith)
        (from rest (most + 1) (so_far ++ Child behaviour ∷ []) p.1
        (record {
          each = subst (Each P) (sym is) (each_append P (children so_far) (behaviour ∷ []) w.each (p.0, tt));
          few = let h : length (children so_far) ≤ most = w.few in omega (arith, ap length is, length-append (children so_far) (behaviour ∷ []));
        }))

-- each behaviour has itself within
size-some : (k i : ℕ) (script : List Part) → i < length script → 1 ≤ slice_index_or (sizes_from k script) i 0
size-some k i [] lt = absurd (omega arith)
size-some k zero (part ∷ script) lt = omega arith
size-some k (suc i) (part ∷ script) lt = size-some (k + 1) i script (omega arith)

numbered_each : (script : List Part) (next : ℕ) (xs : List ℕ) → AreNumbered script next xs → Each (λ j. j < length script) xs
numbered_each script next [] h = tt
numbered_each script next (j ∷ more) h = (h.1, numbered_each script (next + size_at script j) more h.2)

numbered_few : (script : List Part) (next : ℕ) (xs : List ℕ) → AreNumbered script next xs → length xs ≤ length script - next
numbered_few script next [] h = omega arith
numbered_few script next (j ∷ more) h =
    let some : 1 ≤ size_at script j = size-some 0 j script h.1 in
    omega (arith, numbered_few script (next + size_at script j) more h.2, h.0, h.1)

-- what a behaviour of a script spawns
pub record Spawns (script : List Part) (effects : List Effect) : Type 0 where
  pub each : All (λ j. j < length script) (children effects)
  pub few : length (children effects) ≤ length script

pub spawns : (script : List Part) (index : ℕ) (contents : ℕ → List ℕ) → IsScript script → index < length script
    → Spawns script (effects_of contents (slice_index_or script index no_part).body)
spawns script index contents right lt =
    let body : Statements = (slice_index_or script index no_part).body in
    let w : Within (λ j. j < length script) (0 + length (spawned body)) (effects_of contents body) =
    from (λ j. j < length script) contents body 0 [] (numbered_each script (index + 1) (spawned body) (right.preorder.numbered index lt)) (record { each = tt; few = omega arith }) in
    record {
      each = each_all _ _ w.each;
      few = let h : length (children (effects_of contents body)) ≤ 0 + length (spawned body) = w.few in
          omega (arith, numbered_few script (index + 1) (spawned body) (right.preorder.numbered index lt));
    }

pub no_spawns : (script : List Part) → Spawns script []
no_spawns script = record { each = All-nil _; few = omega arith }
