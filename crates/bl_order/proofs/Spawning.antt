-- What a behaviour spawns is among what it names, and so within its size.
use Rattle.std.proofs.Common.{◌≡◌, ℕ, zero, suc, ◌≤◌, ◌<◌, ◌+◌, ◌-◌, ◌*◌, Bool, true, false, cond, List, [], ◌∷◌, ◌++◌, length, get_or, refl, ap, sym, ◌∙◌, arith}
use Rattle.std.specs.Prelude.{sum_by, nat_lt}
use Rattle.std.proofs.lemmas.Bool.Decides.{nat_tests}
use Rattle.std.proofs.lemmas.List.Sums.{sum_by-append, sum_by-cons, sum_by-le, get_or-le-sum_by}
use Rattle.bl_work.specs.Effects as effect
use Rattle.bl_work.specs.Effects.{Effect, children, effects_from, effects_of, holds_of, seen}
use Rattle.bl_work.specs.Nesting.{spawned, sizes_from, size_at, AreNumbered, IsPreorder}
use Rattle.bl_work.specs.Statements.{Statements, Nothing, Show, Say, Add, Set, Copy, Pour, If, Spawn, Part, no_part}

-- ---- effects

-- the children of two lists of effects
children-append : (es fs : List Effect) → children (es ++ fs) ≡ children es ++ children fs
children-append [] fs = refl
children-append (effect.Out text ∷ es) fs = children-append es fs
children-append (effect.Put doc text ∷ es) fs = children-append es fs
children-append (effect.Add doc text ∷ es) fs = children-append es fs
children-append (effect.Child j ∷ es) fs = ap (λ js. j ∷ js) (children-append es fs)

module _ (f : ℕ → ℕ) (contents : ℕ → List ℕ) where
  sum-more : (es fs : List Effect) → sum_by f (children (es ++ fs)) ≡ sum_by f (children es) + sum_by f (children fs)
  sum-more es fs = ap (sum_by f) (children-append es fs) ∙ sum_by-append f (children es) (children fs)

  sum-either : (b : Bool) (es fs : List Effect) (most : ℕ) → sum_by f (children es) ≤ most → sum_by f (children fs) ≤ most → sum_by f (children (cond b es fs)) ≤ most
  sum-either true es fs most h k = h
  sum-either false es fs most h k = k

  -- over the children that a body spawns a sum is no greater than over those that it names
  pub sum-children : (body : Statements) (es : List Effect) → sum_by f (children (effects_from contents es body)) ≤ sum_by f (children es) + sum_by f (spawned body)
  sum-children Nothing es = omega arith
  sum-children (Show doc rest) es =
      omega (arith, sum-children rest (es ++ effect.Out (seen contents es doc) ∷ []), sum-more es (effect.Out (seen contents es doc) ∷ []))
  sum-children (Say text rest) es = omega (arith, sum-children rest (es ++ effect.Out text ∷ []), sum-more es (effect.Out text ∷ []))
  sum-children (Add doc text rest) es = omega (arith, sum-children rest (es ++ effect.Add doc text ∷ []), sum-more es (effect.Add doc text ∷ []))
  sum-children (Set doc text rest) es = omega (arith, sum-children rest (es ++ effect.Put doc text ∷ []), sum-more es (effect.Put doc text ∷ []))
  sum-children (Copy from to rest) es =
      omega (arith, sum-children rest (es ++ effect.Put to (seen contents es from) ∷ []), sum-more es (effect.Put to (seen contents es from) ∷ []))
  sum-children (Pour from to rest) es =
      omega (arith, sum-children rest (es ++ effect.Add to (seen contents es from) ∷ []), sum-more es (effect.Add to (seen contents es from) ∷ []))
  sum-children (If doc asks text t e rest) es =
      let either : sum_by f (children (cond (holds_of asks (seen contents es doc) text) (effects_from contents es t) (effects_from contents es e)))
      ≤ sum_by f (children es) + (sum_by f (spawned t) + sum_by f (spawned e)) =
      sum-either (holds_of asks (seen contents es doc) text) (effects_from contents es t) (effects_from contents es e)
      (sum_by f (children es) + (sum_by f (spawned t) + sum_by f (spawned e))) (omega (arith, sum-children t es)) (omega (arith, sum-children e es)) in
      omega (
        arith,
        either,
        sum-children rest (cond (holds_of asks (seen contents es doc) text) (effects_from contents es t) (effects_from contents es e)),
        sum_by-append f (spawned t ++ spawned e) (spawned rest),
        sum_by-append f (spawned t) (spawned e),
      )
  sum-children (Spawn behaviour rest) es =
      omega (arith, sum-children rest (es ++ effect.Child behaviour ∷ []), sum-more es (effect.Child behaviour ∷ []), sum_by-cons f behaviour (spawned rest))

-- ---- sizes

-- behaviours numbered one after another have at least the first number, and are the script's
numbered_within : (script : List Part) (next : ℕ) (js : List ℕ) → AreNumbered script next js → (i d : ℕ) → i < length js
    → (next ≤ get_or js i d) × (get_or js i d < length script)
numbered_within script next [] h i d lt = absurd (omega arith)
numbered_within script next (j ∷ js) h zero d lt = (omega (arith, h.0), h.1)
numbered_within script next (j ∷ js) h (suc i) d lt =
    let deeper : (next + size_at script j ≤ get_or js i d) × (get_or js i d < length script) = numbered_within script (next + size_at script j) js h.2 i d (omega arith) in
    (omega (arith, deeper.0), deeper.1)

-- sums of terms that agree on the list are the same
sum-same : (f g : ℕ → ℕ) (js : List ℕ) → ((i d : ℕ) → i < length js → f (get_or js i d) ≡ g (get_or js i d)) → sum_by f js ≡ sum_by g js
sum-same f g [] same = refl
sum-same f g (j ∷ js) same =
    sum_by-cons f j js ∙ ap (λ v. v + sum_by f js) (same 0 j (omega arith)) ∙ ap (λ v. g j + v) (sum-same f g js (λ i d lt. same (suc i) d (omega arith)))
    ∙ sym (sum_by-cons g j js)

-- a size in the table of the later behaviours, and in the table with one before them
further : (size : ℕ) (sizes : List ℕ) (j k : ℕ) → k < j → get_or sizes (j - (k + 1)) 0 ≡ get_or (size ∷ sizes) (j - k) 0
further size sizes j k lt = ap (λ m. get_or (size ∷ sizes) m 0) one_more
  where
    one_more : suc (j - (k + 1)) ≡ j - k
    one_more = omega arith

-- a behaviour's size is one more than the sizes of those that it names, for the behaviours from number k on
sizes-at : (k : ℕ) (script : List Part) (i : ℕ) → i < length script
    → ((m : ℕ) → m < length script → (q d : ℕ) → q < length (spawned (get_or script m no_part).body) → k + m < get_or (spawned (get_or script m no_part).body) q d)
    → get_or (sizes_from k script) i 0 ≡ 1 + sum_by (λ j. get_or (sizes_from k script) (j - k) 0) (spawned (get_or script i no_part).body)
sizes-at k [] i lt later = absurd (omega arith)
sizes-at k (part ∷ rest) zero lt later =
    ap (λ v. 1 + v) (sum-same (λ j. get_or (sizes_from (k + 1) rest) (j - (k + 1)) 0) (λ j. get_or (sizes_from k (part ∷ rest)) (j - k) 0) (spawned part.body)
    (λ m d at. further _ (sizes_from (k + 1) rest) (get_or (spawned part.body) m d) k (omega (arith, later 0 (omega arith) m d at))))
sizes-at k (part ∷ rest) (suc i) lt later =
    sizes-at (k + 1) rest i (omega arith) (λ m within q d at. omega (arith, later (suc m) (omega arith) q d at))
    ∙ ap (λ v. 1 + v) (sum-same (λ j. get_or (sizes_from (k + 1) rest) (j - (k + 1)) 0) (λ j. get_or (sizes_from k (part ∷ rest)) (j - k) 0) (spawned (get_or rest i no_part).body)
    (λ m d at. further _ (sizes_from (k + 1) rest) (get_or (spawned (get_or rest i no_part).body) m d) k (omega (arith, later (suc i) lt m d at))))

module _ (script : List Part) (preorder : IsPreorder script) (index : ℕ) (within : index < length script) where
  -- the same of a whole script
  pub size-at : size_at script index ≡ 1 + sum_by (size_at script) (spawned (get_or script index no_part).body)
  size-at =
      sizes-at 0 script index within
      (λ m lt q d at. omega (arith, (numbered_within script (m + 1) (spawned (get_or script m no_part).body) (preorder.numbered m lt) q d at).0))
      ∙ ap (λ v. 1 + v) (sum-same (λ j. get_or (sizes_from 0 script) (j - 0) 0) (size_at script) (spawned (get_or script index no_part).body)
      (λ m d at. ap (λ j. get_or (sizes_from 0 script) j 0) (less_none (get_or (spawned (get_or script index no_part).body) m d))))
    where
      less_none : (j : ℕ) → j - 0 ≡ j
      less_none j = omega arith

  -- the children of a behaviour have, all together, less than its size
  pub sizes-children : (contents : ℕ → List ℕ) → sum_by (size_at script) (children (effects_of contents (get_or script index no_part).body)) ≤ size_at script index - 1
  sizes-children contents = omega (arith, size-at, sum-children (size_at script) contents (get_or script index no_part).body [])

-- 1 for a number that is not below m
not_below : ℕ → ℕ → ℕ
not_below m j = cond (nat_lt j m) 0 1

below_from : (m j : ℕ) → not_below m j ≤ 0 → j < m
unfolding not_below
below_from m j h = grind (arith, nat_tests)

below_to : (m j : ℕ) → j < m → not_below m j ≤ 0
unfolding not_below
below_to m j h = grind (arith, nat_tests)

-- each child of a behaviour is one of the script's
pub child-there : (script : List Part) → IsPreorder script → (index : ℕ) → index < length script → (contents : ℕ → List ℕ) → (i d : ℕ)
    → i < length (children (effects_of contents (get_or script index no_part).body))
    → get_or (children (effects_of contents (get_or script index no_part).body)) i d < length script
child-there script preorder index within contents i d at =
    let named : sum_by (not_below (length script)) (spawned (get_or script index no_part).body) ≤ length (spawned (get_or script index no_part).body) * 0 =
    sum_by-le (not_below (length script)) 0 (spawned (get_or script index no_part).body)
    (λ k e lt. below_to (length script) (get_or (spawned (get_or script index no_part).body) k e)
    (numbered_within script (index + 1) (spawned (get_or script index no_part).body) (preorder.numbered index within) k e lt).1) in
    below_from (length script) (get_or (children (effects_of contents (get_or script index no_part).body)) i d)
    (omega (
      arith,
      named,
      sum-children (not_below (length script)) contents (get_or script index no_part).body [],
      get_or-le-sum_by (not_below (length script)) (children (effects_of contents (get_or script index no_part).body)) i d at,
    ))

-- a behaviour of a script has a size
pub size_is_some : (script : List Part) → IsPreorder script → (index : ℕ) → index < length script → 0 < size_at script index
size_is_some script preorder index within = omega (arith, size-at script preorder index within)
