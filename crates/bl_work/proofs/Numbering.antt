-- The behaviours of a `when`: how many they are, how large each is, how deep each goes, and how they are numbered.
use Rattle.std.proofs.Common.{◌≡◌, ℕ, zero, suc, ◌+◌, ◌-◌, ◌<◌, ◌≤◌, List, [], ◌∷◌, ◌++◌, length, get_or, refl, sym, ap, ◌∙◌, subst, arith, append_assoc, length-append, add-zero, zero-add}
use Rattle.std.specs.Prelude.{sum_by}
use Rattle.std.proofs.lemmas.List.{append-nil, get_or_at}
use Rattle.std.proofs.lemmas.List.Sums.{sum_by-cons, sum_by-append}
use Rattle.bl_work.specs.Names.{KnownNames}
use Rattle.bl_work.specs.Spelled.{SpelledAccess, SpelledBody, empty, show, say, add, set, copy, pour, if_then, if_else, spawn}
use Rattle.bl_work.specs.Statements.{Statements, Part, no_part}
use Rattle.bl_work.specs.Meaning.{whens, numbered, spawned_from, script_of}
use Rattle.bl_work.specs.Nesting.{spawned, sizes_from, size_at, depth_below, depths_from, depth_at, AreNumbered, IsPreorder}
use Rattle.bl_work.specs.WhenFaults.{depth_in}

module _ (names : KnownNames) where
  -- as many behaviours are spawned as there are `when`
  pub spawned_long : (b : SpelledBody) (next : ℕ) → length (spawned_from names next b) ≡ whens b
  spawned_long empty next = refl
  spawned_long (show d rest) next = spawned_long rest next
  spawned_long (say w rest) next = spawned_long rest next
  spawned_long (add d w rest) next = spawned_long rest next
  spawned_long (set d w rest) next = spawned_long rest next
  spawned_long (copy d e rest) next = spawned_long rest next
  spawned_long (pour d e rest) next = spawned_long rest next
  spawned_long (if_then d a w t rest) next =
      omega (arith, length-append (spawned_from names next t) (spawned_from names (next + whens t) rest), spawned_long t next, spawned_long rest (next + whens t))
  spawned_long (if_else d a w t e rest) next =
      omega (
        arith,
        length-append (spawned_from names next t) (spawned_from names (next + whens t) e ++ spawned_from names (next + whens t + whens e) rest),
        length-append (spawned_from names (next + whens t) e) (spawned_from names (next + whens t + whens e) rest),
        spawned_long t next,
        spawned_long e (next + whens t),
        spawned_long rest (next + whens t + whens e),
      )
  spawned_long (spawn f m b rest) next =
      omega (arith, length-append (spawned_from names (next + 1) b) (spawned_from names (next + 1 + whens b) rest), spawned_long b (next + 1), spawned_long rest (next + 1 + whens b))

-- ---- a number for each behaviour in a body

module _ (value : SpelledBody → ℕ) where
  -- the numbers of the behaviours, in the order of the text
  abbrev pub values_in : SpelledBody → List ℕ
  values_in empty = []
  values_in (show d rest) = values_in rest
  values_in (say w rest) = values_in rest
  values_in (add d w rest) = values_in rest
  values_in (set d w rest) = values_in rest
  values_in (copy d e rest) = values_in rest
  values_in (pour d e rest) = values_in rest
  values_in (if_then d a w t rest) = values_in t ++ values_in rest
  values_in (if_else d a w t e rest) = values_in t ++ (values_in e ++ values_in rest)
  values_in (spawn f m b rest) = value b ∷ (values_in b ++ values_in rest)

  -- there is a number for each `when`
  values_long : (b : SpelledBody) → length (values_in b) ≡ whens b
  values_long empty = refl
  values_long (show d rest) = values_long rest
  values_long (say w rest) = values_long rest
  values_long (add d w rest) = values_long rest
  values_long (set d w rest) = values_long rest
  values_long (copy d e rest) = values_long rest
  values_long (pour d e rest) = values_long rest
  values_long (if_then d a w t rest) = omega (arith, length-append (values_in t) (values_in rest), values_long t, values_long rest)
  values_long (if_else d a w t e rest) =
      omega (arith, length-append (values_in t) (values_in e ++ values_in rest), length-append (values_in e) (values_in rest), values_long t, values_long e, values_long rest)
  values_long (spawn f m b rest) = omega (arith, length-append (values_in b) (values_in rest), values_long b, values_long rest)

  -- the table has at each behaviour of the body its number, the first of them standing at this place
  abbrev pub HasAt : (ℕ → ℕ) → ℕ → SpelledBody → Type 0
  HasAt table next empty = Unit {0}
  HasAt table next (show d rest) = HasAt table next rest
  HasAt table next (say w rest) = HasAt table next rest
  HasAt table next (add d w rest) = HasAt table next rest
  HasAt table next (set d w rest) = HasAt table next rest
  HasAt table next (copy d e rest) = HasAt table next rest
  HasAt table next (pour d e rest) = HasAt table next rest
  HasAt table next (if_then d a w t rest) = HasAt table next t × HasAt table (next + whens t) rest
  HasAt table next (if_else d a w t e rest) = HasAt table next t × HasAt table (next + whens t) e × HasAt table (next + whens t + whens e) rest
  HasAt table next (spawn f m b rest) = (table next ≡ value b) × HasAt table (next + 1) b × HasAt table (next + 1 + whens b) rest

  -- a list that has the numbers somewhere is such a table
  pub has_at : (b : SpelledBody) (list before behind : List ℕ) (base next : ℕ) → next ≡ base + length before → list ≡ before ++ (values_in b ++ behind)
      → HasAt (λ j. get_or list (j - base) 0) next b
  has_at empty list before behind base next at is = tt
  has_at (show d rest) list before behind base next at is = has_at rest list before behind base next at is
  has_at (say w rest) list before behind base next at is = has_at rest list before behind base next at is
  has_at (add d w rest) list before behind base next at is = has_at rest list before behind base next at is
  has_at (set d w rest) list before behind base next at is = has_at rest list before behind base next at is
  has_at (copy d e rest) list before behind base next at is = has_at rest list before behind base next at is
  has_at (pour d e rest) list before behind base next at is = has_at rest list before behind base next at is
  has_at (if_then d a w t rest) list before behind base next at is =
      let split = is ∙ ap (λ l. before ++ l) (append_assoc (values_in t) (values_in rest) behind) in (
        has_at t list before (values_in rest ++ behind) base next at split,
        has_at rest list (before ++ values_in t) behind base (next + whens t) (omega (arith, length-append before (values_in t), values_long t))
            (split ∙ sym (append_assoc before (values_in t) (values_in rest ++ behind))),
      )
  has_at (if_else d a w t e rest) list before behind base next at is =
      let split = is ∙ ap (λ l. before ++ l) (append_assoc (values_in t) (values_in e ++ values_in rest) behind
      ∙ ap (λ l. values_in t ++ l) (append_assoc (values_in e) (values_in rest) behind)) in
      let second = split ∙ sym (append_assoc before (values_in t) (values_in e ++ (values_in rest ++ behind))) in (
        has_at t list before (values_in e ++ (values_in rest ++ behind)) base next at split,
        has_at e list (before ++ values_in t) (values_in rest ++ behind) base (next + whens t) (omega (arith, length-append before (values_in t), values_long t)) second,
        has_at rest list ((before ++ values_in t) ++ values_in e) behind base (next + whens t + whens e)
            (omega (arith, length-append (before ++ values_in t) (values_in e), length-append before (values_in t), values_long t, values_long e))
            (second ∙ sym (append_assoc (before ++ values_in t) (values_in e) (values_in rest ++ behind))),
      )
  has_at (spawn f m b rest) list before behind base next at is =
      let split = is ∙ ap (λ l. before ++ (value b ∷ l)) (append_assoc (values_in b) (values_in rest) behind) in
      let place : length before ≡ next - base = omega arith in (
        ap (λ l. get_or l (next - base) 0) is ∙ get_or_at before (value b) _ 0 (next - base) place,
        has_at b list (before ++ value b ∷ []) (values_in rest ++ behind) base (next + 1) (omega (arith, length-append before (value b ∷ [])))
            (split ∙ sym (append_assoc before (value b ∷ []) (values_in b ++ (values_in rest ++ behind)))),
        has_at rest list (before ++ value b ∷ values_in b) behind base (next + 1 + whens b)
            (omega (arith, length-append before (value b ∷ values_in b), values_long b))
            (split ∙ sym (append_assoc before (value b ∷ values_in b) (values_in rest ++ behind))),
      )

-- A number for each behaviour of a script, which is one more than what its statements have by the numbers of the later ones.
module _ (names : KnownNames) (measure : SpelledBody → ℕ) (table : ℕ → List Part → List ℕ) (total : (ℕ → ℕ) → Statements → ℕ)
    (one : (k : ℕ) (p : Part) (rest : List Part) → table k (p ∷ rest) ≡ (1 + total (λ j. get_or (table (k + 1) rest) (j - (k + 1)) 0) p.body) ∷ table (k + 1) rest)
    (meets : (b : SpelledBody) (f : ℕ → ℕ) (next : ℕ) → HasAt (λ c. 1 + measure c) f next b → total f (numbered names next b) ≡ measure b) where
  -- the table of a list that begins with what a body spawns begins with the numbers of that body
  pub table_is : (b : SpelledBody) (next : ℕ) (behind : List Part)
      → table next (spawned_from names next b ++ behind) ≡ values_in (λ c. 1 + measure c) b ++ table (next + whens b) behind
  table_is empty next behind = rw add-zero refl
  table_is (show d rest) next behind = table_is rest next behind
  table_is (say w rest) next behind = table_is rest next behind
  table_is (add d w rest) next behind = table_is rest next behind
  table_is (set d w rest) next behind = table_is rest next behind
  table_is (copy d e rest) next behind = table_is rest next behind
  table_is (pour d e rest) next behind = table_is rest next behind
  table_is (if_then d a w t rest) next behind =
      let same : next + whens t + whens rest ≡ next + (whens t + whens rest) = omega arith in
      ap (table next) (append_assoc (spawned_from names next t) (spawned_from names (next + whens t) rest) behind)
      ∙ table_is t next (spawned_from names (next + whens t) rest ++ behind)
      ∙ ap (λ l. values_in (λ c. 1 + measure c) t ++ l) (table_is rest (next + whens t) behind)
      ∙ ap (λ n. values_in (λ c. 1 + measure c) t ++ (values_in (λ c. 1 + measure c) rest ++ table n behind)) same
      ∙ sym (append_assoc (values_in (λ c. 1 + measure c) t) (values_in (λ c. 1 + measure c) rest) _)
  table_is (if_else d a w t e rest) next behind =
      let same : next + whens t + whens e + whens rest ≡ next + (whens t + (whens e + whens rest)) = omega arith in
      let v = values_in (λ c. 1 + measure c) in
      let s = spawned_from names (next + whens t) e in
      let r = spawned_from names (next + whens t + whens e) rest in
      ap (table next) (append_assoc (spawned_from names next t) (s ++ r) behind ∙ ap (λ l. spawned_from names next t ++ l) (append_assoc s r behind))
      ∙ table_is t next (s ++ (r ++ behind))
      ∙ ap (λ l. v t ++ l) (table_is e (next + whens t) (r ++ behind) ∙ ap (λ l. v e ++ l) (table_is rest (next + whens t + whens e) behind))
      ∙ ap (λ n. v t ++ (v e ++ (v rest ++ table n behind))) same
      ∙ ap (λ l. v t ++ l) (sym (append_assoc (v e) (v rest) _))
      ∙ sym (append_assoc (v t) (v e ++ v rest) _)
  table_is (spawn f m b rest) next behind =
      let same : next + 1 + whens b + whens rest ≡ next + (1 + (whens b + whens rest)) = omega arith in
      let v = values_in (λ c. 1 + measure c) in
      let r = spawned_from names (next + 1 + whens b) rest in
      let later = (spawned_from names (next + 1) b ++ r) ++ behind in
      let is : table (next + 1) later ≡ v b ++ (v rest ++ table (next + (1 + (whens b + whens rest))) behind) =
      ap (table (next + 1)) (append_assoc (spawned_from names (next + 1) b) r behind)
      ∙ table_is b (next + 1) (r ++ behind)
      ∙ ap (λ l. v b ++ l) (table_is rest (next + 1 + whens b) behind)
      ∙ ap (λ n. v b ++ (v rest ++ table n behind)) same in
      let place : next + 1 ≡ next + 1 + 0 = omega arith in
      let sum = meets b (λ j. get_or (table (next + 1) later) (j - (next + 1)) 0) (next + 1)
      (has_at (λ c. 1 + measure c) b (table (next + 1) later) [] (v rest ++ table (next + (1 + (whens b + whens rest))) behind) (next + 1) (next + 1) place is) in
      one next _ later
      ∙ ap (λ n. (1 + n) ∷ table (next + 1) later) sum
      ∙ ap (λ l. (1 + measure b) ∷ l) (is ∙ sym (append_assoc (v b) (v rest) _))

-- ---- how large and how deep

module _ (names : KnownNames) where
  -- the behaviours that statements name have within them all that the statements spawn
  sum_spawned : (b : SpelledBody) (f : ℕ → ℕ) (next : ℕ) → HasAt (λ c. 1 + whens c) f next b → sum_by f (spawned (numbered names next b)) ≡ whens b
  sum_spawned empty f next h = refl
  sum_spawned (show d rest) f next h = sum_spawned rest f next h
  sum_spawned (say w rest) f next h = sum_spawned rest f next h
  sum_spawned (add d w rest) f next h = sum_spawned rest f next h
  sum_spawned (set d w rest) f next h = sum_spawned rest f next h
  sum_spawned (copy d e rest) f next h = sum_spawned rest f next h
  sum_spawned (pour d e rest) f next h = sum_spawned rest f next h
  sum_spawned (if_then d a w t rest) f next (h, i) =
      let x = spawned (numbered names next t) in
      let z = spawned (numbered names (next + whens t) rest) in
      sum_by-append f (x ++ []) z ∙ ap (λ l. sum_by f l + sum_by f z) (append-nil x)
      ∙ ap (λ n. n + sum_by f z) (sum_spawned t f next h) ∙ ap (λ n. whens t + n) (sum_spawned rest f (next + whens t) i)
  sum_spawned (if_else d a w t e rest) f next (h, i, j) =
      let x = spawned (numbered names next t) in
      let y = spawned (numbered names (next + whens t) e) in
      let z = spawned (numbered names (next + whens t + whens e) rest) in
      omega (arith, sum_by-append f (x ++ y) z, sum_by-append f x y, sum_spawned t f next h, sum_spawned e f (next + whens t) i, sum_spawned rest f (next + whens t + whens e) j)
  sum_spawned (spawn a m b rest) f next (h, i, j) =
      sum_by-cons f next (spawned (numbered names (next + 1 + whens b) rest)) ∙ ap (λ n. n + sum_by f (spawned (numbered names (next + 1 + whens b) rest))) h
      ∙ ap (λ n. 1 + whens b + n) (sum_spawned rest f (next + 1 + whens b) j) ∙ omega arith

  -- statements go as deep as they are spelled
  depth_numbered : (b : SpelledBody) (f : ℕ → ℕ) (next : ℕ) → HasAt (λ c. 1 + depth_in c) f next b → depth_below f (numbered names next b) ≡ depth_in b
  depth_numbered empty f next h = refl
  depth_numbered (show d rest) f next h = depth_numbered rest f next h
  depth_numbered (say w rest) f next h = depth_numbered rest f next h
  depth_numbered (add d w rest) f next h = depth_numbered rest f next h
  depth_numbered (set d w rest) f next h = depth_numbered rest f next h
  depth_numbered (copy d e rest) f next h = depth_numbered rest f next h
  depth_numbered (pour d e rest) f next h = depth_numbered rest f next h
  depth_numbered (if_then d a w t rest) f next (h, i) = omega (arith, depth_numbered t f next h, depth_numbered rest f (next + whens t) i)
  depth_numbered (if_else d a w t e rest) f next (h, i, j) =
      omega (arith, depth_numbered t f next h, depth_numbered e f (next + whens t) i, depth_numbered rest f (next + whens t + whens e) j)
  depth_numbered (spawn a m b rest) f next (h, i, j) = omega (arith, h, depth_numbered rest f (next + 1 + whens b) j)

  -- the sizes of what a body spawns: each behaviour, and the `when` in it
  sizes_are : (b : SpelledBody) (next : ℕ) (behind : List Part)
      → sizes_from next (spawned_from names next b ++ behind) ≡ values_in (λ c. 1 + whens c) b ++ sizes_from (next + whens b) behind
  sizes_are = table_is names whens sizes_from (λ f body. sum_by f (spawned body)) (λ k p rest. refl) sum_spawned

  -- the depths of what a body spawns: each `when`, and how deep its body goes
  depths_are : (b : SpelledBody) (next : ℕ) (behind : List Part)
      → depths_from next (spawned_from names next b ++ behind) ≡ values_in (λ c. 1 + depth_in c) b ++ depths_from (next + whens b) behind
  depths_are = table_is names depth_in depths_from depth_below (λ k p rest. refl) depth_numbered

-- ---- the script of a `when`

-- what holds of each behaviour in a list and of its number, the first having this one
abbrev EachFrom : (ℕ → Part → Type 0) → ℕ → List Part → Type 0
EachFrom P k [] = Unit {0}
EachFrom P k (p ∷ rest) = P k p × EachFrom P (k + 1) rest

-- it holds of each behaviour, by its place
each_at : (P : ℕ → Part → Type 0) (xs : List Part) (k i : ℕ) (d : Part) → EachFrom P k xs → i < length xs → P (k + i) (get_or xs i d)
each_at P [] k i d h lt = absurd (omega arith)
each_at P (x ∷ xs) k zero d (h, more) lt = let same : k ≡ k + 0 = omega arith in subst (λ n. P n x) same h
each_at P (x ∷ xs) k (suc i) d (h, more) lt =
    let same : k + 1 + i ≡ k + suc i = omega arith in
    subst (λ n. P n (get_or xs i d)) same (each_at P xs (k + 1) i d more (omega arith))

-- what the behaviour of this number names is numbered from the next number on
abbrev IsNumbered : List Part → ℕ → Part → Type 0
IsNumbered script k part = AreNumbered script (k + 1) (spawned part.body)

module _ (names : KnownNames) (script : List Part) where
  -- the script has at each behaviour of the body its size
  abbrev Fits : ℕ → SpelledBody → Type 0
  Fits next b = HasAt (λ c. 1 + whens c) (size_at script) next b

  -- the behaviours that a body names are numbered one whole behaviour after another
  numbered_on : (b : SpelledBody) (next : ℕ) (more : List ℕ) → Fits next b → next + whens b ≤ length script → AreNumbered script (next + whens b) more
      → AreNumbered script next (spawned (numbered names next b) ++ more)
  numbered_on empty next more h within behind = let same : next + 0 ≡ next = omega arith in subst (λ n. AreNumbered script n more) same behind
  numbered_on (show d rest) next more h within behind = numbered_on rest next more h within behind
  numbered_on (say w rest) next more h within behind = numbered_on rest next more h within behind
  numbered_on (add d w rest) next more h within behind = numbered_on rest next more h within behind
  numbered_on (set d w rest) next more h within behind = numbered_on rest next more h within behind
  numbered_on (copy d e rest) next more h within behind = numbered_on rest next more h within behind
  numbered_on (pour d e rest) next more h within behind = numbered_on rest next more h within behind
  numbered_on (if_then d a w t rest) next more (h, i) within behind =
      let x = spawned (numbered names next t) in
      let z = spawned (numbered names (next + whens t) rest) in
      let same : next + (whens t + whens rest) ≡ next + whens t + whens rest = omega arith in
      let split : x ++ (z ++ more) ≡ (x ++ []) ++ z ++ more = sym (append_assoc x z more) ∙ ap (λ l. l ++ z ++ more) (sym (append-nil x)) in
      subst (λ l. AreNumbered script next l) split
      (numbered_on t next (z ++ more) h (omega arith)
      (numbered_on rest (next + whens t) more i (omega arith) (subst (λ n. AreNumbered script n more) same behind)))
  numbered_on (if_else d a w t e rest) next more (h, i, j) within behind =
      let x = spawned (numbered names next t) in
      let y = spawned (numbered names (next + whens t) e) in
      let z = spawned (numbered names (next + whens t + whens e) rest) in
      let same : next + (whens t + (whens e + whens rest)) ≡ next + whens t + whens e + whens rest = omega arith in
      let split : x ++ (y ++ (z ++ more)) ≡ (x ++ y) ++ z ++ more = sym (append_assoc x y (z ++ more)) ∙ sym (append_assoc (x ++ y) z more) in
      subst (λ l. AreNumbered script next l) split
      (numbered_on t next (y ++ (z ++ more)) h (omega arith)
      (numbered_on e (next + whens t) (z ++ more) i (omega arith)
      (numbered_on rest (next + whens t + whens e) more j (omega arith) (subst (λ n. AreNumbered script n more) same behind))))
  numbered_on (spawn f m b rest) next more (h, i, j) within behind =
      let same : next + (1 + (whens b + whens rest)) ≡ next + 1 + whens b + whens rest = omega arith in
      let past : next + 1 + whens b ≡ next + size_at script next = omega (arith, h) in (
        refl,
        omega arith,
        subst (λ n. AreNumbered script n (spawned (numbered names (next + 1 + whens b) rest) ++ more)) past
            (numbered_on rest (next + 1 + whens b) more j (omega arith) (subst (λ n. AreNumbered script n more) same behind)),
      )

  -- and so are those that each behaviour in it names
  numbered_each : (b : SpelledBody) (next : ℕ) (behind : List Part) → Fits next b → next + whens b ≤ length script
      → EachFrom (IsNumbered script) (next + whens b) behind → EachFrom (IsNumbered script) next (spawned_from names next b ++ behind)
  numbered_each empty next behind h within more = let same : next + 0 ≡ next = omega arith in subst (λ n. EachFrom (IsNumbered script) n behind) same more
  numbered_each (show d rest) next behind h within more = numbered_each rest next behind h within more
  numbered_each (say w rest) next behind h within more = numbered_each rest next behind h within more
  numbered_each (add d w rest) next behind h within more = numbered_each rest next behind h within more
  numbered_each (set d w rest) next behind h within more = numbered_each rest next behind h within more
  numbered_each (copy d e rest) next behind h within more = numbered_each rest next behind h within more
  numbered_each (pour d e rest) next behind h within more = numbered_each rest next behind h within more
  numbered_each (if_then d a w t rest) next behind (h, i) within more =
      let same : next + (whens t + whens rest) ≡ next + whens t + whens rest = omega arith in
      subst (λ l. EachFrom (IsNumbered script) next l) (sym (append_assoc (spawned_from names next t) (spawned_from names (next + whens t) rest) behind))
      (numbered_each t next (spawned_from names (next + whens t) rest ++ behind) h (omega arith)
      (numbered_each rest (next + whens t) behind i (omega arith) (subst (λ n. EachFrom (IsNumbered script) n behind) same more)))
  numbered_each (if_else d a w t e rest) next behind (h, i, j) within more =
      let same : next + (whens t + (whens e + whens rest)) ≡ next + whens t + whens e + whens rest = omega arith in
      let s = spawned_from names (next + whens t) e in
      let r = spawned_from names (next + whens t + whens e) rest in
      let split : spawned_from names next t ++ (s ++ (r ++ behind)) ≡ spawned_from names next t ++ (s ++ r) ++ behind =
      ap (λ l. spawned_from names next t ++ l) (sym (append_assoc s r behind)) ∙ sym (append_assoc (spawned_from names next t) (s ++ r) behind) in
      subst (λ l. EachFrom (IsNumbered script) next l) split
      (numbered_each t next (s ++ (r ++ behind)) h (omega arith)
      (numbered_each e (next + whens t) (r ++ behind) i (omega arith)
      (numbered_each rest (next + whens t + whens e) behind j (omega arith) (subst (λ n. EachFrom (IsNumbered script) n behind) same more))))
  numbered_each (spawn f m b rest) next behind (h, i, j) within more =
      let same : next + (1 + (whens b + whens rest)) ≡ next + 1 + whens b + whens rest = omega arith in
      let own = numbered_on b (next + 1) [] i (omega arith) tt in (
        subst (λ l. AreNumbered script (next + 1) l) (append-nil (spawned (numbered names (next + 1) b))) own,
        subst (λ l. EachFrom (IsNumbered script) (next + 1) l) (sym (append_assoc (spawned_from names (next + 1) b) (spawned_from names (next + 1 + whens b) rest) behind))
            (numbered_each b (next + 1) (spawned_from names (next + 1 + whens b) rest ++ behind) i (omega arith)
            (numbered_each rest (next + 1 + whens b) behind j (omega arith) (subst (λ n. EachFrom (IsNumbered script) n behind) same more))),
      )

module _ (names : KnownNames) (first : SpelledAccess) (more : List SpelledAccess) (body : SpelledBody) where
  -- the script of the `when`
  abbrev whole : List Part
  whole = script_of names first more body

  -- a script has a behaviour for each `when`, the outermost among them
  pub script_long : length whole ≡ 1 + whens body
  script_long = omega (arith, spawned_long names body 1)

  -- the sizes of the behaviours behind the outermost
  sizes_of_rest : sizes_from 1 (spawned_from names 1 body) ≡ values_in (λ c. 1 + whens c) body ++ []
  sizes_of_rest = ap (sizes_from 1) (sym (append-nil (spawned_from names 1 body))) ∙ sizes_are names body 1 []

  -- the depths of the behaviours behind the outermost
  depths_of_rest : depths_from 1 (spawned_from names 1 body) ≡ values_in (λ c. 1 + depth_in c) body ++ []
  depths_of_rest = ap (depths_from 1) (sym (append-nil (spawned_from names 1 body))) ∙ depths_are names body 1 []

  -- the outermost behaviour has all the others within it
  size_of_whole : size_at whole 0 ≡ 1 + whens body
  size_of_whole =
      ap (λ n. 1 + n) (sum_spawned names body (λ j. get_or (sizes_from 1 (spawned_from names 1 body)) (j - 1) 0) 1
      (has_at (λ c. 1 + whens c) body (sizes_from 1 (spawned_from names 1 body)) [] [] 1 1 refl sizes_of_rest))

  -- the outermost behaviour goes as deep as the body, and its own `when` is one step
  pub script_depth : depth_at whole 0 ≡ 1 + depth_in body
  script_depth =
      ap (λ n. 1 + n) (depth_numbered names body (λ j. get_or (depths_from 1 (spawned_from names 1 body)) (j - 1) 0) 1
      (has_at (λ c. 1 + depth_in c) body (depths_from 1 (spawned_from names 1 body)) [] [] 1 1 refl depths_of_rest))

  -- the sizes in the script are those of the body
  fits_whole : Fits names whole 1 body
  fits_whole =
      let same : (j : ℕ) → j - 0 ≡ j = λ j. omega arith in
      subst (λ (table : ℕ → ℕ). HasAt (λ c. 1 + whens c) table 1 body) (λ i j. get_or (sizes_from 0 whole) (same j i) 0)
      (has_at (λ c. 1 + whens c) body (sizes_from 0 whole) (size_at whole 0 ∷ []) [] 0 1 refl (ap (λ l. size_at whole 0 ∷ l) sizes_of_rest))

  -- the behaviours that each names are numbered one whole behaviour after another
  each_numbered : EachFrom (IsNumbered whole) 0 whole
  each_numbered =
      let within : 1 + whens body ≤ length whole = omega (arith, script_long) in (
        subst (λ l. AreNumbered whole 1 l) (append-nil (spawned (numbered names 1 body))) (numbered_on names whole body 1 [] fits_whole within tt),
        subst (λ l. EachFrom (IsNumbered whole) 1 l) (append-nil (spawned_from names 1 body)) (numbered_each names whole body 1 [] fits_whole within tt),
      )

  -- the script of a `when` is in pre-order
  pub script_preorder : IsPreorder whole
  script_preorder = record {
    some = omega arith;
    whole = size_of_whole ∙ sym script_long;
    numbered = λ k lt. subst (λ n. IsNumbered whole n (get_or whole k no_part)) (zero-add k) (each_at (IsNumbered whole) whole 0 k no_part each_numbered lt);
  }
