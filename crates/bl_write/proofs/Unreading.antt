-- The way back from a script, a behaviour and a statement at a time.
use Rattle.std.proofs.Common.{◌≡◌, ℕ, zero, suc, ◌+◌, ◌-◌, ◌<◌, ◌≤◌, List, [], ◌∷◌, ◌++◌, length, get_or, drop, refl, ap, ◌∙◌, arith}
use Rattle.std.specs.Prelude.{All}
use Rattle.std.proofs.lemmas.List.Elements.{All-cons, All-nil, All-head, All-tail}
use Rattle.bl_work.specs.Names.{KnownNames}
use Rattle.bl_work.specs.Nesting.{spawned, size_at, AreNumbered, IsPreorder}
use Rattle.bl_work.specs.Spelled.{show, say, add, set, copy, pour, spawn}
use Rattle.bl_work.specs.Statements.{Statements, Nothing, Show, Say, Add, Set, Copy, Pour, If, Spawn, Part, no_part}
use Rattle.bl_write.specs.Unread.{SpelledWhen, no_when, name_at, unread_if, unread_body, unread_when, unread_from, unread_at}
use Rattle.bl_work.proofs.Behaviours.{all_left, all_right}

-- ---- the behaviours that statements name

-- numbered behaviours stand behind the first number, and are the script's
pub numbered_are : (script : List Part) (next : ℕ) (js : List ℕ) → AreNumbered script next js → All (λ j. (next ≤ j) × (j < length script)) js
numbered_are script next [] h = All-nil (λ j. (next ≤ j) × (j < length script))
numbered_are script next (j ∷ js) (is, lt, more) =
    All-cons (λ j. (next ≤ j) × (j < length script)) j js (omega (arith, is), lt)
    (later js (numbered_are script (next + size_at script j) js more))
  where
    later : (js : List ℕ) → All (λ i. (next + size_at script j ≤ i) × (i < length script)) js → All (λ i. (next ≤ i) × (i < length script)) js
    later [] h = All-nil (λ i. (next ≤ i) × (i < length script))
    later (i ∷ js) h =
        let here = All-head (λ i. (next + size_at script j ≤ i) × (i < length script)) i js h in
        All-cons (λ i. (next ≤ i) × (i < length script)) i js (omega (arith, here.0), here.1)
        (later js (All-tail (λ i. (next + size_at script j ≤ i) × (i < length script)) i js h))

-- ---- a behaviour at a time

module _ (names : KnownNames) where
  -- statements are spelled by what stands at the behaviours that they name
  unread_same : (b : Statements) (f g : ℕ → SpelledWhen) → All (λ j. f j ≡ g j) (spawned b) → unread_body names f b ≡ unread_body names g b
  unread_same Nothing f g h = refl
  unread_same (Show doc rest) f g h = ap (show (name_at names doc)) (unread_same rest f g h)
  unread_same (Say words rest) f g h = ap (say words) (unread_same rest f g h)
  unread_same (Add doc words rest) f g h = ap (add (name_at names doc) words) (unread_same rest f g h)
  unread_same (Set doc words rest) f g h = ap (set (name_at names doc) words) (unread_same rest f g h)
  unread_same (Copy from to rest) f g h = ap (copy (name_at names from) (name_at names to)) (unread_same rest f g h)
  unread_same (Pour from to rest) f g h = ap (pour (name_at names from) (name_at names to)) (unread_same rest f g h)
  unread_same (If doc asks words t e rest) f g h =
      let both = all_left (λ j. f j ≡ g j) (spawned t ++ spawned e) (spawned rest) h in
      let then_same = unread_same t f g (all_left (λ j. f j ≡ g j) (spawned t) (spawned e) both) in
      let else_same = unread_same e f g (all_right (λ j. f j ≡ g j) (spawned t) (spawned e) both) in
      let rest_same = unread_same rest f g (all_right (λ j. f j ≡ g j) (spawned t ++ spawned e) (spawned rest) h) in
      λ i. unread_if names (name_at names doc) asks words (then_same i) (else_same i) (rest_same i)
  unread_same (Spawn j rest) f g h =
      let here = All-head (λ j. f j ≡ g j) j (spawned rest) h in
      let rest_same = unread_same rest f g (All-tail (λ j. f j ≡ g j) j (spawned rest) h) in
      λ i. spawn (here i).first (here i).more (here i).body (rest_same i)

  -- what is given back of the later behaviours is given back of them alone
  later_are : (parts : List Part) (k m j : ℕ) → m ≤ j
      → get_or (unread_from names (k + m) (drop m parts)) (j - m) no_when ≡ get_or (unread_from names k parts) j no_when
  later_are parts k zero j le = λ i. get_or (unread_from names (add_zero i) parts) (sub_zero i) no_when
    where
      add_zero : k + 0 ≡ k
      add_zero = omega arith

      sub_zero : j - 0 ≡ j
      sub_zero = omega arith
  later_are [] k (suc m) zero le = refl
  later_are [] k (suc m) (suc j) le = refl
  later_are (part ∷ rest) k (suc m) zero le = absurd (omega (arith, le))
  later_are (part ∷ rest) k (suc m) (suc j) le =
      let sum : k + suc m ≡ k + 1 + m = omega arith in
      let difference : suc j - suc m ≡ j - m = omega arith in
      (λ i. get_or (unread_from names (sum i) (drop m rest)) (difference i) no_when) ∙ later_are rest (k + 1) m j (omega (arith, le))

  -- the `when` of a behaviour, from those of the later ones
  at_place : (parts : List Part) (k i : ℕ) → i < length parts → get_or (unread_from names k parts) i no_when
      ≡ unread_when names (get_or parts i no_part).accesses
      (unread_body names (λ j. get_or (unread_from names (k + suc i) (drop (suc i) parts)) (j - (k + suc i)) no_when) (get_or parts i no_part).body)
  at_place [] k i lt = absurd (omega arith)
  at_place (part ∷ rest) k zero lt = refl
  at_place (part ∷ rest) k (suc i) lt =
      let sum : k + 1 + suc i ≡ k + suc (suc i) = omega arith in
      at_place rest (k + 1) i (omega (arith, lt))
      ∙ (λ t. unread_when names (get_or rest i no_part).accesses
      (unread_body names (λ j. get_or (unread_from names (sum t) (drop (suc i) rest)) (j - sum t) no_when) (get_or rest i no_part).body))

  -- The `when` of a behaviour has its accesses and its statements, and where these name a behaviour, its `when`.
  pub unread_step : (script : List Part) (k : ℕ) → IsPreorder script → k < length script
      → unread_at names script k ≡ unread_when names (get_or script k no_part).accesses (unread_body names (unread_at names script) (get_or script k no_part).body)
  unread_step script k order lt =
      let part = get_or script k no_part in
      let below : ℕ → SpelledWhen = λ j. get_or (unread_from names (0 + suc k) (drop (suc k) script)) (j - (0 + suc k)) no_when in
      at_place script 0 k lt
      ∙ ap (unread_when names part.accesses) (unread_same part.body below (unread_at names script) (same (spawned part.body) (numbered_are script (k + 1) (spawned part.body) (order.numbered k lt))))
    where
      same : (js : List ℕ) → All (λ j. (k + 1 ≤ j) × (j < length script)) js
          → All (λ j. get_or (unread_from names (0 + suc k) (drop (suc k) script)) (j - (0 + suc k)) no_when ≡ unread_at names script j) js
      same [] h = All-nil (λ j. get_or (unread_from names (0 + suc k) (drop (suc k) script)) (j - (0 + suc k)) no_when ≡ unread_at names script j)
      same (j ∷ js) h =
          let here = All-head (λ j. (k + 1 ≤ j) × (j < length script)) j js h in
          let difference : j - (0 + suc k) ≡ j - suc k = omega arith in
          All-cons (λ j. get_or (unread_from names (0 + suc k) (drop (suc k) script)) (j - (0 + suc k)) no_when ≡ unread_at names script j) j js
          (ap (λ n. get_or (unread_from names (0 + suc k) (drop (suc k) script)) n no_when) difference ∙ later_are script 0 (suc k) j (omega (arith, here.0)))
          (same js (All-tail (λ j. (k + 1 ≤ j) × (j < length script)) j js h))
