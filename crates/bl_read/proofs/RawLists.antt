-- The statements of a body as they were read, one after another, and what is built of them.
use Rattle.std.proofs.Common.{◌≡◌, ℕ, zero, suc, ◌+◌, ◌<◌, ◌≤◌, List, [], ◌∷◌, ◌++◌, length, get_or, drop, refl, sym, ap, ◌∙◌, subst, arith, append_assoc, length-append, add-zero}
use Rattle.std.specs.Prelude.{All, max, map}
use Rattle.std.proofs.lemmas.List.{append-nil, drop_more, drop_all}
use Rattle.bl_work.specs.Names.{KnownNames}
use Rattle.bl_work.specs.Statements as statement
use Rattle.bl_work.specs.Statements.{Statements, Part}
use Rattle.bl_work.specs.Meaning.{whens, numbered, spawned_from, access_of}
use Rattle.bl_work.specs.WhenFaults.{lists_in, AreContents}
use Rattle.bl_work.specs.FirstWhenFault.{HasFewAccesses}
use Rattle.bl_syntax.specs.RawBodies.{raw_access, raw_body}
use Rattle.bl_work.specs.SpelledDepth.{spelled_depth}
use Rattle.bl_work.specs.Script.{most_behaviours}
use Rattle.bl_work.specs.Body.{statements_of}
use Rattle.bl_work.specs.Building.{IsBuilt}
use Rattle.bl_syntax.specs.declared.raw.RawStatement.{RawStatement}
use Rattle.bl_syntax.specs.declared.raw.RawStatement.TheVariants.{Show, Say, Add, Set, Copy, Pour, IfThen, IfElse, Spawn}
use Rattle.bl_work.specs.declared.script.Stmt.{Stmt}
use Rattle.bl_work.specs.declared.script.Stmt.TheVariants as built
use Rattle.bl_work.proofs.Numbering.{spawned_long}
use Rattle.bl_walk.proofs.Built.{put, put_built}
use Rattle.bl_work.proofs.WhenFaults.{all_left, all_right}
use Rattle.bl_check.proofs.Joined.{raw_body-append, lists_in-joined}

-- the `when` of a list are those of its first statement and those of the others
whens_first : (x : RawStatement) (rest : List RawStatement) → whens (raw_body (x ∷ rest)) ≡ whens (raw_body (x ∷ [])) + whens (raw_body rest)
whens_first (Show d) rest = omega arith
whens_first (Say w) rest = omega arith
whens_first (Add d w) rest = omega arith
whens_first (Set d w) rest = omega arith
whens_first (Copy d e) rest = omega arith
whens_first (Pour d e) rest = omega arith
whens_first (IfThen choice) rest = omega arith
whens_first (IfElse choice) rest = omega arith
whens_first (Spawn spawned) rest = omega arith

-- a list is as deep as its first statement or as the others
depth_first : (x : RawStatement) (rest : List RawStatement) → spelled_depth (raw_body (x ∷ rest)) ≡ max (spelled_depth (raw_body (x ∷ []))) (spelled_depth (raw_body rest))
depth_first (Show d) rest = omega arith
depth_first (Say w) rest = omega arith
depth_first (Add d w) rest = omega arith
depth_first (Set d w) rest = omega arith
depth_first (Copy d e) rest = omega arith
depth_first (Pour d e) rest = omega arith
depth_first (IfThen choice) rest = omega arith
depth_first (IfElse choice) rest = omega arith
depth_first (Spawn spawned) rest = omega arith

-- a statement is no deeper than the list that it stands in
pub depth_at : (xs : List RawStatement) (i : ℕ) (x : RawStatement) → i < length xs → x ≡ get_or xs i x → spelled_depth (raw_body (x ∷ [])) ≤ spelled_depth (raw_body xs)
depth_at [] i x lt at = absurd (omega arith)
depth_at (y ∷ xs) zero x lt at = omega (arith, depth_first y xs, ap (λ s. spelled_depth (raw_body (s ∷ []))) at)
depth_at (y ∷ xs) (suc i) x lt at = omega (arith, depth_first y xs, depth_at xs i x (omega arith) at)

-- the texts of a list are those of its first statement and those of the others
contents_first : (x : RawStatement) (rest : List RawStatement) → AreContents (raw_body (x ∷ rest)) → AreContents (raw_body (x ∷ [])) × AreContents (raw_body rest)
contents_first (Show d) rest h = (tt, h)
contents_first (Say w) rest (c, h) = ((c, tt), h)
contents_first (Add d w) rest (c, h) = ((c, tt), h)
contents_first (Set d w) rest (c, h) = ((c, tt), h)
contents_first (Copy d e) rest h = (tt, h)
contents_first (Pour d e) rest h = (tt, h)
contents_first (IfThen choice) rest (c, (h, i)) = ((c, (h, tt)), i)
contents_first (IfElse choice) rest (c, (h, (i, j))) = ((c, (h, (i, tt))), j)
contents_first (Spawn spawned) rest (h, i) = ((h, tt), i)

-- the accesses of a list are those of its first statement and those of the others
accesses_first : (x : RawStatement) (rest : List RawStatement) → All HasFewAccesses (lists_in (raw_body (x ∷ rest)))
    → All HasFewAccesses (lists_in (raw_body (x ∷ []))) × All HasFewAccesses (lists_in (raw_body rest))
accesses_first x rest few =
    let here = lists_in (raw_body (x ∷ [])) in
    let behind = lists_in (raw_body rest) in
    let split : lists_in (raw_body (x ∷ rest)) ≡ here ++ behind =
    ap lists_in (raw_body-append (x ∷ []) rest) ∙ lists_in-joined (raw_body (x ∷ [])) (raw_body rest) in
    let parts = subst (All HasFewAccesses) split few in
    (all_left HasFewAccesses here behind parts, all_right HasFewAccesses here behind parts)

module _ (names : KnownNames) where
  -- the others are numbered behind what the first statement spawns
  numbered_first : (x : RawStatement) (rest : List RawStatement) (n : ℕ)
      → numbered names n (raw_body (x ∷ rest)) ≡ put (numbered names n (raw_body (x ∷ []))) (numbered names (n + whens (raw_body (x ∷ []))) (raw_body rest))
  numbered_first (Show d) rest n = rw add-zero refl
  numbered_first (Say w) rest n = rw add-zero refl
  numbered_first (Add d w) rest n = rw add-zero refl
  numbered_first (Set d w) rest n = rw add-zero refl
  numbered_first (Copy d e) rest n = rw add-zero refl
  numbered_first (Pour d e) rest n = rw add-zero refl
  numbered_first (IfThen choice) rest n =
      let t = choice.value.then_body in
      let same : n + whens t ≡ n + (whens t + 0) = omega arith in
      ap (λ k. put (numbered names n (raw_body (IfThen choice ∷ []))) (numbered names k (raw_body rest))) same
  numbered_first (IfElse choice) rest n =
      let t = choice.value.then_body in
      let e = choice.value.else_body in
      let same : n + whens t + whens e ≡ n + (whens t + (whens e + 0)) = omega arith in
      ap (λ k. put (numbered names n (raw_body (IfElse choice ∷ []))) (numbered names k (raw_body rest))) same
  numbered_first (Spawn spawned) rest n =
      let f = spawned.value.first in
      let m = spawned.value.more in
      let b = spawned.value.body in
      let same : n + 1 + whens b ≡ n + (1 + (whens b + 0)) = omega arith in
      ap (λ k. put (numbered names n (raw_body (Spawn spawned ∷ []))) (numbered names k (raw_body rest))) same

  -- what the others spawn stands behind what the first statement spawns
  spawned_first : (x : RawStatement) (rest : List RawStatement) (n : ℕ)
      → spawned_from names n (raw_body (x ∷ rest)) ≡ spawned_from names n (raw_body (x ∷ [])) ++ spawned_from names (n + whens (raw_body (x ∷ []))) (raw_body rest)
  spawned_first (Show d) rest n = rw add-zero refl
  spawned_first (Say w) rest n = rw add-zero refl
  spawned_first (Add d w) rest n = rw add-zero refl
  spawned_first (Set d w) rest n = rw add-zero refl
  spawned_first (Copy d e) rest n = rw add-zero refl
  spawned_first (Pour d e) rest n = rw add-zero refl
  spawned_first (IfThen choice) rest n =
      let t = choice.value.then_body in
      let same : n + whens t ≡ n + (whens t + 0) = omega arith in
      ap (λ k. spawned_from names n t ++ spawned_from names k (raw_body rest)) same
      ∙ ap (λ l. l ++ spawned_from names (n + (whens t + 0)) (raw_body rest)) (sym (append-nil (spawned_from names n t)))
  spawned_first (IfElse choice) rest n =
      let t = choice.value.then_body in
      let e = choice.value.else_body in
      let same : n + whens t + whens e ≡ n + (whens t + (whens e + 0)) = omega arith in
      let x = spawned_from names n t in
      let y = spawned_from names (n + whens t) e in
      ap (λ k. x ++ (y ++ spawned_from names k (raw_body rest))) same
      ∙ sym (append_assoc x y (spawned_from names (n + (whens t + (whens e + 0))) (raw_body rest)))
      ∙ ap (λ l. (x ++ l) ++ spawned_from names (n + (whens t + (whens e + 0))) (raw_body rest)) (sym (append-nil y))
  spawned_first (Spawn spawned) rest n =
      let f = spawned.value.first in
      let m = spawned.value.more in
      let b = spawned.value.body in
      let same : n + 1 + whens b ≡ n + (1 + (whens b + 0)) = omega arith in
      let own : Part = record { accesses = map (access_of names) (raw_access f ∷ map raw_access m.items); body = numbered names (n + 1) b } in
      ap (λ k. own ∷ (spawned_from names (n + 1) b ++ spawned_from names k (raw_body rest))) same
      ∙ ap (λ l. own ∷ (l ++ spawned_from names (n + (1 + (whens b + 0))) (raw_body rest))) (sym (append-nil (spawned_from names (n + 1) b)))

  -- Some of a body is built: whatever completes the statements by the rest gives those of the whole, and so with the behaviours.
  pub record IsPartBuilt (raws : List RawStatement) (old : List Part) (rest : List RawStatement) (so_far : List Stmt) (mid : List Part) : Type 0 where
    pub statements : (ys : List Stmt) → statements_of ys ≡ numbered names (length mid) (raw_body rest) → statements_of (so_far ++ ys) ≡ numbered names (length old) (raw_body raws)
    pub behaviours : mid ++ spawned_from names (length mid) (raw_body rest) ≡ old ++ spawned_from names (length old) (raw_body raws)
    pub few : length mid + whens (raw_body rest) ≤ most_behaviours
    pub accesses : All HasFewAccesses (lists_in (raw_body rest))
    pub texts : AreContents (raw_body rest)

  -- the next statement has room, no `when` in it has too many accesses, and its texts are contents
  pub part_next : (raws : List RawStatement) (old : List Part) (x : RawStatement) (rest : List RawStatement) (so_far : List Stmt) (mid : List Part)
      → IsPartBuilt raws old (x ∷ rest) so_far mid
      → (length mid + whens (raw_body (x ∷ [])) ≤ most_behaviours) × (All HasFewAccesses (lists_in (raw_body (x ∷ []))) × AreContents (raw_body (x ∷ [])))
  part_next raws old x rest so_far mid p =
      (omega (arith, p.few, whens_first x rest), ((accesses_first x rest p.accesses).0, (contents_first x rest p.texts).0))

  -- one more is built
  pub part_more : (raws : List RawStatement) (old : List Part) (x : RawStatement) (rest : List RawStatement) (so_far : List Stmt) (mid new : List Part) (s : Stmt)
      → IsPartBuilt raws old (x ∷ rest) so_far mid → IsBuilt names (raw_body (x ∷ [])) mid new (statements_of (s ∷ [])) → IsPartBuilt raws old rest (so_far ++ s ∷ []) new
  part_more raws old x rest so_far mid new s p b =
      let one = raw_body (x ∷ []) in
      let long : length new ≡ length mid + whens one =
      ap length b.behaviours ∙ length-append mid (spawned_from names (length mid) one) ∙ ap (λ n. length mid + n) (spawned_long names one (length mid)) in
      record {
        statements = λ ys e. ap statements_of (append_assoc so_far (s ∷ []) ys)
            ∙ p.statements (s ∷ ys) (put_built s ys ∙ ap (λ t. put t (statements_of ys)) b.statements
            ∙ ap (put (numbered names (length mid) one)) (e ∙ ap (λ n. numbered names n (raw_body rest)) long) ∙ sym (numbered_first x rest (length mid)));
        behaviours = ap (λ n. new ++ spawned_from names n (raw_body rest)) long
            ∙ ap (λ l. l ++ spawned_from names (length mid + whens one) (raw_body rest)) b.behaviours
            ∙ append_assoc mid (spawned_from names (length mid) one) (spawned_from names (length mid + whens one) (raw_body rest))
            ∙ ap (λ l. mid ++ l) (sym (spawned_first x rest (length mid))) ∙ p.behaviours;
        few = omega (arith, p.few, whens_first x rest, long);
        accesses = (accesses_first x rest p.accesses).1;
        texts = (contents_first x rest p.texts).1;
      }

  -- all is built
  pub part_all : (raws : List RawStatement) (old : List Part) (so_far : List Stmt) (new : List Part) → IsPartBuilt raws old [] so_far new → IsBuilt names (raw_body raws) old new (statements_of so_far)
  part_all raws old so_far new p = record {
    statements = ap statements_of (sym (append-nil so_far)) ∙ p.statements [] refl;
    behaviours = sym (append-nil new) ∙ p.behaviours;
  }

  -- what is left begins with the statement at hand
  pub part_at : (raws : List RawStatement) (old : List Part) (i : ℕ) (x : RawStatement) (so_far : List Stmt) (mid : List Part) → i < length raws → x ≡ get_or raws i x
      → IsPartBuilt raws old (drop i raws) so_far mid → IsPartBuilt raws old (x ∷ drop (i + 1) raws) so_far mid
  part_at raws old i x so_far mid lt at p =
      subst (λ (l : List RawStatement). IsPartBuilt raws old l so_far mid) (drop_more raws i x lt ∙ ap (λ (y : RawStatement). y ∷ drop (i + 1) raws) (sym at)) p

  -- nothing is left
  pub part_end : (raws : List RawStatement) (old : List Part) (i : ℕ) (so_far : List Stmt) (new : List Part) → length raws ≤ i
      → IsPartBuilt raws old (drop i raws) so_far new → IsBuilt names (raw_body raws) old new (statements_of so_far)
  part_end raws old i so_far new past p = part_all raws old so_far new (subst (λ (l : List RawStatement). IsPartBuilt raws old l so_far new) (drop_all i raws past) p)
