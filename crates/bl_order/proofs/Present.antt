-- How the policy and the contents now move with each event.
use Rattle.std.proofs.Common.{◌≡◌, ◌≢◌, ℕ, zero, suc, ◌<◌, ◌≤◌, Bool, true, false, cond, ◌&&◌, List, [], ◌∷◌, length, refl, sym, ◌∙◌, ap, subst, inl, inr, arith, ◌⊎◌, true≢false}
use Rattle.std.specs.Prelude.{IsTrue, Option, Some, None}
use Rattle.bl_policy.specs.Policy.{SecurityPolicy}
use Rattle.bl_policy.specs.declared.denial.Denial.{Denial}
use Rattle.bl_work.specs.Effects.{Effect}
use Rattle.bl_order.specs.Machine.{session_at}
use Rattle.bl_setup.specs.Setup.{Setup}
use Rattle.bl_order.specs.Order.{Entry, Line, Task, Runs, Applies, conflict}
use Rattle.bl_order.specs.Past.{Past, earlier, place, policy_of, content_of, changed, is_done, is_rule_done, may_alter, left_by, leaves, has_deleted, answer_of, judged, deeds}
use Rattle.bl_work.specs.declared.work.Work.{Work}
use Rattle.std.proofs.Common.{length-append}
use Rattle.bl_work.specs.declared.answer.Answer.{Answer}
use Rattle.bl_work.specs.declared.answer.Answer.TheVariants.{Done, RuleDone, Denied, Lost}
use Rattle.bl_order.specs.Machine.{State, Phase, is_over, is_gone, phase_at, is_lost, has_ended, runs, past_at, MayStart, Starts, Ends, Admits, change, with_phase, Gone, Ended, Running}
use Rattle.bl_order.specs.Now.{ended_before, ended_places, policy_now, content_now}
use Rattle.bl_order.proofs.Sound.{IsSound, has_begun}
use Rattle.bl_order.specs.Headline.{IsReached, MovesOn}
use Rattle.bl_order.proofs.Places.{made, less_or_equal}
use Rattle.bl_order.specs.Order.{is_rule}
use Rattle.bl_order.proofs.Conflicts.{or_left, or_right, rule_conflicts, both_alter}
use Rattle.bl_order.proofs.Leaving.{leaves-skips, left_by-done, leaves-lost}
use Rattle.bl_order.proofs.StateLaws.{changed-skips, policy-made, content-made, and_false, not_ended_after}
use Rattle.bl_order.proofs.Steps.{Moves, running_is_not_over, waiting_is_not_over, other, begun_within, equal_self}
use Rattle.bl_order.proofs.Reached.{sound-reached}
use Rattle.bl_order.proofs.Trails.{moves-start, moves-end, moves-lost, past-started, past-ended, within, phases-admitted, past-admitted}

module _ {X : Type 0} (step : Past → X → X) (x0 : X) where
  made-cond : (b : Bool) (p : Past) (h : List Past) → made step x0 (cond b (p ∷ h) h) ≡ cond b (step p (made step x0 h)) (made step x0 h)
  made-cond true p h = refl
  made-cond false p h = refl

  -- what the ended places make, place by place
  abbrev pub acts : State → ℕ → X → X
  acts x j v = cond (has_ended x j) (step (past_at x j) v) v

  abbrev pub upto : State → ℕ → X
  upto x n = made step x0 (ended_before x.setup (is_lost x) x.order (has_ended x) n)

  upto-suc : (x : State) (n : ℕ) → upto x (suc n) ≡ acts x n (upto x n)
  upto-suc x n = made-cond (has_ended x n) (past_at x n) (ended_before x.setup (is_lost x) x.order (has_ended x) n)

  upto-same : (x y : State) (n : ℕ) → ((j : ℕ) → j < n → (v : X) → acts y j v ≡ acts x j v) → upto y n ≡ upto x n
  upto-same x y zero same = refl
  upto-same x y (suc n) same = upto-suc y n ∙ same n (omega arith) (upto y n) ∙ ap (acts x n) (upto-same x y n (λ j lt. same j (omega arith))) ∙ sym (upto-suc x n)

  upto-grown : (y : State) (n m : ℕ) → n ≤ m → ((j : ℕ) → n ≤ j → has_ended y j ≡ false) → upto y m ≡ upto y n
  upto-grown y n zero le none = ap (upto y) (zero_is n le)
    where
      zero_is : (j : ℕ) → j ≤ zero → zero ≡ j
      zero_is j h = omega arith
  upto-grown y n (suc m) le none = go (less_or_equal n (suc m) (omega arith)) (λ below. upto-grown y n m below none)
    where
      idle : n ≤ m → acts y m (upto y m) ≡ upto y m
      idle ge = ap (λ b. cond b (step (past_at y m) (upto y m)) (upto y m)) (none m ge)

      go : (n < suc m) ⊎ (n ≡ suc m) → (n ≤ m → upto y m ≡ upto y n) → upto y (suc m) ≡ upto y n
      go (inl lt) deeper = upto-suc y m ∙ idle (omega arith) ∙ deeper (omega arith)
      go (inr e) deeper = ap (upto y) (sym e)

  -- one place has ended since, and what it does commutes with the later ones
  one-more : (x y : State) (k : ℕ) (u : X → X) → has_ended x k ≡ false → ((v : X) → acts y k v ≡ u v) → ((j : ℕ) → j ≢ k → (v : X) → acts y j v ≡ acts x j v)
      → ((j : ℕ) → k < j → (v : X) → acts x j (u v) ≡ u (acts x j v)) → (n : ℕ) → k < n → upto y n ≡ u (upto x n)
  one-more x y k u unended at_k same commutes zero lt = absurd (omega arith)
  one-more x y k u unended at_k same commutes (suc n) lt = go (less_or_equal k n lt) (one-more x y k u unended at_k same commutes n)
    where
      idle : k ≡ n → acts x n (upto x n) ≡ upto x n
      idle e = ap (λ b. cond b (step (past_at x n) (upto x n)) (upto x n)) (ap (has_ended x) (sym e) ∙ unended)

      go : (k < n) ⊎ (k ≡ n) → (k < n → upto y n ≡ u (upto x n)) → upto y (suc n) ≡ u (upto x (suc n))
      go (inl below) deeper =
          upto-suc y n ∙ same n (omega arith) (upto y n) ∙ ap (acts x n) (deeper below) ∙ commutes n below (upto x n) ∙ ap u (sym (upto-suc x n))
      go (inr e) deeper =
          upto-suc y n ∙ ap (λ j. acts y j (upto y n)) (sym e) ∙ at_k (upto y n)
          ∙ ap u (upto-same x y n (λ j below. same j (omega arith)) ∙ sym (upto-suc x n ∙ idle e))

  module _ (counts : Task → Bool) (skips : (p : Past) (y : X) → counts p.task ≡ false → step p y ≡ y) (clash : (t u : Task) → counts t ≡ true → counts u ≡ true → conflict t u ≡ true) where
    -- what a step makes of what the ended places make
    pub now-moved : (x y : State) (k : ℕ) (p : Phase) (u : X → X) → IsSound x → Moves x y k p → ((v : X) → cond (has_ended y k) (step (past_at y k) v) v ≡ u v)
        → ((v : X) → counts (past_at x k).task ≡ false → u v ≡ v) → made step x0 (ended_places y) ≡ u (made step x0 (ended_places x))
    now-moved x y k p u sound moves at_k idle =
        upto-grown y (length x.order) (length y.order) moves.longer new
        ∙ one-more x y k u moves.unended at_k same commutes (length x.order) moves.within
      where
        over_begun : (z : State) (j : ℕ) → has_ended z j ≡ true → has_begun z j ≡ true
        over_begun z j e = or_right (runs z j) (has_ended z j) e

        within : (j : ℕ) → has_ended x j ≡ true → j < length x.order
        within j e = subst (λ i. j < i) sound.as_many (begun_within x.phases j (over_begun x j e))

        ended_same : (j : ℕ) → j ≢ k → has_ended y j ≡ has_ended x j
        ended_same j ne = ap is_over (other x y k p sound moves j ne)

        new : (j : ℕ) → length x.order ≤ j → has_ended y j ≡ false
        new j ge = go (has_ended x j) refl
          where
            differs : j ≢ k
            differs e = absurd (omega (arith, moves.within))

            go : (b : Bool) → has_ended x j ≡ b → has_ended y j ≡ false
            go true e = absurd (omega (arith, within j e))
            go false e = ended_same j differs ∙ e

        same : (j : ℕ) → j ≢ k → (v : X) → acts y j v ≡ acts x j v
        same j ne v = ap (λ b. cond b (step (past_at y j) v) v) (ended_same j ne) ∙ go (has_ended x j) refl
          where
            go : (b : Bool) → has_ended x j ≡ b → cond b (step (past_at y j) v) v ≡ cond b (step (past_at x j) v) v
            go true e = ap (λ q. step q v) (moves.pasts j (within j e) ne (over_begun x j e))
            go false e = refl

        commutes : (j : ℕ) → k < j → (v : X) → acts x j (u v) ≡ u (acts x j v)
        commutes j below v = go (has_ended x j) (counts (past_at x k).task) (counts (past_at x j).task) refl refl refl
          where
            go : (b r t : Bool) → has_ended x j ≡ b → counts (past_at x k).task ≡ r → counts (past_at x j).task ≡ t
                → cond b (step (past_at x j) (u v)) (u v) ≡ u (cond b (step (past_at x j) v) v)
            go false r t e f g = refl
            go true false t e f g = ap (step (past_at x j)) (idle v f) ∙ sym (idle (step (past_at x j) v) f)
            go true true false e f g = skips (past_at x j) (u v) g ∙ ap u (sym (skips (past_at x j) v g))
            go true true true e f g =
                absurd (true≢false (sym e ∙ not_ended_after x j k sound.orderly moves.unended (omega arith) (within j e) (clash (past_at x k).task (past_at x j).task f g)))

over_at : (x y : State) (k : ℕ) (p : Phase) → Moves x y k p → has_ended y k ≡ is_over p
over_at x y k p moves = ap is_over (moves.phases k ∙ ap (λ b. cond b p (phase_at x k)) (equal_self k))

acts_at : {X : Type 0} (step : Past → X → X) (x y : State) (k : ℕ) (p : Phase) → Moves x y k p → past_at y k ≡ past_at x k → (v : X)
    → cond (has_ended y k) (step (past_at y k) v) v ≡ cond (is_over p) (step (past_at x k) v) v
acts_at step x y k p moves same v = ap (λ b. cond b (step (past_at y k) v) v) (over_at x y k p moves) ∙ ap (λ q. cond (is_over p) (step q v) v) same

-- a rule never runs
rule_answer : (b : Bool) (f : Option Denial) (t : Task) (es : List Effect) → is_rule t ≡ true → is_done (answer_of b f t es) ≡ false
rule_answer b f (Runs script index) es h = absurd (true≢false (sym h))
rule_answer true f (Applies rule) es h = refl
rule_answer false (Some denial) (Applies rule) es h = refl
rule_answer false None (Applies rule) es h = refl

pub rule_never_runs : (x : State) (n : ℕ) → is_rule (past_at x n).task ≡ true → is_done (past_at x n).answer ≡ false
rule_never_runs x n h = rule_answer (is_lost x n) _ (past_at x n).task _ h

-- a start that ends the place at once is a rule's or a denial
started_acts : (a : Answer) (t : Task) (s : ℕ) (v : SecurityPolicy) → (is_rule t ≡ true → is_done a ≡ false)
    → cond (is_over (cond (is_done a) Running Ended)) (changed a t s v) v ≡ changed a t s v
started_acts a (Applies rule) s v never = ap (λ b. cond (is_over (cond b Running Ended)) (changed a (Applies rule) s v) v) (never refl)
started_acts a (Runs script index) s v never = same (is_over (cond (is_done a) Running Ended)) v
  where
    same : (b : Bool) (w : SecurityPolicy) → cond b w w ≡ w
    same true w = refl
    same false w = refl

pub lost-answer : (s : Setup) (l : ℕ → Bool) (A : List Entry) (n : ℕ) → l n ≡ true → (place s l A n).answer ≡ Lost
lost-answer s l A n e = ap (λ b. (judged b (policy_of s (earlier s l A n)) (deeds (place s l A n).task (content_of s (earlier s l A n))) (place s l A n).subject (place s l A n).carried (place s l A n).task).answer) e

-- what is lost changes no policy
lost_changes : (t : Task) (s : ℕ) (v : SecurityPolicy) → changed Lost t s v ≡ v
lost_changes (Runs script index) s v = refl
lost_changes (Applies rule) s v = refl

lost_idle : (q : Past) (b : Bool) (v : SecurityPolicy) → q.answer ≡ Lost → cond b (changed q.answer q.task q.subject v) v ≡ v
lost_idle q true v e = ap (λ a. changed a q.task q.subject v) e ∙ lost_changes q.task q.subject v
lost_idle q false v e = refl

both_rules : (t u : Task) → is_rule t ≡ true → is_rule u ≡ true → conflict t u ≡ true
both_rules t u h k = rule_conflicts t u h

-- ---- the policy now, after an event

policy_now-made : (x : State) → policy_now x ≡ made (λ p y. changed p.answer p.task p.subject y) x.setup.policy (ended_places x)
policy_now-made x = policy-made x.setup (ended_places x)

-- a start changes it as the answer says: only a rule's does
pub policy_now-started : (x : State) (k : ℕ) → IsSound x → MayStart x k → policy_now (change x (Starts k)) ≡ changed (past_at x k).answer (past_at x k).task (past_at x k).subject (policy_now x)
policy_now-started x k sound may =
    policy_now-made (change x (Starts k))
    ∙ now-moved (λ p y. changed p.answer p.task p.subject y) x.setup.policy is_rule (λ p y h. changed-skips p.answer p.task p.subject y h) both_rules
    x (change x (Starts k)) k _ (λ v. changed (past_at x k).answer (past_at x k).task (past_at x k).subject v) sound (moves-start x sound k may) (λ v. acts_at (λ p y. changed p.answer p.task p.subject y) x (change x (Starts k)) k _ (moves-start x sound k may) (past-started x sound k may k) v ∙ started_acts (past_at x k).answer (past_at x k).task (past_at x k).subject v (rule_never_runs x k))
    (λ v h. changed-skips (past_at x k).answer (past_at x k).task (past_at x k).subject v h)
    ∙ ap (changed (past_at x k).answer (past_at x k).task (past_at x k).subject) (sym (policy_now-made x))

-- ---- a content, after an event

content_now-made : (x : State) (o : ℕ) → content_now x o ≡ made (λ p c. leaves p o c) (content_of x.setup [] o) (ended_places x)
content_now-made x o = content-made x.setup (ended_places x) o

-- an end changes it to what the place leaves
pub content_now-ended : (x : State) (k o : ℕ) → IsSound x → (r : runs x k ≡ true) → content_now (change x (Ends k)) o
    ≡ leaves (past_at x k) o (content_now x o)
content_now-ended x k o sound r =
    content_now-made (change x (Ends k)) o
    ∙ now-moved (λ p c. leaves p o c) (content_of x.setup [] o) (λ t. may_alter t o)
    (λ p c h. leaves-skips p o c h) (λ t v h k. both_alter t v o h k)
    x (change x (Ends k)) k Ended (leaves (past_at x k) o) sound (moves-end x sound k r) (acts_at (λ p c. leaves p o c) x (change x (Ends k)) k Ended (moves-end x sound k r) (past-ended x sound k r k (within x sound k r)))
    (λ c h. leaves-skips (past_at x k) o c h)
    ∙ ap (leaves (past_at x k) o) (sym (content_now-made x o))

-- a loss changes neither
pub policy_now-lost : (x : State) (k : ℕ) → IsSound x → (m : Moves x (with_phase x k Gone) k Gone) → policy_now (with_phase x k Gone) ≡ policy_now x
policy_now-lost x k sound m =
    policy_now-made (with_phase x k Gone)
    ∙ now-moved (λ p y. changed p.answer p.task p.subject y) x.setup.policy is_rule (λ p y h. changed-skips p.answer p.task p.subject y h) both_rules
    x (with_phase x k Gone) k Gone (λ v. v) sound m (λ v. lost_idle (past_at (with_phase x k Gone) k) (has_ended (with_phase x k Gone) k) v (lost-answer x.setup (is_lost (with_phase x k Gone)) x.order k (ap is_gone (m.phases k ∙ ap (λ b. cond b Gone (phase_at x k)) (equal_self k))))) (λ v h. refl)
    ∙ sym (policy_now-made x)

-- a start empties the content of a document that its place deletes, and changes no other
starts-leaving : (a : Answer) (b : Bool) (es : List Effect) (o : ℕ) (v : List ℕ)
    → cond (is_over (cond (is_done a) Running Ended)) (cond b (left_by a es o v) v) v ≡ cond (is_rule_done a && b) [] v
starts-leaving (Done shown) b es o v = refl
starts-leaving RuleDone b es o v = refl
starts-leaving (Denied denial) true es o v = refl
starts-leaving (Denied denial) false es o v = refl
starts-leaving Lost true es o v = refl
starts-leaving Lost false es o v = refl

pub content_now-started : (x : State) (k o : ℕ) → IsSound x → MayStart x k → content_now (change x (Starts k)) o ≡ cond (has_deleted (past_at x k) o) [] (content_now x o)
content_now-started x k o sound may =
    content_now-made (change x (Starts k)) o
    ∙ now-moved (λ p c. leaves p o c) (content_of x.setup [] o) (λ t. may_alter t o)
    (λ p c h. leaves-skips p o c h) (λ t v h k. both_alter t v o h k)
    x (change x (Starts k)) k _ (λ c. cond (has_deleted (past_at x k) o) [] c) sound (moves-start x sound k may)
    (λ v. acts_at (λ p c. leaves p o c) x (change x (Starts k)) k _ (moves-start x sound k may) (past-started x sound k may k) v
    ∙ starts-leaving (past_at x k).answer (may_alter (past_at x k).task o) (past_at x k).effects o v)
    (λ c h. ap (λ b. cond b [] c) (and_false (is_rule_done (past_at x k).answer) (may_alter (past_at x k).task o) h))
    ∙ ap (λ c. cond (has_deleted (past_at x k) o) [] c) (sym (content_now-made x o))

-- an end changes no policy, for what has run is no rule
done_idle : (a : Answer) (t : Task) (s : ℕ) (v : SecurityPolicy) → (is_rule t ≡ true → is_done a ≡ false) → is_done a ≡ true → changed a t s v ≡ v
done_idle a (Runs script index) s v never h = refl
done_idle a (Applies rule) s v never h = absurd (true≢false (sym h ∙ never refl))

pub policy_now-ended : (x : State) (k : ℕ) → IsSound x → (r : runs x k ≡ true) → policy_now (change x (Ends k)) ≡ policy_now x
policy_now-ended x k sound r =
    policy_now-made (change x (Ends k))
    ∙ now-moved (λ p y. changed p.answer p.task p.subject y) x.setup.policy is_rule (λ p y h. changed-skips p.answer p.task p.subject y h) both_rules
    x (change x (Ends k)) k Ended (λ v. v) sound (moves-end x sound k r)
    (λ v. acts_at (λ p y. changed p.answer p.task p.subject y) x (change x (Ends k)) k Ended (moves-end x sound k r) (past-ended x sound k r k (within x sound k r)) v
    ∙ done_idle (past_at x k).answer (past_at x k).task (past_at x k).subject v (rule_never_runs x k) (sound.allowed k (within x sound k r) r))
    (λ v h. refl)
    ∙ sym (policy_now-made x)

-- a line changes neither
module _ {X : Type 0} (step : Past → X → X) (x0 : X) (x : State) (sound : IsSound x) (i o : ℕ) (w : Work) where
  now-admitted : made step x0 (ended_places (change x (Admits i o w))) ≡ made step x0 (ended_places x)
  now-admitted = upto-grown step x0 y (length x.order) (length y.order) (omega (arith, length-append x.order (Line i o (session_at x i).subject w ∷ []))) (λ j ge. none j ge (has_ended x j) refl) ∙ upto-same step x0 x y (length x.order) same
    where
      y : State
      y = change x (Admits i o w)

      none : (j : ℕ) → length x.order ≤ j → (b : Bool) → has_ended x j ≡ b → has_ended y j ≡ false
      none j ge false e = ap is_over (phases-admitted x sound i o w j) ∙ e
      none j ge true e = absurd (omega (arith, sound.as_many, begun_within x.phases j (or_right (runs x j) (has_ended x j) e)))

      same : (j : ℕ) → j < length x.order → (v : X) → acts step x0 y j v ≡ acts step x0 x j v
      same j lt v = ap (λ b. cond b (step (past_at y j) v) v) (ap is_over (phases-admitted x sound i o w j)) ∙ ap (λ q. cond (has_ended x j) (step q v) v) (past-admitted x sound i o w j lt)

pub policy_now-admitted : (x : State) (i o : ℕ) (w : Work) → IsSound x → policy_now (change x (Admits i o w)) ≡ policy_now x
policy_now-admitted x i o w sound =
    policy_now-made (change x (Admits i o w)) ∙ now-admitted (λ p y. changed p.answer p.task p.subject y) x.setup.policy x sound i o w ∙ sym (policy_now-made x)

pub content_now-admitted : (x : State) (i o : ℕ) (w : Work) (d : ℕ) → IsSound x → content_now (change x (Admits i o w)) d ≡ content_now x d
content_now-admitted x i o w d sound =
    content_now-made (change x (Admits i o w)) d
    ∙ now-admitted (λ p c. leaves p d c) (content_of x.setup [] d) x sound i o w
    ∙ sym (content_now-made x d)

-- ---- a loss, from what it needs

pub moves-gone : (x : State) (k : ℕ) (sound : IsSound x) → (IsTrue (runs x k) ⊎ MayStart x k) → Moves x (with_phase x k Gone) k Gone
moves-gone x k sound (inl running) =
    moves-lost x sound k (within x sound k running) (running_is_not_over (phase_at x k) running) (inl (or_left (runs x k) (has_ended x k) running))
moves-gone x k sound (inr may) =
    moves-lost x sound k may.there (waiting_is_not_over (phase_at x k) may.waits) (inr may.clear)

-- what is lost changes no content
lost_keeps : (q : Past) (b : Bool) (o : ℕ) (v : List ℕ) → q.answer ≡ Lost → cond b (leaves q o v) v ≡ v
lost_keeps q true o v e = leaves-lost q o v e
lost_keeps q false o v e = refl

content_now-lost : (x : State) (k o : ℕ) → IsSound x → (m : Moves x (with_phase x k Gone) k Gone) → content_now (with_phase x k Gone) o ≡ content_now x o
content_now-lost x k o sound m =
    content_now-made (with_phase x k Gone) o
    ∙ now-moved (λ p c. leaves p o c) (content_of x.setup [] o) (λ t. may_alter t o)
    (λ p c h. leaves-skips p o c h) (λ t v h k. both_alter t v o h k)
    x (with_phase x k Gone) k Gone (λ c. c) sound m
    (λ v. lost_keeps (past_at (with_phase x k Gone) k) (has_ended (with_phase x k Gone) k) o v (lost-answer x.setup (is_lost (with_phase x k Gone)) x.order k (ap is_gone (m.phases k ∙ ap (λ b. cond b Gone (phase_at x k)) (equal_self k)))))
    (λ c h. refl)
    ∙ sym (content_now-made x o)

-- ---- all of them

pub moves_on-sound : (x : State) → IsSound x → MovesOn x
moves_on-sound x sound = record {
  start_policy = λ n may. policy_now-started x n sound may;
  start_content = λ n doc may. content_now-started x n doc sound may;
  end_policy = λ n r. policy_now-ended x n sound r;
  end_content = λ n doc r.
      content_now-ended x n doc sound r
      ∙ ap (λ c. cond (may_alter (past_at x n).task doc) c (content_now x doc))
      (left_by-done (past_at x n).answer (past_at x n).effects doc (content_now x doc) (sound.allowed n (within x sound n r) r));
  loss_policy = λ n needs. policy_now-lost x n sound (moves-gone x n sound needs);
  loss_content = λ n doc needs. content_now-lost x n doc sound (moves-gone x n sound needs);
  line_policy = λ session ordinal work needs. policy_now-admitted x session ordinal work sound;
  line_content = λ session ordinal work doc needs. content_now-admitted x session ordinal work doc sound;
  opening_policy = λ subject needs. refl;
  opening_content = λ subject doc needs. refl;
}

pub moves_on-reached : (x : State) → IsReached x → MovesOn x
moves_on-reached x r = moves_on-sound x (sound-reached x r)
