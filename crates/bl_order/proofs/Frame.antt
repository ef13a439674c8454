use Rattle.std.proofs.Common.{◌≡◌, ℕ, zero, suc, ◌<◌, ◌≤◌, Bool, true, false, cond, List, [], length, refl, sym, ◌∙◌, ap, subst, inl, inr, arith, ◌⊎◌, get_or}
use mathlib.Core.Path.{fun_ext}
use Rattle.std.specs.Prelude.{◌-◌, slice_index_or}
use Rattle.bl_work.specs.Effects.{effects_of, children}
use Rattle.bl_level.specs.Level.{SecurityLevel, join_of}
use Rattle.bl_setup.specs.Setup.{Setup}
use Rattle.bl_setup.specs.declared.version.Version.{Version}
use Rattle.bl_setup.specs.declared.version.Version.TheVariants.{One, Two}
use Rattle.bl_order.specs.Order.{Entry, Line, Child, Task, conflict, is_declared, accesses_of, body_of}
use Rattle.bl_order.specs.Past.{Past, earlier, place, no_entry, at_place, policy_of, content_of, changed, may_alter, leaves, subject_of, carried_of, task_of, child_task, deeds, judged}
use Rattle.bl_order.proofs.Sound.{HasParent, HaveParents}
use Rattle.bl_order.proofs.Places.{made, at_place-earlier, less_or_equal}
use Rattle.bl_order.specs.Order.{is_rule}
use Rattle.bl_order.proofs.Conflicts.{rule_conflicts, alters_then_declares}
use Rattle.bl_order.proofs.Leaving.{leaves-skips}
use Rattle.bl_order.proofs.StateLaws.{changed-skips, policy-made, content-made}

-- what a task does rests on the contents of the documents that it is_declared
deeds-same : (t : Task) (c d : ℕ → List ℕ) → ((o : ℕ) → is_declared (accesses_of t) o ≡ true → c o ≡ d o) → deeds t c ≡ deeds t d
deeds-same t c d same = ap (λ f. effects_of f (body_of t)) (fun_ext (λ o. go o (is_declared (accesses_of t) o) refl))
  where
    go : (o : ℕ) (b : Bool) → is_declared (accesses_of t) o ≡ b → cond b (c o) [] ≡ cond b (d o) []
    go o true e = same o e
    go o false e = refl

-- two records say the same of who speaks and what is done, and all the same where the test holds
pub record IsAlike (whole : Bool) (p q : Past) : Type 0 where
  pub subject : p.subject ≡ q.subject
  pub task : p.task ≡ q.task
  pub all : whole ≡ true → p ≡ q

-- two sets of lost places that are the same among the ended ones
module _ (s : Setup) (A : List Entry) (l m : ℕ → Bool) (ended : ℕ → Bool) (same_lost : (n : ℕ) → ended n ≡ true → l n ≡ m n)
    (orderly : (k n : ℕ) → k < n → n < length A → ended n ≡ true → conflict (place s l A k).task (place s l A n).task ≡ true → ended k ≡ true) (parents : HaveParents ended A) where
  module _ {X : Type 0} (step : Past → X → X) (x : X) (counts : Task → Bool) (skips : (p : Past) (y : X) → counts p.task ≡ false → step p y ≡ y) where
    made-alike : (n : ℕ) → ((k : ℕ) → k < n → IsAlike (ended k) (place s l A k) (place s m A k)) → ((k : ℕ) → k < n → counts (place s l A k).task ≡ true → ended k ≡ true)
        → made step x (earlier s l A n) ≡ made step x (earlier s m A n)
    made-alike zero alike all = refl
    made-alike (suc n) alike all = go (counts (place s l A n).task) refl (made-alike n (λ k lt. alike k (omega arith)) (λ k lt. all k (omega arith)))
      where
        a : IsAlike (ended n) (place s l A n) (place s m A n)
        a = alike n (omega arith)

        go : (b : Bool) → counts (place s l A n).task ≡ b → made step x (earlier s l A n) ≡ made step x (earlier s m A n)
            → step (place s l A n) (made step x (earlier s l A n)) ≡ step (place s m A n) (made step x (earlier s m A n))
        go true i same = ap (λ r. step r (made step x (earlier s l A n))) (a.all (all n (omega arith) i)) ∙ ap (step (place s m A n)) same
        go false i same = skips (place s l A n) (made step x (earlier s l A n)) i ∙ same ∙ sym (skips (place s m A n) (made step x (earlier s m A n)) (ap counts (sym a.task) ∙ i))

  -- one place, from those before it
  module _ (n : ℕ) (within : n < length A) (alike : (k : ℕ) → k < n → IsAlike (ended k) (place s l A k) (place s m A k)) where
    parent-same : (p : ℕ) → p < n → ended p ≡ true → at_place (earlier s l A n) p ≡ at_place (earlier s m A n) p
    parent-same p lt e = at_place-earlier s l A n p lt ∙ (alike p lt).all e ∙ sym (at_place-earlier s m A n p lt)

    subject-same : (e : Entry) → HasParent ended n e → subject_of (earlier s l A n) e ≡ subject_of (earlier s m A n) e
    subject-same (Line i k u w) h = refl
    subject-same (Child p j) h = ap (λ r. r.subject) (parent-same p h.0 h.1)

    carried-same : (v : Version) (e : Entry) → HasParent ended n e → carried_of v (earlier s l A n) e ≡ carried_of v (earlier s m A n) e
    carried-same One e h = refl
    carried-same Two (Line i k u w) h = refl
    carried-same Two (Child p j) h = ap (λ r. join_of r.level r.carried) (parent-same p h.0 h.1)

    task-same : (e : Entry) → HasParent ended n e → task_of (earlier s l A n) e ≡ task_of (earlier s m A n) e
    task-same (Line i k u w) h = refl
    task-same (Child p j) h = ap (λ r. child_task r.task (slice_index_or (children r.effects) (j - 1) 0)) (parent-same p h.0 h.1)

    e : Entry
    e = get_or A n no_entry

    policy-same : ended n ≡ true → policy_of s (earlier s l A n) ≡ policy_of s (earlier s m A n)
    policy-same over =
        policy-made s (earlier s l A n)
        ∙ made-alike (λ p y. changed p.answer p.task p.subject y) s.policy is_rule (λ p y i. changed-skips p.answer p.task p.subject y i) n alike
        (λ k lt r. orderly k n lt within over (rule_conflicts (place s l A k).task (place s l A n).task r))
        ∙ sym (policy-made s (earlier s m A n))

    content-same : ended n ≡ true → (o : ℕ) → is_declared (accesses_of (place s l A n).task) o ≡ true → content_of s (earlier s l A n) o ≡ content_of s (earlier s m A n) o
    content-same over o d =
        content-made s (earlier s l A n) o
        ∙ made-alike (λ p c. leaves p o c) (content_of s [] o) (λ t. may_alter t o)
        (λ p c i. leaves-skips p o c i) n alike
        (λ k lt r. orderly k n lt within over (alters_then_declares (place s l A k).task (place s l A n).task o r d))
        ∙ sym (content-made s (earlier s m A n) o)

    alike-next : IsAlike (ended n) (place s l A n) (place s m A n)
    unfolding e
    alike-next = record {
      subject = subject-same e (parents n within);
      task = task-same e (parents n within);
      all = λ over.
          let hl : List Past = earlier s l A n in
          let hm : List Past = earlier s m A n in
          let t : Task = task_of hl e in
          let c : SecurityLevel = carried_of s.version hl e in
          ap (λ b. judged b (policy_of s hl) (deeds t (content_of s hl)) (subject_of hl e) c t) (same_lost n over)
          ∙ ap (λ y. judged (m n) y (deeds t (content_of s hl)) (subject_of hl e) c t) (policy-same over)
          ∙ ap (λ y. judged (m n) (policy_of s hm) y (subject_of hl e) c t) (deeds-same t (content_of s hl) (content_of s hm) (content-same over))
          ∙ ap (λ y. judged (m n) (policy_of s hm) (deeds t (content_of s hm)) y c t) (subject-same e (parents n within))
          ∙ ap (λ y. judged (m n) (policy_of s hm) (deeds t (content_of s hm)) (subject_of hm e) y t) (carried-same s.version e (parents n within))
          ∙ ap (λ u. judged (m n) (policy_of s hm) (deeds u (content_of s hm)) (subject_of hm e) (carried_of s.version hm e) u) (task-same e (parents n within));
    }

  -- THE FRAME LAW: what an ended place is answered rests on ended places alone
  pub alike-below : (n : ℕ) → n ≤ length A → (k : ℕ) → k < n → IsAlike (ended k) (place s l A k) (place s m A k)
  alike-below zero le k lt = absurd (omega arith)
  alike-below (suc n) le k lt = go (less_or_equal k n lt) (alike-below n (omega arith))
    where
      go : (k < n) ⊎ (k ≡ n) → ((j : ℕ) → j < n → IsAlike (ended j) (place s l A j) (place s m A j)) → IsAlike (ended k) (place s l A k) (place s m A k)
      go (inl below) alike = alike k below
      go (inr same) alike = subst (λ j. IsAlike (ended j) (place s l A j) (place s m A j)) (sym same) (alike-next n le alike)

  pub place-alike : (n : ℕ) → n < length A → IsAlike (ended n) (place s l A n) (place s m A n)
  place-alike n lt = alike-below (suc n) lt n (omega arith)
