-- The policy and the contents now, where a place has not ended.
use Rattle.std.proofs.Common.{◌≡◌, ℕ, ◌<◌, ◌≤◌, Bool, true, false, ◌&&◌, List, [], ◌∷◌, length, refl, sym, ◌∙◌, ap, inl, inr, arith, ◌⊎◌, true≢false}
use Rattle.bl_policy.specs.Policy.{SecurityPolicy}
use Rattle.bl_work.specs.declared.answer.Answer.{Answer}
use Rattle.bl_setup.specs.Setup.{Setup}
use Rattle.bl_order.specs.Order.{Task, Runs, Applies, is_rule, conflict, is_declared, accesses_of}
use Rattle.bl_order.specs.Past.{Past, earlier, policy_of, content_of, changed, may_alter, leaves}
use Rattle.bl_order.specs.Machine.{State, past_at, has_ended, runs, is_lost, Phase, Waiting, Running, Ended, Gone, is_waiting, is_over}
use Rattle.bl_order.specs.Now.{ended_places, policy_at, policy_now, content_at, content_now, IsFirstToAlter}
use Rattle.bl_order.proofs.Sound.{IsOrderly}
use Rattle.bl_order.proofs.Conflicts.{or_right, rule_conflicts, conflicts_with_rule, alters_then_declares, declares_then_alters, both_alter}
use Rattle.bl_order.proofs.Leaving.{leaves-skips}
use Rattle.bl_order.proofs.Places.{made, made-before}

pub changed-skips : (a : Answer) (t : Task) (s : ℕ) (y : SecurityPolicy) → is_rule t ≡ false → changed a t s y ≡ y
changed-skips answer (Runs script index) subject policy h = refl
changed-skips answer (Applies rule) subject policy h = absurd (true≢false h)

pub policy-made : (s : Setup) (h : List Past) → policy_of s h ≡ made (λ p y. changed p.answer p.task p.subject y) s.policy h
policy-made s [] = refl
policy-made s (p ∷ h) = ap (changed p.answer p.task p.subject) (policy-made s h)

waiting_is_not_over : (p : Phase) → is_waiting p ≡ true → is_over p ≡ false
waiting_is_not_over Waiting h = refl
waiting_is_not_over Running h = refl
waiting_is_not_over Ended h = absurd (true≢false (sym h))
waiting_is_not_over Gone h = absurd (true≢false (sym h))

pub below_or_equal : (n m : ℕ) → n ≤ m → (n < m) ⊎ (n ≡ m)
below_or_equal n m h = grind arith

-- nothing after a place that hasn't ended has ended, if it conflicts with it
pub not_ended_after : (x : State) (m n : ℕ) → IsOrderly x → has_ended x n ≡ false → n ≤ m → m < length x.order
    → conflict (past_at x n).task (past_at x m).task ≡ true → has_ended x m ≡ false
not_ended_after x m n orderly unended ge within c = go (has_ended x m) refl
  where
    earlier : (n < m) ⊎ (n ≡ m) → has_ended x m ≡ true → has_ended x n ≡ true
    earlier (inl lt) e = orderly n m lt within (or_right (runs x m) (has_ended x m) e) c
    earlier (inr same) e = ap (has_ended x) same ∙ e

    go : (b : Bool) → has_ended x m ≡ b → has_ended x m ≡ false
    go false e = e
    go true e = absurd (true≢false (sym (earlier (below_or_equal n m ge) e) ∙ unended))

-- the ended rules that aren't lost make the policy of a place that hasn't ended and has nothing open before it that it conflicts with
module _ (x : State) (n : ℕ) (orderly : IsOrderly x) (within : n < length x.order) (unended : has_ended x n ≡ false)
    (clear : (m : ℕ) → m < n → conflict (past_at x m).task (past_at x n).task ≡ true → has_ended x m ≡ true) where
  pub policy_now-open : policy_now x ≡ policy_at x n
  policy_now-open =
      policy-made x.setup (ended_places x)
      ∙ made-before (λ p y. changed p.answer p.task p.subject y) x.setup.policy is_rule (λ p y h. changed-skips p.answer p.task p.subject y h) x.setup (is_lost x) x.order (has_ended x)
      n (length x.order) (omega arith)
      (λ m below rule. clear m below (rule_conflicts (past_at x m).task (past_at x n).task rule))
      (λ m ge lt rule. not_ended_after x m n orderly unended ge lt (conflicts_with_rule (past_at x n).task (past_at x m).task rule))
      ∙ sym (policy-made x.setup (earlier x.setup (is_lost x) x.order n))

pub content-made : (s : Setup) (h : List Past) (o : ℕ) → content_of s h o ≡ made (λ p c. leaves p o c) (content_of s [] o) h
content-made s [] o = refl
content-made s (p ∷ h) o = ap (leaves p o) (content-made s h o)

pub and_false : (a b : Bool) → b ≡ false → (a && b) ≡ false
and_false true b h = h
and_false false b h = refl

-- where each place before n that is to alter the document has ended, and none from n on, the ended places make its content at n
content_now-at : (x : State) (o n : ℕ) → n ≤ length x.order
    → ((k : ℕ) → k < n → may_alter (past_at x k).task o ≡ true → has_ended x k ≡ true)
    → ((k : ℕ) → n ≤ k → k < length x.order → may_alter (past_at x k).task o ≡ true → has_ended x k ≡ false) → content_now x o ≡ content_at x o n
content_now-at x o n le all none =
    content-made x.setup (ended_places x) o
    ∙ made-before (λ p c. leaves p o c) (content_of x.setup [] o) (λ t. may_alter t o)
    (λ p c h. leaves-skips p o c h) x.setup (is_lost x) x.order (has_ended x) n (length x.order) le all none
    ∙ sym (content-made x.setup (earlier x.setup (is_lost x) x.order n) o)

-- the ended places make the content at the first place that is still to alter it
pub content_now-first : (x : State) (o m : ℕ) → IsOrderly x → IsFirstToAlter x o m → content_now x o ≡ content_at x o m
content_now-first x o m orderly first =
    content_now-at x o m first.within first.all_before
    (λ k ge lt a. not_ended_after x k m orderly (first.itself (omega arith)).1 ge lt
    (both_alter (past_at x m).task (past_at x k).task o (first.itself (omega arith)).0 a))

-- and the content that a place sees, of each document that it is_declared
pub content_now-open : (x : State) (n o : ℕ) → IsOrderly x → n < length x.order → has_ended x n ≡ false
    → ((m : ℕ) → m < n → conflict (past_at x m).task (past_at x n).task ≡ true → has_ended x m ≡ true)
    → is_declared (accesses_of (past_at x n).task) o ≡ true → content_now x o ≡ content_at x o n
content_now-open x n o orderly within unended clear d =
    content_now-at x o n (omega arith)
    (λ k below a. clear k below (alters_then_declares (past_at x k).task (past_at x n).task o a d))
    (λ k ge lt a. not_ended_after x k n orderly unended ge lt (declares_then_alters (past_at x n).task (past_at x k).task o d a))
