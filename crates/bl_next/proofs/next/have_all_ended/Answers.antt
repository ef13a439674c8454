use Rattle.std.proofs.Common.{◌≡◌, ◌⊎◌, inl, inr, ℕ, ◌+◌, ◌<◌, refl, sym, ◌∙◌, ap, arith, true≢false}
use Rattle.std.specs.Prelude.{IsTrue}
use Rattle.bl_order.specs.Machine.{has_ended}
use Rattle.bl_next.proofs.next.have_all_ended.Goals as goal

below_or_last : (k n : ℕ) → k < n + 1 → (k < n) ⊎ (k ≡ n)
below_or_last k n lt = grind (arith, lt)

pub loop-n-preserved : goal.loop-n-preserved
loop-n-preserved c k lt = go (below_or_last k c.loop-n.n lt)
  where
    go : (k < c.loop-n.n) ⊎ (k ≡ c.loop-n.n) → IsTrue (has_ended c.args.core.now k)
    go (inl less) = c.loop-n.invariant k less
    go (inr same) = ap (has_ended c.args.core.now) same ∙ sym c.is_ended.ensures ∙ c.if-not-is_ended.false

pub returns-then-not-is_ended : goal.returns-then-not-is_ended
returns-then-not-is_ended c = (
  (λ yes. absurd (true≢false (sym yes))),
  (λ all. absurd (true≢false (sym (all c.loop-n.n (omega (arith, c.loop-n-test.true, c.entries-n-end.ensures.count))) ∙ sym c.is_ended.ensures
      ∙ c.if-not-is_ended.true))),
)

pub returns : goal.returns
returns c =
    ((λ yes k lt. c.loop-n.invariant k (omega (arith, lt, c.loop-n-test.false, c.entries-n-end.ensures.count))), (λ all. refl))
