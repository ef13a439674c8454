use Rattle.std.proofs.Common.{◌≡◌, ◌<◌, ◌≤◌, ◌+◌, ℕ, true, ◌⊎◌, inl, inr, ap, sym, ◌∙◌, arith}
use Rattle.bl_order.specs.Machine.{State, has_ended}
use Rattle.bl_quota.proofs.sizes.first_unended.Goals as goal

same_or_below : (m n : ℕ) → m < n + 1 → (m ≡ n) ⊎ (m < n)
same_or_below m n lt = grind arith

one-more : (x : State) (from n : ℕ) → ((m : ℕ) → from ≤ m → m < n → has_ended x m ≡ true) → has_ended x n ≡ true
    → (m : ℕ) → from ≤ m → m < n + 1 → has_ended x m ≡ true
one-more x from n all here m above lt = go (same_or_below m n lt)
  where
    go : (m ≡ n) ⊎ (m < n) → has_ended x m ≡ true
    go (inl same) = ap (has_ended x) same ∙ here
    go (inr below) = all m above below

pub loop-n-preserved : goal.loop-n-preserved
loop-n-preserved c = one-more c.args.core.now c.args.from c.loop-n.n c.loop-n.invariant (sym c.is_ended.ensures ∙ c.if-not-is_ended.false)
