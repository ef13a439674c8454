use Rattle.std.proofs.Common.{◌≡◌, ◌<◌, ◌≤◌, ◌+◌, ℕ, List, [], length, get_or, ◌⊎◌, inl, inr, ap, sym, ◌∙◌, subst, arith}
use Rattle.bl_work.specs.Content.{most_bytes}
use Rattle.bl_quota.proofs.Rules.{none-beyond}
use Rattle.bl_quota.proofs.sizes.documents_hold.Goals as goal

below_or_not : (a b : ℕ) → (a < b) ⊎ (b ≤ a)
below_or_not a b = grind arith

all-of : (xs : List (List ℕ)) (n : ℕ) → ((doc : ℕ) → doc < n → length (get_or xs doc []) ≤ most_bytes) → length xs ≤ n → (doc : ℕ) → length (get_or xs doc []) ≤ most_bytes
all-of xs n so_far over doc = go (below_or_not doc n)
  where
    go : (doc < n) ⊎ (n ≤ doc) → length (get_or xs doc []) ≤ most_bytes
    go (inl below) = so_far doc below
    go (inr above) = omega (arith, ap (λ (l : List ℕ). length l) (none-beyond xs doc (omega (arith, over, above))))

pub returns : goal.returns
returns c = all-of c.args.setup.now.contents c.loop-content.content-index c.loop-content.invariant (omega (arith, ap length c.contents-content-items.ensures.value))
