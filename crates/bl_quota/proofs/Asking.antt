-- What is answered of a line, by what is counted.
use Rattle.std.proofs.Common.{◌≡◌, ℕ, ◌≤◌, ◌<◌, ◌+◌, ◌-◌, ◌^◌, min, true, false, Bool, refl, ap, sym, ◌∙◌, subst, arith, true≢false}
use Rattle.std.specs.Prelude.{◌↔◌, IsTrue, not}
use Rattle.bl_order.specs.Machine.{State}
use Rattle.bl_sizes.specs.Counts.{IsCounted, in_word}
use Rattle.bl_sizes.specs.Sizes.{HoldsDocuments}
use Rattle.bl_quota.specs.Quotas.{IsLooked, IsQuota, IsRecounted, IsSettled}
use Rattle.bl_quota.specs.declared.quota.Quota.{Quota}

-- what is counted is no less than all, and stays within the limit with what is to be added: so does all
pub fits : (most own full count size more : ℕ) → most < 2 ^ 32 → own ≡ most → in_word full ≤ count → more ≡ in_word size → count + more ≤ own → full + size ≤ most
fits most own full count size more small same all are le = omega (arith, small, same, all, are, le)

-- what is counted is all, and does not stay within the limit: nor does all
pub not-fits : (most own full count size more : ℕ) (room : Bool) → most < 2 ^ 32 → own ≡ most → count ≡ in_word full → more ≡ in_word size
    → (IsTrue room ↔ (count + more ≤ own)) → room ≡ false → ¬ (full + size ≤ most)
not-fits most own full count size more room small same all are decides never le =
    true≢false (sym (decides.1 (omega (arith, small, same, all, are, le))) ∙ never)

-- so it is decided whether the trail is full
pub full-is : (most own written count least : ℕ) (room : Bool) → most < 2 ^ 32 → own ≡ most → count ≡ in_word written → (IsTrue room ↔ (count + least ≤ own))
    → IsTrue (not room) ↔ (¬ (written + least ≤ most))
full-is most own written count least true small same all decides =
    (λ no. absurd (true≢false (sym no)), λ never. absurd (never (omega (arith, small, same, all, decides.0 refl))))
full-is most own written count least false small same all decides =
    (λ yes le. true≢false (sym (decides.1 (omega (arith, small, same, all, le)))), λ never. refl)

pub less-all : (full count : ℕ) → count ≡ in_word full → in_word full ≤ count
less-all full count is = omega (arith, is)

module _ (q n : Quota) (x : State) (is : IsQuota q x) where
  pub settled-same : n.kept ≡ q.kept → n.settled ≡ q.settled → IsSettled x n.kept n.settled
  settled-same kept settled =
      subst (λ k. IsSettled x k n.settled) (sym kept) (subst (IsSettled x q.kept) (sym settled) is.settled)

  -- a look leaves a quota
  pub looked-quota : n.kept ≡ q.kept → n.settled ≡ q.settled → IsLooked x n.count n.seen → IsQuota n x
  looked-quota kept settled looked = record { documents = is.documents; counted = looked.counted; settled = settled-same kept settled }

-- so does a count of all
pub recounted-quota : (n : Quota) (x : State) (bytes : ℕ) → HoldsDocuments x.setup → IsRecounted x bytes n → IsQuota n x
recounted-quota n x bytes documents is = record { documents = documents; counted = is.counted; settled = is.settled }
