-- When a run that another follows ends for its trail.
use Rattle.std.specs.Prelude.{◌≡◌, ◌/◌, ◌⊎◌, ℕ, Bool, true, false, Some}
use Rattle.bl_order.specs.Machine.{State}
use Rattle.bl_work.specs.declared.work.Work.{Work}
use Rattle.bl_quota.specs.Quotas.{IsFit, WasQuota, limit_of}
use Rattle.bl_quota.specs.declared.quota.Fit.{Fit}
use Rattle.bl_quota.specs.declared.quota.Fit.TheVariants.{Now, Never}
use Rattle.bl_quota.specs.declared.quota.Quota.{Quota}
use Rattle.bl_host.specs.declared.shared.TrailCounts.{TrailCounts}

-- own choice: the limit at which such a run ends, of a trail of so many bytes at most: a half, so that a line that may come
-- to as much still fits then
abbrev pub early_limit : ℕ → ℕ
early_limit most = most / 2

-- what a count answers of a line
abbrev pub Says : Quota → State → Work → Fit → Type 0
Says quota x work fit = WasQuota quota x → IsFit (limit_of quota) x work fit

-- The line fits within the lower limit; or it is answered as the trail's own limit has it, and the run ends only where the
-- line will never fit within the lower one.
abbrev pub IsAsked : State → Work → TrailCounts → Fit → (ends : Bool) → Type 0
IsAsked x work counts fit ends =
    ((early : Quota) × (counts.early ≡ Some early) × Says early x work Now × (fit ≡ Now) × (ends ≡ false))
    ⊎ (Says counts.quota x work fit
    × (ends ≡ true → (early : Quota) × (counts.early ≡ Some early) × Says early x work Never))
