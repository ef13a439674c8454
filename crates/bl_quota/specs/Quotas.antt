-- What a quota counts, and what it answers of a line.
use Rattle.std.specs.Prelude.{◌≡◌, ℕ, ◌+◌, ◌≤◌, ◌<◌, true, length, sum_by, Option, Some, None}
use Rattle.std.specs.List.{range_with_len}
use Rattle.bl_work.specs.declared.work.Work.{Work}
use Rattle.bl_order.specs.Headline.{IsReached}
use Rattle.bl_order.specs.Machine.{State, has_ended}
use Rattle.bl_sizes.specs.Counts.{IsCounted, LeadsOn, in_word}
use Rattle.bl_sizes.specs.Sizes.{FitsAlone, FitsIn, HoldsDocuments, full_size, written_at, written_size}
use Rattle.bl_sizes.specs.Sizes.{denied_more, line_most, run_most}
use Rattle.bl_quota.specs.declared.quota.Fit.{Fit}
use Rattle.bl_quota.specs.declared.quota.Fit.TheVariants.{Now, Later, Never}
use Rattle.bl_quota.specs.declared.quota.Quota.{Quota}

-- the most bytes that the text of the trail may have
abbrev pub limit_of : Quota → ℕ
limit_of quota = quota.most

-- the entries before a place have ended, and this is what they have
pub record IsSettled (x : State) (kept settled : ℕ) : Type 0 where
  pub there : kept ≤ length x.order
  pub ended : (n : ℕ) → n < kept → has_ended x n ≡ true
  pub are : settled ≡ in_word (sum_by (written_at x) (range_with_len 0 kept))

-- all entries are counted, and no less than all that may come
pub record IsLooked (x : State) (count seen : ℕ) : Type 0 where
  pub counted : IsCounted x count seen
  pub all : in_word (full_size x) ≤ count

-- all is counted anew: what may come, what has ended first, and what was written
pub record IsRecounted (x : State) (bytes : ℕ) (quota : Quota) : Type 0 where
  pub settled : IsSettled x quota.kept quota.settled
  pub counted : IsCounted x quota.count quota.seen
  pub full : quota.count ≡ in_word (full_size x)
  pub written : bytes ≡ in_word (written_size x)

-- a quota counts what may come of all that was admitted before some place, and what those entries have that have ended
-- first
pub record IsQuota (quota : Quota) (x : State) : Type 0 where
  pub documents : HoldsDocuments x.setup
  pub counted : IsCounted x quota.count quota.seen
  pub settled : IsSettled x quota.kept quota.settled

-- it did so in a state from which the run has gone on
pub record WasQuota (quota : Quota) (y : State) : Type 0 where
  pub before : State
  pub reached : IsReached before
  pub was : IsQuota quota before
  pub on : LeadsOn before y

-- A line fits now; or it would fit if nothing more came of the lines that were admitted; or it will never fit.
abbrev pub IsFit : ℕ → State → Work → Fit → Type 0
IsFit most x work Now = FitsIn most x work
IsFit most x work Later = (¬ FitsIn most x work) × FitsAlone most x work
IsFit most x work Never = ¬ FitsAlone most x work

-- the least that a line may add: the 8 bytes of `create a`, what stands round them, its start and its denial
abbrev pub least_size : ℕ
least_size = line_most + 8 + (run_most + denied_more)

-- the trail is full: not even that would stay within the limit beside what was written
abbrev pub IsFull : ℕ → State → Type 0
IsFull most x = ¬ (written_size x + least_size ≤ most)

-- under a limit a line is allowed as it fits, and without one each is allowed
abbrev pub IsAllowed : Option ℕ → State → Work → Fit → Type 0
IsAllowed None x work Now = Unit {0}
IsAllowed None x work Later = ⊥
IsAllowed None x work Never = ⊥
IsAllowed (Some most) x work fit = IsFit most x work fit
