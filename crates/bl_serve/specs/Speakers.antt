-- Who spoke for whom in all that happened behind a gate.
use Rattle.std.specs.Prelude.{◌≡◌, ℕ, ◌≤◌, List, drop, length, Some, slice_get}
use mathlib.Core.Option.{some}
use lib.ListN.{get_elem?}
use Rattle.bl_work.specs.declared.work.Work.{Work}
use Rattle.bl_order.specs.Machine.{Admits}
use Rattle.bl_hall.specs.Chronicle.{HasTrail}
use Rattle.bl_gate.specs.Counts.{StartsWith, times, total, within}
use Rattle.bl_gate.specs.Gates.{PassView, hall_seen}
use Rattle.bl_serve.specs.Courses.{HasOpened, IsOpenedAt, SpeaksAlone, StandAt}

-- positions such that each line that the pass has seen there is of a session that was opened at one of them
abbrev pub IsShare : PassView → List ℕ → Type 0
IsShare whole positions =
    (p session ordinal : ℕ) (work : Work) → 1 ≤ times p positions
    → slice_get whole.seen p ≡ Some (Admits session ordinal work)
    → (subject : ℕ) × IsOpenedAt positions whole session subject

-- What the pass owns that closes a gate is shared out: it owns each position behind the first events just once, and
-- these are those of the shares.
pub record IsSharedOut (whole : PassView) (shares : List (List ℕ)) : Type 0 where
  pub trail : HasTrail (hall_seen whole)
  pub owned : (p : ℕ) → times p whole.own ≡ within (length whole.gate.base.trail) (length whole.seen) p
  pub shared : (p : ℕ) → total (times p) shares ≡ times p whole.own
  pub each : (i : ℕ) (positions : List ℕ) → get_elem? shares i ≡ some positions → IsShare whole positions

-- the positions that a pass has gained
abbrev pub gained_since : (before after : PassView) → List ℕ
gained_since before after = drop (length before.own) after.own

-- they are one of the shares
abbrev pub IsOneOf : List (List ℕ) → List ℕ → Type 0
IsOneOf shares positions = (i : ℕ) × (get_elem? shares i ≡ some positions)

-- the lines of a session stand in the share in which it was opened
abbrev pub LinesStandWithOpenings : PassView → List (List ℕ) → Type 0
LinesStandWithOpenings whole shares =
    (i session subject : ℕ) (positions : List ℕ) → get_elem? shares i ≡ some positions
    → IsOpenedAt positions whole session subject → StandAt positions session whole.seen

-- no other pass spoke for a session that the pass has opened
abbrev pub SpeaksAloneForOpened : (before after : PassView) → Type 0
SpeaksAloneForOpened before after = (session : ℕ) → HasOpened before after session → SpeaksAlone before after session

-- the pass is of the same hall, and has seen all that another one had
pub record HasMet (whole other : PassView) : Type 0 where
  pub base : whole.gate.base ≡ other.gate.base
  pub seen : StartsWith whole.seen other.seen
