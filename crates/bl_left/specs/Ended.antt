-- How a replay ends that has followed a text.
use Rattle.std.specs.Prelude.{◌≡◌, ℕ, ◌<◌, List, [], ◌∷◌, ◌++◌, length, codes, IsTrue, Option, None}
use Rattle.bl_setup.specs.Setup.{Setup}
use Rattle.bl_order.specs.Headline.{IsReached}
use Rattle.bl_order.specs.Machine.{Event, State, is_over, state_after}
use Rattle.bl_trail.specs.Follow.{Followed, IsFollowed}
use Rattle.bl_trail.specs.declared.verdict.Verdict.{Verdict}
use Rattle.bl_trail.specs.declared.verdict.Verdict.TheVariants.{Accepted, Rejected}
use Rattle.bl_replay.specs.Keeps.{KeepsAt}
use Rattle.bl_replay.specs.Kept.{phase_in, place_in}
use Rattle.bl_replay.specs.Marks.{AreForetold, lost_later}
use Rattle.bl_replay.specs.declared.place.Place.{Place}
use Rattle.bl_replay.specs.declared.replayer.Replayer.{Replayer}
use Rattle.bl_left.specs.Left.{Stands}

-- each of the places has ended
abbrev pub AreOver : List Place → Type 0
AreOver places = (n : ℕ) → n < length places → IsTrue (is_over (phase_in (place_in places n)))

-- what is kept is that of a state, and the marks say of each place that has ended there whether it is lost
abbrev pub IsAt : State → Replayer → Type 0
IsAt x r = KeepsAt x r × AreForetold (lost_later r.marks.items) x

-- the events of an accepted text lead to the state of what is kept then; of another one it is said how far it is right
abbrev pub IsAtItsEnd : State → List ℕ → Replayer → Verdict → Type 0
IsAtItsEnd x text r (Accepted count) = (events : List Event) × Followed x text (codes "stop" ++ 10 ∷ []) events
    × (count ≡ length events) × IsAt (state_after x events) r
IsAtItsEnd x text r (Rejected number) = IsFollowed x text (Rejected number)

-- what an accepted text leaves stands in the state that its events lead to; another one is so far right, and leaves nothing
abbrev pub Leaves : State → List ℕ → Verdict → Option Setup → Type 0
Leaves x text (Accepted count) left = (events : List Event) × Followed x text (codes "stop" ++ 10 ∷ []) events
    × (count ≡ length events) × IsReached (state_after x events) × Stands (state_after x events) left
Leaves x text (Rejected number) left = IsFollowed x text (Rejected number) × (left ≡ None)
