-- Whose sessions a pass opens, and whose lines it admits.
use Rattle.std.specs.Prelude.{◌≡◌, ◌<◌, ◌⊎◌, ℕ, List, get_or, length, take}
use Rattle.bl_order.specs.Machine.{Event, Opens, Admits, Starts, Ends, Loses}
use Rattle.bl_hall.specs.Chronicle.{state_now}
use Rattle.bl_gate.specs.Gates.{PassView, hall_with}
use Rattle.bl_worker.specs.Turns.{Adds, IsEventOf}
use Rattle.bl_crowd.specs.declared.member.Member.{Member}
use Rattle.bl_crowd.specs.declared.member.Reception.{Reception}
use Rattle.bl_crowd.specs.declared.member.Reception.TheVariants.{Awaited, Open}

-- the number of a session that is opened at this position of what the pass has seen: that of the sessions before it
abbrev pub number_at : PassView → ℕ → ℕ
number_at pass position = length (state_now (hall_with pass.gate.base (take position pass.seen))).sessions

-- An event of a member that was received so and is so now: where it had no session, the opening of the one that is its
-- own now; or a line of that.
abbrev pub IsItsOwn : (was now : Reception) → PassView → ℕ → Event → Type 0
IsItsOwn was now pass position (Opens subject) = (was ≡ Awaited) × (now ≡ Open (number_at pass position))
IsItsOwn was now pass position (Admits session ordinal work) = now ≡ Open session
IsItsOwn was now pass position (Starts n) = ⊥
IsItsOwn was now pass position (Ends n) = ⊥
IsItsOwn was now pass position (Loses n) = ⊥

-- for such a member the pass has made no event since then but its own
abbrev pub AddsItsOwn : (was now : Reception) → (before after : PassView) → Type 0
AddsItsOwn was now before after = Adds (IsItsOwn was now after) before after

-- an event of a turn with an entry, or of one of the members
abbrev pub IsOfOne : {S : Type 0} → (old new : List (Member S)) → PassView → ℕ → Event → Type 0
IsOfOne {S} old new pass position event = IsEventOf (λ n. Unit {0}) event ⊎ ((i : ℕ) × (i < length new)
    × ((d : Member S) → IsItsOwn (get_or old i d).reception (get_or new i d).reception pass position event))

-- The pass has opened no session since then but for members that had none, each one, and has admitted no line but of
-- sessions that are open to members.
abbrev pub AddsTheirOwn : {S : Type 0} → (old new : List (Member S)) → (before after : PassView) → Type 0
AddsTheirOwn old new before after = Adds (IsOfOne old new after) before after
