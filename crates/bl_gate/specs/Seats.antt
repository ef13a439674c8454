-- A pass by its seat at the gate's table.
use Rattle.std.specs.Prelude.{◌≡◌, ℕ, [], Option, Some, None}
use Rattle.atomic_table.specs.Seated.{TableId}
use Rattle.atomic_table.specs.declared.shared.Seat.{Seat}
use Rattle.bl_hall.specs.Chronicle.{Chronicle}
use Rattle.bl_gate.specs.Gates.{PassView, no_pass}
use Rattle.bl_gate.specs.Views.{View, IsIdle}

-- the pass of a seat that knows this
abbrev pub pass_of : TableId → View → ℕ → PassView
pass_of table v parts = record { gate = record { table = table; base = v.base }; seen = v.seen; own = v.own; parts = parts }

-- a pass, or what is left where it was taken from
abbrev pub pass_seen : Option (Seat (Option Chronicle) View) → ℕ → PassView
pass_seen (Some seat) parts = pass_of seat.table_id seat.me.0 parts
pass_seen None parts = no_pass

-- it makes no call, and its parts are its seat's
abbrev pub IsSeated : Option (Seat (Option Chronicle) View) → ℕ → Type 0
IsSeated (Some seat) parts = IsIdle seat.me.0 × (seat.me.1 ≡ []) × (seat.me.0.parts ≡ parts)
IsSeated None parts = parts ≡ 0
