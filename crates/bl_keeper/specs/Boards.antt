-- What stands on a board: for whom it is decided what came of having the journal keep up.
use Rattle.std.specs.Prelude.{◌≡◌, ◌<◌, ◌≤◌, ◌+◌, ◌-◌, ◌^◌, ℕ, Option, Some, None, false, max, min}
use Rattle.bl_keeper.specs.declared.board.Board.{Board}
use Rattle.bl_keeper.specs.declared.board.Refusal.{Refusal}
use Rattle.bl_record.specs.declared.fault.JournalFault.{JournalFault}
use Rattle.bl_record.specs.declared.fault.JournalFault.TheVariants.{Device, Memory}

-- all that have asked with a smaller number are served by what was kept last
abbrev pub served_below : Option ℕ → ℕ
served_below None = 0
served_below (Some below) = below

-- all that have asked with a smaller number, and are not served, are refused
abbrev pub refused_below : Option Refusal → ℕ
refused_below None = 0
refused_below (Some refusal) = refusal.below

-- the number below which it is decided for all: each of those is served or refused
abbrev pub decided_of : {D Synced : Type 0} → Board D Synced → ℕ
decided_of board = max (served_below board.last) (refused_below board.refusal)

-- the greatest number there is
abbrev pub top : ℕ
top = 2 ^ 64 - 1

-- the next number, as long as there is one
abbrev pub next_of : ℕ → ℕ
next_of number = min (number + 1) top

-- Who is refused for a fault, where it was decided for all below this number: all, where the device has failed, since
-- nothing more is kept; and one more, where memory was refused, since the others are tried again.
abbrev pub refusal_by : JournalFault → ℕ → Refusal
refusal_by (Device error) decided = record { below = top; fault = Device error }
refusal_by Memory decided = record { below = next_of decided; fault = Memory }

-- nobody has the journal keep up, and somebody that was not told waits for it at a desk
pub record HasToKeep {D Synced : Type 0} (board : Board D Synced) : Type 0 where
  pub free : board.busy ≡ false
  pub untold : board.told < board.wanted
  pub undecided : decided_of board < board.wanted

-- nobody has the journal keep up, and it is decided for all that wait at desks, of whom somebody was not told
pub record HasToTell {D Synced : Type 0} (board : Board D Synced) : Type 0 where
  pub free : board.busy ≡ false
  pub untold : board.told < board.wanted
  pub decided : board.wanted ≤ decided_of board
