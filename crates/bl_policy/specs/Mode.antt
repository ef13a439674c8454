use Rattle.std.specs.Prelude.{ℕ, Bool, true, false, ◌==◌, ◌^◌}
use Rattle.std.specs.Int.{bit_at}
use Rattle.bl_policy.specs.declared.access.Mode.{Mode}
use Rattle.bl_policy.specs.declared.access.Mode.TheVariants.{Read, Append, Write}
use Rattle.bl_policy.specs.declared.access.ModeSet.{ModeSet}

-- own choice: append and write, which alter the document, exclude every other access of it; reads share it
abbrev pub is_exclusive : Mode → Bool
is_exclusive Read = false
is_exclusive Append = true
is_exclusive Write = true

-- the bit of a mode in a set of modes
abbrev pub place_of : Mode → ℕ
place_of Read = 0
place_of Append = 1
place_of Write = 2

-- the set of this mode alone, as a number
abbrev pub flag_of : Mode → ℕ
flag_of m = 2 ^ place_of m

-- the mode is in the set
abbrev pub has_mode : ModeSet → Mode → Bool
has_mode set m = bit_at set.0 (place_of m) == 1
