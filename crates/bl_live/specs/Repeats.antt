-- How often the same fault is told.
use Rattle.std.specs.Prelude.{ℕ, suc, ◌+◌, ◌&&◌, Bool, true, if◌then◌else◌, Option, Some, None, min, nat_le, nat_lt}
use Rattle.bl_live.specs.declared.repeats.Repeats.{Repeats}

-- own choice: so many milliseconds lie between two times at which the same fault is told
abbrev pub apart : ℕ
apart = 60000

-- it is due at this time: it was not told yet, or that is long ago
abbrev pub is_due : Option ℕ → ℕ → Bool
is_due None now = true
is_due (Some last) now = nat_le (last + apart) now

-- it is told at once when it comes, where it is due, and none waits to be counted
abbrev pub is_told : Repeats → ℕ → Bool
is_told repeats now = is_due repeats.last now && nat_le repeats.count 0

-- after it came at this time: it was told, or waits to be counted
abbrev pub came : Repeats → ℕ → Repeats
came repeats now =
    if is_told repeats now then record repeats { last = Some now }
    else record repeats { count = min (suc repeats.count) 4294967295 }

-- so many are told at this time that wait to be counted, where that is due; none else
abbrev pub counted : Repeats → ℕ → Option ℕ
counted repeats now = if is_due repeats.last now && nat_lt 0 repeats.count then Some repeats.count else None

-- after that
abbrev pub after_count : Repeats → ℕ → Repeats
after_count repeats now =
    if is_due repeats.last now && nat_lt 0 repeats.count then record { last = Some now; count = 0 } else repeats
