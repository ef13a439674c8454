-- What is said of a clock on standard error.
use Rattle.std.specs.Prelude.{ℕ, List, [], ◌++◌, codes, if◌then◌else◌}
use Rattle.bl_clock.specs.declared.clock.ClockFaults.{ClockFaults}

-- own choice: that it takes no more, and that a time was before an earlier one, each on a line of its own
abbrev pub clock_text : ClockFaults → List ℕ
clock_text faults = (if faults.is_cut then codes "clock cut short\n" else [])
    ++ (if faults.went_back then codes "clock went back\n" else [])
