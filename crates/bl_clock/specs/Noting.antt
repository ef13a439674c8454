-- How many events are kept of a journal's file, and how that is noted.
use Rattle.std.specs.Prelude.{◌≡◌, ◌⊎◌, ◌-◌, ◌++◌, ◌&&◌, ℕ, Bool, List, Option, Some, None, codes, count_by, nat_lt, not}
use Rattle.std.specs.Io.KnownBytes.{Appends}
use Rattle.bl_clock.specs.declared.clock.ClockFaults.{ClockFaults}

-- the last line of the text closes a trail
abbrev pub IsClosing : List ℕ → Type 0
IsClosing text = (text ≡ codes "stop\n") ⊎ ((lines : List ℕ) × (text ≡ lines ++ codes "\nstop\n"))

-- of so many lines the first two, the version and the limit, are no events
abbrev pub events_in : ℕ → ℕ
events_in lines = lines - 2

-- so many of the lines that end there are left where a file is cut to so many bytes
abbrev pub lines_within : ℕ → List ℕ → ℕ
lines_within len ends = count_by (λ at. nat_lt at len) ends

-- the file took all these bytes
abbrev pub HasTaken : {F : Type 0} → (F → Option (List ℕ)) → Option F → Option F → List ℕ → Type 0
HasTaken contents (Some before) (Some after) bytes = Appends (contents before) (contents after) bytes
HasTaken contents before after bytes = ⊥

-- of these faults those that were not told yet
abbrev pub untold : ClockFaults → ClockFaults → ClockFaults
untold faults told = record {
  is_cut = faults.is_cut && not told.is_cut;
  went_back = faults.went_back && not told.went_back;
}
