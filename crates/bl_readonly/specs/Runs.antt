-- How a run of a command that writes no file ends.
use Rattle.std.specs.Prelude.{ℕ, List, Bool, true, false}
use Rattle.bl_replaying.specs.Runs.{IsOpenReplayOn, IsReplayOn}
use Rattle.bl_wire.specs.Watch.{Use}

-- how a replay ends, of a trail that may be open or not
abbrev pub EndsReplay : Bool → List ℕ → List ℕ → ℕ → Use → Use → Type 0
EndsReplay false setup trail status output errors = IsReplayOn setup trail status output errors
EndsReplay true setup trail status output errors = IsOpenReplayOn setup trail status output errors
