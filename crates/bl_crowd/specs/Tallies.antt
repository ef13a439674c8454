-- How the lines of a session were taken.
use Rattle.std.specs.Prelude.{suc, Bool, true, false, min}
use Rattle.bl_crowd.specs.declared.tally.Tally.{Tally}

-- a line more was admitted, or was too heavy
abbrev pub noted : Tally → Bool → Tally
noted tally true = record tally { admitted = min (suc tally.admitted) 4294967295 }
noted tally false = record tally { overweight = true }
