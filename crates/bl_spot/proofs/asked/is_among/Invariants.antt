use Rattle.std.proofs.Common.{length}
use Rattle.std.specs.Prelude.{◌↔◌, Contains}
use Rattle.bl_declare.specs.Words.{names_of}
use Rattle.bl_spot.proofs.asked.is_among.Given as goal

-- the name is among the names if it is among those that are left
abbrev pub invariant-loop-rest : goal.invariant-loop-rest
invariant-loop-rest l = Contains (names_of l.names) l.name ↔ Contains (names_of l.rest) l.name

abbrev pub decreases-loop-rest : goal.decreases-loop-rest
decreases-loop-rest l = length l.rest
