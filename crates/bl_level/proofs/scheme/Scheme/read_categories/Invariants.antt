use Rattle.std.proofs.Common.{length, Result}
use Rattle.bl_level.specs.declared.level.Level.{Level}
use Rattle.bl_level.specs.declared.scheme.LevelFault.{LevelFault}
use Rattle.bl_level.specs.LevelFronts.{ReadsOn}
use Rattle.bl_level.proofs.scheme.Scheme.read_categories.Given as goal

-- what is right to answer from here on is right to answer from the start
abbrev pub invariant-categories : goal.invariant-categories
invariant-categories l = (result : Result Level LevelFault) → ReadsOn l.self l.so_far l.rest result → ReadsOn l.self l.initial.so_far l.bytes result

abbrev pub decreases-categories : goal.decreases-categories
decreases-categories l = length l.rest
