use Rattle.std.proofs.Common.{take, map}
use Rattle.bl_level.specs.LevelFault.{Reads}
use Rattle.bl_level.proofs.scheme.Scheme.level.Given as goal

-- what the categories before this one mean
abbrev pub invariant-loop-category : goal.invariant-loop-category
invariant-loop-category l = Reads l.self (record { rank = l.rank; categories = map (λ c. c.now) (take l.category-index l.categories) }) l.so_far
