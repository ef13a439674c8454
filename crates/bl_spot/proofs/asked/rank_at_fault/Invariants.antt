use Rattle.std.proofs.Common.{◌≡◌, ◌∷◌, take}
use Rattle.bl_declare.specs.Words.{names_of}
use Rattle.bl_spot.proofs.asked.rank_at_fault.Given as goal

-- the lowest rank and the higher ones so far
abbrev pub invariant-loop-name : goal.invariant-loop-name
invariant-loop-name l = names_of l.names.items ≡ l.fn.lowest ∷ names_of (take l.name-index l.higher)
