-- Proper tokens, in parts of a list.
use Rattle.std.proofs.Common.{List, [], ◌∷◌, ◌++◌}
use Rattle.bl_level.specs.Token.{Tok}
use Rattle.bl_level.specs.Name.{AreProper}

-- what stands behind some of the tokens is proper
pub proper_behind : (xs ys : List Tok) → AreProper (xs ++ ys) → AreProper ys
proper_behind [] ys p = p
proper_behind (x ∷ xs) ys (here, more) = proper_behind xs ys more

pub proper_append : (xs ys : List Tok) → AreProper xs → AreProper ys → AreProper (xs ++ ys)
proper_append [] ys p q = q
proper_append (x ∷ xs) ys (here, more) q = (here, proper_append xs ys more q)
