-- The bodies in a statement are less deep than the list that it stands in.
use Rattle.std.specs.Prelude.{◌≤◌, List, [], ◌∷◌}
use Rattle.std.proofs.Common.{arith}
use denote.Param.Weighed.{most}
use Rattle.bl_work.specs.Body.{statements_of, depth}
use Rattle.bl_work.specs.Few.{items_of}
use Rattle.bl_work.specs.declared.few.Few.{Few}
use Rattle.bl_work.specs.declared.few.Few.TheVariants.{Nothing, One, Many}
use Rattle.bl_work.specs.declared.script.Stmt.{Stmt}
use Rattle.bl_work.specs.declared.script.Stmt.TheVariants.{Show, Say, Add, Set, Copy, Pour, If, Spawn}
use Rattle.bl_work.specs.declared.script.Body.TheDeep.{deep-Body, deep-Stmt}

pub depth_falls : (statements : List Stmt) → most deep-Stmt statements ≤ depth (statements_of statements)
depth_falls [] = omega arith
depth_falls (Show doc ∷ rest) = omega (arith, depth_falls rest)
depth_falls (Say text ∷ rest) = omega (arith, depth_falls rest)
depth_falls (Add doc text ∷ rest) = omega (arith, depth_falls rest)
depth_falls (Set doc text ∷ rest) = omega (arith, depth_falls rest)
depth_falls (Copy from to ∷ rest) = omega (arith, depth_falls rest)
depth_falls (Pour from to ∷ rest) = omega (arith, depth_falls rest)
depth_falls (If choice ∷ rest) = omega (arith, depth_falls rest)
depth_falls (Spawn behaviour ∷ rest) = omega (arith, depth_falls rest)

-- so it is of a list that mostly has one item
pub few_fall : (statements : Few Stmt) → deep-Body (record { statements = statements }) ≤ depth (statements_of (items_of statements))
few_fall Nothing = omega arith
few_fall (One statement) = omega (arith, depth_falls (statement ∷ []))
few_fall (Many statements) = omega (arith, depth_falls statements.items)
