-- The bodies in a statement are less deep than the list that it stands in.
use Rattle.std.specs.Prelude.{◌≤◌, List, [], ◌∷◌}
use Rattle.std.proofs.Common.{arith}
use denote.Param.Weighed.{most}
use Rattle.bl_work.specs.Few.{items_of}
use Rattle.bl_work.specs.declared.few.Few.{Few}
use Rattle.bl_work.specs.declared.few.Few.TheVariants.{Nothing, One, Many}
use Rattle.bl_syntax.specs.RawBodies.{raw_body}
use Rattle.bl_work.specs.SpelledDepth.{spelled_depth}
use Rattle.bl_syntax.specs.declared.raw.RawStatement.{RawStatement}
use Rattle.bl_syntax.specs.declared.raw.RawStatement.TheVariants.{Show, Say, Add, Set, Copy, Pour, IfThen, IfElse, Spawn}
use Rattle.bl_syntax.specs.declared.raw.RawBody.TheDeep.{deep-RawBody, deep-RawStatement}

pub raw_falls : (statements : List RawStatement) → most deep-RawStatement statements ≤ spelled_depth (raw_body statements)
raw_falls [] = omega arith
raw_falls (Show document ∷ rest) = omega (arith, raw_falls rest)
raw_falls (Say words ∷ rest) = omega (arith, raw_falls rest)
raw_falls (Add document words ∷ rest) = omega (arith, raw_falls rest)
raw_falls (Set document words ∷ rest) = omega (arith, raw_falls rest)
raw_falls (Copy from to ∷ rest) = omega (arith, raw_falls rest)
raw_falls (Pour from to ∷ rest) = omega (arith, raw_falls rest)
raw_falls (IfThen choice ∷ rest) = omega (arith, raw_falls rest)
raw_falls (IfElse choice ∷ rest) = omega (arith, raw_falls rest)
raw_falls (Spawn spawned ∷ rest) = omega (arith, raw_falls rest)

-- so it is of a list that mostly has one item
pub few_fall : (statements : Few RawStatement) → deep-RawBody (record { statements = statements }) ≤ spelled_depth (raw_body (items_of statements))
few_fall Nothing = omega arith
few_fall (One statement) = omega (arith, raw_falls (statement ∷ []))
few_fall (Many statements) = omega (arith, raw_falls statements.items)
