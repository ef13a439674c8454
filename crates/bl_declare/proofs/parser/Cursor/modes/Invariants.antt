use Rattle.std.proofs.Common.{◌≡◌, List, ◌++◌, length}
use Rattle.bl_policy.specs.declared.access.Mode.{Mode}
use Rattle.bl_declare.specs.Reading.{Onward, modes_then}
use Rattle.bl_declare.specs.Parsing.{left}
use Rattle.bl_declare.proofs.parser.Cursor.modes.Given as goal

abbrev pub invariant-loop-mode : goal.invariant-loop-mode
invariant-loop-mode l = (next : List Mode → Onward) → modes_then next (left l.fn.self) ≡ modes_then (λ ms. next (l.modes.items ++ ms)) (left l.self)

abbrev pub decreases-loop-mode : goal.decreases-loop-mode
decreases-loop-mode l = length (left l.self)
