use Rattle.std.proofs.Common.{◌≡◌, ℕ, List, ◌++◌, length}
use Rattle.bl_declare.specs.Reading.{Onward, names_then}
use Rattle.bl_declare.specs.Words.{names_of}
use Rattle.bl_declare.specs.Parsing.{left}
use Rattle.bl_declare.proofs.parser.Cursor.names.Given as goal

abbrev pub invariant-loop-name : goal.invariant-loop-name
invariant-loop-name l = (next : List (List ℕ) → Onward) → names_then next (left l.fn.self) ≡ names_then (λ ns. next (names_of l.names.items ++ ns)) (left l.self)

abbrev pub decreases-loop-name : goal.decreases-loop-name
decreases-loop-name l = length (left l.self)
