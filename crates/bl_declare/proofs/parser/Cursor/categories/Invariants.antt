use Rattle.std.proofs.Common.{◌≡◌, ℕ, List, ◌++◌, length}
use Rattle.bl_declare.specs.Reading.{Onward, categories_then, more_then}
use Rattle.bl_declare.specs.Words.{names_of}
use Rattle.bl_declare.specs.Parsing.{left}
use Rattle.bl_declare.proofs.parser.Cursor.categories.Given as goal

abbrev pub invariant-loop-categories : goal.invariant-loop-categories
invariant-loop-categories l = (next : List (List ℕ) → Onward) → categories_then next (left l.fn.self) ≡ more_then (λ ns. next (names_of l.categories.items ++ ns)) (left l.self)

abbrev pub decreases-loop-categories : goal.decreases-loop-categories
decreases-loop-categories l = length (left l.self)
