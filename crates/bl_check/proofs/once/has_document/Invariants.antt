use Rattle.std.proofs.Common.{map, take}
use Rattle.std.specs.Prelude.{Contains}
use Rattle.bl_syntax.specs.RawBodies.{raw_access}
use Rattle.bl_work.specs.WhenFaults.{documents_in}
use Rattle.bl_check.proofs.once.has_document.Given as goal

-- the accesses so far are of other documents
abbrev pub invariant-loop-access : goal.invariant-loop-access
invariant-loop-access l = Contains (documents_in (map raw_access (take l.access-index l.accesses))) l.document → ⊥
