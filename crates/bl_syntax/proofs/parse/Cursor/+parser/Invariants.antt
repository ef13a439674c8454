use Rattle.std.proofs.Common.{◌≡◌, ◌++◌, ◌+◌, ◌*◌, length}
use Rattle.bl_work.specs.Spelled.{spell_body}
use Rattle.bl_work.specs.Few.{items_of}
use Rattle.bl_syntax.specs.RawBodies.{raw_body}
use Rattle.bl_syntax.specs.Parsing.{left, ending}
use Rattle.bl_syntax.proofs.parse.Cursor.+parser.Given as goal

abbrev pub decreases-body : goal.decreases-body
decreases-body l = 3 * length (left l.self.now) + 2

abbrev pub decreases-choice : goal.decreases-choice
decreases-choice l = 3 * length (left l.self.now)

abbrev pub decreases-statement : goal.decreases-statement
decreases-statement l = 3 * length (left l.self.now) + 1

abbrev pub decreases-when : goal.decreases-when
decreases-when l = 3 * length (left l.self.now)

-- what was taken are these statements, and what stands behind all tokens is the same
abbrev pub invariant-body-loop-start : goal.invariant-body-loop-start
invariant-body-loop-start l = record {
  taken : left l.fn.self ≡ spell_body (raw_body (items_of l.statements)) ++ left l.self;
  ending : ending l.self ≡ ending l.fn.self;
}

abbrev pub decreases-body-loop-start : goal.decreases-body-loop-start
decreases-body-loop-start l = length (left l.self)
