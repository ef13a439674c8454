use Rattle.std.proofs.Common.{◌≡◌, length, map}
use Rattle.bl_work.specs.Spelled.{spell_more}
use Rattle.bl_syntax.specs.RawBodies.{raw_access}
use Rattle.bl_syntax.specs.Parsing.{left, ending}
use Rattle.bl_syntax.proofs.parse.Cursor.more_accesses.Given as goal

-- what was taken are these accesses, and what stands behind all tokens is the same
abbrev pub invariant-loop-self : goal.invariant-loop-self
invariant-loop-self l = record {
  taken : left l.fn.self ≡ spell_more (map raw_access l.accesses.items) (left l.self);
  ending : ending l.self ≡ ending l.fn.self;
}

abbrev pub decreases-loop-self : goal.decreases-loop-self
decreases-loop-self l = length (left l.self)
