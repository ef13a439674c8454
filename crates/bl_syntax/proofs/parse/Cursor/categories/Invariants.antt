use Rattle.std.proofs.Common.{◌≡◌, length}
use Rattle.bl_syntax.specs.RawRules.{raw_names}
use Rattle.bl_syntax.specs.Parsing.{left, ending}
use Rattle.bl_syntax.proofs.Categories.{Listed}
use Rattle.bl_syntax.proofs.parse.Cursor.categories.Given as goal

-- what was taken are these categories, behind the opening brace, and what stands behind all tokens is the same
abbrev pub invariant-loop-categories : goal.invariant-loop-categories
invariant-loop-categories l = record {
  taken : Listed (raw_names l.categories.items) (left l.fn.self) (left l.self);
  ending : ending l.self ≡ ending l.fn.self;
}

abbrev pub decreases-loop-categories : goal.decreases-loop-categories
decreases-loop-categories l = length (left l.self)
