use Rattle.std.proofs.Common.{take}
use Rattle.std.specs.Prelude.{All}
use Rattle.bl_read.specs.RuleFaults.{IsKnown}
use Rattle.bl_read.proofs.RuleNames.{mentions_of}
use Rattle.bl_read.proofs.rules.check_categories_known.Given as goal

-- the categories so far are known
abbrev pub invariant-loop-category : goal.invariant-loop-category
invariant-loop-category l = All (IsKnown l.names) (mentions_of (take l.category-index l.categories))
