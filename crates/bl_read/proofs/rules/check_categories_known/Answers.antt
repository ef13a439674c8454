use Rattle.std.proofs.Common.{refl, arith}
use Rattle.bl_read.specs.RuleFaults.{mentioned, IsKnown}
use Rattle.bl_check.proofs.Firsts.{exits}
use Rattle.bl_check.proofs.Passes.{pass_goes_on_at, pass_stops_at, pass_ends}
use Rattle.bl_read.proofs.RuleNames.{no_name, mentions_of, mentions_additive}
use Rattle.bl_read.proofs.rules.check_categories_known.Goals as goal

pub returns-in_err-check_known : goal.returns-in_err-check_known
returns-in_err-check_known c =
    let known = IsKnown c.args.names.now in
    exits known mentioned _ _ _ c.from_residual.ensures.1
    (pass_stops_at mentions_of mentions_additive known mentioned c.args.categories.now (mentions_of c.args.categories.now) refl c.loop-category.category-index no_name _ (omega arith)
    c.loop-category.invariant c.in_err-check_known.ensures)

pub loop-category-preserved : goal.loop-category-preserved
loop-category-preserved c =
    pass_goes_on_at mentions_of mentions_additive (IsKnown c.args.names.now) c.args.categories.now c.loop-category.category-index no_name (omega arith)
    c.loop-category.invariant c.in_ok-check_known.ensures

pub returns : goal.returns
returns c =
    pass_ends mentions_of (IsKnown c.args.names.now) c.args.categories.now (mentions_of c.args.categories.now) refl c.loop-category.category-index (omega arith) c.loop-category.invariant
