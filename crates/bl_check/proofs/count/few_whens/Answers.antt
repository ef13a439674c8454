use Rattle.std.proofs.Common.{map, subst, sym}
use Rattle.bl_syntax.specs.RawBodies.{raw_access}
use Rattle.bl_check.proofs.Few.{Counts, few_in_when}
use Rattle.bl_check.proofs.count.few_whens.Goals as goal

pub returns-in_err-left : goal.returns-in_err-left
returns-in_err-left c first =
    subst (Counts first (map raw_access c.args.more.now) c.args.body.now) (sym c.from_residual.ensures)
    (λ few. c.in_err-left.ensures (few_in_when first (map raw_access c.args.more.now) c.args.body.now few))
