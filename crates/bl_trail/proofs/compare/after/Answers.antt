use Rattle.std.proofs.Common.{subst, sym}
use Rattle.std.specs.Prelude.{option_copied}
use Rattle.bl_trail.specs.Fronts.{IsLeft}
use Rattle.bl_trail.proofs.Comparing.{stripped}
use Rattle.bl_trail.proofs.compare.after.Goals as goal

pub returns-in-Some : goal.returns-in-Some
returns-in-Some c =
    subst (λ o. IsLeft (option_copied o) c.args.piece.now (option_copied c.strip_prefix.result)) (sym c.in-Some.is)
    (stripped c.in-Some.text.now c.args.piece.now c.strip_prefix.result c.strip_prefix.ensures.cases)
