use Rattle.std.proofs.Common.{◌++◌, codes, decimal, refl}
use Rattle.std.specs.Prelude.{Some}
use Rattle.bl_trail.proofs.Comparing.{is-whole, left-two}
use Rattle.bl_trail.proofs.compare.is_loss.Goals as goal

pub returns : goal.returns
returns c =
    is-whole (codes "lost " ++ decimal c.args.n) c.args.line.now _ _
    (left-two (codes "lost " ++ decimal c.args.n) (codes "lost ") (decimal c.args.n) (Some c.args.line.now) _ _ refl c.after-rest.ensures c.after_number.ensures) c.is_over.ensures
