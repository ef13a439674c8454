use Rattle.std.proofs.Common.{◌++◌, codes, decimal, sym, append_assoc}
use Rattle.bl_wire.proofs.PutLaws.{puts-is}
use Rattle.bl_trail.proofs.text.put_loss.Goals as goal

pub returns : goal.returns
returns g c =
    puts-is _ ((codes "lost " ++ decimal c.args.n) ++ codes "\n") _ _ (sym (append_assoc (codes "lost ") (decimal c.args.n) (codes "\n"))) c.put_number_between.ensures
