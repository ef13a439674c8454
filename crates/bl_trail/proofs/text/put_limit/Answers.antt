use Rattle.std.proofs.Common.{◌++◌, codes, decimal, refl}
use Rattle.bl_wire.proofs.PutLaws.{puts-two}
use Rattle.bl_trail.proofs.text.put_limit.Goals as goal

pub returns : goal.returns
returns g c = puts-two (codes "limit " ++ decimal c.args.limit) (codes "limit ") (decimal c.args.limit) _ _ _ refl c.put.ensures.puts c.put_number.ensures.puts
