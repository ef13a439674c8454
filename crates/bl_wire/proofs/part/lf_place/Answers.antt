use Rattle.bl_wire.proofs.Parts.{first_lf}
use Rattle.bl_wire.proofs.part.lf_place.Goals as goal

pub returns : goal.returns
returns c = first_lf c.args.bytes.now c.memchr.result c.memchr.ensures
