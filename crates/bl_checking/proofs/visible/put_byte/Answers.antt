use Rattle.bl_checking.proofs.Putting.{nothing_put}
use Rattle.bl_checking.proofs.visible.put_byte.Goals as goal

pub returns-then-is_inside : goal.returns-then-is_inside
returns-then-is_inside c = nothing_put c.args.text.now.items c.args.is_inside c.args.byte c.if-byte-eq34.false c.if-is_inside.true
