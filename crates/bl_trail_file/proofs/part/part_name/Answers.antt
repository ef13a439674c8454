use Rattle.std.proofs.Common.{arith, ap, length}
use Rattle.bl_trail_file.proofs.Paths.{suffix_size}
use Rattle.bl_trail_file.proofs.part.part_name.Goals as goal

-- the suffix has room
pub with_room-front-requires : goal.with_room-front-requires
with_room-front-requires c = omega (arith, c.len.ensures, ap length c.in_ok-suffix.ensures, suffix_size c.args.number c.requires)
