use Rattle.std.proofs.Common.{arith, subst, sym}
use Rattle.bl_trail_file.specs.Parts.{HasRoom}
use Rattle.bl_trail_file.proofs.Paths.{cut_short, uncut}
use Rattle.bl_trail_file.proofs.part.with_room.Goals as goal

-- all of the name
pub returns-then-name-start : goal.returns-then-name-start
returns-then-name-start c =
    let start = c.last_component-start in
    uncut c.args.name.now start.result c.args.room start.ensures.path (omega (arith, c.if-name-start.true, c.requires))

pub returns : goal.returns
returns c =
    let start = c.last_component-start in
    let most = c.floor_char_boundary-most in
    subst (HasRoom c.args.name.now c.args.room) (sym c.split_at.ensures.front)
    (cut_short c.args.name.now start.result c.args.room most.result c.utf8.name start.ensures.path start.ensures.boundary c.requires
    (omega (arith, c.if-name-start.false, c.requires)) most.ensures.boundary most.ensures.bound most.ensures.nearest)
