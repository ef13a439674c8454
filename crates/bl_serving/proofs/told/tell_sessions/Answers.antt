use Rattle.std.proofs.Common.{◌<◌, arith, length, take}
use Rattle.std.specs.List.{flat_map}
use Rattle.bl_wire.proofs.PutLaws.{puts-two}
use Rattle.bl_live.specs.Telling.{ended_line}
use Rattle.bl_serving.proofs.Served.{lines-on}
use Rattle.bl_serving.proofs.told.tell_sessions.Goals as goal

pub loop-one-preserved : goal.loop-one-preserved
loop-one-preserved g c =
    let es = c.args.ended.now in
    let i = c.loop-one.one-index in
    let lt : i < length es = omega (arith, c.loop-one-test.true) in
    puts-two _ (flat_map ended_line (take i es)) _ _ _ _ (lines-on es i _ lt) c.loop-one.invariant c.tell_ended.ensures.puts
