use Rattle.std.proofs.Common.{refl}
use Rattle.bl_wire.proofs.PutLaws.{puts-all, puts-nil}
use Rattle.bl_recover.specs.Telling.{recovered_line}
use Rattle.bl_recover.proofs.recover.tell_with_name.Goals as goal

-- all of it was told
pub returns-then-tell_recovered-clause-written : goal.returns-then-tell_recovered-clause-written
returns-then-tell_recovered-clause-written g c =
    puts-all (recovered_line c.args.events) _ _ c.tell_recovered.ensures.puts (c.tell_recovered.ensures.fine c.if-tell_recovered.true)

pub returns-then-tell_recovered-clause-said : goal.returns-then-tell_recovered-clause-said
returns-then-tell_recovered-clause-said g c part = puts-nil _ _ refl

-- the output failed
pub returns-else-tell_recovered-clause-written : goal.returns-else-tell_recovered-clause-written
returns-else-tell_recovered-clause-written g c =
    let told = c.tell_recovered.ensures in
    (told.failed c.if-tell_recovered.false, (told.puts.much, told.puts.bytes))

pub returns-else-tell_recovered-clause-said : goal.returns-else-tell_recovered-clause-said
returns-else-tell_recovered-clause-said g c part = c.tell-status.ensures.puts
