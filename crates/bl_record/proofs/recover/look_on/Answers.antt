use Rattle.bl_disk.specs.File.{seen}
use Rattle.bl_record.proofs.Resuming.{refused}
use Rattle.bl_record.proofs.recover.look_on.Goals as goal

pub returns-in-Some-clause-err : goal.returns-in-Some-clause-err
returns-in-Some-clause-err g c =
    refused c.args.setup.now (seen (g.D.Device.now c.args.device.now)) c.in_ok-completed.completed c.in_ok-completed.ensures.completed c.in-Some.fault
    c.in-Some.ensures.some
