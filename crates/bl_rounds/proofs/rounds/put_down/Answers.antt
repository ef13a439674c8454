use Rattle.bl_rounds.proofs.rounds.put_down.Goals as goal

pub put_down-ended-requires-clause-batch : goal.put_down-ended-requires-clause-batch
put_down-ended-requires-clause-batch g c = (c.args.crowd.now.first.value, c.requires.run.batch)

pub returns-clause-run : goal.returns-clause-run
returns-clause-run g c =
    let p = c.put_down-ended.ensures in
    record {
      batch = p.batch c.args.crowd.now.first.value c.requires.run.batch;
      ran = p.idle.0;
      room = p.room.0;
    }
