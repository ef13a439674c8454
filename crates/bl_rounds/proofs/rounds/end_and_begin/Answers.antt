use Rattle.std.proofs.Common.{◌∙◌, sym, subst}
use Rattle.bl_worker.specs.Batches.{IsBatch}
use Rattle.bl_rounds.proofs.rounds.end_and_begin.Goals as goal

pub end_and_begin-more-requires-clause-batch : goal.end_and_begin-more-requires-clause-batch
end_and_begin-more-requires-clause-batch g c = (c.args.crowd.now.first.value, c.loop.invariant.run.batch)

pub loop-preserved : goal.loop-preserved
loop-preserved g c =
    let first = c.args.crowd.now.first.value in
    let turn = c.end_and_begin-more.ensures in
    let was = c.loop.invariant in
    record {
      crowd_is = turn.crowd;
      same = (turn.same.0 ∙ was.same.0, turn.same.1 ∙ was.same.1, turn.same.2 ∙ was.same.2);
      run = record {
        batch = subst (IsBatch first c.end_and_begin-more.new.self.pass) (sym c.run.ensures.loans) (turn.batch first was.run.batch);
        ran = c.run.ensures.ran;
        room = c.run.ensures.room;
      };
      marks = was.marks;
    }
