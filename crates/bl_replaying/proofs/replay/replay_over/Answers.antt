use Rattle.std.proofs.Common.{inl}
use Rattle.bl_wire.specs.Watch.{end_state}
use Rattle.bl_wire.proofs.PutLaws.{puts-all}
use Rattle.bl_replaying.specs.Open.{unstopped_text}
use Rattle.bl_replaying.proofs.replay.replay_over.Goals as goal

-- the verdict was told, and whether `stop` alone is missing
pub returns-in-Ok-clause-run : goal.returns-in-Ok-clause-run
returns-in-Ok-clause-run g c =
    let E = g.E.Write.contents in
    let unstopped = c.in-Ok.field-0.unstopped in
    inl (
      c.in-Ok.ensures.told,
      record {
        unstopped = unstopped;
        lacks = c.in-Ok.ensures.unstopped;
        said = λ fine. puts-all (unstopped_text unstopped) (end_state E c.args.errors.now) (end_state E c.tell_unstopped.new.errors) c.tell_unstopped.ensures.puts fine;
      },
    )
