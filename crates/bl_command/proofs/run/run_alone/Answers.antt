use Rattle.std.proofs.Common.{◌≡◌, List, ℕ, rules, subst}
use Rattle.std.proofs.KnownBytes.{Keeps-refl}
use Rattle.bl_wire.specs.Watch.{used}
use Rattle.bl_status.specs.Runs.{Run}
use Rattle.bl_alone.specs.Runs.{IsRun}
use Rattle.bl_command.proofs.run.run_alone.Goals as goal

-- over the bytes of the file
pub returns-in-Ok-clause-run : goal.returns-in-Ok-clause-run
returns-in-Ok-clause-run g c =
    let bytes : c.as_slice.result.now ≡ c.in-Ok.setup.items = search rules in
    let run : Run = record {
      status = c.alone_on.result;
      input = used g.R.Read.remaining c.args.reader.now c.alone_on.new.reader;
      output = used g.W.Write.contents c.args.writer.now c.alone_on.new.writer;
      errors = used g.E.Write.contents c.args.errors.now c.alone_on.new.errors;
    } in
    rw c.in-Ok.is (subst (λ (text : List ℕ). IsRun text c.args.limit run) bytes c.alone_on.ensures.run)

-- nothing was read or written
pub returns-in-Err-clause-unread : goal.returns-in-Err-clause-unread
returns-in-Err-clause-unread g c = rw c.in-Err.is (c.tell.ensures.told, Keeps-refl _, Keeps-refl _)
