use Rattle.std.proofs.Common.{inl, inr, refl, subst}
use Rattle.std.specs.Result.{result_err}
use Rattle.std.proofs.KnownBytes.{Keeps-refl}
use Rattle.bl_wire.specs.Watch.{used}
use Rattle.bl_alone.specs.Runs.{HasEnded}
use Rattle.bl_alone.proofs.at_end.alone_over.Goals as goal

-- the session was served, and standard error was not called
pub returns-in-Ok-clause-run : goal.returns-in-Ok-clause-run
returns-in-Ok-clause-run g c =
    let input = used g.R.Read.remaining c.args.reader.now c.sit-kept.new.reader in
    let output = used g.W.Write.contents c.args.writer.now c.sit-kept.new.writer in
    inl (record {
      status_is = refl;
      served = subst (λ r. HasEnded c.args.setup c.args.limit (result_err r) input output) c.in-Ok.is c.sit-kept.ensures.ended;
      quiet = Keeps-refl _;
    })

-- it ended early by the fault that is told
pub returns-in-Err-clause-run : goal.returns-in-Err-clause-run
returns-in-Err-clause-run g c =
    let input = used g.R.Read.remaining c.args.reader.now c.sit-kept.new.reader in
    let output = used g.W.Write.contents c.args.writer.now c.sit-kept.new.writer in
    inr (
      c.in-Err.fault,
      c.tell.ensures.told,
      subst (λ r. HasEnded c.args.setup c.args.limit (result_err r) input output) c.in-Err.is c.sit-kept.ensures.ended,
    )
