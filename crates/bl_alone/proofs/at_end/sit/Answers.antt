use Rattle.std.proofs.Common.{IfErr, subst}
use Rattle.bl_wire.specs.Watch.{used}
use Rattle.bl_session.specs.Outcome.{IsCutShort}
use Rattle.bl_alone.proofs.at_end.sit.Goals as goal

-- the session ended early by the fault that is told
pub returns-in-Err-clause-ended : goal.returns-in-Err-clause-ended
returns-in-Err-clause-ended g c =
    let R = g.R.Read.remaining in
    let W = g.W.Write.contents in
    let end = c.serve_and_keep-served.new in (
      c.in-Err.fault,
      c.of_session.ensures,
      subst (λ r. IfErr r (λ fault. IsCutShort c.args.setup c.args.limit fault
          (used R c.args.reader.now end.reader) (used W c.args.writer.now end.writer))) c.in-Err.is c.serve_and_keep-served.ensures.err,
    )
