use Rattle.std.proofs.Common.{inl, inr}
use Rattle.std.proofs.KnownBytes.{Keeps-refl}
use Rattle.std.proofs.lemmas.Result.{IfErr-weaker, err_from_is_err_and, on_ok_weaker}
use Rattle.bl_state.specs.Texts.{setup_text}
use Rattle.bl_wire.specs.Watch.{used}
use Rattle.bl_standing.specs.States.{HasPutPart, IsUnwritten}
use Rattle.bl_standing.proofs.state.write_state.Goals as goal

-- there is nothing to write
pub returns-in_err-left-clause-fault : goal.returns-in_err-left-clause-fault
returns-in_err-left-clause-fault g c =
    let p = err_from_is_err_and c.from_residual.result c.from_residual.ensures.1 in
    rw (p.1, p.2)
    (inr (inl (record { begun = c.in-Ok.setup; is = c.in-Ok.ensures.setup; why = c.in_err-left.ensures.fault; unwritten = Keeps-refl _ })))

pub returns-clause-written : goal.returns-clause-written
returns-clause-written g c =
    let left = c.in_ok-left.left in
    on_ok_weaker c.put_whole-written.result
    (λ written. record {
      begun = c.in-Ok.setup;
      is = c.in-Ok.ensures.setup;
      left = left;
      stands = c.in_ok-left.ensures.stands;
      reads = c.written_setups_read_again.ensures.file left c.in_ok-left.ensures.whole c.in_ok-left.ensures.fits;
      written = written;
    })
    c.put_whole-written.ensures.written

pub returns-clause-fault : goal.returns-clause-fault
returns-clause-fault g c =
    let setup = c.args.setup.now in
    let left = c.in_ok-left.left in
    let output = used g.W.Write.contents c.args.writer.now c.put_whole-written.new.writer in
    IfErr-weaker c.put_whole-written.result (λ fault. HasPutPart (setup_text left) fault output) (λ fault. IsUnwritten setup c.args.trail.now fault output)
    (λ fault part. inr (inr (record {
      begun = c.in-Ok.setup;
      is = c.in-Ok.ensures.setup;
      left = left;
      stands = c.in_ok-left.ensures.stands;
      part = part;
    })))
    c.put_whole-written.ensures.part
