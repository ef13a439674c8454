use Rattle.std.proofs.Common.{◌≡◌, ◌∙◌, false, subst, sym}
use Rattle.bl_trail_run.specs.Plans.{IfAsItGoes, MayStart}
use Rattle.bl_wire.specs.Watch.{used}
use Rattle.bl_serving.specs.Serving.{IsServeOver}
use Rattle.bl_serving.proofs.serve.serve.Goals as goal

-- the trail is written at the end
pub returns-in-AtEnd-clause-run : goal.returns-in-AtEnd-clause-run
returns-in-AtEnd-clause-run g c =
    let served = c.serve_at_end-finished in
    let name = c.in-AtEnd.at_end.trail.name.now in
    let output = used g.W.Write.contents c.args.writer.now served.new.writer in
    let errors = used g.E.Write.contents c.args.errors.now served.new.errors in
    rw c.in-AtEnd.is (subst (λ is. IsServeOver name served.result.status is output errors) (sym c.of_kept-trail.ensures) served.ensures.run)

pub returns-in-AtEnd-clause-kept : goal.returns-in-AtEnd-clause-kept
returns-in-AtEnd-clause-kept g c zero = rw c.in-AtEnd.is (c.of_kept-trail.ensures ∙ c.serve_at_end-finished.ensures.kept zero)

-- it is kept as the run goes
pub serve_recorded-recorded-requires-clause-sound : goal.serve_recorded-recorded-requires-clause-sound
serve_recorded-recorded-requires-clause-sound g c κs within =
    let may = subst (λ plan. IfAsItGoes plan (MayStart g.D.Device.now g.D.Device.has_failed)) c.in-AsItGoes.is c.requires.plan in may.0

pub serve_recorded-recorded-requires-clause-fresh : goal.serve_recorded-recorded-requires-clause-fresh
serve_recorded-recorded-requires-clause-fresh g c κs within =
    let may = subst (λ plan. IfAsItGoes plan (MayStart g.D.Device.now g.D.Device.has_failed)) c.in-AsItGoes.is c.requires.plan in may.1

pub serve_recorded-recorded-requires-clause-writer : goal.serve_recorded-recorded-requires-clause-writer
serve_recorded-recorded-requires-clause-writer g c κs within = subst (λ plan. IfAsItGoes plan (λ start. c.args.writer.now.failed ≡ false)) c.in-AsItGoes.is c.requires.writer

pub returns-in-AsItGoes-clause-run : goal.returns-in-AsItGoes-clause-run
returns-in-AsItGoes-clause-run g c = rw c.in-AsItGoes.is c.serve_recorded-recorded.ensures.run

pub returns-in-AsItGoes-clause-kept : goal.returns-in-AsItGoes-clause-kept
returns-in-AsItGoes-clause-kept g c zero = rw c.in-AsItGoes.is (c.serve_recorded-recorded.ensures.whole zero)
