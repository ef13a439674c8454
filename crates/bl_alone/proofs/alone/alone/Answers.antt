use Rattle.std.proofs.Common.{◌∙◌, refl, subst, sym}
use Rattle.std.specs.Prelude.{IfSome}
use Rattle.bl_status.specs.Runs.{Run}
use Rattle.bl_trail_run.specs.Plans.{IfAsItGoes, MayStart}
use Rattle.bl_wire.specs.Watch.{used}
use Rattle.bl_alone.specs.AloneKept.{IsAloneKeptOver}
use Rattle.bl_alone.proofs.alone.alone.Goals as goal

-- no trail is kept
pub returns-in-None-clause-run : goal.returns-in-None-clause-run
returns-in-None-clause-run g c = rw c.in-None.is c.alone_over.ensures.run

pub returns-in-None-clause-kept : goal.returns-in-None-clause-kept
returns-in-None-clause-kept g c zero = rw c.in-None.is refl

-- it is written at the end
pub returns-in-Some-AtEnd-clause-run : goal.returns-in-Some-AtEnd-clause-run
returns-in-Some-AtEnd-clause-run g c =
    let sat = c.alone_kept_over-finished in
    let name = c.in-Some-AtEnd.at_end.trail.name.now in
    let run : Run = record {
      status = sat.result.status;
      input = used g.R.Read.remaining c.args.reader.now sat.new.reader;
      output = used g.W.Write.contents c.args.writer.now sat.new.writer;
      errors = used g.E.Write.contents c.args.errors.now sat.new.errors;
    } in
    rw c.in-Some-AtEnd.is (rw c.in-Some-AtEnd.field-0-is (subst (λ is. IsAloneKeptOver c.args.setup c.args.run.now.limit name is run) (sym c.of_kept-trail.ensures) sat.ensures.run))

pub returns-in-Some-AtEnd-clause-kept : goal.returns-in-Some-AtEnd-clause-kept
returns-in-Some-AtEnd-clause-kept g c zero = rw c.in-Some-AtEnd.is (rw c.in-Some-AtEnd.field-0-is (c.of_kept-trail.ensures ∙ c.alone_kept_over-finished.ensures.kept zero))

-- it is kept as the run goes
pub alone_recorded-recorded-requires-clause-sound : goal.alone_recorded-recorded-requires-clause-sound
alone_recorded-recorded-requires-clause-sound g c =
    let some = subst (λ o. IfSome o (λ plan. IfAsItGoes plan (MayStart g.D.Device.now g.D.Device.has_failed))) c.in-Some-AsItGoes.is c.requires.plan in
    let may = subst (λ plan. IfAsItGoes plan (MayStart g.D.Device.now g.D.Device.has_failed)) c.in-Some-AsItGoes.field-0-is some in may.0

pub alone_recorded-recorded-requires-clause-fresh : goal.alone_recorded-recorded-requires-clause-fresh
alone_recorded-recorded-requires-clause-fresh g c =
    let some = subst (λ o. IfSome o (λ plan. IfAsItGoes plan (MayStart g.D.Device.now g.D.Device.has_failed))) c.in-Some-AsItGoes.is c.requires.plan in
    let may = subst (λ plan. IfAsItGoes plan (MayStart g.D.Device.now g.D.Device.has_failed)) c.in-Some-AsItGoes.field-0-is some in may.1

pub returns-in-Some-AsItGoes-clause-run : goal.returns-in-Some-AsItGoes-clause-run
returns-in-Some-AsItGoes-clause-run g c = rw c.in-Some-AsItGoes.is (rw c.in-Some-AsItGoes.field-0-is c.alone_recorded-recorded.ensures.run)

pub returns-in-Some-AsItGoes-clause-kept : goal.returns-in-Some-AsItGoes-clause-kept
returns-in-Some-AsItGoes-clause-kept g c zero = rw c.in-Some-AsItGoes.is (rw c.in-Some-AsItGoes.field-0-is (c.alone_recorded-recorded.ensures.whole zero))
