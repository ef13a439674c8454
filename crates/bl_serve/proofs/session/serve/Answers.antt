use Rattle.std.proofs.Common.{sym, ap, subst, ◌∙◌}
use Rattle.bl_gate.specs.Gates.{PassView}
use Rattle.bl_serve.specs.Courses.{IsOwn, SpeaksAlone}
use Rattle.bl_serve.proofs.Coming.{come_first}
use Rattle.bl_serve.proofs.OutcomeLaws.{cut_adds, cut_short, served, served_adds, speaks}
use Rattle.bl_serve.proofs.session.serve.Goals as goal

pub converse-requires-clause-come : goal.converse-requires-clause-come
converse-requires-clause-come g c =
    let new = c.new-visit.ensures in
    come_first c.args.service.now.gate.now c.of.result.value c.new-visit.result c.names.ensures.agree (ap (λ (p : PassView). p.gate) new.0 ∙ c.requires.gate) (c.of.ensures ∙ sym new.0) new.1 new.2 new.3

pub returns-in-Ok-clause-ok : goal.returns-in-Ok-clause-ok
returns-in-Ok-clause-ok g c =
    let R = g.R.Read.remaining in
    let W = g.W.Write.contents in
    served c.args.service.now.gate.now c.of.result.value c.args.pass c.converse.new.visit (R c.args.reader.now.inner) (R c.converse.new.reader.inner)
    (W c.args.writer.now.inner) (W c.converse.new.writer.inner) c.converse.new.reader.failed c.converse.new.writer.failed c.of.ensures c.in-Ok.ensures.ok

pub returns-clause-err : goal.returns-clause-err
returns-clause-err g c =
    let R = g.R.Read.remaining in
    let W = g.W.Write.contents in
    cut_short c.args.service.now.gate.now c.of.result.value c.args.pass c.converse.new.visit (R c.args.reader.now.inner) (R c.converse.new.reader.inner)
    (W c.args.writer.now.inner) (W c.converse.new.writer.inner) c.converse.new.reader.failed c.converse.new.writer.failed c.of.ensures c.in-Err.fault c.in-Err.ensures.err

pub returns-clause-clash : goal.returns-clause-clash
returns-clause-clash g c = λ e.
    let h = c.in-Err.ensures.clash e in
    (h.0, subst (λ (p : PassView). IsOwn p c.converse.new.visit.pass h.0) c.of.ensures h.1, λ alone. h.2 (subst (λ (p : PassView). SpeaksAlone p c.converse.new.visit.pass h.0) (sym c.of.ensures) alone))

pub returns-in-Ok-clause-own : goal.returns-in-Ok-clause-own
returns-in-Ok-clause-own g c =
    let R = g.R.Read.remaining in
    let W = g.W.Write.contents in
    let events =
    served_adds c.args.service.now.gate.now c.of.result.value c.args.pass c.converse.new.visit (R c.args.reader.now.inner) (R c.converse.new.reader.inner)
    (W c.args.writer.now.inner) (W c.converse.new.writer.inner) c.converse.new.reader.failed c.converse.new.writer.failed c.of.ensures c.in-Ok.ensures.ok
    in
    (events, speaks c.args.pass c.converse.new.visit.pass events)

pub returns-clause-own : goal.returns-clause-own
returns-clause-own g c =
    let R = g.R.Read.remaining in
    let W = g.W.Write.contents in
    let events =
    cut_adds c.args.service.now.gate.now c.of.result.value c.args.pass c.converse.new.visit (R c.args.reader.now.inner) (R c.converse.new.reader.inner)
    (W c.args.writer.now.inner) (W c.converse.new.writer.inner) c.converse.new.reader.failed c.converse.new.writer.failed c.of.ensures c.in-Err.fault c.in-Err.ensures.err
    in
    (events, speaks c.args.pass c.converse.new.visit.pass events)
