use Rattle.std.proofs.Common.{◌∙◌, [], true, false, not, inl, inr, refl, sym, ap, subst}
use Rattle.bl_work.specs.Names.{KnownNames}
use Rattle.bl_wire.specs.declared.fault.SessionFault.{SessionFault}
use Rattle.bl_wire.specs.declared.fault.SessionFault.TheVariants.{Write, Memory}
use Rattle.bl_engine.specs.Conversations.{Hears}
use Rattle.bl_engine.specs.Driving.{Listened}
use Rattle.bl_engine.specs.View.{ends}
use Rattle.bl_serve.specs.Talks.{HasBroken}
use Rattle.bl_serve.proofs.Faults.{memory_alone, passes_on}
use Rattle.bl_serve.proofs.TalkEnds.{breaks_told, breaks_unhanded, broken_as, ends_so, listens_on, stopped_as, stops_broken, talk_before, talk_unended, talk_unheard}
use Rattle.bl_serve.proofs.TalkLaws.{begins_talk, has_heard_end, has_listened, under_told}
use Rattle.bl_serve.proofs.talk.converse.Goals as goal

pub returns-in_err-new-clause-err : goal.returns-in_err-new-clause-err
returns-in_err-new-clause-err g c =
    let gate = c.args.visitor.now.gate.now in
    let first = c.args.visitor.now.first.value in
    let start = g.R.Read.remaining c.args.reader.now.inner in
    let written = g.W.Write.contents c.args.writer.now.inner in
    memory_alone c.from_residual.result _ c.from_residual.ensures.1
    (stops_broken Memory gate first (ends start start written written) c.args.visit.now c.args.reader.now.failed c.args.writer.now.failed
    (stopped_as Memory gate first (ends start start written written) c.args.visit.now false false c.args.reader.now.failed c.args.writer.now.failed (sym c.requires.fine.0) (sym c.requires.fine.1)
    (talk_before gate first start written c.args.visit.now c.requires.come)))

pub waits-init : goal.waits-init
waits-init g c = record {
  fine = c.requires.fine;
  names = c.requires.names;
  under = begins_talk c.args.visitor.now.gate.now c.args.visitor.now.first.value (g.R.Read.remaining c.args.reader.now.inner) (g.W.Write.contents c.args.writer.now.inner) c.in_ok-new.field-0 c.args.visit.now
      c.requires.come c.in_ok-new.ensures.need c.in_ok-new.ensures.spoke;
}

pub returns-in_err-listen-in-Input-clause-err : goal.returns-in_err-listen-in-Input-clause-err
returns-in_err-listen-in-Input-clause-err g c =
    let gate = c.args.visitor.now.gate.now in
    let first = c.args.visitor.now.first.value in
    let R = g.R.Read.remaining in
    let W = g.W.Write.contents in
    let start = R c.args.reader.now.inner in
    let written = W c.args.writer.now.inner in
    let conv = c.waits.talk.conv in
    let visit = c.waits.visit in
    let r = R c.waits.reader.inner in
    let w = W c.waits.writer.inner in
    let need = sym c.need.ensures ∙ c.in-Input.is in
    let on = listens_on gate first start r written w conv visit c.waits.invariant.under (inl need) in
    let r' = R c.listen.new.reader.inner in
    let w' = W c.listen.new.writer.inner in
    let off = c.in_err-listen-in-Input.ensures in
    passes_on c.from_residual-in_err-listen-in-Input.result c.in_err-listen-in-Input.field-0.0 _ c.from_residual-in_err-listen-in-Input.ensures.1
    (stops_broken c.in_err-listen-in-Input.field-0.0 gate first (ends start r' written w') visit c.listen.new.reader.failed c.listen.new.writer.failed
    (talk_unheard gate first start r written w conv visit on c.in_err-listen-in-Input.field-0.0 r' w' c.listen.new.reader.failed c.listen.new.writer.failed need off.kept c.listen.ensures.written off.why))

pub meet-requires-clause-asks : goal.meet-requires-clause-asks
meet-requires-clause-asks g c =
    let gate = c.args.visitor.now.gate.now in
    let first = c.args.visitor.now.first.value in
    let R = g.R.Read.remaining in
    let W = g.W.Write.contents in
    let start = R c.args.reader.now.inner in
    let written = W c.args.writer.now.inner in
    let conv = c.waits.talk.conv in
    let visit = c.waits.visit in
    let r = R c.waits.reader.inner in
    let w = W c.waits.writer.inner in
    let need = sym c.need.ensures ∙ c.in-Input.is in
    let on = listens_on gate first start r written w conv visit c.waits.invariant.under (inl need) in
    let r' = R c.listen.new.reader.inner in
    let w' = W c.listen.new.writer.inner in
    let a = has_listened gate first start r written w conv visit on r' w' c.listen.new.listener.conv c.listen.new.listener.request need
    (subst (λ (k : KnownNames). Listened k r r' conv c.listen.new.listener.conv c.listen.new.listener.request) c.waits.invariant.names c.in_ok-listen-in-Input.ensures.ok) c.listen.ensures.written
    in
    (start, r', written, a)

pub waits-preserved-in_ok-meet-in-Input : goal.waits-preserved-in_ok-meet-in-Input
waits-preserved-in_ok-meet-in-Input g c =
    let gate = c.args.visitor.now.gate.now in
    let first = c.args.visitor.now.first.value in
    let R = g.R.Read.remaining in
    let W = g.W.Write.contents in
    let start = R c.args.reader.now.inner in
    let written = W c.args.writer.now.inner in
    let conv = c.waits.talk.conv in
    let visit = c.waits.visit in
    let r = R c.waits.reader.inner in
    let w = W c.waits.writer.inner in
    let need = sym c.need.ensures ∙ c.in-Input.is in
    let on = listens_on gate first start r written w conv visit c.waits.invariant.under (inl need) in
    let r' = R c.listen.new.reader.inner in
    let w' = W c.listen.new.writer.inner in
    let a = has_listened gate first start r written w conv visit on r' w' c.listen.new.listener.conv c.listen.new.listener.request need
    (subst (λ (k : KnownNames). Listened k r r' conv c.listen.new.listener.conv c.listen.new.listener.request) c.waits.invariant.names c.in_ok-listen-in-Input.ensures.ok) c.listen.ensures.written
    in
    record {
      fine = (c.in_ok-listen-in-Input.ensures.fine.0, c.in_ok-meet-in-Input.ensures.fine);
      names = ap (λ b. b.now) c.in_ok-meet-in-Input.ensures.names ∙ ap (λ b. b.now) c.in_ok-listen-in-Input.ensures.names ∙ c.waits.invariant.names;
      under = c.in_ok-meet-in-Input.ensures.ok start r' written a;
    }

pub returns-in_err-meet-in-Input-clause-err : goal.returns-in_err-meet-in-Input-clause-err
returns-in_err-meet-in-Input-clause-err g c =
    let gate = c.args.visitor.now.gate.now in
    let first = c.args.visitor.now.first.value in
    let R = g.R.Read.remaining in
    let W = g.W.Write.contents in
    let start = R c.args.reader.now.inner in
    let written = W c.args.writer.now.inner in
    let conv = c.waits.talk.conv in
    let visit = c.waits.visit in
    let r = R c.waits.reader.inner in
    let w = W c.waits.writer.inner in
    let need = sym c.need.ensures ∙ c.in-Input.is in
    let on = listens_on gate first start r written w conv visit c.waits.invariant.under (inl need) in
    let r' = R c.listen.new.reader.inner in
    let w' = W c.listen.new.writer.inner in
    let a = has_listened gate first start r written w conv visit on r' w' c.listen.new.listener.conv c.listen.new.listener.request need
    (subst (λ (k : KnownNames). Listened k r r' conv c.listen.new.listener.conv c.listen.new.listener.request) c.waits.invariant.names c.in_ok-listen-in-Input.ensures.ok) c.listen.ensures.written
    in
    let fault = c.in_err-meet-in-Input.field-0.0 in
    passes_on c.from_residual-in_err-meet-in-Input.result fault _ c.from_residual-in_err-meet-in-Input.ensures.1
    (stops_broken fault gate first (ends start r' written (W c.meet.new.writer.inner)) c.meet.new.visit c.listen.new.reader.failed c.meet.new.writer.failed
    (stopped_as fault gate first (ends start r' written (W c.meet.new.writer.inner)) c.meet.new.visit false c.meet.new.writer.failed c.listen.new.reader.failed c.meet.new.writer.failed
    (sym c.in_ok-listen-in-Input.ensures.fine.0) refl (c.in_err-meet-in-Input.ensures.err start r' written a)))

pub returns-in_err-talk-in-End-clause-err : goal.returns-in_err-talk-in-End-clause-err
returns-in_err-talk-in-End-clause-err g c =
    let gate = c.args.visitor.now.gate.now in
    let first = c.args.visitor.now.first.value in
    let R = g.R.Read.remaining in
    let W = g.W.Write.contents in
    let start = R c.args.reader.now.inner in
    let written = W c.args.writer.now.inner in
    let conv = c.waits.talk.conv in
    let visit = c.waits.visit in
    let r = R c.waits.reader.inner in
    let w = W c.waits.writer.inner in
    let need = sym c.need.ensures ∙ c.in-End.is in
    let on = listens_on gate first start r written w conv visit c.waits.invariant.under (inr need) in
    memory_alone c.from_residual-in_err-talk-in-End.result _ c.from_residual-in_err-talk-in-End.ensures.1
    (stops_broken Memory gate first (ends start r written w) visit c.waits.reader.failed c.waits.writer.failed
    (stopped_as Memory gate first (ends start r written w) visit false false c.waits.reader.failed c.waits.writer.failed (sym c.waits.invariant.fine.0) (sym c.waits.invariant.fine.1)
    (talk_unended gate first start r written w conv visit on need)))

pub meet-requires-in-End-clause-asks : goal.meet-requires-in-End-clause-asks
meet-requires-in-End-clause-asks g c =
    let gate = c.args.visitor.now.gate.now in
    let first = c.args.visitor.now.first.value in
    let R = g.R.Read.remaining in
    let W = g.W.Write.contents in
    let start = R c.args.reader.now.inner in
    let written = W c.args.writer.now.inner in
    let conv = c.waits.talk.conv in
    let visit = c.waits.visit in
    let r = R c.waits.reader.inner in
    let w = W c.waits.writer.inner in
    let need = sym c.need.ensures ∙ c.in-End.is in
    let on = listens_on gate first start r written w conv visit c.waits.invariant.under (inr need) in
    let a = has_heard_end gate first start r written w conv visit on c.end.new.self c.in_ok-talk-in-End.field-0 need
    (subst (λ (k : KnownNames). Hears k conv c.end.new.self [] c.in_ok-talk-in-End.field-0) c.requires.names c.in_ok-talk-in-End.ensures.ok) c.in_ok-talk-in-End.ensures.block
    in
    (start, r, written, a)

pub waits-preserved-in_ok-meet-in-End : goal.waits-preserved-in_ok-meet-in-End
waits-preserved-in_ok-meet-in-End g c =
    let gate = c.args.visitor.now.gate.now in
    let first = c.args.visitor.now.first.value in
    let R = g.R.Read.remaining in
    let W = g.W.Write.contents in
    let start = R c.args.reader.now.inner in
    let written = W c.args.writer.now.inner in
    let conv = c.waits.talk.conv in
    let visit = c.waits.visit in
    let r = R c.waits.reader.inner in
    let w = W c.waits.writer.inner in
    let need = sym c.need.ensures ∙ c.in-End.is in
    let on = listens_on gate first start r written w conv visit c.waits.invariant.under (inr need) in
    let a = has_heard_end gate first start r written w conv visit on c.end.new.self c.in_ok-talk-in-End.field-0 need
    (subst (λ (k : KnownNames). Hears k conv c.end.new.self [] c.in_ok-talk-in-End.field-0) c.requires.names c.in_ok-talk-in-End.ensures.ok) c.in_ok-talk-in-End.ensures.block
    in
    record {
      fine = (c.waits.invariant.fine.0, c.in_ok-meet-in-End.ensures.fine);
      names = ap (λ b. b.now) c.in_ok-meet-in-End.ensures.names ∙ c.waits.invariant.names;
      under = c.in_ok-meet-in-End.ensures.ok start r written a;
    }

pub returns-in_err-meet-in-End-clause-err : goal.returns-in_err-meet-in-End-clause-err
returns-in_err-meet-in-End-clause-err g c =
    let gate = c.args.visitor.now.gate.now in
    let first = c.args.visitor.now.first.value in
    let R = g.R.Read.remaining in
    let W = g.W.Write.contents in
    let start = R c.args.reader.now.inner in
    let written = W c.args.writer.now.inner in
    let conv = c.waits.talk.conv in
    let visit = c.waits.visit in
    let r = R c.waits.reader.inner in
    let w = W c.waits.writer.inner in
    let need = sym c.need.ensures ∙ c.in-End.is in
    let on = listens_on gate first start r written w conv visit c.waits.invariant.under (inr need) in
    let a = has_heard_end gate first start r written w conv visit on c.end.new.self c.in_ok-talk-in-End.field-0 need
    (subst (λ (k : KnownNames). Hears k conv c.end.new.self [] c.in_ok-talk-in-End.field-0) c.requires.names c.in_ok-talk-in-End.ensures.ok) c.in_ok-talk-in-End.ensures.block
    in
    let fault = c.in_err-meet-in-End.field-0.0 in
    passes_on c.from_residual-in_err-meet-in-End.result fault _ c.from_residual-in_err-meet-in-End.ensures.1
    (stops_broken fault gate first (ends start r written (W c.meet-in-End.new.writer.inner)) c.meet-in-End.new.visit c.waits.reader.failed c.meet-in-End.new.writer.failed
    (stopped_as fault gate first (ends start r written (W c.meet-in-End.new.writer.inner)) c.meet-in-End.new.visit false c.meet-in-End.new.writer.failed c.waits.reader.failed c.meet-in-End.new.writer.failed
    (sym c.waits.invariant.fine.0) refl (c.in_err-meet-in-End.ensures.err start r written a)))

pub waits-preserved : goal.waits-preserved
waits-preserved g c =
    let gate = c.args.visitor.now.gate.now in
    let first = c.args.visitor.now.first.value in
    let R = g.R.Read.remaining in
    let W = g.W.Write.contents in
    let start = R c.args.reader.now.inner in
    let written = W c.args.writer.now.inner in
    let conv = c.waits.talk.conv in
    let visit = c.waits.visit in
    let r = R c.waits.reader.inner in
    let w = W c.waits.writer.inner in
    let need = sym c.need.ensures ∙ c.in-Room.is in
    record {
      fine = (c.waits.invariant.fine.0, c.in_ok-tell_all-in-Room.ensures.fine);
      names = c.waits.invariant.names;
      under = under_told gate first start r written w conv visit c.waits.invariant.under c.tell_all.new.conv (W c.tell_all.new.writer.inner) _ need c.in_ok-tell_all-in-Room.ensures.ok;
    }

pub returns-in_err-tell_all-in-Room-clause-err : goal.returns-in_err-tell_all-in-Room-clause-err
returns-in_err-tell_all-in-Room-clause-err g c =
    let gate = c.args.visitor.now.gate.now in
    let first = c.args.visitor.now.first.value in
    let R = g.R.Read.remaining in
    let W = g.W.Write.contents in
    let start = R c.args.reader.now.inner in
    let written = W c.args.writer.now.inner in
    let conv = c.waits.talk.conv in
    let visit = c.waits.visit in
    let r = R c.waits.reader.inner in
    let w = W c.waits.writer.inner in
    let w' = W c.tell_all.new.writer.inner in
    let off = c.in_err-tell_all-in-Room.ensures in
    passes_on c.from_residual-in_err-tell_all-in-Room.result c.in_err-tell_all-in-Room.field-0.0 _ c.from_residual-in_err-tell_all-in-Room.ensures.1
    (subst (λ (f : SessionFault). HasBroken f gate first (ends start r written w') c.waits.reader.failed c.tell_all.new.writer.failed visit) (sym off.write.0)
    (broken_as Write gate first (ends start r written w') visit false true c.waits.reader.failed c.tell_all.new.writer.failed (sym c.waits.invariant.fine.0) (sym off.write.1)
    (breaks_told gate first start r written w conv visit c.waits.invariant.under w' off.part)))

pub returns-then-flush-clause-ok : goal.returns-then-flush-clause-ok
returns-then-flush-clause-ok g c =
    let gate = c.args.visitor.now.gate.now in
    let first = c.args.visitor.now.first.value in
    let R = g.R.Read.remaining in
    let W = g.W.Write.contents in
    let start = R c.args.reader.now.inner in
    let written = W c.args.writer.now.inner in
    let conv = c.waits.talk.conv in
    let visit = c.waits.visit in
    let r = R c.waits.reader.inner in
    let w = W c.waits.writer.inner in
    let need = sym c.need.ensures ∙ c.in-Over.is in
    ends_so gate first start r written w conv visit c.waits.invariant.under (W c.flush.new.self.inner) need c.flush.ensures.bytes

pub returns-clause-err : goal.returns-clause-err
returns-clause-err g c =
    let gate = c.args.visitor.now.gate.now in
    let first = c.args.visitor.now.first.value in
    let R = g.R.Read.remaining in
    let W = g.W.Write.contents in
    let start = R c.args.reader.now.inner in
    let written = W c.args.writer.now.inner in
    let conv = c.waits.talk.conv in
    let visit = c.waits.visit in
    let r = R c.waits.reader.inner in
    let w = W c.waits.writer.inner in
    let need = sym c.need.ensures ∙ c.in-Over.is in
    let w' = W c.flush.new.self.inner in
    broken_as Write gate first (ends start r written w') visit false true c.waits.reader.failed c.flush.new.self.failed (sym c.waits.invariant.fine.0) (sym (c.flush.ensures.failed ∙ ap not c.if-flush.false))
    (breaks_unhanded gate first start r written w conv visit c.waits.invariant.under w' need c.flush.ensures.bytes)
