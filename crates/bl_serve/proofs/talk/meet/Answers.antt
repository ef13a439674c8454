use Rattle.std.proofs.Common.{◌≡◌, ◌∙◌, ◌⊎◌, false, inl, inr, refl, sym, ap, subst, arith, Some}
use Rattle.bl_engine.specs.View.{Ends, ends}
use Rattle.bl_engine.specs.Conversations.{IsOpenedAs}
use Rattle.bl_engine.specs.declared.conversation.Opening.{Opening}
use Rattle.bl_engine.specs.declared.conversation.Opening.TheVariants.{Open, Full}
use Rattle.bl_engine.proofs.Outcomes.{if_err-map, on_ok-map}
use Rattle.bl_serve.proofs.Faults.{if_err-on}
use Rattle.bl_serve.proofs.TalkEnds.{stopped_as, talk_unasked}
use Rattle.bl_serve.proofs.TalkLaws.{admitting_open, admitting_takes, asking_is, goes_on, has_asked, has_found_full, has_opened, opening_come, opening_serves}
use Rattle.bl_serve.proofs.talk.meet.Goals as goal

pub returns-in_default-clause-ok : goal.returns-in_default-clause-ok
returns-in_default-clause-ok g c start rest written was =
    let gate = c.args.visitor.now.gate.now in
    let first = c.args.visitor.now.first.value in
    let conv = c.args.talk.now.conv in
    let visit = c.args.visit.now in
    let e = ends start rest written (g.W.Write.contents c.args.writer.now.inner) in
    goes_on gate first e conv visit (asking_is gate first e conv visit _ _ (sym c.take.ensures.value ∙ c.in_default.is) was)

pub open-opening-requires-clause-come : goal.open-opening-requires-clause-come
open-opening-requires-clause-come g c =
    let gate = c.args.visitor.now.gate.now in
    let first = c.args.visitor.now.first.value in
    let conv = c.args.talk.now.conv in
    let visit = c.args.visit.now in
    let asks = c.requires.asks in
    let e : Ends = ends asks.0 asks.1 asks.2 (g.W.Write.contents c.args.writer.now.inner) in
    let a = asking_is gate first e conv visit _ _ (sym c.take.ensures.value ∙ (c.in-Some.is ∙ ap (λ q. Some q) c.in-Opens.is)) asks.3 in
    opening_come gate first e conv visit c.in-Opens.subject a

pub open-opening-requires-clause-serves : goal.open-opening-requires-clause-serves
open-opening-requires-clause-serves g c =
    let gate = c.args.visitor.now.gate.now in
    let first = c.args.visitor.now.first.value in
    let conv = c.args.talk.now.conv in
    let visit = c.args.visit.now in
    let asks = c.requires.asks in
    let e : Ends = ends asks.0 asks.1 asks.2 (g.W.Write.contents c.args.writer.now.inner) in
    let a = asking_is gate first e conv visit _ _ (sym c.take.ensures.value ∙ (c.in-Some.is ∙ ap (λ q. Some q) c.in-Opens.is)) asks.3 in
    opening_serves gate first e conv visit c.in-Opens.subject a

pub ask-requires-clause-come : goal.ask-requires-clause-come
ask-requires-clause-come g c =
    let gate = c.args.visitor.now.gate.now in
    let first = c.args.visitor.now.first.value in
    let conv = c.args.talk.now.conv in
    let visit = c.args.visit.now in
    let asks = c.requires.asks in
    let e : Ends = ends asks.0 asks.1 asks.2 (g.W.Write.contents c.args.writer.now.inner) in
    let a = asking_is gate first e conv visit _ _ (sym c.take.ensures.value ∙ (c.in-Some.is ∙ ap (λ q. Some q) c.in-Admits.is)) asks.3 in
    (a.replies, a.so_far.asked, a.done.come)

pub ask-requires-clause-opened : goal.ask-requires-clause-opened
ask-requires-clause-opened g c =
    let gate = c.args.visitor.now.gate.now in
    let first = c.args.visitor.now.first.value in
    let conv = c.args.talk.now.conv in
    let visit = c.args.visit.now in
    let asks = c.requires.asks in
    let e : Ends = ends asks.0 asks.1 asks.2 (g.W.Write.contents c.args.writer.now.inner) in
    let a = asking_is gate first e conv visit _ _ (sym c.take.ensures.value ∙ (c.in-Some.is ∙ ap (λ q. Some q) c.in-Admits.is)) asks.3 in
    admitting_open gate first e conv visit c.in-Admits.ordinal c.in-Admits.work a

pub ask-requires-clause-last : goal.ask-requires-clause-last
ask-requires-clause-last g c =
    let gate = c.args.visitor.now.gate.now in
    let first = c.args.visitor.now.first.value in
    let conv = c.args.talk.now.conv in
    let visit = c.args.visit.now in
    let asks = c.requires.asks in
    let e : Ends = ends asks.0 asks.1 asks.2 (g.W.Write.contents c.args.writer.now.inner) in
    let a = asking_is gate first e conv visit _ _ (sym c.take.ensures.value ∙ (c.in-Some.is ∙ ap (λ q. Some q) c.in-Admits.is)) asks.3 in
    omega (arith, a.done.last_is, a.on.block.number.1)

pub ask-requires-clause-takes : goal.ask-requires-clause-takes
ask-requires-clause-takes g c =
    let gate = c.args.visitor.now.gate.now in
    let first = c.args.visitor.now.first.value in
    let conv = c.args.talk.now.conv in
    let visit = c.args.visit.now in
    let asks = c.requires.asks in
    let e : Ends = ends asks.0 asks.1 asks.2 (g.W.Write.contents c.args.writer.now.inner) in
    let a = asking_is gate first e conv visit _ _ (sym c.take.ensures.value ∙ (c.in-Some.is ∙ ap (λ q. Some q) c.in-Admits.is)) asks.3 in
    admitting_takes gate first e conv visit c.in-Admits.ordinal c.in-Admits.work a

pub settle-requires-clause-asks : goal.settle-requires-clause-asks
settle-requires-clause-asks g c =
    let gate = c.args.visitor.now.gate.now in
    let first = c.args.visitor.now.first.value in
    let conv = c.args.talk.now.conv in
    let visit = c.args.visit.now in
    let asks = c.requires.asks in
    let e : Ends = ends asks.0 asks.1 asks.2 (g.W.Write.contents c.args.writer.now.inner) in
    let a = asking_is gate first e conv visit _ _ (sym c.take.ensures.value ∙ (c.in-Some.is ∙ ap (λ q. Some q) c.in-Settles.is)) asks.3 in
    (asks.0, asks.1, asks.2, a)

-- it opens the session, or finds as many as there may be
two : (o : Opening) → (o ≡ Open) ⊎ (o ≡ Full)
two Open = inl refl
two Full = inr refl

pub returns-in-Opens-clause-ok : goal.returns-in-Opens-clause-ok
returns-in-Opens-clause-ok g c start rest written was =
    let gate = c.args.visitor.now.gate.now in
    let first = c.args.visitor.now.first.value in
    let conv = c.args.talk.now.conv in
    let visit = c.args.visit.now in
    let e = ends start rest written (g.W.Write.contents c.args.writer.now.inner) in
    let a = asking_is gate first e conv visit _ _ (sym c.take.ensures.value ∙ (c.in-Some.is ∙ ap (λ q. Some q) c.in-Opens.is)) was in
    let new = c.opened.new.self in
    let t = c.open-opening.new.visit in
    let o = c.open-opening.ensures in
    let as_is = c.opened.ensures.opened in
    elim (two c.open-opening.result) [
      | inl is ↦ has_opened gate first e conv visit c.in-Opens.subject a new t c.opened.ensures.block c.opened.ensures.first c.opened.ensures.need
          (subst (λ (p : Opening). IsOpenedAs p conv new) is as_is) (o.opened is).1 (o.opened is).0 o.last o.upto
      | inr is ↦ has_found_full gate first e conv visit c.in-Opens.subject a new t c.opened.ensures.block c.opened.ensures.first c.opened.ensures.need
          (subst (λ (p : Opening). IsOpenedAs p conv new) is as_is) (o.full is).0 (o.full is).1
    ]

pub returns-in-Admits-clause-ok : goal.returns-in-Admits-clause-ok
returns-in-Admits-clause-ok g c =
    on_ok-map c.ask.result (λ come start rest written was.
    let gate = c.args.visitor.now.gate.now in
    let first = c.args.visitor.now.first.value in
    let conv = c.args.talk.now.conv in
    let visit = c.args.visit.now in
    let e = ends start rest written (g.W.Write.contents c.args.writer.now.inner) in
    let a = asking_is gate first e conv visit _ _ (sym c.take.ensures.value ∙ (c.in-Some.is ∙ ap (λ q. Some q) c.in-Admits.is)) was in
    has_asked gate first e conv visit c.in-Admits.ordinal c.in-Admits.work c.ask.new.visit a come c.ask.ensures.session c.ask.ensures.upto c.ask.ensures.last) c.ask.ensures.come

pub returns-in-Admits-clause-err : goal.returns-in-Admits-clause-err
returns-in-Admits-clause-err g c =
    if_err-on c.ask.result (λ fault kept why start rest written was.
    let gate = c.args.visitor.now.gate.now in
    let first = c.args.visitor.now.first.value in
    let conv = c.args.talk.now.conv in
    let visit = c.args.visit.now in
    let e = ends start rest written (g.W.Write.contents c.args.writer.now.inner) in
    let a = asking_is gate first e conv visit _ _ (sym c.take.ensures.value ∙ (c.in-Some.is ∙ ap (λ q. Some q) c.in-Admits.is)) was in
    stopped_as fault gate first e c.ask.new.visit false false false c.args.writer.now.failed refl (sym c.requires.writer)
    (talk_unasked gate first start rest written (g.W.Write.contents c.args.writer.now.inner) conv visit fault _ c.ask.new.visit
    (elim why [ inl memory ↦ inl memory | inr clash ↦ inr clash.0 ]) a c.ask.ensures.session c.ask.ensures.upto kept)) c.ask.ensures.kept c.ask.ensures.why

pub returns-in-Admits-clause-clash : goal.returns-in-Admits-clause-clash
returns-in-Admits-clause-clash g c =
    if_err-map c.ask.result (λ fault why is. elim why [ inl memory ↦ cc | inr clash ↦ clash.1 ]) c.ask.ensures.why

pub returns-in-Settles-clause-ok : goal.returns-in-Settles-clause-ok
returns-in-Settles-clause-ok g c =
    on_ok-map c.settle.result (λ met start rest written was.
    let gate = c.args.visitor.now.gate.now in
    let first = c.args.visitor.now.first.value in
    let conv = c.args.talk.now.conv in
    let visit = c.args.visit.now in
    let e = ends start rest written (g.W.Write.contents c.args.writer.now.inner) in
    let a = asking_is gate first e conv visit _ _ (sym c.take.ensures.value ∙ (c.in-Some.is ∙ ap (λ q. Some q) c.in-Settles.is)) was in
    met start rest written a) c.settle.ensures.ok

pub returns-in-Settles-clause-err : goal.returns-in-Settles-clause-err
returns-in-Settles-clause-err g c =
    if_err-map c.settle.result (λ fault broken start rest written was.
    let gate = c.args.visitor.now.gate.now in
    let first = c.args.visitor.now.first.value in
    let conv = c.args.talk.now.conv in
    let visit = c.args.visit.now in
    let e = ends start rest written (g.W.Write.contents c.args.writer.now.inner) in
    let a = asking_is gate first e conv visit _ _ (sym c.take.ensures.value ∙ (c.in-Some.is ∙ ap (λ q. Some q) c.in-Settles.is)) was in
    broken start rest written a) c.settle.ensures.err

pub returns-in-Settles-clause-clash : goal.returns-in-Settles-clause-clash
returns-in-Settles-clause-clash g c =
    if_err-map c.settle.result (λ fault never is. absurd (never is)) c.settle.ensures.never
