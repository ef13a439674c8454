use Rattle.std.proofs.Common.{◌∙◌, ◌<◌, false, refl, sym, ap, subst, arith, Option, Some}
use Rattle.std.specs.Prelude.{OnOk, IfErr, Err}
use Rattle.bl_hall.specs.Chronicle.{Chronicle, state_now}
use Rattle.bl_wire.specs.Replies.{line_text}
use Rattle.bl_wire.specs.Watch.{EndState, end_state}
use Rattle.bl_wire.specs.declared.fault.SessionFault.TheVariants.{Memory}
use Rattle.bl_engine.specs.Conversations.{last_ordinal}
use Rattle.bl_engine.specs.Outcome.{Stopped}
use Rattle.bl_engine.specs.View.{Ends, ends}
use Rattle.bl_engine.specs.declared.conversation.Conversation.{Conversation}
use Rattle.bl_engine.specs.declared.request.Request.{Request}
use Rattle.bl_engine.specs.declared.request.Request.TheVariants.{Opens}
use Rattle.bl_engine.proofs.Breaking.{broken_asked}
use Rattle.bl_session.specs.Keeping.{IsHeld, stop_of}
use Rattle.bl_session.specs.Meeting.{Meets, Point, StopsFrom}
use Rattle.bl_session.specs.Pages.{Came}
use Rattle.bl_session.specs.declared.entries.Pages.{Pages}
use Rattle.bl_session.specs.declared.keep.Stop.{Stop}
use Rattle.bl_session.specs.Reaching.{CameBy, StandsBy, seen_by}
use Rattle.bl_session.specs.Talks.{MayGive}
use Rattle.bl_session.proofs.KeepLaws.{came_by, front_on, held_unreached, may_stop_unreached, reached_before, reached_now, since_hall, stopped_unreached}
use Rattle.bl_session.proofs.TalkLaws.{admitting_open, asking_is, goes_on, has_asked, has_opened, may_later, names_subject, names_work, opening_first, passes_on, room_alone}
use Rattle.bl_session.proofs.talk.meet.Goals as goal

-- what was asked at the last line, and is to be done
abbrev asked_at : Conversation → Pages → (Chronicle → Type 0) → EndState → Option Request → Point
asked_at conv pages reached writer request = record { conv = conv; request = request; pages = pages; reached = reached; writer = writer }

pub returns-in_default-clause-ok : goal.returns-in_default-clause-ok
returns-in_default-clause-ok g c =
    let setup = c.args.behind.now.setup in
    let conv = c.args.talk.now.conv in
    let s = c.args.pages.now in
    record {
      fine = c.requires.asks.fine;
      on = λ start rest first begun a.
          let e = ends start rest first (g.W.Write.contents c.args.writer.now.inner) in
          goes_on setup begun e conv s (asking_is setup begun e conv s _ _ (sym c.take.ensures.value ∙ c.in_default.is) a);
      reached = λ begun k. k;
    }

pub open-requires-clause-subject : goal.open-requires-clause-subject
open-requires-clause-subject g c =
    let setup = c.args.behind.now.setup in
    let conv = c.args.talk.now.conv in
    let s = c.args.pages.now in
    let asks = c.requires.asks in
    let begun = asks.begun in
    let e : Ends = ends asks.start asks.rest asks.first (g.W.Write.contents c.args.writer.now.inner) in
    let a = asking_is setup begun e conv s _ _ (sym c.take.ensures.value ∙ (c.in-Some.is ∙ ap (λ q. Some q) c.in-Opens.is)) asks.asking in
    names_subject setup begun e conv s c.requires.agree c.in-Opens.subject a

pub open-requires-clause-came : goal.open-requires-clause-came
open-requires-clause-came g c =
    let setup = c.args.behind.now.setup in
    let conv = c.args.talk.now.conv in
    let s = c.args.pages.now in
    let asks = c.requires.asks in
    let begun = asks.begun in
    let e : Ends = ends asks.start asks.rest asks.first (g.W.Write.contents c.args.writer.now.inner) in
    let a = asking_is setup begun e conv s _ _ (sym c.take.ensures.value ∙ (c.in-Some.is ∙ ap (λ q. Some q) c.in-Opens.is)) asks.asking in
    (begun, subst (Came setup begun s) (opening_first setup begun e conv s c.in-Opens.subject a) a.done.came)

pub ask-requires-clause-opened : goal.ask-requires-clause-opened
ask-requires-clause-opened g c =
    let setup = c.args.behind.now.setup in
    let conv = c.args.talk.now.conv in
    let s = c.args.pages.now in
    let asks = c.requires.asks in
    let begun = asks.begun in
    let e : Ends = ends asks.start asks.rest asks.first (g.W.Write.contents c.args.writer.now.inner) in
    let a = asking_is setup begun e conv s _ _ (sym c.take.ensures.value ∙ (c.in-Some.is ∙ ap (λ q. Some q) c.in-Admits.is)) asks.asking in
    admitting_open setup begun e conv s c.in-Admits.ordinal c.in-Admits.work a

pub ask-requires-clause-readable : goal.ask-requires-clause-readable
ask-requires-clause-readable g c =
    let setup = c.args.behind.now.setup in
    let conv = c.args.talk.now.conv in
    let s = c.args.pages.now in
    let asks = c.requires.asks in
    let begun = asks.begun in
    let e : Ends = ends asks.start asks.rest asks.first (g.W.Write.contents c.args.writer.now.inner) in
    let a = asking_is setup begun e conv s _ _ (sym c.take.ensures.value ∙ (c.in-Some.is ∙ ap (λ q. Some q) c.in-Admits.is)) asks.asking in
    names_work setup begun e conv s c.requires.agree c.in-Admits.ordinal c.in-Admits.work a

pub ask-requires-clause-last : goal.ask-requires-clause-last
ask-requires-clause-last g c =
    let setup = c.args.behind.now.setup in
    let conv = c.args.talk.now.conv in
    let s = c.args.pages.now in
    let asks = c.requires.asks in
    let begun = asks.begun in
    let e : Ends = ends asks.start asks.rest asks.first (g.W.Write.contents c.args.writer.now.inner) in
    let a = asking_is setup begun e conv s _ _ (sym c.take.ensures.value ∙ (c.in-Some.is ∙ ap (λ q. Some q) c.in-Admits.is)) asks.asking in
    omega (arith, a.done.last_is, a.on.block.number.1)

pub settle-requires : goal.settle-requires
settle-requires g c =
    let setup = c.args.behind.now.setup in
    let conv = c.args.talk.now.conv in
    let s = c.args.pages.now in
    let asks = c.requires.asks in
    let begun = asks.begun in
    let e : Ends = ends asks.start asks.rest asks.first (g.W.Write.contents c.args.writer.now.inner) in
    let a = asking_is setup begun e conv s _ _ (sym c.take.ensures.value ∙ (c.in-Some.is ∙ ap (λ q. Some q) c.in-Settles.is)) asks.asking in
    record { asks = record { fine = asks.fine; start = asks.start; rest = asks.rest; first = asks.first; begun = begun; asking = a; reached = asks.reached } }

pub returns-in_ok-reach-in-Opens-clause-ok : goal.returns-in_ok-reach-in-Opens-clause-ok
returns-in_ok-reach-in-Opens-clause-ok g c =
    let setup = c.args.behind.now.setup in
    let conv = c.args.talk.now.conv in
    let s = c.args.pages.now in
    let t = c.open.new.pages in
    record {
      fine = c.requires.asks.fine;
      on = λ start rest first begun was.
          let e = ends start rest first (g.W.Write.contents c.args.writer.now.inner) in
          let a = asking_is setup begun e conv s _ _ (sym c.take.ensures.value ∙ (c.in-Some.is ∙ ap (λ q. Some q) c.in-Opens.is)) was in
          has_opened setup begun e conv s c.in-Opens.subject c.opened.new.self t a c.opened.ensures.opened c.opened.ensures.block c.opened.ensures.first
          (room_alone c.opened.new.self.ended c.opened.new.self.stage c.opened.ensures.need) c.open.ensures.opened
          (c.open.ensures.came begun (subst (Came setup begun s) (opening_first setup begun e conv s c.in-Opens.subject a) a.done.came)) c.open.ensures.last c.open.ensures.settled;
      reached = λ begun k.
          reached_now (g.K.Keep.reached c.reach.new.self) begun t c.opened.new.self.after c.in_ok-reach-in-Opens.ensures.reached
          (front_on begun s.hall t.hall (since_hall (g.K.Keep.reached c.args.keep.now) begun s conv.after k) c.open.ensures.front);
    }

pub returns-in-Admits-clause-ok : goal.returns-in-Admits-clause-ok
returns-in-Admits-clause-ok g c =
    let setup = c.args.behind.now.setup in
    let conv = c.args.talk.now.conv in
    let s = c.args.pages.now in
    let ordinal = c.in-Admits.ordinal in
    let work = c.in-Admits.work in
    let asks = c.requires.asks in
    let asked = asks.begun in
    let e : Ends = ends asks.start asks.rest asks.first (g.W.Write.contents c.args.writer.now.inner) in
    let a = asking_is setup asked e conv s _ _ (sym c.take.ensures.value ∙ (c.in-Some.is ∙ ap (λ q. Some q) c.in-Admits.is)) asks.asking in
    let new : conv.after < ordinal = omega (arith, a.on.block.after, a.on.block.number.1) in
    record {
      fine = asks.fine;
      on = λ start rest first begun was.
          let to = ends start rest first (g.W.Write.contents c.args.writer.now.inner) in
          let is = asking_is setup begun to conv s _ _ (sym c.take.ensures.value ∙ (c.in-Some.is ∙ ap (λ q. Some q) c.in-Admits.is)) was in
          has_asked setup begun to conv s ordinal work c.ask.new.pages is c.ask.ensures.opened (c.ask.ensures.came begun) c.ask.ensures.last c.ask.ensures.settled;
      reached = λ begun k.
          reached_before (g.K.Keep.reached c.args.keep.now) begun s c.ask.new.pages conv.after k
          (admitting_open setup asked e conv s ordinal work a).there c.ask.ensures.front (c.ask.ensures.settled conv.after new a.done.settled);
    }

pub returns-in-Settles-clause-ok : goal.returns-in-Settles-clause-ok
returns-in-Settles-clause-ok g c =
    let at = asked_at c.args.talk.now.conv c.args.pages.now (g.K.Keep.reached c.args.keep.now) (end_state g.W.Write.contents c.args.writer.now) in
    let end = c.settle.new in
    subst (λ (q : Option Request). OnOk c.settle.result (Meets c.args.behind.now (at q) end.conv end.pages (g.K.Keep.reached end.keep) (end_state g.W.Write.contents end.writer)))
    (sym (sym c.take.ensures.value ∙ (c.in-Some.is ∙ ap (λ q. Some q) c.in-Settles.is))) c.settle.ensures.ok

pub returns-in-Settles-clause-err : goal.returns-in-Settles-clause-err
returns-in-Settles-clause-err g c =
    let at = asked_at c.args.talk.now.conv c.args.pages.now (g.K.Keep.reached c.args.keep.now) (end_state g.W.Write.contents c.args.writer.now) in
    let end = c.settle.new in
    subst (λ (q : Option Request).
    IfErr c.settle.result (λ (stop : Stop).
    StopsFrom stop c.args.behind.now (at q) (IsHeld (g.K.Keep.reached end.keep) (g.K.Keep.has_kept end.keep) (Err stop)) end.pages (end_state g.W.Write.contents end.writer)))
    (sym (sym c.take.ensures.value ∙ (c.in-Some.is ∙ ap (λ q. Some q) c.in-Settles.is))) c.settle.ensures.err

pub reach-requires : goal.reach-requires
reach-requires g c =
    let k = c.requires.asks.reached in
    (k.kept, k.reached, front_on k.kept c.args.pages.now.hall c.open.new.pages.hall k.front c.open.ensures.front)

pub returns-in_err-reach-in-Opens-clause-err : goal.returns-in_err-reach-in-Opens-clause-err
returns-in_err-reach-in-Opens-clause-err g c =
    let setup = c.args.behind.now.setup in
    let conv = c.args.talk.now.conv in
    let s = c.args.pages.now in
    let w = g.W.Write.contents c.args.writer.now.inner in
    let reached = g.K.Keep.reached in
    let why = c.in_err-reach-in-Opens.field-0.0 in
    passes_on c.from_residual.result (stop_of why) _ c.from_residual.ensures.1 (λ start rest first begun was k.
    let front = front_on k.kept s.hall c.open.new.pages.hall k.front c.open.ensures.front in
    let a = asking_is setup begun (ends start rest first w) conv s _ _ (sym c.take.ensures.value ∙ (c.in-Some.is ∙ ap (λ q. Some q) c.in-Opens.is)) was in
    record {
      kept = k.kept;
      held = held_unreached reached g.K.Keep.has_kept c.args.keep.now c.reach.new.self why k.kept k.reached c.in_err-reach-in-Opens.ensures.memory
          (c.in_err-reach-in-Opens.ensures.kept k.kept k.reached front);
      since = k.since;
      front = front;
      at = s;
      began = k.front;
      stopped = stopped_unreached (λ fault. Stopped fault setup.names (ends start rest first w) false c.args.writer.now.failed (seen_by setup begun k.kept s)) why
          (broken_asked setup.names start rest first w (MayGive s conv.after) (line_text (state_now s.hall) s.session) (λ n. StandsBy k.kept s n) (λ told. CameBy setup begun k.kept s told)
          conv.after (a.done.settled, k.same) (may_later s conv.after) Memory false c.args.writer.now.failed conv (Some (Opens c.in-Opens.subject)) a.so_far a.on
          (came_by (reached c.args.keep.now) begun setup conv.after (last_ordinal a.on.old) conv.after s a.so_far.asked k a.done) refl refl (refl, c.requires.asks.fine));
    })

pub returns-in_err-reach-in-Opens-clause-never : goal.returns-in_err-reach-in-Opens-clause-never
returns-in_err-reach-in-Opens-clause-never g c =
    let why = c.in_err-reach-in-Opens.field-0.0 in
    passes_on c.from_residual.result (stop_of why) _ c.from_residual.ensures.1 (may_stop_unreached g.K.Keep.may_fail why c.in_err-reach-in-Opens.ensures.never)
