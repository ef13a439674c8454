use Rattle.std.proofs.Common.{◌≡◌, ◌<◌, ◌∙◌, false, ℕ, inr, refl, sym, subst, arith, Some}
use Rattle.bl_hall.specs.Chronicle.{state_now}
use Rattle.bl_wire.specs.Replies.{line_text}
use Rattle.bl_wire.specs.declared.fault.SessionFault.{SessionFault}
use Rattle.bl_wire.specs.declared.fault.SessionFault.TheVariants.{Memory}
use Rattle.bl_engine.specs.Conversations.{last_ordinal}
use Rattle.bl_engine.specs.Outcome.{Stopped}
use Rattle.bl_engine.specs.View.{ends}
use Rattle.bl_engine.specs.declared.request.Request.TheVariants.{Settles}
use Rattle.bl_engine.proofs.Breaking.{broken_asked, broken_settled, broken_telling}
use Rattle.bl_session.specs.declared.keep.Stop.TheVariants.{Fault}
use Rattle.bl_session.specs.Keeping.{stop_of}
use Rattle.bl_session.specs.Reaching.{CameBy, StandsBy, seen_by}
use Rattle.bl_session.specs.Talks.{MayGive}
use Rattle.bl_session.specs.Telling.{left_above}
use Rattle.bl_session.proofs.KeepLaws.{came_by, front_on, front_self, held_unreached, may_stop_unreached, reached_before, reached_now, since_hall, stopped_unreached}
use Rattle.bl_session.proofs.TalkLaws.{has_settled, all_left, may_later, passes_on, settled_spoke, settling_open, x}
use Rattle.bl_session.proofs.talk.settle.Goals as goal

pub settle-requires-clause-opened : goal.settle-requires-clause-opened
settle-requires-clause-opened g c = settling_open c.args.behind.now.setup c.requires.asks.begun _ c.args.conv.now c.args.pages.now c.requires.asks.asking

pub tell_all-requires-clause-writer : goal.tell_all-requires-clause-writer
tell_all-requires-clause-writer g c = c.requires.asks.fine

pub returns-in_err-block-clause-err : goal.returns-in_err-block-clause-err
returns-in_err-block-clause-err g c =
    let setup = c.args.behind.now.setup in
    let conv = c.args.conv.now in
    let s = c.args.pages.now in
    let t = c.settle.new.pages in
    passes_on c.from_residual.result (Fault Memory) _ c.from_residual.ensures.1 (λ start rest first begun a was.
    let still = c.settle.ensures.settled conv.after a.done.settled in
    let open_s = settling_open setup begun _ conv s a in
    let k = reached_before (g.K.Keep.reached c.args.keep.now) begun s t conv.after was open_s.there c.settle.ensures.front still in
    record {
      kept = k.kept;
      held = k.reached;
      since = k.since;
      front = k.front;
      at = t;
      began = k.front;
      stopped = broken_settled setup.names start rest first (g.W.Write.contents c.args.writer.now.inner) (MayGive s conv.after) (line_text (state_now t.hall) t.session)
          (λ n. StandsBy k.kept t n) (λ told. CameBy setup begun k.kept t told) conv.after (c.settle.ensures.done conv.after, k.same)
          (λ later same. (refl, λ k low high. same k high ∙ still.same k high))
          Memory false c.args.writer.now.failed conv a.so_far a.on (inr (c.settle.ensures.came begun a.so_far.asked a.done.came, inr (k.opened c.settle.ensures.opened.there))) refl refl
          (λ n. (refl, c.requires.asks.fine));
    })

pub reach-requires : goal.reach-requires
reach-requires g c =
    let k = c.requires.asks.reached in
    (k.kept, k.reached, front_on k.kept c.args.pages.now.hall c.settle.new.pages.hall k.front c.settle.ensures.front)

pub returns-in_err-reach-clause-err : goal.returns-in_err-reach-clause-err
returns-in_err-reach-clause-err g c =
    let setup = c.args.behind.now.setup in
    let conv = c.args.conv.now in
    let s = c.args.pages.now in
    let t = c.settle.new.pages in
    let w = g.W.Write.contents c.args.writer.now.inner in
    let reached = g.K.Keep.reached in
    let why = c.in_err-reach.field-0.0 in
    passes_on c.from_residual-in_err-reach.result (stop_of why) _ c.from_residual-in_err-reach.ensures.1 (λ start rest first begun a k.
    let front = front_on k.kept s.hall t.hall k.front c.settle.ensures.front in
    record {
      kept = k.kept;
      held = held_unreached reached g.K.Keep.has_kept c.args.keep.now c.reach.new.self why k.kept k.reached c.in_err-reach.ensures.memory (c.in_err-reach.ensures.kept k.kept k.reached front);
      since = k.since;
      front = front;
      at = s;
      began = k.front;
      stopped = stopped_unreached (λ fault. Stopped fault setup.names (ends start rest first w) false c.args.writer.now.failed (seen_by setup begun k.kept s)) why
          (broken_asked setup.names start rest first w (MayGive s conv.after) (line_text (state_now s.hall) s.session) (λ n. StandsBy k.kept s n) (λ told. CameBy setup begun k.kept s told)
          conv.after (a.done.settled, k.same) (may_later s conv.after) Memory false c.args.writer.now.failed conv (Some Settles) a.so_far a.on
          (came_by (reached c.args.keep.now) begun setup conv.after (last_ordinal a.on.old) conv.after s a.so_far.asked k a.done) refl refl (refl, c.requires.asks.fine));
    })

pub returns-in_err-reach-clause-never : goal.returns-in_err-reach-clause-never
returns-in_err-reach-clause-never g c =
    let why = c.in_err-reach.field-0.0 in
    passes_on c.from_residual-in_err-reach.result (stop_of why) _ c.from_residual-in_err-reach.ensures.1 (may_stop_unreached g.K.Keep.may_fail why c.in_err-reach.ensures.never)

pub returns-clause-ok : goal.returns-clause-ok
returns-clause-ok g c =
    let setup = c.args.behind.now.setup in
    let conv = c.args.conv.now in
    let s = c.args.pages.now in
    let t = c.settle.new.pages in
    record {
      fine = c.in_ok-tell_all.ensures.fine;
      on = λ start rest first begun a.
          has_settled setup begun start rest first (g.W.Write.contents c.args.writer.now.inner) conv c.answered.new.self s t a
          c.settle.ensures.settled c.answered.ensures.block c.answered.ensures.answered (left_above (state_now t.hall) t.session c.after-after.result)
          (λ k lt. all_left (state_now t.hall) t.session c.after-after.result k (omega (arith, c.after-after.ensures, lt)))
          _ c.tell_all.new.conv (g.W.Write.contents c.tell_all.new.writer.inner) c.in_ok-tell_all.ensures.ok c.settle.ensures.opened (c.settle.ensures.came begun) c.settle.ensures.last c.settle.ensures.done;
      reached = λ begun k.
          reached_now (g.K.Keep.reached c.reach.new.self) begun t c.tell_all.new.conv.after c.in_ok-reach.ensures.reached
          (front_on begun s.hall t.hall (since_hall (g.K.Keep.reached c.args.keep.now) begun s conv.after k) c.settle.ensures.front);
    }

pub returns-in_err-tell_all-clause-err : goal.returns-in_err-tell_all-clause-err
returns-in_err-tell_all-clause-err g c =
    let setup = c.args.behind.now.setup in
    let conv = c.args.conv.now in
    let mid = c.answered.new.self in
    let s = c.args.pages.now in
    let t = c.settle.new.pages in
    let W = g.W.Write.contents in
    let w = W c.args.writer.now.inner in
    let left = left_above (state_now t.hall) t.session c.after-after.result in
    let fault = c.in_err-tell_all.field-0.0 in
    let part = c.in_err-tell_all.ensures.part in
    let write = c.in_err-tell_all.ensures.write in
    passes_on c.from_residual-in_err-tell_all.result (Fault fault) _ c.from_residual-in_err-tell_all.ensures.1 (λ start rest first begun a was.
    let left_is : (k : ℕ) → conv.after < k → left k ≡ line_text (state_now t.hall) t.session k =
    λ k lt. all_left (state_now t.hall) t.session c.after-after.result k (omega (arith, c.after-after.ensures, lt))
    in
    record {
      kept = t.hall;
      held = c.in_ok-reach.ensures.reached;
      since = front_on begun s.hall t.hall (since_hall (g.K.Keep.reached c.args.keep.now) begun s conv.after was) c.settle.ensures.front;
      front = front_self t.hall;
      at = t;
      began = front_self t.hall;
      stopped =
          subst (λ (f : SessionFault). Stopped f setup.names (ends start rest first (W c.tell_all.new.writer.inner)) false c.tell_all.new.writer.failed (seen_by setup begun t.hall t)) (sym write.0)
          (broken_telling setup.names start rest first w (MayGive t (last_ordinal conv)) (line_text (state_now t.hall) t.session)
          (λ n. StandsBy t.hall t n) (λ told. CameBy setup begun t.hall t told) (last_ordinal conv) (c.settle.ensures.done (last_ordinal conv), λ k le. refl) (may_later t (last_ordinal conv))
          left mid (x setup begun start rest first w conv mid s t a c.settle.ensures.settled c.answered.ensures.block c.answered.ensures.answered left left_is)
          (W c.tell_all.new.writer.inner) false c.tell_all.new.writer.failed a.on.now.took a.on.now.put (λ now. a.on.now.end (sym c.answered.ensures.block.ended ∙ now))
          (settled_spoke setup begun start rest first w conv mid s t a c.settle.ensures.settled c.answered.ensures.block c.answered.ensures.answered left left_is)
          (c.settle.ensures.came begun a.so_far.asked a.done.came, inr c.settle.ensures.opened.there) part refl write.1);
    })
