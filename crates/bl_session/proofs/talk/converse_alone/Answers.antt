use Rattle.std.proofs.Common.{◌∙◌, ℕ, List, [], arith, inl, inr, Err, refl, sym, ap, subst, Bool, not}
use Rattle.std.proofs.KnownBytes.{Keeps-refl}
use Rattle.bl_hall.specs.Chronicle.{state_now}
use Rattle.bl_wire.specs.Replies.{line_text}
use Rattle.bl_wire.specs.declared.fault.SessionFault.{SessionFault}
use Rattle.bl_wire.specs.declared.fault.SessionFault.TheVariants.{Memory}
use Rattle.bl_engine.specs.Conversations.{last_ordinal}
use Rattle.bl_engine.specs.Outcome.{Stopped}
use Rattle.bl_engine.specs.View.{ends}
use Rattle.bl_engine.specs.declared.request.Request.{Request}
use Rattle.bl_engine.proofs.Breaking.{broken_before, broken_handing, broken_listening, broken_quiet, broken_telling, driven_finished, driven_kept}
use Rattle.bl_engine.proofs.Driving.{spoke_with}
use Rattle.bl_session.specs.declared.keep.Stop.TheVariants.{Fault}
use Rattle.bl_session.specs.Keeping.{IsHeld}
use Rattle.bl_session.specs.Pages.{AreLater, Came}
use Rattle.bl_session.specs.Reaching.{CameBy, StandsBy, StopsKept, seen_by}
use Rattle.bl_session.specs.Talks.{MayGive}
use Rattle.bl_session.proofs.KeepLaws.{came_by, front_self, reached_now, reached_to}
use Rattle.bl_session.proofs.TalkLaws.{after_told, begins_talk, has_heard, has_heard_end, has_told, may_later, passes_on}
use Rattle.bl_session.proofs.talk.converse_alone.Goals as goal

pub returns-in_err-new-clause-err : goal.returns-in_err-new-clause-err
returns-in_err-new-clause-err g c =
    let setup = c.args.behind.now.setup in
    let begun = c.args.pages.now.hall in
    let start = g.R.Read.remaining c.args.reader.now.inner in
    let first = g.W.Write.contents c.args.writer.now.inner in
    let s = c.args.pages.now in
    passes_on c.from_residual.result (Fault Memory) _ c.from_residual.ensures.1 (record {
      kept = s.hall;
      held = c.requires.reached;
      since = front_self s.hall;
      front = front_self s.hall;
      at = s;
      began = front_self s.hall;
      stopped = broken_before setup.names start first (line_text (state_now s.hall) s.session) (λ n. StandsBy s.hall s n) (λ told. CameBy setup begun s.hall s told)
          c.args.reader.now.failed c.args.writer.now.failed (c.requires.start.settled, λ k le. refl) (c.requires.start.came, inl refl) c.requires.fine.0 c.requires.fine.1;
    })

pub waits-init : goal.waits-init
waits-init g c =
    let start = g.R.Read.remaining c.args.reader.now.inner in
    let first = g.W.Write.contents c.args.writer.now.inner in
    record {
      fine = c.requires.fine;
      names = c.names-names.ensures.value;
      under = begins_talk c.args.behind.now.setup c.args.pages.now.hall start first c.in_ok-new.field-0 c.args.pages.now c.requires.start.came c.in_ok-new.ensures.need c.in_ok-new.ensures.spoke;
      reached = reached_now (g.K.Keep.reached c.args.keep.now) c.args.pages.now.hall c.args.pages.now c.in_ok-new.field-0.after c.requires.reached (front_self c.args.pages.now.hall);
    }

pub returns-in_err-listen-in-Input-clause-err : goal.returns-in_err-listen-in-Input-clause-err
returns-in_err-listen-in-Input-clause-err g c =
    let setup = c.args.behind.now.setup in
    let begun = c.args.pages.now.hall in
    let start = g.R.Read.remaining c.args.reader.now.inner in
    let first = g.W.Write.contents c.args.writer.now.inner in
    let conv = c.waits.talk.conv in
    let s = c.waits.pages in
    let u = c.waits.invariant.under in
    let k = c.waits.invariant.reached in
    let r = g.R.Read.remaining c.waits.reader.inner in
    let w = g.W.Write.contents c.waits.writer.inner in
    let f = line_text (state_now s.hall) s.session in
    let Settled : ℕ → Type 0 = λ n. StandsBy k.kept s n in
    let CameSo : List Request → Type 0 = λ told. CameBy setup begun k.kept s told in
    let came = came_by (g.K.Keep.reached c.waits.keep) begun setup conv.after (last_ordinal conv) conv.after s u.so_far.asked k u.done in
    let r' = g.R.Read.remaining c.listen.new.reader.inner in
    let w' = g.W.Write.contents c.listen.new.writer.inner in
    let need = sym c.need.ensures ∙ c.in-Input.is in
    let off = c.in_err-listen-in-Input.ensures in
    passes_on c.from_residual-in_err-listen-in-Input.result (Fault c.in_err-listen-in-Input.field-0.0) _ c.from_residual-in_err-listen-in-Input.ensures.1 (record {
      kept = k.kept;
      held = k.reached;
      since = k.since;
      front = k.front;
      at = s;
      began = k.front;
      stopped = broken_listening setup.names start r first w (MayGive s conv.after) f Settled CameSo conv.after (u.done.settled, k.same) (may_later s conv.after) conv u.so_far u.driven came
          c.in_err-listen-in-Input.field-0.0 r' w' c.listen.new.reader.failed c.listen.new.writer.failed need off.kept c.listen.ensures.written off.why;
    })

pub meet-requires-clause-asks : goal.meet-requires-clause-asks
meet-requires-clause-asks g c =
    let setup = c.args.behind.now.setup in
    let begun = c.args.pages.now.hall in
    let start = g.R.Read.remaining c.args.reader.now.inner in
    let first = g.W.Write.contents c.args.writer.now.inner in
    let conv = c.waits.talk.conv in
    let s = c.waits.pages in
    let u = c.waits.invariant.under in
    let r = g.R.Read.remaining c.waits.reader.inner in
    let w = g.W.Write.contents c.waits.writer.inner in
    let r' = g.R.Read.remaining c.listen.new.reader.inner in
    let w' = g.W.Write.contents c.listen.new.writer.inner in
    let need = sym c.need.ensures ∙ c.in-Input.is in
    let a = has_heard setup begun start r first w conv s u c.waits.talk.names.now r' w' c.listen.new.listener.conv c.listen.new.listener.request c.waits.invariant.names need c.in_ok-listen-in-Input.ensures.ok c.listen.ensures.written in
    let back = reached_to (g.K.Keep.reached c.waits.keep) begun c.waits.pages c.waits.talk.conv.after c.listen.new.listener.conv.after (omega (arith, c.in_ok-listen-in-Input.ensures.ok.block.after)) c.waits.invariant.reached in
    record { fine = c.in_ok-listen-in-Input.ensures.fine.1; start = start; rest = r'; first = first; begun = begun; asking = a; reached = back }

pub waits-preserved-in_ok-meet-in-Input : goal.waits-preserved-in_ok-meet-in-Input
waits-preserved-in_ok-meet-in-Input g c =
    let setup = c.args.behind.now.setup in
    let begun = c.args.pages.now.hall in
    let start = g.R.Read.remaining c.args.reader.now.inner in
    let first = g.W.Write.contents c.args.writer.now.inner in
    let conv = c.waits.talk.conv in
    let s = c.waits.pages in
    let u = c.waits.invariant.under in
    let r = g.R.Read.remaining c.waits.reader.inner in
    let w = g.W.Write.contents c.waits.writer.inner in
    let r' = g.R.Read.remaining c.listen.new.reader.inner in
    let w' = g.W.Write.contents c.listen.new.writer.inner in
    let need = sym c.need.ensures ∙ c.in-Input.is in
    let a = has_heard setup begun start r first w conv s u c.waits.talk.names.now r' w' c.listen.new.listener.conv c.listen.new.listener.request c.waits.invariant.names need c.in_ok-listen-in-Input.ensures.ok c.listen.ensures.written in
    record {
      fine = (c.in_ok-listen-in-Input.ensures.fine.0, c.in_ok-meet-in-Input.ensures.ok.fine);
      names = ap (λ b. b.now) c.in_ok-meet-in-Input.ensures.names ∙ ap (λ b. b.now) c.in_ok-listen-in-Input.ensures.names ∙ c.waits.invariant.names;
      under = c.in_ok-meet-in-Input.ensures.ok.on start r' first begun a;
      reached = c.in_ok-meet-in-Input.ensures.ok.reached begun (reached_to (g.K.Keep.reached c.waits.keep) begun c.waits.pages c.waits.talk.conv.after c.listen.new.listener.conv.after (omega (arith, c.in_ok-listen-in-Input.ensures.ok.block.after)) c.waits.invariant.reached);
    }

pub returns-in_err-meet-in-Input-clause-err : goal.returns-in_err-meet-in-Input-clause-err
returns-in_err-meet-in-Input-clause-err g c =
    let setup = c.args.behind.now.setup in
    let begun = c.args.pages.now.hall in
    let start = g.R.Read.remaining c.args.reader.now.inner in
    let first = g.W.Write.contents c.args.writer.now.inner in
    let conv = c.waits.talk.conv in
    let s = c.waits.pages in
    let u = c.waits.invariant.under in
    let r = g.R.Read.remaining c.waits.reader.inner in
    let w = g.W.Write.contents c.waits.writer.inner in
    let r' = g.R.Read.remaining c.listen.new.reader.inner in
    let w' = g.W.Write.contents c.listen.new.writer.inner in
    let need = sym c.need.ensures ∙ c.in-Input.is in
    let a = has_heard setup begun start r first w conv s u c.waits.talk.names.now r' w' c.listen.new.listener.conv c.listen.new.listener.request c.waits.invariant.names need c.in_ok-listen-in-Input.ensures.ok c.listen.ensures.written in
    let fault = c.in_err-meet-in-Input.field-0.0 in
    passes_on c.from_residual-in_err-meet-in-Input.result fault _ c.from_residual-in_err-meet-in-Input.ensures.1
    (subst (λ (b : Bool). StopsKept (IsHeld (g.K.Keep.reached c.meet.new.keep) (g.K.Keep.has_kept c.meet.new.keep) (Err fault)) setup begun fault (ends start r' first (g.W.Write.contents c.meet.new.writer.inner)) b c.meet.new.writer.failed c.meet.new.pages)
    (sym c.in_ok-listen-in-Input.ensures.fine.0) (c.in_err-meet-in-Input.ensures.err start r' first begun a (reached_to (g.K.Keep.reached c.waits.keep) begun c.waits.pages c.waits.talk.conv.after c.listen.new.listener.conv.after (omega (arith, c.in_ok-listen-in-Input.ensures.ok.block.after)) c.waits.invariant.reached)))

pub returns-in_err-talk-in-End-clause-err : goal.returns-in_err-talk-in-End-clause-err
returns-in_err-talk-in-End-clause-err g c =
    let setup = c.args.behind.now.setup in
    let begun = c.args.pages.now.hall in
    let start = g.R.Read.remaining c.args.reader.now.inner in
    let first = g.W.Write.contents c.args.writer.now.inner in
    let conv = c.waits.talk.conv in
    let s = c.waits.pages in
    let u = c.waits.invariant.under in
    let k = c.waits.invariant.reached in
    let r = g.R.Read.remaining c.waits.reader.inner in
    let w = g.W.Write.contents c.waits.writer.inner in
    let f = line_text (state_now s.hall) s.session in
    let Settled : ℕ → Type 0 = λ n. StandsBy k.kept s n in
    let CameSo : List Request → Type 0 = λ told. CameBy setup begun k.kept s told in
    let came = came_by (g.K.Keep.reached c.waits.keep) begun setup conv.after (last_ordinal conv) conv.after s u.so_far.asked k u.done in
    let need = sym c.need.ensures ∙ c.in-End.is in
    passes_on c.from_residual-in_err-talk-in-End.result (Fault Memory) _ c.from_residual-in_err-talk-in-End.ensures.1 (record {
      kept = k.kept;
      held = k.reached;
      since = k.since;
      front = k.front;
      at = s;
      began = k.front;
      stopped = broken_quiet setup.names start r first w (MayGive s conv.after) f Settled CameSo conv.after (u.done.settled, k.same) (may_later s conv.after) conv u.so_far u.driven came
          Memory r w c.waits.reader.failed c.waits.writer.failed (Keeps-refl r) (Keeps-refl w) refl (λ _. refl) (inr need) c.waits.invariant.fine;
    })

pub meet-requires-in-End-clause-asks : goal.meet-requires-in-End-clause-asks
meet-requires-in-End-clause-asks g c =
    let setup = c.args.behind.now.setup in
    let begun = c.args.pages.now.hall in
    let start = g.R.Read.remaining c.args.reader.now.inner in
    let first = g.W.Write.contents c.args.writer.now.inner in
    let conv = c.waits.talk.conv in
    let s = c.waits.pages in
    let u = c.waits.invariant.under in
    let r = g.R.Read.remaining c.waits.reader.inner in
    let w = g.W.Write.contents c.waits.writer.inner in
    let need = sym c.need.ensures ∙ c.in-End.is in
    let a = has_heard_end setup begun start r first w conv s u c.names-names.result.now c.end.new.self c.in_ok-talk-in-End.field-0 c.names-names.ensures.value need c.in_ok-talk-in-End.ensures.ok c.in_ok-talk-in-End.ensures.block in
    let back = reached_to (g.K.Keep.reached c.waits.keep) begun c.waits.pages c.waits.talk.conv.after c.end.new.self.after (omega (arith, c.in_ok-talk-in-End.ensures.block.after)) c.waits.invariant.reached in
    record { fine = c.waits.invariant.fine.1; start = start; rest = r; first = first; begun = begun; asking = a; reached = back }

pub waits-preserved-in_ok-meet-in-End : goal.waits-preserved-in_ok-meet-in-End
waits-preserved-in_ok-meet-in-End g c =
    let setup = c.args.behind.now.setup in
    let begun = c.args.pages.now.hall in
    let start = g.R.Read.remaining c.args.reader.now.inner in
    let first = g.W.Write.contents c.args.writer.now.inner in
    let conv = c.waits.talk.conv in
    let s = c.waits.pages in
    let u = c.waits.invariant.under in
    let r = g.R.Read.remaining c.waits.reader.inner in
    let w = g.W.Write.contents c.waits.writer.inner in
    let need = sym c.need.ensures ∙ c.in-End.is in
    let a = has_heard_end setup begun start r first w conv s u c.names-names.result.now c.end.new.self c.in_ok-talk-in-End.field-0 c.names-names.ensures.value need c.in_ok-talk-in-End.ensures.ok c.in_ok-talk-in-End.ensures.block in
    record {
      fine = (c.waits.invariant.fine.0, c.in_ok-meet-in-End.ensures.ok.fine);
      names = ap (λ b. b.now) c.in_ok-meet-in-End.ensures.names ∙ c.waits.invariant.names;
      under = c.in_ok-meet-in-End.ensures.ok.on start r first begun a;
      reached = c.in_ok-meet-in-End.ensures.ok.reached begun (reached_to (g.K.Keep.reached c.waits.keep) begun c.waits.pages c.waits.talk.conv.after c.end.new.self.after (omega (arith, c.in_ok-talk-in-End.ensures.block.after)) c.waits.invariant.reached);
    }

pub returns-in_err-meet-in-End-clause-err : goal.returns-in_err-meet-in-End-clause-err
returns-in_err-meet-in-End-clause-err g c =
    let setup = c.args.behind.now.setup in
    let begun = c.args.pages.now.hall in
    let start = g.R.Read.remaining c.args.reader.now.inner in
    let first = g.W.Write.contents c.args.writer.now.inner in
    let conv = c.waits.talk.conv in
    let s = c.waits.pages in
    let u = c.waits.invariant.under in
    let r = g.R.Read.remaining c.waits.reader.inner in
    let w = g.W.Write.contents c.waits.writer.inner in
    let need = sym c.need.ensures ∙ c.in-End.is in
    let a = has_heard_end setup begun start r first w conv s u c.names-names.result.now c.end.new.self c.in_ok-talk-in-End.field-0 c.names-names.ensures.value need c.in_ok-talk-in-End.ensures.ok c.in_ok-talk-in-End.ensures.block in
    let fault = c.in_err-meet-in-End.field-0.0 in
    passes_on c.from_residual-in_err-meet-in-End.result fault _ c.from_residual-in_err-meet-in-End.ensures.1
    (subst (λ (b : Bool). StopsKept (IsHeld (g.K.Keep.reached c.meet-in-End.new.keep) (g.K.Keep.has_kept c.meet-in-End.new.keep) (Err fault)) setup begun fault (ends start r first (g.W.Write.contents c.meet-in-End.new.writer.inner)) b c.meet-in-End.new.writer.failed c.meet-in-End.new.pages)
    (sym c.waits.invariant.fine.0) (c.in_err-meet-in-End.ensures.err start r first begun a (reached_to (g.K.Keep.reached c.waits.keep) begun c.waits.pages c.waits.talk.conv.after c.end.new.self.after (omega (arith, c.in_ok-talk-in-End.ensures.block.after)) c.waits.invariant.reached)))

pub waits-preserved : goal.waits-preserved
waits-preserved g c =
    let setup = c.args.behind.now.setup in
    let begun = c.args.pages.now.hall in
    let start = g.R.Read.remaining c.args.reader.now.inner in
    let first = g.W.Write.contents c.args.writer.now.inner in
    let conv = c.waits.talk.conv in
    let s = c.waits.pages in
    let u = c.waits.invariant.under in
    let r = g.R.Read.remaining c.waits.reader.inner in
    let w = g.W.Write.contents c.waits.writer.inner in
    let need = sym c.need.ensures ∙ c.in-Room.is in
    let w' = g.W.Write.contents c.tell_all.new.writer.inner in
    record {
      fine = (c.waits.invariant.fine.0, c.in_ok-tell_all-in-Room.ensures.fine);
      names = c.waits.invariant.names;
      under = has_told setup begun start r first w conv s u _ c.tell_all.new.conv w' need c.in_ok-tell_all-in-Room.ensures.ok;
      reached =
          let after = after_told setup begun start r first w conv s u _ c.tell_all.new.conv w' need c.in_ok-tell_all-in-Room.ensures.ok in
          reached_to (g.K.Keep.reached c.waits.keep) begun s conv.after c.tell_all.new.conv.after (omega (arith, after)) c.waits.invariant.reached;
    }

pub returns-in_err-tell_all-in-Room-clause-err : goal.returns-in_err-tell_all-in-Room-clause-err
returns-in_err-tell_all-in-Room-clause-err g c =
    let setup = c.args.behind.now.setup in
    let begun = c.args.pages.now.hall in
    let start = g.R.Read.remaining c.args.reader.now.inner in
    let first = g.W.Write.contents c.args.writer.now.inner in
    let conv = c.waits.talk.conv in
    let s = c.waits.pages in
    let u = c.waits.invariant.under in
    let k = c.waits.invariant.reached in
    let r = g.R.Read.remaining c.waits.reader.inner in
    let w = g.W.Write.contents c.waits.writer.inner in
    let f = line_text (state_now s.hall) s.session in
    let Settled : ℕ → Type 0 = λ n. StandsBy k.kept s n in
    let CameSo : List Request → Type 0 = λ told. CameBy setup begun k.kept s told in
    let came = came_by (g.K.Keep.reached c.waits.keep) begun setup conv.after (last_ordinal conv) conv.after s u.so_far.asked k u.done in
    let off = c.in_err-tell_all-in-Room.ensures in
    let w' = g.W.Write.contents c.tell_all.new.writer.inner in
    passes_on c.from_residual-in_err-tell_all-in-Room.result (Fault c.in_err-tell_all-in-Room.field-0.0) _ c.from_residual-in_err-tell_all-in-Room.ensures.1 (record {
      kept = k.kept;
      held = k.reached;
      since = k.since;
      front = k.front;
      at = s;
      began = k.front;
      stopped =
          subst (λ (e : SessionFault). Stopped e setup.names (ends start r first w') c.waits.reader.failed c.tell_all.new.writer.failed (seen_by setup begun k.kept s)) (sym off.write.0)
          (broken_telling setup.names start r first w (MayGive s conv.after) f Settled CameSo conv.after (u.done.settled, k.same) (may_later s conv.after) (λ k. []) conv u.so_far
          w' c.waits.reader.failed c.tell_all.new.writer.failed u.driven.took u.driven.put u.driven.end
          (spoke_with setup.names start r first w (MayGive s conv.after) conv conv u.so_far u.driven (λ k. [])) came off.part c.waits.invariant.fine.0 off.write.1);
    })

pub returns-then-flush-clause-ok : goal.returns-then-flush-clause-ok
returns-then-flush-clause-ok g c =
    let setup = c.args.behind.now.setup in
    let begun = c.args.pages.now.hall in
    let start = g.R.Read.remaining c.args.reader.now.inner in
    let first = g.W.Write.contents c.args.writer.now.inner in
    let conv = c.waits.talk.conv in
    let s = c.waits.pages in
    let u = c.waits.invariant.under in
    let k = c.waits.invariant.reached in
    let r = g.R.Read.remaining c.waits.reader.inner in
    let w = g.W.Write.contents c.waits.writer.inner in
    let CameSo : List Request → Type 0 = λ told. CameBy setup begun k.kept s told in
    let came = came_by (g.K.Keep.reached c.waits.keep) begun setup conv.after (last_ordinal conv) conv.after s u.so_far.asked k u.done in
    let w' = g.W.Write.contents c.flush.new.self.inner in
    let over = sym c.need.ensures ∙ c.in-Over.is in
    let driven = driven_kept setup.names start r first w w' (MayGive s conv.after) conv u.so_far c.flush.ensures.bytes u.driven in
    let Later : ℕ → Type 0 = λ n. AreLater s.next (state_now s.hall).order n in
    record {
      kept = k.kept;
      reached = k.reached;
      since = k.since;
      front = k.front;
      told = driven_finished setup.names start r first w' (MayGive s conv.after) (line_text (state_now k.kept) s.session) Later CameSo conv.after u.done.settled
          (λ later same. (refl, λ j low high. same j high ∙ sym (k.same j high))) conv u.so_far driven came over;
      finished = driven_finished setup.names start r first w' (MayGive s conv.after) (line_text (state_now s.hall) s.session) Later (λ told. Came setup begun s told) conv.after u.done.settled
          (may_later s conv.after) conv u.so_far driven u.done.came over;
    }

pub returns-clause-err : goal.returns-clause-err
returns-clause-err g c =
    let setup = c.args.behind.now.setup in
    let begun = c.args.pages.now.hall in
    let start = g.R.Read.remaining c.args.reader.now.inner in
    let first = g.W.Write.contents c.args.writer.now.inner in
    let conv = c.waits.talk.conv in
    let s = c.waits.pages in
    let u = c.waits.invariant.under in
    let k = c.waits.invariant.reached in
    let r = g.R.Read.remaining c.waits.reader.inner in
    let w = g.W.Write.contents c.waits.writer.inner in
    let f = line_text (state_now s.hall) s.session in
    let Settled : ℕ → Type 0 = λ n. StandsBy k.kept s n in
    let CameSo : List Request → Type 0 = λ told. CameBy setup begun k.kept s told in
    let came = came_by (g.K.Keep.reached c.waits.keep) begun setup conv.after (last_ordinal conv) conv.after s u.so_far.asked k u.done in
    record {
      kept = k.kept;
      held = k.reached;
      since = k.since;
      front = k.front;
      at = s;
      began = k.front;
      stopped = broken_handing setup.names start r first w (MayGive s conv.after) f Settled CameSo conv.after (u.done.settled, k.same) (may_later s conv.after) conv u.so_far u.driven came
          r (g.W.Write.contents c.flush.new.self.inner) c.waits.reader.failed c.flush.new.self.failed (Keeps-refl r) c.flush.ensures.bytes c.waits.invariant.fine.0
          (c.flush.ensures.failed ∙ ap not c.if-flush.false);
    }
