-- What of a session was kept, as it goes on.
use Rattle.std.proofs.Common.{◌≡◌, ℕ, zero, suc, ◌<◌, ◌≤◌, inl, inr, Bool, List, [], ◌∷◌, ◌++◌, length, refl, sym, ap, subst, ◌∙◌, arith, append-nil, append_assoc, replicate, Option, Some}
use Rattle.std.specs.Io.KnownBytes.{Appends, Consumes}
use Rattle.std.proofs.KnownBytes.{Appends-nil, Consumes-nil}
use Rattle.std.specs.Prelude.{Result, Ok, Err, IfErr, OnOk}
use Rattle.bl_setup.specs.Setup.{Setup}
use Rattle.bl_hall.specs.Chronicle.{Chronicle, state_now}
use Rattle.bl_wire.specs.Replies.{line_text}
use Rattle.bl_wire.specs.Texts.{session_text}
use Rattle.bl_wire.specs.Watch.{Use}
use Rattle.bl_wire.specs.declared.fault.SessionFault.{SessionFault}
use Rattle.bl_wire.specs.declared.fault.SessionFault.TheVariants as faults
use Rattle.bl_wire.specs.declared.turn.Turn.{Turn}
use Rattle.bl_wire.specs.declared.turn.Turn.TheVariants.{Skip, Wait, Greets, Bad, Ask}
use Rattle.bl_engine.specs.Outcome.{Finished, LacksTheLast, Stopped, WereHeard}
use Rattle.bl_engine.specs.Requests.{told_by}
use Rattle.bl_engine.specs.declared.request.Request.{Request}
use Rattle.bl_engine.specs.declared.request.Request.TheVariants.{Settles}
use Rattle.bl_engine.specs.View.{ends}
use Rattle.bl_session.specs.declared.entries.Pages.{Pages}
use Rattle.bl_session.specs.declared.keep.Stop.{Stop}
use Rattle.bl_session.specs.declared.keep.Unreached.{Unreached}
use Rattle.bl_session.specs.declared.keep.Unreached.TheVariants.{Memory, Failed}
use Rattle.bl_session.specs.Ended.{HasEnded, HasEndedAfter, TellsKeptAfter}
use Rattle.bl_session.specs.Keeping.{IsFrontOf, IsHeld, IsOpenIn, IsToldAfter, MayStop, fault_of, stop_of}
use Rattle.bl_session.specs.One.{new_hall, next_session}
use Rattle.bl_session.specs.Outcome.{IsCutShortAfter, IsServedInAfter}
use Rattle.bl_session.specs.Pages.{Came, StillAnswers, with_events}
use Rattle.bl_session.specs.Reaching.{CameBy, FinishesKept, IsReachedTo, StopsKept, seen_by, seen_in}
use Rattle.bl_session.specs.Talks.{HasDone, seen_of}

-- ---- fronts of a trail

pub front_self : (h : Chronicle) → IsFrontOf h h
front_self h = ([], λ i. record { setup = h.setup; limit = h.limit; trail = sym (append-nil h.trail) i })

pub front_on : (a b c : Chronicle) → IsFrontOf a b → IsFrontOf b c → IsFrontOf a c
front_on a b c first then = (
  first.0 ++ then.0,
  then.1 ∙ ap (λ h. with_events h then.0) first.1 ∙ λ i. record { setup = a.setup; limit = a.limit; trail = append_assoc a.trail first.0 then.0 i },
)

-- ---- how far a keep has come

module _ (reached : Chronicle → Type 0) (begun : Chronicle) where
  -- as far as the hall
  pub reached_now : (s : Pages) (n : ℕ) → reached s.hall → IsFrontOf begun s.hall → IsReachedTo reached begun n s
  reached_now s n is since = record { kept = s.hall; reached = is; since = since; front = front_self s.hall; opened = λ there. there; same = λ k le. refl }

  pub reached_to : (s : Pages) (m n : ℕ) → n ≤ m → IsReachedTo reached begun m s → IsReachedTo reached begun n s
  reached_to s m n le k = record { kept = k.kept; reached = k.reached; since = k.since; front = k.front; opened = k.opened; same = λ j low. k.same j (omega (arith, low, le)) }

  -- the hall goes on from the one that the session began in
  pub since_hall : (s : Pages) (n : ℕ) → IsReachedTo reached begun n s → IsFrontOf begun s.hall
  since_hall s n k = front_on begun k.kept s.hall k.since k.front

  -- where the hall goes on, and what was answered is answered so still
  pub reached_before : (s t : Pages) (n : ℕ) → IsReachedTo reached begun n s → s.session < length (state_now s.hall).sessions → IsFrontOf s.hall t.hall → StillAnswers n s t → IsReachedTo reached begun n t
  reached_before s t n k there front still = record {
    kept = k.kept;
    reached = k.reached;
    since = k.since;
    front = front_on k.kept s.hall t.hall k.front front;
    opened = λ now. let kept = k.opened there in omega (arith, still.number, kept);
    same = λ j low. still.same j low ∙ k.same j low ∙ ap (λ i. line_text (state_now k.kept) i j) (sym still.number);
  }

  -- what was asked is so by what is kept
  pub came_by : (setup : Setup) (after last n : ℕ) (s : Pages) (asked : List Request) (k : IsReachedTo reached begun n s) → HasDone setup begun after last s asked → CameBy setup begun k.kept s asked
  came_by setup after last n s asked k done = (done.came, elim done.there [ inl none ↦ inl none | inr there ↦ inr (k.opened there.there) ])

-- ---- a trail that is not kept

pub held_unreached : {K : Type 0} (reached has_kept : K → Chronicle → Type 0) (old new : K) (why : Unreached) (kept : Chronicle) → reached old kept
    → (let failed : Result (Unit {0}) Unreached = Err why in failed ≡ Err Memory → new ≡ old) → has_kept new kept → IsHeld (reached new) (has_kept new) (Err (stop_of why)) kept
held_unreached reached has_kept old new Memory kept before same held = subst (λ k. reached k kept) (sym (same refl)) before
held_unreached reached has_kept old new Failed kept before same held = held

pub may_stop_unreached : (may_fail : Type 0) (why : Unreached) → ((why ≡ Memory → ⊥) → may_fail) → MayStop may_fail (stop_of why)
may_stop_unreached may_fail Memory never = λ is. cc
may_stop_unreached may_fail Failed never = never (λ is. cc)

-- it is as where memory was refused
pub stopped_unreached : (P : SessionFault → Type 0) (why : Unreached) → P faults.Memory → P (fault_of (stop_of why))
stopped_unreached P Memory p = p
stopped_unreached P Failed p = p

-- ---- what was told was kept

-- lines that ask for settling alone ask for nothing
told_none : (turns : List Turn) (times : ℕ) → told_by turns ≡ replicate times Settles → told_by turns ≡ []
told_none [] times is = refl
told_none (Skip ∷ turns) times is = told_none turns times is
told_none (Greets subject ∷ turns) zero is = is
told_none (Greets subject ∷ turns) (suc times) is = cc
told_none (Wait ∷ turns) times is = refl
told_none (Bad fault ∷ turns) times is = refl
told_none (Ask work ∷ turns) times is = refl

few_heard : (fault : SessionFault) (heard turns : List Turn) → WereHeard fault heard turns → LacksTheLast heard turns
few_heard faults.Read heard turns are = ([], omega arith, sym are ∙ sym (append-nil heard))
few_heard faults.Write heard turns are = ([], omega arith, sym are ∙ sym (append-nil heard))
few_heard faults.TooLong heard turns are = ([], omega arith, sym are ∙ sym (append-nil heard))
few_heard faults.Memory heard turns are = are
few_heard faults.Clash heard turns are = are

module _ (begun : Chronicle) (start rest first after : Option (List ℕ)) (kept : Chronicle) (s : Pages) (front : IsFrontOf kept s.hall) where
  -- where the session is, by the number that it has
  opened_next : (told : List Request) → Came begun.setup begun s told → IsOpenIn s.session kept told → IsOpenIn (next_session (state_now begun)) kept told
  opened_next told c is = subst (λ i. IsOpenIn i kept told) c.began.session_is is

  pub stopped_told : (fault : SessionFault) (read_failed write_failed : Bool) → Stopped fault begun.setup.names (ends start rest first after) read_failed write_failed (seen_by begun.setup begun kept s)
      → IsToldAfter begun kept (record { before = start; after = rest; failed = read_failed }) (record { before = first; after = after; failed = write_failed })
  stopped_told fault read_failed write_failed off =
      let number : s.session ≡ next_session (state_now begun) = off.came.0.began.session_is in
      let f : ℕ → List ℕ = line_text (state_now kept) (next_session (state_now begun)) in
      record {
        setup_is = sym (ap (λ (h : Chronicle). h.setup) front.1) ∙ off.came.0.stands.setup_is;
        limit_is = sym (ap (λ (h : Chronicle). h.limit) front.1) ∙ off.came.0.began.limit_is;
        bytes = off.read.bytes;
        part = off.read.part;
        took = off.read.took;
        turns = off.turns;
        are = off.read.are;
        heard = off.heard;
        few = few_heard fault off.heard off.turns off.heard_is;
        opened = elim (opened_next off.told off.came.0 off.came.1) [
          | inl none ↦ inl (told_none off.heard off.settles (off.told_is ∙ ap (λ l. l ++ replicate off.settles Settles) none))
          | inr there ↦ inr there
        ];
        written = off.written;
        put = off.put;
        begins = off.begins f (λ k low. ap (λ i. line_text (state_now kept) i k) (sym number) ∙ sym (off.settled.1 k low));
      }

  -- without what is kept
  pub stopped_seen : (fault : SessionFault) (read_failed write_failed : Bool) → Stopped fault begun.setup.names (ends start rest first after) read_failed write_failed (seen_by begun.setup begun kept s)
      → Stopped fault begun.setup.names (ends start rest first after) read_failed write_failed (seen_of begun.setup begun s)
  stopped_seen fault read_failed write_failed off = record {
    turns = off.turns;
    read = off.read;
    stops = off.stops;
    unread = off.unread;
    written = off.written;
    put = off.put;
    upto = off.upto;
    settled = off.settled.0;
    told = off.told;
    came = off.came.0;
    heard = off.heard;
    heard_is = off.heard_is;
    settles = off.settles;
    told_is = off.told_is;
    begins = off.begins;
    closed = off.closed;
  }

  pub finished_told : (read_failed write_failed : Bool) → Finished begun.setup.names (ends start rest first after) (seen_in begun.setup begun kept s)
      → IsToldAfter begun kept (record { before = start; after = rest; failed = read_failed }) (record { before = first; after = after; failed = write_failed })
  finished_told read_failed write_failed done =
      let number : s.session ≡ next_session (state_now begun) = done.came.0.began.session_is in
      let f : ℕ → List ℕ = line_text (state_now kept) (next_session (state_now begun)) in
      record {
        setup_is = sym (ap (λ (h : Chronicle). h.setup) front.1) ∙ done.came.0.stands.setup_is;
        limit_is = sym (ap (λ (h : Chronicle). h.limit) front.1) ∙ done.came.0.began.limit_is;
        bytes = done.bytes;
        part = [];
        took = subst (Consumes start rest) (sym (append-nil done.bytes)) done.took;
        turns = done.turns;
        are = done.are;
        heard = done.turns;
        few = ([], omega arith, sym (append-nil done.turns));
        opened = opened_next (told_by done.turns) done.came.0 done.came.1;
        written = session_text f done.turns;
        put = subst (λ i. Appends first after (session_text (line_text (state_now kept) i) done.turns)) number done.put;
        begins = ([], sym (append-nil (session_text f done.turns)));
      }

-- before anything was heard
pub told_first : (begun : Chronicle) (start first : Option (List ℕ)) (read_failed write_failed : Bool)
    → IsToldAfter begun begun (record { before = start; after = start; failed = read_failed }) (record { before = first; after = first; failed = write_failed })
told_first begun start first read_failed write_failed = record {
  setup_is = refl;
  limit_is = refl;
  bytes = [];
  part = [];
  took = Consumes-nil start;
  turns = [];
  are = tt;
  heard = [];
  few = ([], omega arith, refl);
  opened = inl refl;
  written = [];
  put = Appends-nil first;
  begins = (session_text (line_text (state_now begun) (next_session (state_now begun))) [], refl);
}

-- ---- what a session with its keep ends with

module _ {K : Type 0} (reached has_kept : K → Chronicle → Type 0) (keep : K) (begun : Chronicle) (s : Pages) (start rest first after : Option (List ℕ)) (reader_failed writer_failed : Bool) where
  abbrev reader : Use
  reader = record { before = start; after = rest; failed = reader_failed }

  abbrev writer : Use
  writer = record { before = first; after = after; failed = writer_failed }

  -- the front of the hall that was kept, of which all was told
  pub told_of_kept : (result : Result (Unit {0}) Stop) → OnOk result (FinishesKept (reached keep) begun.setup begun (ends start rest first after) s)
      → IfErr result (λ stop. StopsKept (IsHeld (reached keep) (has_kept keep) (Err stop)) begun.setup begun stop (ends start rest first after) reader_failed writer_failed s)
      → TellsKeptAfter begun s.hall (IsHeld (reached keep) (has_kept keep) result) reader writer
  told_of_kept (Ok done) ok err = record {
    kept = ok.kept;
    held = ok.reached;
    since = ok.since;
    front = ok.front;
    told = finished_told begun start rest first after ok.kept s ok.front reader_failed writer_failed ok.told;
  }
  told_of_kept (Err stop) ok err = record {
    kept = err.kept;
    held = err.held;
    since = err.since;
    front = err.front;
    told = stopped_told begun start rest first after err.kept err.at err.began (fault_of stop) reader_failed writer_failed err.stopped;
  }

-- ---- how a session ended

pub ended_after : (begun hall : Chronicle) (input output : Use) (served : Result (Unit {0}) Stop) → OnOk served (IsServedInAfter begun hall input output)
    → IfErr served (λ stop. IsCutShortAfter begun (fault_of stop) input output) → HasEndedAfter begun hall served input output
ended_after begun hall input output (Ok done) own cut = own
ended_after begun hall input output (Err stop) own cut = cut

-- where nothing had happened before
pub ended_first : (setup : Setup) (limit : ℕ) (begun hall : Chronicle) (input output : Use) (served : Result (Unit {0}) Stop) → begun ≡ new_hall setup limit
    → HasEndedAfter begun hall served input output → HasEnded setup limit (Some hall) served input output
ended_first setup limit begun hall input output (Ok done) is ended = (hall, refl, subst (λ (h : Chronicle). IsServedInAfter h hall input output) is ended)
ended_first setup limit begun hall input output (Err stop) is ended = subst (λ (h : Chronicle). IsCutShortAfter h (fault_of stop) input output) is ended
