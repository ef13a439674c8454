-- What is asked of the machine of one worker, and what is written.
use Rattle.std.proofs.Common.{◌≡◌, ℕ, ◌<◌, Bool, false, ◌⊎◌, inl, inr, List, [], ◌++◌, length, refl, ap, ◌∙◌, subst, arith, Option, Some}
use Rattle.std.specs.Prelude.{Result, Ok, Err, OnOk, IfErr}
use mathlib.Core.Path.{fun_ext}
use Rattle.std.specs.Io.KnownBytes.{Appends}
use Rattle.std.proofs.KnownBytes.{Appends-nil, Consumes-nil}
use Rattle.std.proofs.lemmas.List.Elements.{All-nil}
use Rattle.std.specs.Str.{bytes_eq}
use Rattle.std.proofs.lemmas.List.Quantifiers.{position-Some}
use Rattle.bl_level.specs.Table.{place_of}
use Rattle.bl_work.specs.declared.asked.Line.TheVariants as line
use Rattle.bl_work.specs.Names.{KnownNames}
use Rattle.bl_work.specs.Grammar.{SpelledLine, hello, wait, when, rule}
use Rattle.bl_work.specs.LineGrammar.{Means}
use Rattle.bl_work.specs.Readable.{IsReadable}
use Rattle.bl_setup.specs.Agreement.{Agree}
use Rattle.bl_setup.specs.Setup.{Setup}
use Rattle.bl_order.specs.Machine.{state_after}
use Rattle.bl_hall.specs.Chronicle.{Chronicle, state_now}
use Rattle.bl_wire.specs.declared.turn.Turn.TheVariants.{Skip, Wait, Greets, Bad, Ask}
use Rattle.bl_wire.specs.declared.fault.SessionFault.{SessionFault}
use Rattle.bl_wire.specs.declared.fault.SessionFault.TheVariants.{Memory}
use Rattle.bl_wire.specs.Lines.{without_cr}
use Rattle.bl_wire.specs.Turns.{AreServed}
use Rattle.bl_wire.specs.Replies.{line_text}
use Rattle.bl_wire.specs.Texts.{session_text}
use Rattle.bl_engine.specs.Requests.{SameUpTo, told_by}
use Rattle.bl_engine.specs.View.{ends}
use Rattle.bl_engine.specs.Outcome.{Finished, Stopped}
use Rattle.bl_engine.specs.View.{seen}
use Rattle.bl_engine.proofs.LineLaws.{AreLines-nil}
use Rattle.bl_session.specs.declared.entries.Pages.{Pages}
use Rattle.bl_session.specs.One.{Kept, events_of, next_session, one_after}
use Rattle.bl_session.specs.Outcome.{IsServedAfter, IsServedInAfter, IsCutShortAfter}
use Rattle.bl_session.specs.Pages.{AreLater, Came}
use Rattle.bl_session.specs.Transcript.{transcript_after}
use Rattle.bl_session.proofs.PageLaws.{one_whole, one_part}

-- ---- what lines ask for is served

place_within : (name : List ℕ) (names : List (List ℕ)) (i : ℕ) → place_of name names ≡ Some i → i < length names
place_within name names i e = (position-Some (bytes_eq name) names i [] e).0

pub subject_of : (names : KnownNames) (spelled : SpelledLine) (subject : ℕ) → Means names spelled (line.Hello subject) → subject < length names.subjects
subject_of names (hello name) subject means = place_within name names.subjects subject means
subject_of names wait subject means = absurd means
subject_of names (when first more body) subject means = absurd means
subject_of names (rule asked) subject means = absurd means

pub are_served : (setup : Setup) → Agree setup → AreServed setup.names (λ subject. subject < length setup.policy.subjects) (IsReadable setup.names)
are_served setup agree l Skip is = tt
are_served setup agree l Wait is = tt
are_served setup agree l (Greets subject) is = subst (λ n. subject < n) agree.subjects (subject_of setup.names is.1.spelled subject is.1.means)
are_served setup agree l (Bad fault) is = tt
are_served setup agree l (Ask work) is = (without_cr l, is.1)

-- ---- what is written

module _ (begun : Chronicle) (s : Pages) (start rest first kept : Option (List ℕ)) where
  -- a session that was read to its end
  pub served_whole : (Settled : ℕ → Type 0) → Finished begun.setup.names (ends start rest first kept) (seen (line_text (state_now s.hall) s.session) Settled (Came begun.setup begun s))
      → (read_failed write_failed : Bool) → read_failed ≡ false → write_failed ≡ false
      → IsServedAfter begun (record { before = start; after = rest; failed = read_failed }) (record { before = first; after = kept; failed = write_failed })
  served_whole Settled done read_failed write_failed reader writer = record {
    bytes = done.bytes;
    turns = done.turns;
    took = done.took;
    within = done.within;
    whole = done.whole;
    stops = done.stops;
    are = done.are;
    fate = done.came.fate;
    put = subst (λ (f : ℕ → List ℕ). Appends first kept (session_text f done.turns)) (fun_ext (one_whole begun.setup begun s done.turns done.came)) done.put;
    fine = (reader, writer);
  }

  -- whose trail the hall has
  pub served_in : (Settled : ℕ → Type 0) → Finished begun.setup.names (ends start rest first kept) (seen (line_text (state_now s.hall) s.session) Settled (Came begun.setup begun s))
      → (read_failed write_failed : Bool) → read_failed ≡ false → write_failed ≡ false
      → IsServedInAfter begun s.hall (record { before = start; after = rest; failed = read_failed }) (record { before = first; after = kept; failed = write_failed })
  unfolding served_whole
  served_in Settled done read_failed write_failed reader writer = record {
    served = served_whole Settled done read_failed write_failed reader writer;
    hall_is = λ i. record {
      setup = done.came.stands.setup_is i;
      limit = done.came.began.limit_is i;
      trail = trail i;
    };
  }
    where
      trail : s.hall.trail ≡ begun.trail ++ one_after (state_now begun) done.came.fate done.turns
      trail = done.came.led done.came.fate (λ n lt. refl) ∙ ap (λ j. begun.trail ++ events_of j done.came.fate (state_now begun) (told_by done.turns)) done.came.began.session_is

  -- a session that ended early
  pub served_part : (fault : SessionFault) (read_failed write_failed : Bool)
      → Stopped fault begun.setup.names (ends start rest first kept) read_failed write_failed (seen (line_text (state_now s.hall) s.session) (λ n. AreLater s.next (state_now s.hall).order n) (Came begun.setup begun s))
      → IsCutShortAfter begun fault (record { before = start; after = rest; failed = read_failed }) (record { before = first; after = kept; failed = write_failed })
  served_part fault read_failed write_failed off =
      let same : SameUpTo off.upto (line_text (state_now s.hall) s.session) (line_text (state_after (state_now begun) (one_after (state_now begun) off.came.fate off.heard)) (next_session (state_now begun))) =
      one_part begun.setup begun s off.upto off.settles off.told off.heard off.came off.settled off.told_is in
      record {
        turns = off.turns;
        read = off.read;
        stops = off.stops;
        unread = off.unread;
        written = off.written;
        put = off.put;
        heard = off.heard;
        heard_is = off.heard_is;
        fate = off.came.fate;
        begins = off.begins (line_text (state_after (state_now begun) (one_after (state_now begun) off.came.fate off.heard)) (next_session (state_now begun))) same;
        closed = off.closed (line_text (state_after (state_now begun) (one_after (state_now begun) off.came.fate off.heard)) (next_session (state_now begun))) same;
      }

-- a session for which memory was refused before it began
pub unserved : (begun : Chronicle) (start kept : Option (List ℕ)) (read_failed write_failed : Bool) → read_failed ≡ false → write_failed ≡ false
    → IsCutShortAfter begun Memory (record { before = start; after = start; failed = read_failed }) (record { before = kept; after = kept; failed = write_failed })
unserved begun start kept read_failed write_failed reader writer = record {
  turns = [];
  read = record {
    bytes = [];
    part = [];
    took = Consumes-nil start;
    within = omega arith;
    lines = inl AreLines-nil;
    dropped = All-nil (λ y. y ≡ 10 → ⊥);
    are = tt;
    why = (reader, writer);
  };
  stops = tt;
  unread = λ refused. absurd refused;
  written = [];
  put = Appends-nil kept;
  heard = [];
  heard_is = ([], omega arith, refl);
  fate = λ n. Kept;
  begins = (transcript_after (state_now begun) (λ n. Kept) [], refl);
  closed = ([], [], omega arith, refl, inl (tt, refl));
}

-- what cannot be is left out
pub not_full : (A B : Type 0) → A ⊎ (⊥ × B) → A
not_full A B (inl a) = a
not_full A B (inr b) = absurd b.0

-- what holds of both kinds of result
pub ok_both : {T E : Type 0} (r : Result T E) (A B C : Type 0) → (A → B → C) → OnOk r A → OnOk r B → OnOk r C
ok_both (Ok x) A B C f a b = f a b
ok_both (Err e) A B C f a b = tt

pub err_as : {T E : Type 0} (r : Result T E) (P Q : E → Type 0) → ((e : E) → P e → Q e) → IfErr r P → IfErr r Q
err_as (Ok x) P Q f p = tt
err_as (Err e) P Q f p = f e p
