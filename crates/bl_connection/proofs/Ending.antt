-- How a connection ends.
use Rattle.std.proofs.Common.{◌≡◌, ℕ, ◌⊎◌, inl, inr, Bool, true, false, List, [], ◌∷◌, ◌++◌, length, refl, sym, ap, subst, ◌∙◌, append_assoc, append-nil, arith, Option, Some, None, OnSome}
use Rattle.std.specs.Io.KnownBytes.{Appends, Consumes, IsAtEnd, Keeps, prepend_known}
use Rattle.std.proofs.KnownBytes.{Appends-trans, Consumes-kept}
use Rattle.bl_work.specs.Names.{KnownNames}
use Rattle.bl_wire.specs.Lines.{lines_of, AreLines}
use Rattle.bl_wire.specs.Reads.{HasMore}
use Rattle.bl_wire.specs.Texts.{session_text}
use Rattle.bl_wire.specs.Turns.{AreTurns}
use Rattle.bl_wire.specs.declared.fault.SessionFault.TheVariants.{Read, Write, TooLong, Memory}
use Rattle.bl_engine.specs.Conversations.{AreSo, Given, HasHeard, IsSoFar, Says, Spoke, TellsWhole, need_of, whole_text}
use Rattle.bl_engine.specs.Driving.{Exchange, IsDriven}
use Rattle.bl_engine.specs.Outcome.{AreWholeLines, Broken, Finished, Stopped}
use Rattle.bl_engine.specs.Requests.{SameUpTo}
use Rattle.bl_engine.specs.View.{ends}
use Rattle.bl_engine.specs.declared.conversation.Conversation.{Conversation}
use Rattle.bl_engine.specs.declared.conversation.Need.{Need}
use Rattle.bl_engine.specs.declared.conversation.Need.TheVariants as needs
use Rattle.bl_engine.specs.declared.conversation.Opening.{Opening}
use Rattle.bl_engine.specs.declared.conversation.Opening.TheVariants.{Open}
use Rattle.bl_engine.proofs.Breaking.{broken_listening, broken_quiet, driven_finished}
use Rattle.bl_engine.proofs.Endings.{all_said, so_far_at}
use Rattle.bl_engine.proofs.Hearings.{no_input}
use Rattle.bl_engine.proofs.LineLaws.{lines-now}
use Rattle.bl_engine.proofs.Stoppings.{given_by, nothing_behind}
use Rattle.bl_engine.proofs.Texts.{same_refl}
use Rattle.bl_connection.specs.Connections.{Answers, BeginsText, HasFinished, IsConnected, ends_of, to_hear, unheard, unwritten, view_of, with_said}
use Rattle.bl_connection.specs.declared.connection.Connection.{Connection}
use Rattle.bl_connection.proofs.Connecting.{connected_free}
use Rattle.bl_connection.proofs.Passing.{begins_front, end_stays, keeps_unread}

-- what is answered later is what may be given
pub may_later : (opening : Opening) (replies : ℕ → List ℕ) (upto : ℕ) (later : ℕ → List ℕ) → SameUpTo upto replies later → Answers opening replies upto (record { opening = opening; replies = later })
may_later opening replies upto later same = (refl, λ k low high. same k high)

other_need : (need : Need) → (need ≡ needs.Input) ⊎ (need ≡ needs.End) → need ≡ needs.Room → ⊥
other_need need one is = elim one [ inl a ↦ cc | inr b ↦ cc ]

module _ {S : Type 0} (remaining contents : S → Option (List ℕ)) (names : KnownNames) where
  -- where all was written, and no block is told, its owner has driven it
  pub driven_of : (M : Given → Type 0) (left : ℕ → List ℕ) (conn : Connection S) (x : Exchange) (some : Given) → M some → unwritten conn ≡ [] → (need_of conn.conv ≡ needs.Room → ⊥)
      → IsConnected remaining contents names M left conn x → IsDriven names (ends_of remaining contents conn) M conn.conv x
  driven_of M left conn x some may none quiet was =
      let p = was.passed in
      record {
        took = p.took;
        put = subst (Appends conn.first.contents (contents conn.stream)) (sym (p.said ∙ ap (λ l. was.written ++ l) none ∙ append-nil was.written)) p.put;
        end = p.heard_end;
        cut = (was.spoke some may).cut;
        point = λ given other ok. ((connected_free remaining contents names M left other conn x quiet was).spoke given ok).point;
      }

  -- nothing more was heard
  module _ (replies : ℕ → List ℕ) (upto : ℕ) (left : ℕ → List ℕ) (old : Connection S) (x : Exchange) (r' w' : Option (List ℕ)) (none : unwritten old ≡ [])
      (rest : Keeps (to_hear remaining old) r') (kept : Keeps (contents old.stream) w') (was : IsConnected remaining contents names (Answers Open replies upto) left old x) where
    quiet_driven : (need_of old.conv ≡ needs.Input) ⊎ (need_of old.conv ≡ needs.End) → IsDriven names (ends_of remaining contents old) (Answers Open replies upto) old.conv x
    quiet_driven need = driven_of (Answers Open replies upto) left old x (given_by replies) (may_later Open replies upto replies (same_refl upto replies)) none (other_need (need_of old.conv) need) was

    pub stops_read : need_of old.conv ≡ needs.Input
        → Stopped Read names (ends old.first.remaining r' old.first.contents w') true false (view_of replies upto x.asked)
    stops_read need = broken_listening names old.first.remaining (to_hear remaining old) old.first.contents (contents old.stream) (Answers Open replies upto) replies (λ n. n ≡ upto) (λ told. told ≡ x.asked) upto refl
        (may_later Open replies upto) old.conv x (quiet_driven (inl need)) refl Read r' w' true false need rest kept (refl, refl)

    pub stops_long : need_of old.conv ≡ needs.Input → old.conv.left ≡ 0 → OnSome (to_hear remaining old) (HasMore r')
        → Stopped TooLong names (ends old.first.remaining r' old.first.contents w') false false (view_of replies upto x.asked)
    stops_long need full more = broken_listening names old.first.remaining (to_hear remaining old) old.first.contents (contents old.stream) (Answers Open replies upto) replies (λ n. n ≡ upto) (λ told. told ≡ x.asked) upto refl
        (may_later Open replies upto) old.conv x (quiet_driven (inl need)) refl TooLong r' w' false false need rest kept (refl, refl, full, more)

    pub stops_memory : (need_of old.conv ≡ needs.Input) ⊎ (need_of old.conv ≡ needs.End)
        → Stopped Memory names (ends old.first.remaining r' old.first.contents w') false false (view_of replies upto x.asked)
    stops_memory need = broken_quiet names old.first.remaining (to_hear remaining old) old.first.contents (contents old.stream) (Answers Open replies upto) replies (λ n. n ≡ upto) (λ told. told ≡ x.asked) upto refl
        (may_later Open replies upto) old.conv x (quiet_driven need) refl Memory r' w' false false rest kept refl (λ is. refl) need (refl, refl)

-- there is more to hear where something was read and not heard
pub has_more : (a : Option (List ℕ)) (u : List ℕ) → (u ≡ [] → ⊥) → OnSome (prepend_known u a) (HasMore (prepend_known u a))
has_more None u some = tt
has_more (Some x) [] some = absurd (some refl)
has_more (Some x) (b ∷ u) some = omega arith

pub lines_are : (ended : Bool) (bytes : List ℕ) (lines : List (List ℕ)) → AreSo ended bytes lines → lines_of bytes ≡ lines
lines_are true bytes lines are = are
lines_are false bytes lines are = lines-now bytes lines are

-- not all that was said was written, and no more will be
module _ (names : KnownNames) (start rest first kept : Option (List ℕ)) (replies : ℕ → List ℕ) (upto : ℕ) (left : ℕ → List ℕ) (conv : Conversation) (x : Exchange) (written unwritten : List ℕ)
    (said : x.said ≡ written ++ unwritten) (took : Consumes start rest x.heard) (put : Appends first kept written) (end : conv.ended ≡ true → OnSome start (IsAtEnd rest))
    (spoke : (given : Given) → Answers Open replies upto given → Spoke names given left conv x.turns x.asked x.heard x.said)
    (whole : (given : Given) → Answers Open replies upto given → TellsWhole given.replies x.turns written) where
  pub later_so_far : (later : ℕ → List ℕ) → SameUpTo upto replies later → IsSoFar (given_by later) conv x.turns x.asked x.said
  later_so_far later same = so_far_at (given_by later) left conv x.turns x.asked x.said (spoke (given_by later) (may_later Open replies upto later same)).point

  pub now_is : IsSoFar (given_by replies) conv x.turns x.asked x.said
  now_is = later_so_far replies (same_refl upto replies)

  abbrev pub cut_of : HasHeard names conv x.turns x.heard
  cut_of = (spoke (given_by replies) (may_later Open replies upto replies (same_refl upto replies))).cut

  pub lines_by : (ended : Bool) → conv.ended ≡ ended → AreSo ended cut_of.whole cut_of.lines → AreWholeLines Write cut_of.whole cut_of.rest start rest
  lines_by false is are = inl (subst (AreLines cut_of.whole) (sym (lines-now cut_of.whole cut_of.lines are)) are)
  lines_by true is are = inr (refl, cut_of.none (no_input conv.ended conv.stage is), end is)

  abbrev pub broken_short : Broken Write names start rest false true x.turns
  broken_short = record {
    bytes = cut_of.whole;
    part = cut_of.rest;
    took = subst (Consumes start rest) cut_of.split took;
    within = omega (arith, cut_of.count, ap length cut_of.split);
    lines = lines_by conv.ended refl cut_of.cut;
    dropped = cut_of.plain;
    are = subst (λ l. AreTurns names l x.turns) (sym (lines_are conv.ended cut_of.whole cut_of.lines cut_of.cut)) cut_of.are;
    why = (refl, refl);
  }

  pub stopped_short : Stopped Write names (ends start rest first kept) false true (view_of replies upto x.asked)
  stopped_short = record {
    turns = x.turns;
    read = broken_short;
    stops = now_is.stops;
    unread = nothing_behind names start rest first kept false true conv x.turns x.heard cut_of took end replies x.said now_is.quiet;
    written = written;
    put = put;
    upto = upto;
    settled = refl;
    told = x.asked;
    came = refl;
    heard = x.turns;
    heard_is = refl;
    settles = now_is.settles;
    told_is = now_is.asked_is;
    begins = λ later same. begins_front written unwritten x.said (session_text later x.turns) said (later_so_far later same).begins;
    closed = λ later same. (
      whole (given_by later) (may_later Open replies upto later same),
      elim ((later_so_far later same).due refl) [
        | inl ended ↦ inl (end ended)
        | inr due ↦ inr (due.0, due.1, begins_front written unwritten x.said due.0 said due.2)
      ],
    );
  }

module _ {S : Type 0} (remaining contents : S → Option (List ℕ)) where
  -- writing failed
  pub stops_write : (names : KnownNames) (replies : ℕ → List ℕ) (upto : ℕ) (left : ℕ → List ℕ) (conn : Connection S) (x : Exchange)
      → IsConnected remaining contents names (Answers Open replies upto) left conn x → Stopped Write names (ends_of remaining contents conn) false true (view_of replies upto x.asked)
  stops_write names replies upto left conn x was =
      stopped_short names conn.first.remaining (to_hear remaining conn) conn.first.contents (contents conn.stream) replies upto left conn.conv x was.written (unwritten conn)
      was.passed.said was.passed.took was.passed.put was.passed.heard_end was.spoke was.whole

  -- the stream took nothing, and is as it was but for that
  pub stops_stuck : (names : KnownNames) (replies : ℕ → List ℕ) (upto : ℕ) (left : ℕ → List ℕ) (old : Connection S) (x : Exchange) (stream : S)
      → Keeps (remaining old.stream) (remaining stream) → Appends (contents old.stream) (contents stream) []
      → IsConnected remaining contents names (Answers Open replies upto) left old x
      → Stopped Write names (ends old.first.remaining (prepend_known (unheard old) (remaining stream)) old.first.contents (contents stream)) false true (view_of replies upto x.asked)
  stops_stuck names replies upto left old x stream rest put was =
      let p = was.passed in
      let start = old.first.remaining in
      let kept = keeps_unread (remaining old.stream) (remaining stream) (unheard old) rest in
      stopped_short names start (prepend_known (unheard old) (remaining stream)) old.first.contents (contents stream) replies upto left old.conv x was.written (unwritten old) p.said
      (Consumes-kept start (to_hear remaining old) (prepend_known (unheard old) (remaining stream)) x.heard p.took kept)
      (subst (Appends old.first.contents (contents stream)) (append-nil was.written)
      (Appends-trans old.first.contents (contents old.stream) (contents stream) was.written [] p.put put))
      (λ is. end_stays start (to_hear remaining old) (prepend_known (unheard old) (remaining stream)) x.heard p.took kept (p.heard_end is)) was.spoke was.whole

  -- there was no memory for a part of what was told
  pub stops_told : (names : KnownNames) (replies : ℕ → List ℕ) (upto : ℕ) (was left : ℕ → List ℕ) (old : Connection S) (conv : Conversation) (x : Exchange) (more : List ℕ) → conv.ended ≡ old.conv.ended
      → Says was left old.conv conv more → IsConnected remaining contents names (Answers Open replies upto) was old x → Stopped Write names (ends_of remaining contents old) false true (view_of replies upto x.asked)
  stops_told names replies upto was left old conv x more ended says on =
      stopped_short names old.first.remaining (to_hear remaining old) old.first.contents (contents old.stream) replies upto left conv (with_said x more) on.written (unwritten old ++ more)
      (ap (λ l. l ++ more) on.passed.said ∙ append_assoc on.written (unwritten old) more) on.passed.took on.passed.put (λ is. on.passed.heard_end (sym ended ∙ is))
      (λ given may. says names given x.turns x.asked x.heard x.said (on.spoke given may)) on.whole

  -- all was said and written
  pub finishes : (conn : Connection S) → unwritten conn ≡ [] → need_of conn.conv ≡ needs.Over
      → (names : KnownNames) (opening : Opening) (replies : ℕ → List ℕ) (upto : ℕ) (left : ℕ → List ℕ) (x : Exchange)
      → IsConnected remaining contents names (Answers opening replies upto) left conn x → HasFinished remaining contents names opening replies upto conn x
  finishes conn none over names opening replies upto left x was =
      let given : Given = record { opening = opening; replies = replies } in
      let may = may_later opening replies upto replies (same_refl upto replies) in
      let all = all_said names given left conn.conv x.turns x.asked x.heard x.said (was.spoke given may) over in
      let said : was.written ≡ whole_text opening replies x.turns = sym (append-nil was.written) ∙ ap (λ l. was.written ++ l) (sym none) ∙ sym was.passed.said ∙ all.said_is in
      record {
        put = subst (Appends conn.first.contents (contents conn.stream)) said was.passed.put;
        asked_is = all.asked_is;
        finished = λ is. opened (subst (λ o. IsConnected remaining contents names (Answers o replies upto) left conn x) is was);
      }
    where
      quiet : need_of conn.conv ≡ needs.Room → ⊥
      quiet is = cc

      opened : IsConnected remaining contents names (Answers Open replies upto) left conn x → Finished names (ends_of remaining contents conn) (view_of replies upto x.asked)
      opened on = driven_finished names conn.first.remaining (to_hear remaining conn) conn.first.contents (contents conn.stream) (Answers Open replies upto) replies (λ n. n ≡ upto) (λ told. told ≡ x.asked) upto refl
          (may_later Open replies upto) conn.conv x
          (driven_of remaining contents names (Answers Open replies upto) left conn x (given_by replies) (may_later Open replies upto replies (same_refl upto replies)) none quiet on) refl over

  -- what was written begins the text
  pub begins_text : (conn : Connection S) → BeginsText remaining contents conn
  begins_text conn names opening replies upto left x was = (
    was.written,
    was.passed.put,
    λ later same.
        let given : Given = record { opening = opening; replies = later } in
        begins_front was.written (unwritten conn) x.said (whole_text opening later x.turns) was.passed.said
        (so_far_at given left conn.conv x.turns x.asked x.said (was.spoke given (may_later opening replies upto later same)).point).begins,
  )
