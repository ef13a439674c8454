-- Laws of what a session over a gate ends with.
use Rattle.std.proofs.Common.{◌≡◌, ℕ, zero, suc, ◌≤◌, ◌++◌, ◌∷◌, [], Bool, true, false, true≢false, List, Option, Some, None, All, ◌⊎◌, inl, inr, refl, sym, ap, subst, ◌∙◌, arith, append-nil, replicate}
use Rattle.bl_gate.specs.Gates.{GateId, PassView, state_seen}
use Rattle.bl_hall.specs.declared.reply.Reply.{Reply}
use Rattle.bl_work.specs.Names.{KnownNames}
use Rattle.bl_wire.specs.Named.{NamesAnswer}
use Rattle.bl_wire.specs.Replies.{line_text}
use Rattle.bl_wire.specs.Turns.{IsOpening}
use Rattle.bl_wire.specs.Texts.{bye_line, session_text}
use Rattle.bl_wire.specs.declared.turn.Turn.{Turn}
use Rattle.bl_wire.specs.declared.turn.Turn.TheVariants.{Skip, Wait, Greets, Bad, Ask}
use Rattle.bl_engine.specs.declared.request.Request.TheVariants as request
use Rattle.bl_engine.specs.declared.request.Request.{Request}
use Rattle.bl_engine.specs.Requests.{SameUpTo, told_by}
use Rattle.bl_engine.specs.BlockText.{Begins}
use Rattle.bl_session.specs.Transcripts.{IsTranscript}
use Rattle.bl_wire.specs.declared.fault.SessionFault.{SessionFault}
use Rattle.bl_engine.specs.View.{View, Ends, ends}
use Rattle.bl_engine.specs.Outcome.{Finished, Stopped, TurnedAway, TurnedAwayInPart, refused_sessions}
use Rattle.bl_serve.specs.Courses.{AddsOneSession, IsOwn, SpeaksForItsOwn}
use Rattle.bl_serve.specs.Talks.{HasBroken, HasEnded, seen_of}
use Rattle.bl_serve.specs.Told.{told_text}
use Rattle.bl_serve.specs.Visits.{HasCome, HasTold, IsCrowded, course_of}
use Rattle.bl_serve.specs.Outcome.{replies_alone, IsSeen, IsServed, IsCutShort, IsTranscribed, IsTranscribedInPart}
use Rattle.bl_serve.specs.declared.visit.Visit.{Visit}
use Rattle.bl_serve.proofs.Coming.{silent}
use Rattle.bl_serve.proofs.Owning.{own_speaks, speaks_for_none}
use Rattle.bl_serve.proofs.Transcribing.{nothing_told, replies_are, transcribed, turned_away, written_is}
use Rattle.bl_serve.proofs.ToldLaws.{all_named}

module _ (names : KnownNames) (e : Ends) (view : View) where
  abbrev pub finished_plain : Finished names e view → Finished names e (replies_alone view.replies)
  finished_plain f = record {
    bytes = f.bytes;
    turns = f.turns;
    took = f.took;
    within = f.within;
    whole = f.whole;
    stops = f.stops;
    are = f.are;
    put = f.put;
    came = tt;
    upto = f.upto;
    settled = tt;
  }

  abbrev pub away_plain : (text : List ℕ) → TurnedAway names e view text → TurnedAway names e (replies_alone view.replies) text
  away_plain text a = record {
    subject = a.subject;
    turns = a.turns;
    opened = a.opened;
    again = a.again;
    left = a.left;
    read = a.read;
    put = a.put;
    came = tt;
  }

  abbrev pub stopped_plain : (fault : SessionFault) (read_failed write_failed : Bool)
      → Stopped fault names e read_failed write_failed view → Stopped fault names e read_failed write_failed (replies_alone view.replies)
  stopped_plain fault read_failed write_failed s = record {
    turns = s.turns;
    read = s.read;
    stops = s.stops;
    unread = s.unread;
    written = s.written;
    put = s.put;
    upto = s.upto;
    settled = tt;
    told = s.told;
    came = tt;
    heard = s.heard;
    heard_is = s.heard_is;
    settles = s.settles;
    told_is = s.told_is;
    begins = s.begins;
    closed = s.closed;
  }

  abbrev pub away_part_plain : (fault : SessionFault) (read_failed write_failed : Bool) (text : List ℕ)
      → TurnedAwayInPart fault names e read_failed write_failed view text → TurnedAwayInPart fault names e read_failed write_failed (replies_alone view.replies) text
  away_part_plain fault read_failed write_failed text a = record {
    much = a.much;
    part = away_plain _ a.part;
    is_write = a.is_write;
    read_fine = a.read_fine;
    write_marked = a.write_marked;
  }

-- ---- transcripts

abbrev is_settles : List Request → Bool
is_settles [] = false
is_settles (request.Opens u ∷ told) = false
is_settles (request.Admits k w ∷ told) = false
is_settles (request.Settles ∷ told) = true

not_settles : (turns : List Turn) → is_settles (told_by turns) ≡ false
not_settles [] = refl
not_settles (Skip ∷ turns) = not_settles turns
not_settles (Wait ∷ turns) = refl
not_settles (Greets u ∷ turns) = refl
not_settles (Bad fault ∷ turns) = refl
not_settles (Ask work ∷ turns) = refl

-- lines do not begin by settling
pub only_settles : (turns : List Turn) (n : ℕ) → told_by turns ≡ replicate n request.Settles → told_by turns ≡ []
only_settles turns zero is = is
only_settles turns (suc n) is = absurd (true≢false (sym (ap is_settles is) ∙ not_settles turns))

names_here : {gate other : GateId} → gate ≡ other → gate.base.setup.names ≡ other.base.setup.names
names_here same = ap (λ (g : GateId). g.base.setup.names) same

module _ (gate : GateId) (at_first : PassView) (visit : Visit) (replies : List Reply) where
  -- all lines were told, and settled
  whole : (turns : List Turn) → HasCome gate at_first visit replies (told_by turns) → IsTranscribed at_first visit.pass turns (session_text (told_text gate.base.setup.names replies) turns)
  whole turns c = go visit.session c.course
    where
      is : gate.base.setup.names ≡ visit.pass.gate.base.setup.names
      is = sym (names_here c.own.gate_is)

      go : (o : Option ℕ) → HasTold gate at_first visit replies o (told_by turns) → IsTranscribed at_first visit.pass turns (session_text (told_text gate.base.setup.names replies) turns)
      go None course = inl (course.none, course.own, nothing_told visit.pass (told_text gate.base.setup.names replies) turns course.none)
      go (Some s) course = inr (
        s,
        course.0,
        λ alone.
            subst (IsTranscript visit.pass.gate.base.setup visit.pass.gate.base.limit visit.pass.seen s turns)
            (sym (written_is gate.base.setup.names at_first visit.pass (course_of gate.base.setup.names visit replies s) (told_by turns) course.1 is alone turns refl))
            (transcribed gate.base.setup.names at_first visit.pass (course_of gate.base.setup.names visit replies s) (told_by turns) course.1 is alone turns 0 (sym (append-nil (told_by turns)))),
      )

  -- a first part was written
  in_part : (heard : List Turn) (told : List Request) (settles upto : ℕ) (written : List ℕ) → HasCome gate at_first visit replies told → told_by heard ≡ told ++ replicate settles request.Settles → upto ≤ visit.upto
      → ((later : ℕ → List ℕ) → SameUpTo upto (told_text gate.base.setup.names replies) later → Begins written (session_text later heard)) → IsTranscribedInPart at_first visit.pass heard written
  in_part heard told settles upto written c by le begins = go visit.session c.course
    where
      is : gate.base.setup.names ≡ visit.pass.gate.base.setup.names
      is = sym (names_here c.own.gate_is)

      go : (o : Option ℕ) → HasTold gate at_first visit replies o told → IsTranscribedInPart at_first visit.pass heard written
      go None course =
          let none = only_settles heard settles (by ∙ ap (λ l. l ++ replicate settles request.Settles) course.none) in
          inl (
            none,
            course.own,
            (
              session_text (told_text gate.base.setup.names replies) heard,
              nothing_told visit.pass (told_text gate.base.setup.names replies) heard none,
              begins (told_text gate.base.setup.names replies) (λ k low. refl),
            ),
          )
      go (Some s) course = inr (
        s,
        course.0,
        λ alone. (
          session_text (line_text (state_seen visit.pass) s) heard,
          transcribed gate.base.setup.names at_first visit.pass (course_of gate.base.setup.names visit replies s) told course.1 is alone heard settles by,
          begins (line_text (state_seen visit.pass) s) (λ k low. replies_are gate.base.setup.names at_first visit.pass (course_of gate.base.setup.names visit replies s) told course.1 is alone k (omega (arith, low, le))),
        ),
      )

  crowded : (subject : ℕ) (turns : List Turn) → IsCrowded visit.pass → IsOpening subject turns → IsSeen visit.pass 0 turns (refused_sessions ++ bye_line)
  crowded subject turns full opening = turned_away visit.pass subject turns full.trail full.full opening

-- ---- outcomes

module _ (gate : GateId) (at_first before : PassView) (visit : Visit) (replies : List Reply) (e : Ends) (same : at_first ≡ before) where
  named : (told : List Request) → HasCome gate at_first visit replies told → All (λ (r : Reply). NamesAnswer gate.base.setup.names r.answer) replies
  named told c = all_named gate.base.setup.names 0 visit.upto replies c.own.told

  served_here : Finished gate.base.setup.names e (seen_of gate at_first visit replies) ⊎ (IsCrowded visit.pass × TurnedAway gate.base.setup.names e (seen_of gate at_first visit replies) (refused_sessions ++ bye_line))
      → (told : List Reply) × All (λ (r : Reply). NamesAnswer gate.base.setup.names r.answer) told
      × (((f : Finished gate.base.setup.names e (replies_alone (told_text gate.base.setup.names told))) × IsTranscribed before visit.pass f.turns (session_text (told_text gate.base.setup.names told) f.turns))
      ⊎ ((a : TurnedAway gate.base.setup.names e (replies_alone (told_text gate.base.setup.names told)) (refused_sessions ++ bye_line)) × (visit.pass.own ≡ before.own) × IsSeen visit.pass 0 a.turns (refused_sessions ++ bye_line)))
  served_here (inl f) = (
    replies,
    named (told_by f.turns) f.came,
    inl (
      finished_plain gate.base.setup.names e (seen_of gate at_first visit replies) f,
      subst (λ (p : PassView). IsTranscribed p visit.pass f.turns (session_text (told_text gate.base.setup.names replies) f.turns)) same (whole gate at_first visit replies f.turns f.came),
    ),
  )
  served_here (inr a) = (
    replies,
    named [] a.1.came,
    inr (
      away_plain gate.base.setup.names e (seen_of gate at_first visit replies) (refused_sessions ++ bye_line) a.1,
      (silent gate at_first visit replies a.1.came).1.own ∙ ap (λ (p : PassView). p.own) same,
      crowded gate at_first visit replies a.1.subject a.1.turns a.0 a.1.opened,
    ),
  )

  cut_here : (fault : SessionFault) (read_failed write_failed : Bool)
      → Stopped fault gate.base.setup.names e read_failed write_failed (seen_of gate at_first visit replies) ⊎ (IsCrowded visit.pass × TurnedAwayInPart fault gate.base.setup.names e read_failed write_failed (seen_of gate at_first visit replies) (refused_sessions ++ bye_line))
      → (told : List Reply) × All (λ (r : Reply). NamesAnswer gate.base.setup.names r.answer) told
      × (((s : Stopped fault gate.base.setup.names e read_failed write_failed (replies_alone (told_text gate.base.setup.names told))) × IsTranscribedInPart before visit.pass s.heard s.written)
      ⊎ ((a : TurnedAwayInPart fault gate.base.setup.names e read_failed write_failed (replies_alone (told_text gate.base.setup.names told)) (refused_sessions ++ bye_line))
      × (visit.pass.own ≡ before.own) × IsSeen visit.pass 0 a.part.turns (refused_sessions ++ bye_line)))
  cut_here fault read_failed write_failed (inl s) = (
    replies,
    named s.told s.came,
    inl (
      stopped_plain gate.base.setup.names e (seen_of gate at_first visit replies) fault read_failed write_failed s,
      subst (λ (p : PassView). IsTranscribedInPart p visit.pass s.heard s.written) same (in_part gate at_first visit replies s.heard s.told s.settles s.upto s.written s.came s.told_is s.settled s.begins),
    ),
  )
  cut_here fault read_failed write_failed (inr a) = (
    replies,
    named [] a.1.part.came,
    inr (
      away_part_plain gate.base.setup.names e (seen_of gate at_first visit replies) fault read_failed write_failed (refused_sessions ++ bye_line) a.1,
      (silent gate at_first visit replies a.1.part.came).1.own ∙ ap (λ (p : PassView). p.own) same,
      crowded gate at_first visit replies a.1.part.subject a.1.part.turns a.0 a.1.part.opened,
    ),
  )

-- whatever was told, what the pass has gained is its own session's alone
adds_then : (gate : GateId) (at_first : PassView) (visit : Visit) (replies : List Reply) (told : List Request) → HasCome gate at_first visit replies told → AddsOneSession at_first visit.pass
adds_then gate at_first visit replies told c = go visit.session c.course
  where
    go : (o : Option ℕ) → HasTold gate at_first visit replies o told → AddsOneSession at_first visit.pass
    go None course = inl course.own
    go (Some s) course = inr (s, course.0)

-- so it spoke for no other one
pub speaks : (before after : PassView) → AddsOneSession before after → SpeaksForItsOwn before after
speaks before after (inl same) = speaks_for_none before after same
speaks before after (inr own) = own_speaks before after own.0 own.1

module _ (gate : GateId) (at_first before : PassView) (visit : Visit) (start rest first kept : Option (List ℕ)) (read_failed write_failed : Bool) (same : at_first ≡ before) where
  pub served : HasEnded gate at_first (ends start rest first kept) visit
      → IsServed gate.base.setup.names before visit.pass (record { before = start; after = rest; failed = read_failed }) (record { before = first; after = kept; failed = write_failed })
  served ended = served_here gate at_first before visit ended.0 (ends start rest first kept) same ended.1

  pub cut_short : (fault : SessionFault) → HasBroken fault gate at_first (ends start rest first kept) read_failed write_failed visit
      → IsCutShort gate.base.setup.names before visit.pass fault (record { before = start; after = rest; failed = read_failed }) (record { before = first; after = kept; failed = write_failed })
  cut_short fault ended = cut_here gate at_first before visit ended.0 (ends start rest first kept) same fault read_failed write_failed ended.1

  pub served_adds : HasEnded gate at_first (ends start rest first kept) visit → AddsOneSession before visit.pass
  served_adds ended = subst (λ (p : PassView). AddsOneSession p visit.pass) same (elim ended.1 [
    | inl f ↦ adds_then gate at_first visit ended.0 (told_by f.turns) f.came
    | inr a ↦ adds_then gate at_first visit ended.0 [] a.1.came
  ])

  pub cut_adds : (fault : SessionFault) → HasBroken fault gate at_first (ends start rest first kept) read_failed write_failed visit → AddsOneSession before visit.pass
  cut_adds fault ended = subst (λ (p : PassView). AddsOneSession p visit.pass) same (elim ended.1 [
    | inl s ↦ adds_then gate at_first visit ended.0 s.told s.came
    | inr a ↦ adds_then gate at_first visit ended.0 [] a.1.part.came
  ])
