-- A session that a fault has ended, whatever the driver: no further step of its conversation comes.
use Rattle.std.proofs.Common.{◌≡◌, ℕ, ◌≤◌, inl, inr, replicate, Bool, true, false, List, [], ◌++◌, length, refl, sym, ap, subst, ◌∙◌, append_assoc, append-nil, arith, Option, OnSome, take, drop, take-append-drop}
use Rattle.std.specs.Io.KnownBytes.{Consumes, Appends, IsAtEnd}
use Rattle.bl_work.specs.Names.{KnownNames}
use Rattle.bl_wire.specs.Lines.{lines_of, AreLines}
use Rattle.bl_wire.specs.Faults.{is_write}
use Rattle.bl_wire.specs.Texts.{session_text}
use Rattle.bl_wire.specs.Turns.{AreTurns, IsRefusal, StopsAtRefusal}
use Rattle.bl_wire.specs.declared.fault.SessionFault.{SessionFault}
use Rattle.bl_wire.specs.declared.fault.SessionFault.TheVariants.{Read, Write, TooLong, Memory, Clash}
use Rattle.bl_wire.specs.declared.turn.Turn.{Turn}
use Rattle.bl_engine.specs.Requests.{Request, Settles, told_by, SameUpTo}
use Rattle.bl_engine.specs.BlockText.{Begins}
use Rattle.bl_engine.specs.Outcome.{AreWhole, AreWholeLines, Broken, IsCause, IsPutAt, Stopped, WereHeard, is_reading}
use Rattle.bl_engine.specs.View.{ends}
use Rattle.bl_engine.specs.declared.conversation.Opening.TheVariants.{Open}
use Rattle.bl_engine.specs.declared.conversation.Conversation.{Conversation}
use Rattle.bl_engine.specs.declared.conversation.Need.TheVariants as needs
use Rattle.bl_engine.specs.declared.conversation.Stage.{Stage}
use Rattle.bl_engine.specs.declared.conversation.Stage.TheVariants as stages
use Rattle.bl_engine.specs.Conversations.{Given, need_at, is_hearing, AreSo, HasHeard, IsSoFar}
use Rattle.bl_engine.proofs.Texts.{same_refl}
use Rattle.bl_engine.specs.View.{seen}
use Rattle.bl_engine.proofs.TurnLaws.{not_refused_opened, not_refused_skipped}
use Rattle.bl_engine.proofs.LineLaws.{lines-now}
use Rattle.bl_engine.proofs.Hearings.{no_input}

-- the machine has opened the session, and answers so
abbrev pub given_by : (ℕ → List ℕ) → Given
given_by replies = record { opening = Open; replies = replies }

hearing_by : (ended : Bool) (stage : Stage) → need_at ended stage ≡ needs.Input → is_hearing stage ≡ true
hearing_by ended stages.Greets is = refl
hearing_by ended stages.Listens is = refl
hearing_by ended stages.Opens is = cc
hearing_by ended (stages.Settles closing) is = cc
hearing_by ended (stages.Tells closing) is = cc
hearing_by ended stages.Over is = cc

-- a first line that was refused is no open session
whole_not_refused : (replies : ℕ → List ℕ) (turns : List Turn) (said : List ℕ) → AreWhole replies turns said → IsRefusal turns → ⊥
whole_not_refused replies turns said (inl skips) refused = not_refused_skipped turns skips.0 refused
whole_not_refused replies turns said (inr blocks) refused = not_refused_opened blocks.subject blocks.head _ blocks.opened (subst IsRefusal blocks.split refused)

lines_are : (ended : Bool) (bytes : List ℕ) (lines : List (List ℕ)) → AreSo ended bytes lines → lines_of bytes ≡ lines
lines_are true bytes lines are = are
lines_are false bytes lines are = lines-now bytes lines are

module _ (names : KnownNames) (start rest first kept : Option (List ℕ)) (read_failed write_failed : Bool) where
  -- what was heard, where the session stopped
  module _ (conv : Conversation) (turns : List Turn) (heard : List ℕ) (cut : HasHeard names conv turns heard) (took : Consumes start rest heard)
      (end : conv.ended ≡ true → OnSome start (IsAtEnd rest)) where
    pub broken_at : (fault : SessionFault) → (conv.ended ≡ true → is_reading fault ≡ false) → IsCause fault start rest read_failed write_failed (length heard)
        → Broken fault names start rest read_failed write_failed turns
    broken_at fault own cause = record {
      bytes = cut.whole;
      part = cut.rest;
      took = subst (Consumes start rest) cut.split took;
      within = omega (arith, cut.count, ap length cut.split);
      lines = by_end conv.ended refl cut.cut;
      dropped = cut.plain;
      are = subst (λ l. AreTurns names l turns) (sym (lines_are conv.ended cut.whole cut.lines cut.cut)) cut.are;
      why = subst (IsCause fault start rest read_failed write_failed) (ap length cut.split) cause;
    }
      where
        by_end : (ended : Bool) → conv.ended ≡ ended → AreSo ended cut.whole cut.lines → AreWholeLines fault cut.whole cut.rest start rest
        by_end false is are = inl (subst (AreLines cut.whole) (sym (lines-now cut.whole cut.lines are)) are)
        by_end true is are = inr (own is, cut.none (no_input conv.ended conv.stage is), end is)

    pub nothing_behind : (f : ℕ → List ℕ) (said : List ℕ) → (is_hearing conv.stage ≡ true → AreWhole f turns said) → IsRefusal turns → cut.rest ≡ []
    nothing_behind f said quiet refused = cut.none (λ input. whole_not_refused f turns said (quiet (hearing_by conv.ended conv.stage input)) refused)

  module _ (f : ℕ → List ℕ) (Settled : ℕ → Type 0) (Came : List Request → Type 0) (upto : ℕ) (settled : Settled upto) where
    -- a part of what is told next was written, and writing failed
    pub stopped_write : (conv new : Conversation) (turns : List Turn) (asked : List Request) (heard said more : List ℕ) (much : ℕ) (cut : HasHeard names new turns heard)
        → Consumes start rest heard → (new.ended ≡ true → OnSome start (IsAtEnd rest)) → Appends first kept (said ++ take much more)
        → ((later : ℕ → List ℕ) → SameUpTo upto f later → IsSoFar (given_by later) conv turns asked said)
        → ((later : ℕ → List ℕ) → SameUpTo upto f later → IsSoFar (given_by later) new turns asked (said ++ more))
        → Came asked → read_failed ≡ false → write_failed ≡ true
        → Stopped Write names (ends start rest first kept) read_failed write_failed (seen f Settled Came)
    unfolding broken_at
    stopped_write conv new turns asked heard said more much cut took end put was now came reader writer =
        let now_is = now f (same_refl upto f) in
        record {
          turns = turns;
          read = broken_at new turns heard cut took end Write (λ ended. refl) (reader, writer);
          stops = now_is.stops;
          unread = nothing_behind new turns heard cut took end f (said ++ more) now_is.quiet;
          written = said ++ take much more;
          put = put;
          upto = upto;
          settled = settled;
          told = asked;
          came = came;
          heard = turns;
          heard_is = refl;
          settles = now_is.settles;
          told_is = now_is.asked_is;
          begins = λ later same. part_begins (session_text later turns) (now later same).begins;
          closed = λ later same.
              let blocks = (was later same).blocks in (
                (blocks.0, blocks.1, begins_more blocks.0 said (take much more) blocks.2),
                elim ((now later same).due refl) [
                  | inl ended ↦ inl (end ended)
                  | inr due ↦ inr (due.0, due.1, part_begins due.0 due.2)
                ],
              );
        }
      where
        begins_more : (a b more : List ℕ) → Begins a b → Begins a (b ++ more)
        begins_more a b more begins = (begins.0 ++ more, ap (λ l. l ++ more) begins.1 ∙ append_assoc a begins.0 more)

        part_begins : (text : List ℕ) → Begins (said ++ more) text → Begins (said ++ take much more) text
        part_begins text begins = (
          drop much more ++ begins.0,
          begins.1 ∙ ap (λ l. (said ++ l) ++ begins.0) (sym (take-append-drop much more)) ∙ ap (λ l. l ++ begins.0) (sym (append_assoc said (take much more) (drop much more)))
              ∙ append_assoc (said ++ take much more) (drop much more) begins.0,
        )

    -- Nothing more was written. Of what was read these turns were heard, and all blocks are whole but perhaps one that the last line closes.
    pub stopped_quiet : (fault : SessionFault) (conv : Conversation) (turns front last hears : List Turn) (told : List Request) (settles : ℕ) (heard said : List ℕ)
        (cut : HasHeard names conv turns heard) → Consumes start rest heard → (conv.ended ≡ true → OnSome start (IsAtEnd rest)) → Appends first kept said
        → is_write fault ≡ false → (conv.ended ≡ true → is_reading fault ≡ false) → IsCause fault start rest read_failed write_failed (length heard)
        → turns ≡ front ++ last → length last ≤ 1 → (is_reading fault ≡ true → last ≡ []) → WereHeard fault hears turns
        → ((later : ℕ → List ℕ) → SameUpTo upto f later → AreWhole later front said) → ((later : ℕ → List ℕ) → SameUpTo upto f later → Begins said (session_text later hears))
        → StopsAtRefusal turns → (IsRefusal turns → cut.rest ≡ []) → Came told → told_by hears ≡ told ++ replicate settles Settles
        → Stopped fault names (ends start rest first kept) read_failed write_failed (seen f Settled Came)
    unfolding broken_at
    stopped_quiet fault conv turns front last hears told settles heard said cut took end put own no_reading cause split few none lacks whole begins stops unread came told_is = record {
      turns = turns;
      read = broken_at conv turns heard cut took end fault no_reading cause;
      stops = stops;
      unread = unread;
      written = said;
      put = put;
      upto = upto;
      settled = settled;
      told = told;
      came = came;
      heard = hears;
      heard_is = lacks;
      settles = settles;
      told_is = told_is;
      begins = begins;
      closed = λ later same. by_fault fault own none later (whole later same);
    }
      where
        all_of : (later : ℕ → List ℕ) → last ≡ [] → AreWhole later front said → AreWhole later turns said
        all_of later nothing are = subst (λ l. AreWhole later l said) (sym (split ∙ ap (λ l. front ++ l) nothing ∙ append-nil front)) are

        by_fault : (fault : SessionFault) → is_write fault ≡ false → (is_reading fault ≡ true → last ≡ []) → (later : ℕ → List ℕ) → AreWhole later front said
            → IsPutAt fault later start rest turns hears said
        by_fault Read own none later are = all_of later (none refl) are
        by_fault TooLong own none later are = all_of later (none refl) are
        by_fault Memory own none later are = (front, last, few, split, are)
        by_fault Clash own none later are = (front, last, few, split, are)
        by_fault Write own none later are = cc
