-- How the conversation of a session over a gate ends: when all was said, or by a fault, or since there are as many sessions as there may be.
use Rattle.std.proofs.Common.{◌≡◌, ℕ, ◌≤◌, inl, inr, ◌⊎◌, Bool, true, false, not, List, [], ◌∷◌, ◌++◌, length, refl, sym, ap, subst, ◌∙◌, arith, Option, Some, append-nil, append_assoc, take, drop, take-append-drop}
use Rattle.std.specs.Io.KnownBytes.{Appends, Keeps}
use Rattle.std.proofs.KnownBytes.{Appends-kept, Appends-trans, Keeps-refl}
use Rattle.std.proofs.Math.Seq.{take-append_seam}
use Rattle.bl_gate.specs.Gates.{GateId, PassView}
use Rattle.bl_wire.specs.Turns.{AreSkips, IsOpening}
use Rattle.bl_wire.specs.declared.fault.SessionFault.{SessionFault}
use Rattle.bl_wire.specs.declared.fault.SessionFault.TheVariants.{Write, Memory, Clash}
use Rattle.bl_wire.specs.declared.turn.Turn.{Turn}
use Rattle.bl_wire.specs.declared.turn.Turn.TheVariants as turns
use Rattle.bl_engine.specs.declared.request.Request.{Request}
use Rattle.bl_engine.specs.declared.request.Request.TheVariants.{Settles}
use Rattle.bl_engine.specs.BlockText.{Begins}
use Rattle.bl_engine.specs.Outcome.{is_reading}
use Rattle.bl_wire.specs.Faults.{is_write}
use Rattle.bl_engine.specs.Outcome.{Finished, IsCause, IsCut, TurnedAway, TurnedAwayInPart}
use Rattle.bl_engine.specs.View.{Ends, ends}
use Rattle.bl_engine.specs.Driving.{HasListened, IsUnheard, ToldPart, with_line}
use Rattle.bl_engine.specs.declared.conversation.Opening.TheVariants.{Open, Full}
use Rattle.bl_engine.specs.declared.conversation.Conversation.{Conversation}
use Rattle.bl_engine.specs.declared.conversation.Need.TheVariants as needs
use Rattle.bl_engine.specs.declared.conversation.Stage.{Stage}
use Rattle.bl_engine.specs.declared.conversation.Stage.TheVariants as stages
use Rattle.bl_engine.specs.Conversations.{Given, Talk, AreSo, HasHeard, IsAt, full_text, is_hearing, need_of, talk_of}
use Rattle.bl_engine.proofs.Breaking.{broken_asked, broken_before, broken_handing, broken_listening, broken_quiet, broken_settled, broken_telling, driven_finished, driven_kept}
use Rattle.bl_engine.proofs.Conversing.{full_opens}
use Rattle.bl_engine.proofs.Driving.{SpokeWith, hearing_by, listened_narrow, spoke_with}
use Rattle.bl_engine.proofs.Endings.{all_said, so_far_at}
use Rattle.bl_serve.specs.Told.{told_text}
use Rattle.bl_hall.specs.declared.reply.Reply.{Reply}
use Rattle.bl_serve.specs.Talks.{HasBroken, HasEnded, HasStopped, full_words, IsAsking, IsFull, IsTalking, IsTurnedOff, IsUnderWay, MayGive, seen_of}
use Rattle.bl_serve.specs.Visits.{GoesOn, GoesOnWith, HasCome}
use Rattle.bl_serve.specs.declared.visit.Visit.{Visit}
use Rattle.bl_serve.proofs.TalkLaws.{may_later, may_less, still_same}

-- ---- there are as many sessions as there may be

abbrev full_given : Given
full_given = record { opening = Full; replies = λ k. [] }

no_opening : (subject : ℕ) (turns : List Turn) → AreSkips turns → IsOpening subject turns → ⊥
no_opening subject [] skips opens = opens
no_opening subject (turns.Skip ∷ turns) skips opens = no_opening subject turns skips opens
no_opening subject (turns.Wait ∷ turns) skips opens = skips
no_opening subject (turns.Greets named ∷ turns) skips opens = skips
no_opening subject (turns.Bad fault ∷ turns) skips opens = skips
no_opening subject (turns.Ask work ∷ turns) skips opens = skips

not_hearing : (stage : Stage) (left : ℕ → List ℕ) (talk : Talk) (turns : List Turn) (asked : List Request) (said : List ℕ) (subject : ℕ) → IsOpening subject turns
    → IsAt stage full_given left talk turns asked said → is_hearing stage ≡ false
not_hearing stages.Greets left talk turns asked said subject opened at = absurd (no_opening subject turns at.skips opened)
not_hearing stages.Opens left talk turns asked said subject opened at = refl
not_hearing stages.Listens left talk turns asked said subject opened at = let other : Full ≡ Open = at.is_open in cc
not_hearing (stages.Settles closing) left talk turns asked said subject opened at = refl
not_hearing (stages.Tells closing) left talk turns asked said subject opened at = refl
not_hearing stages.Over left talk turns asked said subject opened at = refl

begins_take : (part text : List ℕ) → Begins part text → part ≡ take (length part) text
begins_take part text begins = sym (ap (take (length part)) begins.1 ∙ take-append_seam part begins.0)

part_begins : (said more text : List ℕ) (much : ℕ) → Begins (said ++ more) text → Begins (said ++ take much more) text
part_begins said more text much begins = (
  drop much more ++ begins.0,
  begins.1 ∙ ap (λ l. (said ++ l) ++ begins.0) (sym (take-append-drop much more)) ∙ ap (λ l. l ++ begins.0) (sym (append_assoc said (take much more) (drop much more)))
      ∙ append_assoc (said ++ take much more) (drop much more) begins.0,
)

module _ (gate : GateId) (first : PassView) (start r written w : Option (List ℕ)) (conv : Conversation) (visit : Visit) (i : IsTurnedOff gate first (ends start r written w) conv visit) where
  -- it hears no more
  pub off_quiet : (need_of conv ≡ needs.Input) ⊎ (need_of conv ≡ needs.End) → ⊥
  off_quiet need =
      let hears : is_hearing conv.stage ≡ true = hearing_by conv.ended conv.stage need in
      let not' = not_hearing conv.stage (λ k. []) (talk_of conv) i.so_far.turns i.so_far.asked i.so_far.said i.subject i.opened (i.driven.point full_given (λ k. []) refl) in
      cc

  -- so much of the words was written
  away : (w' : Option (List ℕ)) (text : List ℕ) → Appends written w' text → TurnedAway gate.base.setup.names (ends start r written w') (seen_of gate first visit []) text
  away w' text put = record {
    subject = i.subject;
    turns = i.so_far.turns;
    opened = i.opened;
    again = not conv.ended;
    left = conv.left;
    read = record {
      bytes = i.so_far.heard;
      lines = cut.lines;
      cut = by_end conv.ended refl (subst (λ b. AreSo conv.ended b cut.lines) (sym all) cut.cut);
      took = i.driven.took;
      count = cut.count;
      are = cut.are;
    };
    put = put;
    came = i.come;
  }
    where
      cut : HasHeard gate.base.setup.names conv i.so_far.turns i.so_far.heard
      cut = i.driven.cut

      all : i.so_far.heard ≡ i.driven.cut.whole
      all = i.driven.cut.split ∙ ap (λ l. i.driven.cut.whole ++ l) (i.driven.cut.none (λ input. off_quiet (inl input))) ∙ append-nil i.driven.cut.whole

      by_end : (ended : Bool) → conv.ended ≡ ended → AreSo ended i.so_far.heard i.driven.cut.lines → IsCut (not ended) i.so_far.heard i.driven.cut.lines start r
      by_end true is are = (are, i.driven.end is)
      by_end false is are = are

  in_part : (w' : Option (List ℕ)) (part : List ℕ) → Begins part full_words → Appends written w' part
      → TurnedAwayInPart Write gate.base.setup.names (ends start r written w') false true (seen_of gate first visit []) full_words
  in_part w' part begins put = record {
    much = length part;
    part = away w' (take (length part) full_words) (subst (Appends written w') (begins_take part full_words begins) put);
    is_write = refl;
    read_fine = refl;
    write_marked = refl;
  }

  text_is : full_text i.so_far.turns ≡ full_words
  text_is = (full_opens i.subject i.so_far.turns i.opened).0

  -- all of them were
  said_is : need_of conv ≡ needs.Over → i.so_far.said ≡ full_words
  said_is over =
      (all_said gate.base.setup.names full_given (λ k. []) conv i.so_far.turns i.so_far.asked i.so_far.heard i.so_far.said
      (record { cut = i.driven.cut; point = i.driven.point full_given (λ k. []) refl }) over).said_is
      ∙ text_is

  pub off_ended : (w' : Option (List ℕ)) → need_of conv ≡ needs.Over → Keeps w w' → TurnedAway gate.base.setup.names (ends start r written w') (seen_of gate first visit []) full_words
  off_ended w' over kept = away w' full_words (subst (Appends written w') (said_is over) (Appends-kept written w w' i.so_far.said i.driven.put kept))

  -- but they could not be handed on
  pub off_unhanded : (w' : Option (List ℕ)) → need_of conv ≡ needs.Over → Keeps w w'
      → TurnedAwayInPart Write gate.base.setup.names (ends start r written w') false true (seen_of gate first visit []) full_words
  off_unhanded w' over kept =
      in_part w' full_words ([], sym (append-nil full_words)) (subst (Appends written w') (said_is over) (Appends-kept written w w' i.so_far.said i.driven.put kept))

  -- a first part of them was
  pub off_told_part : (w' : Option (List ℕ)) → ToldPart (λ k. []) conv w w' → TurnedAwayInPart Write gate.base.setup.names (ends start r written w') false true (seen_of gate first visit []) full_words
  off_told_part w' part =
      let x = i.so_far in
      let middle = part.told gate.base.setup.names full_given x.turns x.asked x.heard x.said
      (spoke_with gate.base.setup.names start r written w IsFull conv part.new x i.driven (λ k. []) full_given refl)
      in
      let after = part.says gate.base.setup.names full_given x.turns x.asked x.heard (x.said ++ part.before_more) middle in
      let begins : Begins ((x.said ++ part.before_more) ++ part.more) (full_text x.turns) =
      (so_far_at full_given part.left part.new x.turns x.asked ((x.said ++ part.before_more) ++ part.more) after.point).begins
      in
      in_part w' ((x.said ++ part.before_more) ++ take part.much part.more)
      (part_begins (x.said ++ part.before_more) part.more full_words part.much (subst (Begins ((x.said ++ part.before_more) ++ part.more)) text_is begins))
      (subst (Appends written w') (sym (append_assoc x.said part.before_more (take part.much part.more))) (Appends-trans written w w' x.said (part.before_more ++ take part.much part.more) i.driven.put part.put))

-- ---- a session that is served

-- the same, as the flags are
pub stopped_as : (fault : SessionFault) (gate : GateId) (first : PassView) (e : Ends) (visit : Visit) (reader writer reader' writer' : Bool) → reader ≡ reader' → writer ≡ writer'
    → HasStopped fault gate first e reader writer visit → HasStopped fault gate first e reader' writer' visit
stopped_as fault gate first e visit reader writer reader' writer' a b s =
    subst (λ f. HasStopped fault gate first e f writer' visit) a (subst (λ f. HasStopped fault gate first e reader f visit) b s)

pub broken_as : (fault : SessionFault) (gate : GateId) (first : PassView) (e : Ends) (visit : Visit) (reader writer reader' writer' : Bool) → reader ≡ reader' → writer ≡ writer'
    → HasBroken fault gate first e reader writer visit → HasBroken fault gate first e reader' writer' visit
broken_as fault gate first e visit reader writer reader' writer' a b s =
    subst (λ f. HasBroken fault gate first e f writer' visit) a (subst (λ f. HasBroken fault gate first e reader f visit) b s)

pub stops_broken : (fault : SessionFault) (gate : GateId) (first : PassView) (e : Ends) (visit : Visit) (reader writer : Bool) → HasStopped fault gate first e reader writer visit → HasBroken fault gate first e reader writer visit
stops_broken fault gate first e visit reader writer s = (s.0, inl s.1)

module _ (gate : GateId) (first : PassView) (start r written w : Option (List ℕ)) (conv : Conversation) (visit : Visit) where
  -- what was asked last was not done
  pub talk_unasked : (fault : SessionFault) (request : Option Request) (t : Visit) → (fault ≡ Memory) ⊎ (fault ≡ Clash)
      → IsAsking gate first (ends start r written w) conv request visit → t.session ≡ visit.session → t.upto ≡ visit.upto → GoesOn gate first visit t
      → HasStopped fault gate first (ends start r written w) false false t
  talk_unasked fault request t why a session upto kept = elim why [
    | inl is ↦ subst (λ f. HasStopped f gate first (ends start r written w) false false t) (sym is) (stop Memory refl refl (refl, refl))
    | inr is ↦ subst (λ f. HasStopped f gate first (ends start r written w) false false t) (sym is) (stop Clash refl refl (refl, refl))
  ]
    where
      on : HasListened gate.base.setup.names (ends start r written w) (MayGive gate.base.setup.names t a.replies) conv request a.so_far
      on = listened_narrow gate.base.setup.names (ends start r written w) (MayGive gate.base.setup.names visit a.replies) (MayGive gate.base.setup.names t a.replies) conv request a.so_far
          (may_less gate.base.setup.names visit t a.replies a.replies (still_same gate.base.setup.names visit t a.replies session upto)) a.on

      stop : (fault : SessionFault) → is_write fault ≡ false → is_reading fault ≡ false → IsCause fault start r false false 0 → HasStopped fault gate first (ends start r written w) false false t
      stop fault own reading cause = (
        a.replies,
        broken_asked gate.base.setup.names start r written w (MayGive gate.base.setup.names t a.replies) (told_text gate.base.setup.names a.replies) (λ n. n ≤ t.upto) (HasCome gate first t a.replies) t.upto (omega arith)
            (may_later gate.base.setup.names t a.replies) fault false false conv request a.so_far on (kept a.replies a.so_far.asked a.done.come) own reading cause,
      )

  -- the block was not answered
  pub talk_unsettled : (t : Visit) → IsAsking gate first (ends start r written w) conv (Some Settles) visit → t.session ≡ visit.session → t.upto ≡ visit.upto → GoesOn gate first visit t
      → HasStopped Memory gate first (ends start r written w) false false t
  talk_unsettled t a session upto kept = (
    a.replies,
    broken_settled gate.base.setup.names start r written w (MayGive gate.base.setup.names t a.replies) (told_text gate.base.setup.names a.replies) (λ n. n ≤ t.upto) (HasCome gate first t a.replies) t.upto (omega arith)
        (may_later gate.base.setup.names t a.replies) Memory false false conv a.so_far
        (listened_narrow gate.base.setup.names (ends start r written w) (MayGive gate.base.setup.names visit a.replies) (MayGive gate.base.setup.names t a.replies) conv (Some Settles) a.so_far
        (may_less gate.base.setup.names visit t a.replies a.replies (still_same gate.base.setup.names visit t a.replies session upto)) a.on)
        (inl (kept a.replies a.so_far.asked a.done.come)) refl refl (λ n. (refl, refl)),
  )

  -- writing failed while the block was told
  pub talk_untold : (t : Visit) (block : List Reply) (mid : Conversation) (left : ℕ → List ℕ) (w' : Option (List ℕ)) (a : IsAsking gate first (ends start r written w) conv (Some Settles) visit) → mid.ended ≡ conv.ended
      → SpokeWith gate.base.setup.names (MayGive gate.base.setup.names t (a.replies ++ block)) left mid (with_line a.so_far a.on.bytes a.on.more (Settles ∷ []))
      → GoesOnWith gate first visit t block Settles → ToldPart left mid w w' → HasStopped Write gate first (ends start r written w') false true t
  talk_untold t block mid left w' a ended spoke come part = (
    a.replies ++ block,
    broken_telling gate.base.setup.names start r written w (MayGive gate.base.setup.names t (a.replies ++ block)) (told_text gate.base.setup.names (a.replies ++ block)) (λ n. n ≤ t.upto)
        (HasCome gate first t (a.replies ++ block)) t.upto (omega arith) (may_later gate.base.setup.names t (a.replies ++ block)) left mid (with_line a.so_far a.on.bytes a.on.more (Settles ∷ [])) w' false true
        a.on.now.took a.on.now.put (λ is. a.on.now.end (sym ended ∙ is)) spoke (come a.replies a.so_far.asked a.done.come) part refl refl,
  )

  module _ (i : IsTalking gate first (ends start r written w) conv visit) where
    -- nothing was heard
    pub talk_unheard : (fault : SessionFault) (r' w' : Option (List ℕ)) (read_failed write_failed : Bool) → need_of conv ≡ needs.Input → Keeps r r' → Keeps w w'
        → IsUnheard fault read_failed write_failed conv.left r r' → HasStopped fault gate first (ends start r' written w') read_failed write_failed visit
    talk_unheard fault r' w' read_failed write_failed need still kept why = (
      i.replies,
      broken_listening gate.base.setup.names start r written w (MayGive gate.base.setup.names visit i.replies) (told_text gate.base.setup.names i.replies) (λ n. n ≤ visit.upto) (HasCome gate first visit i.replies) visit.upto (omega arith)
          (may_later gate.base.setup.names visit i.replies) conv i.so_far i.driven i.done.come fault r' w' read_failed write_failed need still kept why,
    )

    -- the end of the input was not
    pub talk_unended : need_of conv ≡ needs.End → HasStopped Memory gate first (ends start r written w) false false visit
    talk_unended need = (
      i.replies,
      broken_quiet gate.base.setup.names start r written w (MayGive gate.base.setup.names visit i.replies) (told_text gate.base.setup.names i.replies) (λ n. n ≤ visit.upto) (HasCome gate first visit i.replies) visit.upto (omega arith)
          (may_later gate.base.setup.names visit i.replies) conv i.so_far i.driven i.done.come Memory r w false false (Keeps-refl r) (Keeps-refl w) refl (λ is. refl) (inr need) (refl, refl),
    )

    -- writing failed while words were told
    pub talk_told_part : (w' : Option (List ℕ)) → ToldPart (λ k. []) conv w w' → HasStopped Write gate first (ends start r written w') false true visit
    talk_told_part w' part = (
      i.replies,
      broken_telling gate.base.setup.names start r written w (MayGive gate.base.setup.names visit i.replies) (told_text gate.base.setup.names i.replies) (λ n. n ≤ visit.upto) (HasCome gate first visit i.replies) visit.upto (omega arith)
          (may_later gate.base.setup.names visit i.replies) (λ k. []) conv i.so_far w' false true i.driven.took i.driven.put i.driven.end
          (spoke_with gate.base.setup.names start r written w (MayGive gate.base.setup.names visit i.replies) conv part.new i.so_far i.driven (λ k. [])) i.done.come part refl refl,
    )

    pub talk_unhanded : (w' : Option (List ℕ)) → Keeps w w' → HasStopped Write gate first (ends start r written w') false true visit
    talk_unhanded w' kept = (
      i.replies,
      broken_handing gate.base.setup.names start r written w (MayGive gate.base.setup.names visit i.replies) (told_text gate.base.setup.names i.replies) (λ n. n ≤ visit.upto) (HasCome gate first visit i.replies) visit.upto (omega arith)
          (may_later gate.base.setup.names visit i.replies) conv i.so_far i.driven i.done.come r w' false true (Keeps-refl r) kept refl refl,
    )

    pub talk_ended : (w' : Option (List ℕ)) → need_of conv ≡ needs.Over → Keeps w w' → Finished gate.base.setup.names (ends start r written w') (seen_of gate first visit i.replies)
    talk_ended w' over kept =
        driven_finished gate.base.setup.names start r written w' (MayGive gate.base.setup.names visit i.replies) (told_text gate.base.setup.names i.replies) (λ n. n ≤ visit.upto) (HasCome gate first visit i.replies) visit.upto (omega arith)
        (may_later gate.base.setup.names visit i.replies) conv i.so_far
        (driven_kept gate.base.setup.names start r written w w' (MayGive gate.base.setup.names visit i.replies) conv i.so_far kept i.driven) i.done.come over

-- there was no memory to begin
pub talk_before : (gate : GateId) (first : PassView) (start written : Option (List ℕ)) (visit : Visit) → HasCome gate first visit [] []
    → HasStopped Memory gate first (ends start start written written) false false visit
talk_before gate first start written visit come = (
  [],
  broken_before gate.base.setup.names start written (told_text gate.base.setup.names []) (λ n. n ≤ visit.upto) (HasCome gate first visit []) false false (omega arith) come refl refl,
)

-- ---- a conversation between two waits

module _ (gate : GateId) (first : PassView) (start r written w : Option (List ℕ)) (conv : Conversation) (visit : Visit) (i : IsUnderWay gate first (ends start r written w) conv visit) where
  -- it hears lines of a session that is served
  pub listens_on : (need_of conv ≡ needs.Input) ⊎ (need_of conv ≡ needs.End) → IsTalking gate first (ends start r written w) conv visit
  listens_on need = elim i [ inl on ↦ on | inr off ↦ absurd (off_quiet gate first start r written w conv visit off need) ]

  pub ends_so : (w' : Option (List ℕ)) → need_of conv ≡ needs.Over → Keeps w w' → HasEnded gate first (ends start r written w') visit
  ends_so w' over kept = elim i [
    | inl on ↦ (on.replies, inl (talk_ended gate first start r written w conv visit on w' over kept))
    | inr off ↦ ([], inr (off.crowded, off_ended gate first start r written w conv visit off w' over kept))
  ]

  pub breaks_unhanded : (w' : Option (List ℕ)) → need_of conv ≡ needs.Over → Keeps w w' → HasBroken Write gate first (ends start r written w') false true visit
  breaks_unhanded w' over kept = elim i [
    | inl on ↦ stops_broken Write gate first (ends start r written w') visit false true (talk_unhanded gate first start r written w conv visit on w' kept)
    | inr off ↦ ([], inr (off.crowded, off_unhanded gate first start r written w conv visit off w' over kept))
  ]

  pub breaks_told : (w' : Option (List ℕ)) → ToldPart (λ k. []) conv w w' → HasBroken Write gate first (ends start r written w') false true visit
  breaks_told w' part = elim i [
    | inl on ↦ stops_broken Write gate first (ends start r written w') visit false true (talk_told_part gate first start r written w conv visit on w' part)
    | inr off ↦ ([], inr (off.crowded, off_told_part gate first start r written w conv visit off w' part))
  ]
