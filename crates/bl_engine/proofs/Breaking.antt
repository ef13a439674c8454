-- How a session ends that a driver serves: when all was said, or by a fault.
use Rattle.std.proofs.Common.{◌≡◌, ℕ, suc, inl, inr, ◌⊎◌, replicate, Bool, true, false, List, [], ◌∷◌, ◌++◌, length, refl, sym, subst, ◌∙◌, append_assoc, append-nil, arith, Option, Some, None, OnSome, take}
use Rattle.std.specs.Io.KnownBytes.{Consumes, Appends, IsAtEnd, Keeps}
use Rattle.std.proofs.KnownBytes.{Consumes-nil, Consumes-kept, Appends-nil, Appends-trans, Appends-kept}
use Rattle.std.proofs.lemmas.List.Elements.{All-nil}
use Rattle.bl_work.specs.Names.{KnownNames}
use Rattle.bl_wire.specs.Lines.{lines_of, AreLines}
use Rattle.bl_wire.specs.Faults.{is_write}
use Rattle.bl_wire.specs.Reads.{HasMore}
use Rattle.bl_wire.specs.Texts.{session_text}
use Rattle.bl_wire.specs.Turns.{IsRefusal}
use Rattle.bl_wire.specs.declared.fault.SessionFault.{SessionFault}
use Rattle.bl_wire.specs.declared.fault.SessionFault.TheVariants.{Read, Write, TooLong, Memory, Clash}
use Rattle.bl_wire.specs.declared.turn.Turn.{Turn}
use Rattle.bl_engine.specs.Requests.{Request, Settles, SameUpTo, told_by}
use Rattle.bl_engine.specs.Outcome.{Finished, IsCause, LacksTheLast, Stopped, WereHeard, is_reading}
use Rattle.bl_engine.specs.View.{ends}
use Rattle.bl_engine.specs.Driving.{Exchange, HasListened, IsDriven, IsUnheard, ToldPart}
use Rattle.bl_engine.specs.declared.conversation.Closing.{Closing}
use Rattle.bl_engine.specs.declared.conversation.Closing.TheVariants as closings
use Rattle.bl_engine.specs.declared.conversation.Conversation.{Conversation}
use Rattle.bl_engine.specs.declared.conversation.Need.TheVariants as needs
use Rattle.bl_engine.specs.Conversations.{Given, AreSo, IsAt, IsSoFar, IsWhy, Spoke, asks, need_of, talk_of}
use Rattle.bl_engine.proofs.LineLaws.{AreLines-nil}
use Rattle.bl_engine.specs.View.{seen}
use Rattle.bl_engine.proofs.Hearings.{no_input}
use Rattle.bl_engine.proofs.Endings.{all_said, so_far_at}
use Rattle.bl_engine.proofs.Texts.{same_refl}
use Rattle.bl_engine.proofs.Stoppings.{given_by, nothing_behind, stopped_quiet, stopped_write}
use Rattle.bl_engine.proofs.Driving.{SpokeWith, hearing_by}

-- more is left where nothing was taken since
more_on : (a b c : Option (List ℕ)) (bs : List ℕ) → Consumes a b bs → OnSome b (HasMore c) → OnSome a (HasMore c)
more_on None b c bs moved more = tt
more_on (Some xs) None c bs moved more = absurd moved
more_on (Some xs) (Some ys) c bs moved more = more

end_kept : (a b c : Option (List ℕ)) (bs : List ℕ) → Consumes a b bs → Keeps b c → OnSome a (IsAtEnd b) → OnSome a (IsAtEnd c)
end_kept None b c bs moved kept end = tt
end_kept (Some xs) None c bs moved kept end = absurd moved
end_kept (Some xs) (Some ys) None bs moved kept end = absurd kept
end_kept (Some xs) (Some ys) (Some zs) bs moved kept end = kept ∙ end

-- all lines were heard, whatever the fault
all_heard : (fault : SessionFault) (turns : List Turn) → WereHeard fault turns turns
all_heard Read turns = refl
all_heard Write turns = refl
all_heard TooLong turns = refl
all_heard Memory turns = ([], omega arith, sym (append-nil turns))
all_heard Clash turns = ([], omega arith, sym (append-nil turns))

-- or, where no end failed, all but perhaps the last
few_heard : (fault : SessionFault) (heard turns : List Turn) → is_write fault ≡ false → is_reading fault ≡ false → LacksTheLast heard turns → WereHeard fault heard turns
few_heard Read heard turns own other lacks = cc
few_heard Write heard turns own other lacks = cc
few_heard TooLong heard turns own other lacks = cc
few_heard Memory heard turns own other lacks = lacks
few_heard Clash heard turns own other lacks = lacks

-- what was heard is a front of what was read
pub heard_front : (fault : SessionFault) (heard turns : List Turn) → WereHeard fault heard turns → (last : List Turn) × (turns ≡ heard ++ last)
heard_front Read heard turns are = ([], sym are ∙ sym (append-nil heard))
heard_front Write heard turns are = ([], sym are ∙ sym (append-nil heard))
heard_front TooLong heard turns are = ([], sym are ∙ sym (append-nil heard))
heard_front Memory heard turns are = (are.0, are.2)
heard_front Clash heard turns are = (are.0, are.2)

-- a fault that is no reading one comes with one line more at most
own_fault : (fault : SessionFault) → is_reading fault ≡ false → is_reading fault ≡ true → (last : List Turn) → last ≡ []
own_fault fault other reading last = let bad : false ≡ true = sym other ∙ reading in cc

module _ (names : KnownNames) (start r first w : Option (List ℕ)) (M : Given → Type 0) (f : ℕ → List ℕ) (Settled : ℕ → Type 0) (Came : List Request → Type 0)
    (upto : ℕ) (settled : Settled upto) (may : (later : ℕ → List ℕ) → SameUpTo upto f later → M (given_by later)) where
  later_so_far : (conv : Conversation) (left : ℕ → List ℕ) (turns : List Turn) (asked : List Request) (said : List ℕ)
      → ((given : Given) → M given → IsAt conv.stage given left (talk_of conv) turns asked said)
      → (later : ℕ → List ℕ) → SameUpTo upto f later → IsSoFar (given_by later) conv turns asked said
  later_so_far conv left turns asked said at later same = so_far_at (given_by later) left conv turns asked said (at (given_by later) (may later same))

  module _ (conv : Conversation) (x : Exchange) (was : IsDriven names (ends start r first w) M conv x) (came : Came x.asked) where
    -- nothing more was heard
    pub broken_quiet : (fault : SessionFault) (r' w' : Option (List ℕ)) (read_failed write_failed : Bool) → Keeps r r' → Keeps w w' → is_write fault ≡ false → (conv.ended ≡ true → is_reading fault ≡ false)
        → (need_of conv ≡ needs.Input) ⊎ (need_of conv ≡ needs.End) → IsCause fault start r' read_failed write_failed (length x.heard)
        → Stopped fault names (ends start r' first w') read_failed write_failed (seen f Settled Came)
    broken_quiet fault r' w' read_failed write_failed kept put own no_reading need cause =
        let now = later_so_far conv (λ k. []) x.turns x.asked x.said (λ given ok. was.point given (λ k. []) ok) in
        let now_is = now f (same_refl upto f) in
        let hearing = hearing_by conv.ended conv.stage need in
        let took : Consumes start r' x.heard = Consumes-kept start r r' x.heard was.took kept in
        let end : conv.ended ≡ true → OnSome start (IsAtEnd r') = λ is. end_kept start r r' x.heard was.took kept (was.end is) in
        stopped_quiet names start r' first w' read_failed write_failed f Settled Came upto settled fault conv x.turns x.turns [] x.turns x.asked now_is.settles x.heard x.said was.cut took end
        (Appends-kept first w w' x.said was.put put) own no_reading cause (sym (append-nil x.turns)) (omega arith) (λ _. refl) (all_heard fault x.turns)
        (λ later same. (now later same).quiet hearing) (λ later same. (now later same).begins) now_is.stops
        (nothing_behind names start r' first w' read_failed write_failed conv x.turns x.heard was.cut took end f x.said now_is.quiet) came now_is.asked_is

    -- what was written could not be handed on
    pub broken_handing : (r' w' : Option (List ℕ)) (read_failed write_failed : Bool) → Keeps r r' → Keeps w w' → read_failed ≡ false → write_failed ≡ true
        → Stopped Write names (ends start r' first w') read_failed write_failed (seen f Settled Came)
    broken_handing r' w' read_failed write_failed still kept reader writer =
        let took : Consumes start r' x.heard = Consumes-kept start r r' x.heard was.took still in
        let end : conv.ended ≡ true → OnSome start (IsAtEnd r') = λ is. end_kept start r r' x.heard was.took still (was.end is) in
        let now = later_so_far conv (λ k. []) x.turns x.asked x.said (λ given ok. was.point given (λ k. []) ok) in
        let put : Appends first w' (x.said ++ []) = subst (Appends first w') (sym (append-nil x.said)) (Appends-kept first w w' x.said was.put kept) in
        stopped_write names start r' first w' read_failed write_failed f Settled Came upto settled conv conv x.turns x.asked x.heard x.said [] 0 was.cut took end put
        now (λ later same. subst (IsSoFar (given_by later) conv x.turns x.asked) (sym (append-nil x.said)) (now later same)) came reader writer

    -- nothing was heard
    pub broken_listening : (fault : SessionFault) (r' w' : Option (List ℕ)) (read_failed write_failed : Bool) → need_of conv ≡ needs.Input → Keeps r r' → Keeps w w'
        → IsUnheard fault read_failed write_failed conv.left r r' → Stopped fault names (ends start r' first w') read_failed write_failed (seen f Settled Came)
    broken_listening Read r' w' read_failed write_failed need still kept why = broken_quiet Read r' w' read_failed write_failed still kept refl (λ is. absurd (no_input conv.ended conv.stage is need)) (inl need) why
    broken_listening Write r' w' read_failed write_failed need still kept why = broken_handing r' w' read_failed write_failed still kept why.0 why.1
    broken_listening TooLong r' w' read_failed write_failed need still kept why =
        broken_quiet TooLong r' w' read_failed write_failed still kept refl (λ is. absurd (no_input conv.ended conv.stage is need)) (inl need)
        (why.0, why.1, omega (arith, was.cut.count, why.2), more_on start r r' x.heard was.took why.3)
    broken_listening Memory r' w' read_failed write_failed need still kept why = broken_quiet Memory r' w' read_failed write_failed still kept refl (λ is. refl) (inl need) why
    broken_listening Clash r' w' read_failed write_failed need still kept why = absurd why

  -- what was asked last was not done
  pub broken_asked : (fault : SessionFault) (read_failed write_failed : Bool) (conv : Conversation) (request : Option Request) (x : Exchange)
      → HasListened names (ends start r first w) M conv request x → Came x.asked → is_write fault ≡ false → is_reading fault ≡ false → IsCause fault start r read_failed write_failed 0
      → Stopped fault names (ends start r first w) read_failed write_failed (seen f Settled Came)
  broken_asked fault read_failed write_failed conv request x on came own no_reading cause =
      let turns = x.turns ++ on.more in
      let heard = x.heard ++ on.bytes in
      let before = later_so_far on.old (λ k. []) x.turns x.asked x.said (λ given ok. on.before given (λ k. []) ok) in
      let now = later_so_far conv (λ k. []) turns (x.asked ++ asks request) x.said (λ given ok. on.now.point given (λ k. []) ok) in
      let before_is = before f (same_refl upto f) in
      let now_is = now f (same_refl upto f) in
      stopped_quiet names start r first w read_failed write_failed f Settled Came upto settled fault conv turns x.turns on.more x.turns x.asked before_is.settles heard x.said
      on.now.cut on.now.took on.now.end on.now.put own (λ _. no_reading) (cause_at fault no_reading cause (length heard)) refl on.few (λ is. own_fault fault no_reading is on.more) (few_heard fault x.turns (x.turns ++ on.more) own no_reading (on.more, on.few, refl))
      (λ later same. (before later same).quiet on.hearing) (λ later same. (before later same).begins) now_is.stops
      (nothing_behind names start r first w read_failed write_failed conv turns heard on.now.cut on.now.took on.now.end f x.said now_is.quiet) came before_is.asked_is
    where
      cause_at : (fault : SessionFault) → is_reading fault ≡ false → IsCause fault start r read_failed write_failed 0 → (n : ℕ) → IsCause fault start r read_failed write_failed n
      cause_at Read other cause n = cc
      cause_at Write other cause n = cause
      cause_at TooLong other cause n = cc
      cause_at Memory other cause n = cause
      cause_at Clash other cause n = cause

  -- the block was not answered
  pub broken_settled : (fault : SessionFault) (read_failed write_failed : Bool) (conv : Conversation) (x : Exchange)
      → HasListened names (ends start r first w) M conv (Some Settles) x → Came x.asked ⊎ Came (x.asked ++ Settles ∷ []) → is_write fault ≡ false → is_reading fault ≡ false
      → ((n : ℕ) → IsCause fault start r read_failed write_failed n)
      → Stopped fault names (ends start r first w) read_failed write_failed (seen f Settled Came)
  broken_settled fault read_failed write_failed conv x on came own no_reading cause =
      elim came [ inl before ↦ broken x.asked (suc now_is.settles) before one | inr after ↦ broken (x.asked ++ Settles ∷ []) now_is.settles after now_is.asked_is ]
    where
      turns : List Turn
      turns = x.turns ++ on.more

      before : (later : ℕ → List ℕ) → SameUpTo upto f later → IsSoFar (given_by later) on.old x.turns x.asked x.said
      before = later_so_far on.old (λ k. []) x.turns x.asked x.said (λ given ok. on.before given (λ k. []) ok)

      now : (later : ℕ → List ℕ) → SameUpTo upto f later → IsSoFar (given_by later) conv turns (x.asked ++ Settles ∷ []) x.said
      now = later_so_far conv (λ k. []) turns (x.asked ++ Settles ∷ []) x.said (λ given ok. on.now.point given (λ k. []) ok)

      now_is : IsSoFar (given_by f) conv turns (x.asked ++ Settles ∷ []) x.said
      now_is = now f (same_refl upto f)

      one : told_by turns ≡ x.asked ++ replicate (suc now_is.settles) Settles
      one = now_is.asked_is ∙ append_assoc x.asked (Settles ∷ []) (replicate now_is.settles Settles)

      broken : (told : List Request) (settles : ℕ) → Came told → told_by turns ≡ told ++ replicate settles Settles
          → Stopped fault names (ends start r first w) read_failed write_failed (seen f Settled Came)
      broken told settles came told_is =
          stopped_quiet names start r first w read_failed write_failed f Settled Came upto settled fault conv turns x.turns on.more turns told settles (x.heard ++ on.bytes) x.said
          on.now.cut on.now.took on.now.end on.now.put own (λ _. no_reading) (cause (length (x.heard ++ on.bytes))) refl on.few (λ is. own_fault fault no_reading is on.more)
          (all_heard fault turns) (λ later same. (before later same).quiet on.hearing) (λ later same. (now later same).begins) now_is.stops
          (nothing_behind names start r first w read_failed write_failed conv turns (x.heard ++ on.bytes) on.now.cut on.now.took on.now.end f x.said now_is.quiet) came told_is

  -- writing failed while a block was told
  pub broken_telling : (was : ℕ → List ℕ) (old : Conversation) (x : Exchange) (w' : Option (List ℕ)) (read_failed write_failed : Bool) → Consumes start r x.heard → Appends first w x.said
      → (old.ended ≡ true → OnSome start (IsAtEnd r)) → SpokeWith names M was old x → Came x.asked → ToldPart was old w w' → read_failed ≡ false → write_failed ≡ true
      → Stopped Write names (ends start r first w') read_failed write_failed (seen f Settled Came)
  broken_telling was old x w' read_failed write_failed took put end spoke came part reader writer =
      stopped_write names start r first w' read_failed write_failed f Settled Came upto settled part.middle part.new x.turns x.asked x.heard (x.said ++ part.before_more) part.more part.much
      (after (given_by f) (may f (same_refl upto f))).cut took (λ is. end (sym part.ended ∙ is))
      (subst (Appends first w') (sym (append_assoc x.said part.before_more (take part.much part.more))) (Appends-trans first w w' x.said (part.before_more ++ take part.much part.more) put part.put))
      (later_so_far part.middle part.middle_left x.turns x.asked (x.said ++ part.before_more) (λ given ok. (middle given ok).point))
      (later_so_far part.new part.left x.turns x.asked ((x.said ++ part.before_more) ++ part.more) (λ given ok. (after given ok).point))
      came reader writer
    where
      middle : (given : Given) → M given → Spoke names given part.middle_left part.middle x.turns x.asked x.heard (x.said ++ part.before_more)
      middle given ok = part.told names given x.turns x.asked x.heard x.said (spoke given ok)

      after : (given : Given) → M given → Spoke names given part.left part.new x.turns x.asked x.heard ((x.said ++ part.before_more) ++ part.more)
      after given ok = part.says names given x.turns x.asked x.heard (x.said ++ part.before_more) (middle given ok)

  -- all was said of a session that was opened, or for which nobody asked
  pub driven_finished : (conv : Conversation) (x : Exchange) → IsDriven names (ends start r first w) M conv x → Came x.asked → need_of conv ≡ needs.Over
      → Finished names (ends start r first w) (seen f Settled Came)
  driven_finished conv x was came over =
      let all = all_said names (given_by f) (λ k. []) conv x.turns x.asked x.heard x.said
      (record { cut = was.cut; point = was.point (given_by f) (λ k. []) (may f (same_refl upto f)) }) over
      in
      record {
        bytes = x.heard;
        turns = x.turns;
        took = was.took;
        within = all.within;
        whole = whole all.closing conv.ended refl all.why all.cut;
        stops = all.stops;
        are = all.are;
        put = subst (Appends first w) all.said_is was.put;
        came = subst Came all.asked_is came;
        upto = upto;
        settled = settled;
      }
    where
      whole : (closing : Closing) (ended : Bool) → conv.ended ≡ ended → IsWhy closing (given_by f) conv.ended x.turns → AreSo conv.ended x.heard (lines_of x.heard)
          → OnSome start (IsAtEnd r) ⊎ (AreLines x.heard (lines_of x.heard) × IsRefusal x.turns)
      whole closings.GoesOn ended is why cut = absurd why
      whole closings.Ends ended is why cut = inl (was.end why)
      whole closings.RefusesHello true is why cut = inl (was.end is)
      whole closings.RefusesHello false is why cut = inr (subst (λ e. AreSo e x.heard (lines_of x.heard)) is cut, why)
      whole closings.FindsFull ended is why cut = let full = why.0 in cc

-- what was written was handed on
pub driven_kept : (names : KnownNames) (start r first w w' : Option (List ℕ)) (M : Given → Type 0) (conv : Conversation) (x : Exchange) → Keeps w w'
    → IsDriven names (ends start r first w) M conv x → IsDriven names (ends start r first w') M conv x
driven_kept names start r first w w' M conv x kept was = record {
  took = was.took;
  put = Appends-kept first w w' x.said was.put kept;
  end = was.end;
  cut = was.cut;
  point = was.point;
}

-- there was no memory to begin
pub broken_before : (names : KnownNames) (start first : Option (List ℕ)) (f : ℕ → List ℕ) (Settled : ℕ → Type 0) (Came : List Request → Type 0) (read_failed write_failed : Bool)
    → Settled 0 → Came [] → read_failed ≡ false → write_failed ≡ false → Stopped Memory names (ends start start first first) read_failed write_failed (seen f Settled Came)
broken_before names start first f Settled Came read_failed write_failed settled came reader writer = record {
  turns = [];
  read = record {
    bytes = [];
    part = [];
    took = Consumes-nil start;
    within = omega arith;
    lines = inl AreLines-nil;
    dropped = All-nil (λ y. y ≡ 10 → ⊥);
    are = tt;
    why = (reader, writer);
  };
  stops = tt;
  unread = λ refused. absurd refused;
  written = [];
  put = Appends-nil first;
  upto = 0;
  settled = settled;
  told = [];
  came = came;
  heard = [];
  heard_is = ([], omega arith, refl);
  settles = 0;
  told_is = refl;
  begins = λ later same. (session_text later [], refl);
  closed = λ later same. ([], [], omega arith, refl, inl (tt, refl));
}
