-- How the conversation of a session over a gate goes on.
use Rattle.std.proofs.Common.{◌≡◌, ℕ, ◌<◌, ◌≤◌, inl, inr, Bool, List, [], ◌∷◌, ◌++◌, length, refl, sym, ap, subst, ◌∙◌, arith, append-nil, Option, Some, None}
use Rattle.std.specs.Prelude.{IsSome}
use Rattle.std.specs.Io.KnownBytes.{Keeps}
use Rattle.bl_work.specs.Names.{KnownNames}
use Rattle.bl_work.specs.Readable.{IsReadable}
use Rattle.bl_work.specs.declared.work.Work.{Work}
use Rattle.bl_gate.specs.Gates.{GateId, PassView}
use Rattle.bl_wire.specs.declared.turn.Turn.TheVariants.{Greets, Ask}
use Rattle.bl_engine.specs.declared.request.Request.{Request}
use Rattle.bl_engine.specs.declared.request.Request.TheVariants.{Opens, Admits, Settles}
use Rattle.bl_engine.specs.Requests.{SameUpTo}
use Rattle.bl_engine.specs.View.{Ends, ends}
use Rattle.bl_engine.specs.Driving.{Exchange, IsDriven, Listened, ToldAll, nothing_yet, with_line}
use Rattle.bl_engine.specs.declared.conversation.Opening.TheVariants.{Open, Full}
use Rattle.bl_engine.specs.declared.conversation.Conversation.{Conversation}
use Rattle.bl_engine.specs.declared.conversation.Need.TheVariants as needs
use Rattle.bl_engine.specs.declared.conversation.Stage.{Stage}
use Rattle.bl_engine.specs.declared.conversation.Stage.TheVariants as stages
use Rattle.bl_engine.specs.Conversations.{Given, GoesOnAlone, Hears, Spoke, Talk, need_at, IsAnswered, IsAt, IsOpenedAs, KeepsBlock, SameBlock, last_ordinal, need_of, talk_of}
use Rattle.bl_engine.proofs.Stoppings.{given_by}
use Rattle.bl_engine.proofs.Driving.{SpokeWith, driven_alone, driven_ended, driven_listened, driven_narrow, driven_new, driven_opened, driven_told, spoke_answered, spoke_with, with_said}
use Rattle.bl_session.proofs.ServeLaws.{are_served}
use Rattle.bl_hall.specs.declared.reply.Reply.{Reply}
use Rattle.bl_serve.specs.Told.{told_text, IsBlock}
use Rattle.bl_serve.specs.Talks.{GivesWith, IsAsking, IsFull, IsTalking, IsTurnedOff, IsUnderWay, MayGive}
use Rattle.bl_serve.specs.Visits.{GoesOnWith, HasCome, HasTold, IsCrowded}
use Rattle.bl_serve.specs.declared.visit.Visit.{Visit}
use Rattle.bl_serve.proofs.Asking.{admits_then, alone_input, alone_less, at_stage, opens_first, room_alone, room_none, settles_then}
use Rattle.bl_serve.proofs.Coming.{come_zero, silent}
use Rattle.bl_serve.proofs.ToldLaws.{text_new, text_stays}

-- ---- what may be given

-- the machine opens the session, and answers as it does now
abbrev pub now_given : KnownNames → List Reply → Given
now_given names replies = given_by (told_text names replies)

gives_later : (names : KnownNames) (visit : Visit) (replies : List Reply) (later : ℕ → List ℕ) → SameUpTo visit.upto (told_text names replies) later → (o : Option ℕ) → GivesWith names visit replies o (given_by later)
gives_later names visit replies later same None = tt
gives_later names visit replies later same (Some session) = (refl, λ k low high. same k high)

-- what is answered later is what may be given
pub may_later : (names : KnownNames) (visit : Visit) (replies : List Reply) (later : ℕ → List ℕ) → SameUpTo visit.upto (told_text names replies) later → MayGive names visit replies (given_by later)
may_later names visit replies later same = gives_later names visit replies later same visit.session

pub may_now : (names : KnownNames) (visit : Visit) (replies : List Reply) → MayGive names visit replies (now_given names replies)
may_now names visit replies = may_later names visit replies (told_text names replies) (λ k le. refl)

-- the session is the same, and what was told up to the last line that was settled stands
pub record StillTells (names : KnownNames) (old new : Visit) (replies all : List Reply) : Type 0 where
  pub session : new.session ≡ old.session
  pub upto : old.upto ≤ new.upto
  pub same : SameUpTo old.upto (told_text names replies) (told_text names all)

pub still_same : (names : KnownNames) (old new : Visit) (replies : List Reply) → new.session ≡ old.session → new.upto ≡ old.upto → StillTells names old new replies replies
still_same names old new replies session upto = record { session = session; upto = omega (arith, upto); same = λ k le. refl }

-- a block more was answered
pub still_more : (names : KnownNames) (old new : Visit) (replies block : List Reply) (ordinal : ℕ) → new.session ≡ old.session → new.upto ≡ ordinal → old.upto ≤ ordinal → IsBlock names old.upto ordinal block
    → StillTells names old new replies (replies ++ block)
still_more names old new replies block ordinal session upto le is = record {
  session = session;
  upto = omega (arith, upto, le);
  same = λ k low. text_stays names old.upto ordinal replies block is.are k low;
}

-- less may be given once more is answered
pub may_less : (names : KnownNames) (old new : Visit) (replies all : List Reply) → StillTells names old new replies all → (given : Given) → MayGive names new all given → MayGive names old replies given
may_less names old new replies all still given may = go old.session (subst (λ o. GivesWith names new all o given) still.session may)
  where
    go : (o : Option ℕ) → GivesWith names new all o given → GivesWith names old replies o given
    go None m = tt
    go (Some session) m = (m.0, λ k low high. m.1 k low (omega (arith, still.upto, high)) ∙ still.same k high)

-- without a session all may be given
pub may_any : (names : KnownNames) (visit : Visit) (replies : List Reply) → visit.session ≡ None → (given : Given) → MayGive names visit replies given
may_any names visit replies none given = subst (λ o. GivesWith names visit replies o given) (sym none) tt

-- and with one it is open
pub may_open : (names : KnownNames) (visit : Visit) (replies : List Reply) → IsSome visit.session → (given : Given) → MayGive names visit replies given → given.opening ≡ Open
may_open names visit replies some given may = go visit.session some may
  where
    go : (o : Option ℕ) → IsSome o → GivesWith names visit replies o given → given.opening ≡ Open
    go None some m = cc
    go (Some session) some m = m.0

-- ---- what is asked is to be done

-- the same of what is asked, as it is known
pub asking_is : (gate : GateId) (first : PassView) (e : Ends) (conv : Conversation) (visit : Visit) (q r : Option Request) → q ≡ r → IsAsking gate first e conv q visit → IsAsking gate first e conv r visit
asking_is gate first e conv visit q r is a = subst (λ (o : Option Request). IsAsking gate first e conv o visit) is a

some_session : (gate : GateId) (first : PassView) (visit : Visit) (replies : List Reply) (asked : List Request) → HasCome gate first visit replies asked → (asked ≡ [] → ⊥) → IsSome visit.session
some_session gate first visit replies asked come some = go visit.session come.course
  where
    go : (o : Option ℕ) → HasTold gate first visit replies o asked → IsSome o
    go None course = absurd (some course.none)
    go (Some session) course = refl

module _ (gate : GateId) (first : PassView) (e : Ends) (conv : Conversation) (visit : Visit) where
  -- the session is open where a block is to be settled, or a work admitted
  pub settling_open : IsAsking gate first e conv (Some Settles) visit → IsSome visit.session
  settling_open a =
      let x = a.so_far in
      let given = now_given gate.base.setup.names a.replies in
      let at = a.on.now.point given (λ k. []) (may_now gate.base.setup.names visit a.replies) in
      let stage = a.on.block.awaits in
      some_session gate first visit a.replies x.asked a.done.come (settles_then given (λ k. []) (talk_of conv) (x.turns ++ a.on.more) x.asked x.said stage.0
      (at_stage conv.stage (stages.Settles stage.0) given (λ k. []) (talk_of conv) (x.turns ++ a.on.more) (x.asked ++ Settles ∷ []) x.said stage.1 at))

  pub admitting_open : (ordinal : ℕ) (work : Work) → IsAsking gate first e conv (Some (Admits ordinal work)) visit → IsSome visit.session
  admitting_open ordinal work a =
      let x = a.so_far in
      let given = now_given gate.base.setup.names a.replies in
      let at = a.on.now.point given (λ k. []) (may_now gate.base.setup.names visit a.replies) in
      some_session gate first visit a.replies x.asked a.done.come (admits_then given (λ k. []) (talk_of conv) (x.turns ++ a.on.more) x.asked x.said ordinal work
      (at_stage conv.stage stages.Listens given (λ k. []) (talk_of conv) (x.turns ++ a.on.more) (x.asked ++ Admits ordinal work ∷ []) x.said a.on.block.awaits at))

  -- nothing was asked before the session is opened
  module _ (subject : ℕ) (a : IsAsking gate first e conv (Some (Opens subject)) visit) where
    greeted : (given : Given) → MayGive gate.base.setup.names visit a.replies given → IsAt stages.Opens given (λ k. []) (talk_of conv) (a.so_far.turns ++ a.on.more) (a.so_far.asked ++ Opens subject ∷ []) a.so_far.said
    greeted given may =
        at_stage conv.stage stages.Opens given (λ k. []) (talk_of conv) (a.so_far.turns ++ a.on.more) (a.so_far.asked ++ Opens subject ∷ []) a.so_far.said a.on.block.awaits
        (a.on.now.point given (λ k. []) may)

    opening_first : a.so_far.asked ≡ []
    opening_first =
        let given = now_given gate.base.setup.names a.replies in
        opens_first given (λ k. []) (talk_of conv) (a.so_far.turns ++ a.on.more) a.so_far.asked a.so_far.said subject (greeted given (may_now gate.base.setup.names visit a.replies))

    opening_quiet : a.replies ≡ []
    opening_quiet = (silent gate first visit a.replies (subst (HasCome gate first visit a.replies) opening_first a.done.come)).1.quiet

    pub opening_come : HasCome gate first visit [] []
    opening_come = subst (λ l. HasCome gate first visit l []) opening_quiet (subst (HasCome gate first visit a.replies) opening_first a.done.come)

    pub opening_serves : subject < length gate.base.setup.policy.subjects
    opening_serves = are_served gate.base.setup a.done.come.own.agree a.on.origin.0 (Greets subject) a.on.origin.1

    heard : Exchange
    heard = with_line a.so_far a.on.bytes a.on.more (Opens subject ∷ [])

    any : (M : Given → Type 0) → IsDriven gate.base.setup.names e M conv (with_line a.so_far a.on.bytes a.on.more (Opens subject ∷ []))
    any M =
        driven_narrow gate.base.setup.names e (MayGive gate.base.setup.names visit a.replies) M conv (with_line a.so_far a.on.bytes a.on.more (Opens subject ∷ []))
        (λ given _. may_any gate.base.setup.names visit a.replies (silent gate first visit [] opening_come).0 given) a.on.now

    module _ (new : Conversation) (t : Visit) (block : SameBlock conv new) (zero : last_ordinal new ≡ 0) (room : need_of new ≡ needs.Room) where
      alone : GoesOnAlone (length new.pending.items) new.stage
      alone = room_alone (length new.pending.items) new.ended new.stage (omega (arith, zero)) room

      pub has_opened : IsOpenedAs Open conv new → IsSome t.session → HasCome gate first t [] (Opens subject ∷ []) → t.last ≡ 0 → t.upto ≡ 0 → IsUnderWay gate first e new t
      has_opened opens some come last upto = inl (record {
        so_far = with_line a.so_far a.on.bytes a.on.more (Opens subject ∷ []);
        replies = [];
        driven = driven_opened gate.base.setup.names e.start e.rest e.first e.kept (MayGive gate.base.setup.names t []) conv new (with_line a.so_far a.on.bytes a.on.more (Opens subject ∷ []))
            (any (MayGive gate.base.setup.names t [])) Open (now_given gate.base.setup.names []) (may_now gate.base.setup.names t []) block.ended (may_open gate.base.setup.names t [] some) opens;
        done = record {
          come = subst (λ l. HasCome gate first t [] (l ++ Opens subject ∷ [])) (sym opening_first) come;
          upto_is = omega (arith, upto, zero);
          last_is = omega (arith, last);
        };
        alone = alone;
      })

      pub has_found_full : IsOpenedAs Full conv new → HasCome gate first t [] [] → IsCrowded t.pass → IsUnderWay gate first e new t
      has_found_full opens come crowded =
          let at = greeted (now_given gate.base.setup.names a.replies) (may_now gate.base.setup.names visit a.replies) in
          inr (record {
            so_far = with_line a.so_far a.on.bytes a.on.more (Opens subject ∷ []);
            driven = driven_opened gate.base.setup.names e.start e.rest e.first e.kept IsFull conv new (with_line a.so_far a.on.bytes a.on.more (Opens subject ∷ []))
                (any IsFull) Full (record { opening = Full; replies = λ k. [] }) refl block.ended (λ given full. full) opens;
            subject = at.subject;
            opened = at.opened;
            come = come;
            crowded = crowded;
            alone = alone;
          })

  pub admitting_takes : (ordinal : ℕ) (work : Work) → IsAsking gate first e conv (Some (Admits ordinal work)) visit → IsReadable gate.base.setup.names work
  admitting_takes ordinal work a = are_served gate.base.setup a.done.come.own.agree a.on.origin.0 (Ask work) a.on.origin.1

  -- nothing is to be done
  pub goes_on : IsAsking gate first e conv None visit → IsUnderWay gate first e conv visit
  goes_on a =
      let on = driven_alone gate.base.setup.names e (MayGive gate.base.setup.names visit a.replies) conv a.so_far a.on in
      inl (record {
        so_far = on.0;
        replies = a.replies;
        driven = on.2;
        done = record {
          come = subst (HasCome gate first visit a.replies) (sym on.1) a.done.come;
          upto_is = a.done.upto_is;
          last_is = omega (arith, a.done.last_is, a.on.block.last);
        };
        alone = alone_less (last_ordinal conv) (length conv.pending.items) conv.stage (omega arith) a.on.block.awaits;
      })

  -- a work was asked for
  pub has_asked : (ordinal : ℕ) (work : Work) (t : Visit) → IsAsking gate first e conv (Some (Admits ordinal work)) visit → GoesOnWith gate first visit t [] (Admits ordinal work)
      → t.session ≡ visit.session → t.upto ≡ visit.upto → t.last ≤ ordinal → IsUnderWay gate first e conv t
  has_asked ordinal work t a come session upto last = inl (record {
    so_far = with_line a.so_far a.on.bytes a.on.more (Admits ordinal work ∷ []);
    replies = a.replies;
    driven = driven_narrow gate.base.setup.names e (MayGive gate.base.setup.names visit a.replies) (MayGive gate.base.setup.names t a.replies) conv (with_line a.so_far a.on.bytes a.on.more (Admits ordinal work ∷ []))
        (may_less gate.base.setup.names visit t a.replies a.replies (still_same gate.base.setup.names visit t a.replies session upto)) a.on.now;
    done = record {
      come = subst (λ l. HasCome gate first t l (a.so_far.asked ++ Admits ordinal work ∷ [])) (append-nil a.replies) (come a.replies a.so_far.asked a.done.come);
      upto_is = upto ∙ a.done.upto_is;
      last_is = omega (arith, last, a.on.block.number.0);
    };
    alone = subst (GoesOnAlone (length conv.pending.items)) (sym a.on.block.awaits) tt;
  })

-- ---- a block is settled

module _ (gate : GateId) (first : PassView) (start rest written kept : Option (List ℕ)) (conv mid : Conversation) (visit t : Visit) (block : List Reply)
    (a : IsAsking gate first (ends start rest written kept) conv (Some Settles) visit) (session : t.session ≡ visit.session) (upto : t.upto ≡ last_ordinal conv)
    (is : IsBlock gate.base.setup.names visit.upto (last_ordinal conv) block) (same : SameBlock conv mid) (answers : IsAnswered conv mid)
    (left : ℕ → List ℕ) (left_is : (k : ℕ) → conv.after < k → left k ≡ told_text gate.base.setup.names block k) where
  abbrev asked_so_far : Exchange
  asked_so_far = with_line a.so_far a.on.bytes a.on.more (Settles ∷ [])

  some : IsSome t.session
  some = subst (λ (o : Option ℕ). IsSome o) (sym session) (settling_open gate first (ends start rest written kept) conv visit a)

  settled_driven : IsDriven gate.base.setup.names (ends start rest written kept) (MayGive gate.base.setup.names t (a.replies ++ block)) conv asked_so_far
  settled_driven = driven_narrow gate.base.setup.names (ends start rest written kept) (MayGive gate.base.setup.names visit a.replies) (MayGive gate.base.setup.names t (a.replies ++ block)) conv asked_so_far
      (may_less gate.base.setup.names visit t a.replies (a.replies ++ block)
      (still_more gate.base.setup.names visit t a.replies block (last_ordinal conv) session upto (omega (arith, a.done.upto_is)) is)) a.on.now

  -- what may be given is what is left of the block
  pub settled_spoke : SpokeWith gate.base.setup.names (MayGive gate.base.setup.names t (a.replies ++ block)) left mid asked_so_far
  settled_spoke = spoke_answered gate.base.setup.names start rest written kept (MayGive gate.base.setup.names t (a.replies ++ block)) conv mid asked_so_far settled_driven left
      (λ given may k low high. within t.session some given may k low high) answers
    where
      within : (o : Option ℕ) → IsSome o → (given : Given) → GivesWith gate.base.setup.names t (a.replies ++ block) o given → (k : ℕ) → conv.after < k → k ≤ last_ordinal conv → left k ≡ given.replies k
      within None some given may k low high = cc
      within (Some session) some given may k low high =
          left_is k low ∙ sym (text_new gate.base.setup.names visit.upto a.replies block a.done.come.own.told k (omega (arith, low, a.done.upto_is))) ∙ sym (may.1 k (omega arith) (omega (arith, high, upto)))

  -- it was told
  pub has_settled : (other : ℕ → List ℕ) (new : Conversation) (kept' : Option (List ℕ)) → ToldAll left other mid new kept kept' → GoesOnWith gate first visit t block Settles → t.last ≤ last_ordinal conv
      → IsUnderWay gate first (ends start rest written kept') new t
  has_settled other new kept' told come last =
      let after : new.after ≡ last_ordinal conv = omega (arith, told.last, same.last, ap (λ l. length l) told.none) in
      inl (record {
        so_far = with_said asked_so_far told.more;
        replies = a.replies ++ block;
        driven = driven_told gate.base.setup.names start rest written kept kept' (MayGive gate.base.setup.names t (a.replies ++ block)) mid new asked_so_far (now_given gate.base.setup.names (a.replies ++ block))
            (may_now gate.base.setup.names t (a.replies ++ block)) left other a.on.now.took a.on.now.put (λ now. a.on.now.end (sym same.ended ∙ now)) settled_spoke told;
        done = record {
          come = come a.replies a.so_far.asked a.done.come;
          upto_is = upto ∙ sym after;
          last_is = omega (arith, last, after);
        };
        alone = subst (λ n. GoesOnAlone n new.stage) (sym (ap (λ l. length l) told.none)) told.alone;
      })

-- ---- from one wait to the next

begins_zero : (ended : Bool) (stage : Stage) (given : Given) (left : ℕ → List ℕ) (talk : Talk) → need_at ended stage ≡ needs.Input → IsAt stage given left talk [] [] [] → talk.after ≡ 0
begins_zero ended stages.Greets given left talk need at = at.fresh.after
begins_zero ended stages.Opens given left talk need at = cc
begins_zero ended stages.Listens given left talk need at = let is = at.asked_is in cc
begins_zero ended (stages.Settles closing) given left talk need at = cc
begins_zero ended (stages.Tells closing) given left talk need at = cc
begins_zero ended stages.Over given left talk need at = cc

-- before anything was heard
pub begins_talk : (gate : GateId) (first : PassView) (r w : Option (List ℕ)) (conv : Conversation) (visit : Visit) → HasCome gate first visit [] [] → need_of conv ≡ needs.Input
    → ((names : KnownNames) (given : Given) (left : ℕ → List ℕ) → Spoke names given left conv [] [] [] []) → IsUnderWay gate first (ends r r w w) conv visit
begins_talk gate first r w conv visit come need spoke =
    let given = now_given gate.base.setup.names [] in
    let after : conv.after ≡ 0 = begins_zero conv.ended conv.stage given (λ k. []) (talk_of conv) need (spoke gate.base.setup.names given (λ k. [])).point in
    let zero = come_zero gate first visit [] come in
    inl (record {
      so_far = nothing_yet;
      replies = [];
      driven = driven_new gate.base.setup.names r w (MayGive gate.base.setup.names visit []) conv need spoke;
      done = record { come = come; upto_is = omega (arith, zero.1, after); last_is = omega (arith, zero.0) };
      alone = alone_input conv.ended (length conv.pending.items) conv.stage need;
    })

module _ (gate : GateId) (first : PassView) (start r written w : Option (List ℕ)) (conv : Conversation) (visit : Visit) where
  -- a part of the input was heard
  module _ (i : IsTalking gate first (ends start r written w) conv visit) where
    pub has_listened : (r' w' : Option (List ℕ)) (new : Conversation) (request : Option Request) → need_of conv ≡ needs.Input → Listened gate.base.setup.names r r' conv new request → Keeps w w'
        → IsAsking gate first (ends start r' written w') new request visit
    has_listened r' w' new request need on kept = record {
      so_far = i.so_far;
      replies = i.replies;
      on = driven_listened gate.base.setup.names start r written w (MayGive gate.base.setup.names visit i.replies) conv i.so_far i.driven r' w' new request need on kept;
      done = record { come = i.done.come; upto_is = i.done.upto_is ∙ sym on.block.after; last_is = i.done.last_is };
    }

    pub has_heard_end : (new : Conversation) (request : Option Request) → need_of conv ≡ needs.End → Hears gate.base.setup.names conv new [] request → KeepsBlock conv new request
        → IsAsking gate first (ends start r written w) new request visit
    has_heard_end new request need hears block = record {
      so_far = i.so_far;
      replies = i.replies;
      on = driven_ended gate.base.setup.names start r written w (MayGive gate.base.setup.names visit i.replies) conv i.so_far i.driven new request need hears block;
      done = record { come = i.done.come; upto_is = i.done.upto_is ∙ sym block.after; last_is = i.done.last_is };
    }

    -- words were told
    pub has_told : (new : Conversation) (w' : Option (List ℕ)) (left : ℕ → List ℕ) → need_of conv ≡ needs.Room → ToldAll (λ k. []) left conv new w w' → IsTalking gate first (ends start r written w') new visit
    has_told new w' left room told =
        let none : length conv.pending.items ≡ 0 = room_none (length conv.pending.items) conv.ended conv.stage i.alone room in
        let after : new.after ≡ conv.after = omega (arith, told.last, none, ap (λ l. length l) told.none) in
        record {
          so_far = with_said i.so_far told.more;
          replies = i.replies;
          driven = driven_told gate.base.setup.names start r written w w' (MayGive gate.base.setup.names visit i.replies) conv new i.so_far (now_given gate.base.setup.names i.replies) (may_now gate.base.setup.names visit i.replies) (λ k. []) left
              i.driven.took i.driven.put i.driven.end (spoke_with gate.base.setup.names start r written w (MayGive gate.base.setup.names visit i.replies) conv new i.so_far i.driven (λ k. [])) told;
          done = record { come = i.done.come; upto_is = i.done.upto_is ∙ sym after; last_is = omega (arith, i.done.last_is, told.last) };
          alone = subst (λ n. GoesOnAlone n new.stage) (sym (ap (λ l. length l) told.none)) told.alone;
        }

  pub has_told_full : (i : IsTurnedOff gate first (ends start r written w) conv visit) (new : Conversation) (w' : Option (List ℕ)) (left : ℕ → List ℕ) → ToldAll (λ k. []) left conv new w w'
      → IsTurnedOff gate first (ends start r written w') new visit
  has_told_full i new w' left told = record {
    so_far = with_said i.so_far told.more;
    driven = driven_told gate.base.setup.names start r written w w' IsFull conv new i.so_far (record { opening = Full; replies = λ k. [] }) refl (λ k. []) left
        i.driven.took i.driven.put i.driven.end (spoke_with gate.base.setup.names start r written w IsFull conv new i.so_far i.driven (λ k. [])) told;
    subject = i.subject;
    opened = i.opened;
    come = i.come;
    crowded = i.crowded;
    alone = subst (λ n. GoesOnAlone n new.stage) (sym (ap (λ l. length l) told.none)) told.alone;
  }

pub under_told : (gate : GateId) (first : PassView) (start r written w : Option (List ℕ)) (conv : Conversation) (visit : Visit) → IsUnderWay gate first (ends start r written w) conv visit
    → (new : Conversation) (w' : Option (List ℕ)) (left : ℕ → List ℕ) → need_of conv ≡ needs.Room → ToldAll (λ k. []) left conv new w w' → IsUnderWay gate first (ends start r written w') new visit
under_told gate first start r written w conv visit u new w' left room told = elim u [
  | inl i ↦ inl (has_told gate first start r written w conv visit i new w' left room told)
  | inr i ↦ inr (has_told_full gate first start r written w conv visit i new w' left told)
]
