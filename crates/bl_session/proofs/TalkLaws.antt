-- How the conversation of a session with one worker goes on.
use Rattle.std.proofs.Common.{◌≡◌, ℕ, ◌<◌, ◌≤◌, inl, inr, ◌⊎◌, Bool, true, false, cond, List, [], ◌∷◌, ◌++◌, length, length-append, refl, sym, ap, subst, ◌∙◌, arith, Option, Some, None, nat_le}
use Rattle.std.proofs.lemmas.Bool.Decides.{nat_tests}
use Rattle.std.specs.Prelude.{Result, Ok, Err, IfErr}
use Rattle.std.specs.Result.{IsErrAnd}
use Rattle.bl_work.specs.Names.{KnownNames}
use Rattle.bl_work.specs.Readable.{IsReadable}
use Rattle.bl_work.specs.declared.work.Work.{Work}
use Rattle.bl_setup.specs.Agreement.{Agree}
use Rattle.bl_setup.specs.Setup.{Setup}
use Rattle.bl_order.specs.Machine.{Session, State, session_at}
use Rattle.std.specs.Io.KnownBytes.{Keeps}
use Rattle.bl_hall.specs.Chronicle.{Chronicle, state_now}
use Rattle.bl_wire.specs.Replies.{line_text}
use Rattle.bl_wire.specs.declared.turn.Turn.{Turn}
use Rattle.bl_wire.specs.declared.turn.Turn.TheVariants.{Greets, Ask}
use Rattle.bl_engine.specs.Requests.{SameUpTo}
use Rattle.bl_engine.specs.declared.request.Request.{Request}
use Rattle.bl_engine.specs.declared.request.Request.TheVariants.{Opens, Admits, Settles}
use Rattle.bl_engine.specs.View.{Ends, ends}
use Rattle.bl_engine.specs.Driving.{Exchange, IsDriven, Listened, ToldAll, nothing_yet, with_line}
use Rattle.bl_engine.specs.declared.conversation.Opening.TheVariants.{Open}
use Rattle.bl_engine.specs.declared.conversation.Closing.{Closing}
use Rattle.bl_engine.specs.declared.conversation.Closing.TheVariants as closings
use Rattle.bl_engine.specs.declared.conversation.Conversation.{Conversation}
use Rattle.bl_engine.specs.declared.conversation.Need.TheVariants as needs
use Rattle.bl_engine.specs.declared.conversation.Stage.{Stage}
use Rattle.bl_engine.specs.declared.conversation.Stage.TheVariants as stages
use Rattle.bl_engine.specs.Conversations.{Given, Talk, GoesOnAlone, Hears, IsAnswered, IsAt, IsOpenedAs, KeepsBlock, SameBlock, Spoke, last_ordinal, need_at, need_of, talk_of}
use Rattle.bl_engine.proofs.Stoppings.{given_by}
use Rattle.bl_engine.proofs.Driving.{SpokeWith, driven_alone, driven_ended, driven_listened, driven_narrow, driven_new, driven_opened, driven_told, listened_narrow, spoke_answered, spoke_with, with_said}
use Rattle.bl_session.specs.declared.entries.Pages.{Pages}
use Rattle.bl_session.specs.Pages.{AreLater, Came, StillAnswers}
use Rattle.bl_session.specs.Pages as pages
use Rattle.bl_session.specs.Talks.{HasDone, IsAsking, IsUnderWay, MayGive}
use Rattle.bl_session.specs.Telling.{left_above}
use Rattle.bl_session.proofs.PageLaws.{came_state, session_none}
use Rattle.bl_session.proofs.ServeLaws.{are_served}

-- the machine opens the session, and answers as it does now
abbrev pub now_given : Pages → Given
now_given s = given_by (line_text (state_now s.hall) s.session)

pub may_now : (s : Pages) (n : ℕ) → MayGive s n (now_given s)
may_now s n = (refl, λ k low high. refl)

-- what is answered later is what may be given
pub may_later : (s : Pages) (n : ℕ) (later : ℕ → List ℕ) → SameUpTo n (line_text (state_now s.hall) s.session) later → MayGive s n (given_by later)
may_later s n later same = (refl, λ k low high. same k high)

-- less may be given once more is answered
pub may_less : (s t : Pages) (m n : ℕ) → m ≤ n → StillAnswers m s t → (given : Given) → MayGive t n given → MayGive s m given
may_less s t m n le still given may = (may.0, λ k low high. may.1 k low (omega arith) ∙ still.same k high)

-- before any line nothing is said of answers
pub may_any : (s t : Pages) (m n : ℕ) → m ≡ 0 → (given : Given) → MayGive t n given → MayGive s m given
may_any s t m n none given may = (may.0, λ k low high. absurd (omega arith))

-- words alone are told where there is no line
pub alone_less : (m n : ℕ) (stage : Stage) → n ≤ m → GoesOnAlone m stage → GoesOnAlone n stage
alone_less m n stages.Greets le alone = tt
alone_less m n stages.Opens le alone = absurd alone
alone_less m n stages.Listens le alone = tt
alone_less m n (stages.Settles closing) le alone = absurd alone
alone_less m n (stages.Tells closing) le alone = omega (arith, le, alone)
alone_less m n stages.Over le alone = tt

-- where there is room to tell, words alone are told of no lines
pub room_alone : (ended : Bool) (stage : Stage) → need_at ended stage ≡ needs.Room → GoesOnAlone 0 stage
room_alone ended (stages.Tells closing) is = refl
room_alone ended stages.Greets is = tt
room_alone ended stages.Listens is = tt
room_alone ended stages.Over is = tt
room_alone ended stages.Opens is = cc
room_alone ended (stages.Settles closing) is = cc

-- of a block of which nothing was told all is left
pub all_left : (x : State) (i upto k : ℕ) → upto < k → left_above x i upto k ≡ line_text x i k
all_left x i upto k lt = let e : nat_le k upto ≡ false = grind (arith, nat_tests) in ap (λ b. cond b [] (line_text x i k)) e

-- the same of what is asked, as it is known
pub asking_is : (setup : Setup) (begun : Chronicle) (e : Ends) (conv : Conversation) (s : Pages) (q r : Option Request) → q ≡ r → IsAsking setup begun e conv q s → IsAsking setup begun e conv r s
asking_is setup begun e conv s q r is a = subst (λ (o : Option Request). IsAsking setup begun e conv o s) is a

-- a fault that is handed on
pub passes_on : {T E : Type 0} (r : Result T E) (e : E) (P : E → Type 0) → IsErrAnd r (λ f. f ≡ e) → P e → IfErr r P
passes_on (Ok x) e P is p = tt
passes_on (Err f) e P is p = subst P (sym is) p

alone_input : (ended : Bool) (n : ℕ) (stage : Stage) → need_at ended stage ≡ needs.Input → GoesOnAlone n stage
alone_input ended n stages.Greets is = tt
alone_input ended n stages.Listens is = tt
alone_input ended n stages.Over is = tt
alone_input ended n stages.Opens is = cc
alone_input ended n (stages.Settles closing) is = cc
alone_input ended n (stages.Tells closing) is = cc

nothing_told : (ended : Bool) (n : ℕ) (stage : Stage) → need_at ended stage ≡ needs.Room → GoesOnAlone n stage → n ≡ 0
nothing_told ended n (stages.Tells closing) is alone = alone
nothing_told false n stages.Greets is alone = cc
nothing_told true n stages.Greets is alone = cc
nothing_told false n stages.Listens is alone = cc
nothing_told true n stages.Listens is alone = cc
nothing_told ended n stages.Over is alone = cc
nothing_told ended n stages.Opens is alone = cc
nothing_told ended n (stages.Settles closing) is alone = cc

-- before anything was asked
pub first_done : (setup : Setup) (begun : Chronicle) (s : Pages) → Came setup begun s [] → (after last : ℕ) → HasDone setup begun after last s []
first_done setup begun s came after last =
    let none : state_now s.hall ≡ state_now begun = came_state setup begun s [] came in
    let fresh : (session_at (state_now s.hall) s.session).last ≡ 0 =
    ap (λ (y : State). (session_at y s.session).last) none
    ∙ ap (λ i. (session_at (state_now begun) i).last) came.began.session_is
    ∙ ap (λ (r : Session). r.last) (session_none (state_now begun).sessions)
    in
    record {
      came = came;
      settled = λ p low lt. absurd (omega (arith, low, lt, came.began.over, ap (λ (y : State). length y.order) none));
      last_is = omega (arith, fresh);
      there = inl refl;
    }

-- ---- that the session is open

-- the first that was asked opened the session
asked_then : (asked : List Request) (last : Request) (subject : ℕ) (told : List Request) → asked ++ last ∷ [] ≡ Opens subject ∷ told → (last ≡ Opens subject → ⊥) → asked ≡ [] → ⊥
asked_then [] last subject told is other none = other cc
asked_then (r ∷ asked) last subject told is other none = cc

before_then : (asked before : List Request) (subject : ℕ) (told : List Request) → asked ++ Settles ∷ [] ≡ before ++ Settles ∷ [] → before ≡ Opens subject ∷ told → asked ≡ [] → ⊥
before_then asked before subject told same is none =
    let long : length (asked ++ Settles ∷ []) ≡ length (before ++ Settles ∷ []) = ap (λ (l : List Request). length l) same in
    let some : length before ≡ length (Opens subject ∷ told) = ap (λ (l : List Request). length l) is in
    let nothing : length asked ≡ 0 = ap (λ (l : List Request). length l) none in
    absurd (omega (arith, long, some, nothing, length-append asked (Settles ∷ []), length-append before (Settles ∷ [])))

module _ (given : Given) (left : ℕ → List ℕ) (talk : Talk) (turns : List Turn) (asked : List Request) (said : List ℕ) where
  -- once a block is to be settled, or a work admitted, something was asked before
  pub settles_then : (closing : Closing) → IsAt (stages.Settles closing) given left talk turns (asked ++ Settles ∷ []) said → asked ≡ [] → ⊥
  settles_then closings.GoesOn at none = asked_then asked Settles at.subject _ at.asked_is (λ same. cc) none
  settles_then closings.Ends at none = before_then asked at.1.0 at.1.2.subject _ at.1.1 at.1.2.asked_is none
  settles_then closings.RefusesHello at none = at
  settles_then closings.FindsFull at none = at

  pub admits_then : (ordinal : ℕ) (work : Work) → IsAt stages.Listens given left talk turns (asked ++ Admits ordinal work ∷ []) said → asked ≡ [] → ⊥
  admits_then ordinal work at none = asked_then asked (Admits ordinal work) at.subject _ at.asked_is (λ same. cc) none

  -- and before the session is opened nothing was
  pub opens_first : (subject : ℕ) → IsAt stages.Opens given left talk turns (asked ++ Opens subject ∷ []) said → asked ≡ []
  opens_first subject at = nothing asked at.asked_is
    where
      nothing : (asked : List Request) → asked ++ Opens subject ∷ [] ≡ Opens at.subject ∷ [] → asked ≡ []
      nothing [] is = refl
      nothing (r ∷ asked) is =
          let long : length ((r ∷ asked) ++ Opens subject ∷ []) ≡ 1 = ap (λ (l : List Request). length l) is in
          absurd (omega (arith, long, length-append asked (Opens subject ∷ [])))

at_stage : (stage to : Stage) (given : Given) (left : ℕ → List ℕ) (talk : Talk) (turns : List Turn) (asked : List Request) (said : List ℕ) → stage ≡ to
    → IsAt stage given left talk turns asked said → IsAt to given left talk turns asked said
at_stage stage to given left talk turns asked said is at = subst (λ x. IsAt x given left talk turns asked said) is at

open_now : (A B : Type 0) → A ⊎ B → (A → ⊥) → B
open_now A B (inl a) not = absurd (not a)
open_now A B (inr b) not = b

module _ (setup : Setup) (begun : Chronicle) (e : Ends) (conv : Conversation) (s : Pages) where
  -- the session is open where a block is to be settled, or a work admitted
  pub settling_open : (a : IsAsking setup begun e conv (Some Settles) s) → pages.IsOpen setup s
  settling_open a =
      let x = a.so_far in
      let at = a.on.now.point (now_given s) (λ k. []) (may_now s conv.after) in
      let stage = a.on.block.awaits in
      open_now _ _ a.done.there (settles_then (now_given s) (λ k. []) (talk_of conv) (x.turns ++ a.on.more) x.asked x.said stage.0
      (at_stage conv.stage (stages.Settles stage.0) (now_given s) (λ k. []) (talk_of conv) (x.turns ++ a.on.more) (x.asked ++ Settles ∷ []) x.said stage.1 at))

  pub admitting_open : (ordinal : ℕ) (work : Work) (a : IsAsking setup begun e conv (Some (Admits ordinal work)) s) → pages.IsOpen setup s
  admitting_open ordinal work a =
      let x = a.so_far in
      let at = a.on.now.point (now_given s) (λ k. []) (may_now s conv.after) in
      open_now _ _ a.done.there (admits_then (now_given s) (λ k. []) (talk_of conv) (x.turns ++ a.on.more) x.asked x.said ordinal work
      (at_stage conv.stage stages.Listens (now_given s) (λ k. []) (talk_of conv) (x.turns ++ a.on.more) (x.asked ++ Admits ordinal work ∷ []) x.said a.on.block.awaits at))

  -- and nothing was asked before it is opened
  pub opening_first : (subject : ℕ) (a : IsAsking setup begun e conv (Some (Opens subject)) s) → a.so_far.asked ≡ []
  opening_first subject a =
      let x = a.so_far in
      let at = a.on.now.point (now_given s) (λ k. []) (may_now s conv.after) in
      opens_first (now_given s) (λ k. []) (talk_of conv) (x.turns ++ a.on.more) x.asked x.said subject
      (at_stage conv.stage stages.Opens (now_given s) (λ k. []) (talk_of conv) (x.turns ++ a.on.more) (x.asked ++ Opens subject ∷ []) x.said a.on.block.awaits at)

  -- so it has no block yet
  pub opening_fresh : (subject : ℕ) (a : IsAsking setup begun e conv (Some (Opens subject)) s) → conv.after ≡ 0
  opening_fresh subject a =
      let x = a.so_far in
      let at = a.on.now.point (now_given s) (λ k. []) (may_now s conv.after) in
      (at_stage conv.stage stages.Opens (now_given s) (λ k. []) (talk_of conv) (x.turns ++ a.on.more) (x.asked ++ Opens subject ∷ []) x.said a.on.block.awaits at).fresh.after

  -- nothing is to be done
  pub goes_on : IsAsking setup begun e conv None s → IsUnderWay setup begun e conv s
  goes_on a =
      let on = driven_alone setup.names e (MayGive s conv.after) conv a.so_far a.on in
      record {
        so_far = on.0;
        driven = on.2;
        done = record {
          came = subst (Came setup begun s) (sym on.1) a.done.came;
          settled = a.done.settled;
          last_is = omega (arith, a.done.last_is, a.on.block.last);
          there = subst (λ l. (l ≡ []) ⊎ pages.IsOpen setup s) (sym on.1) a.done.there;
        };
        alone = alone_less (last_ordinal conv) (length conv.pending.items) conv.stage (omega arith) a.on.block.awaits;
      }

  -- the session was opened
  pub has_opened : (subject : ℕ) (new : Conversation) (t : Pages) → IsAsking setup begun e conv (Some (Opens subject)) s → IsOpenedAs Open conv new → SameBlock conv new → last_ordinal new ≡ 0
      → GoesOnAlone 0 new.stage → pages.IsOpen setup t → Came setup begun t (Opens subject ∷ []) → (session_at (state_now t.hall) t.session).last ≡ 0
      → ((n : ℕ) → AreLater t.next (state_now t.hall).order n) → IsUnderWay setup begun e new t
  has_opened subject new t a opens block first alone there came last settled = record {
    so_far = with_line x a.on.bytes a.on.more (Opens subject ∷ []);
    driven = driven_opened setup.names e.start e.rest e.first e.kept (MayGive t new.after) conv new (with_line x a.on.bytes a.on.more (Opens subject ∷ []))
        (driven_narrow setup.names e (MayGive s conv.after) (MayGive t new.after) conv (with_line x a.on.bytes a.on.more (Opens subject ∷ [])) (may_any s t conv.after new.after (opening_fresh subject a)) a.on.now)
        Open (now_given t) (may_now t new.after) block.ended (λ given may. may.0) opens;
    done = record {
      came = subst (λ l. Came setup begun t (l ++ Opens subject ∷ [])) (sym (opening_first subject a)) came;
      settled = settled new.after;
      last_is = omega (arith, last);
      there = inr there;
    };
    alone = alone_less 0 (length new.pending.items) new.stage (omega (arith, first)) alone;
  }
    where
      x : Exchange
      x = a.so_far

  -- a work was asked for
  pub has_asked : (ordinal : ℕ) (work : Work) (t : Pages) → IsAsking setup begun e conv (Some (Admits ordinal work)) s → pages.IsOpen setup t
      → ((told : List Request) → Came setup begun s told → Came setup begun t (told ++ Admits ordinal work ∷ [])) → (session_at (state_now t.hall) t.session).last ≤ ordinal
      → ((n : ℕ) → n < ordinal → AreLater s.next (state_now s.hall).order n → StillAnswers n s t) → IsUnderWay setup begun e conv t
  has_asked ordinal work t a there came last settled = record {
    so_far = with_line x a.on.bytes a.on.more (Admits ordinal work ∷ []);
    driven = driven_narrow setup.names e (MayGive s conv.after) (MayGive t conv.after) conv (with_line x a.on.bytes a.on.more (Admits ordinal work ∷ []))
        (may_less s t conv.after conv.after (omega arith) still) a.on.now;
    done = record {
      came = came x.asked a.done.came;
      settled = still.later;
      last_is = omega (arith, last, a.on.block.number.0);
      there = inr there;
    };
    alone = subst (GoesOnAlone (length conv.pending.items)) (sym a.on.block.awaits) tt;
  }
    where
      x : Exchange
      x = a.so_far

      still : StillAnswers conv.after s t
      still = settled conv.after (omega (arith, a.on.block.after, a.on.block.number.1)) a.done.settled

  -- what is asked for may be asked
  pub names_subject : Agree setup → (subject : ℕ) → IsAsking setup begun e conv (Some (Opens subject)) s → subject < length setup.policy.subjects
  names_subject agree subject a = are_served setup agree a.on.origin.0 (Greets subject) a.on.origin.1

  pub names_work : Agree setup → (ordinal : ℕ) (work : Work) → IsAsking setup begun e conv (Some (Admits ordinal work)) s → IsReadable setup.names work
  names_work agree ordinal work a = are_served setup agree a.on.origin.0 (Ask work) a.on.origin.1

-- ---- between two waits

-- before anything was heard
pub begins_talk : (setup : Setup) (begun : Chronicle) (r w : Option (List ℕ)) (conv : Conversation) (s : Pages) → Came setup begun s [] → need_of conv ≡ needs.Input
    → ((names : KnownNames) (given : Given) (left : ℕ → List ℕ) → Spoke names given left conv [] [] [] []) → IsUnderWay setup begun (ends r r w w) conv s
begins_talk setup begun r w conv s came need spoke = record {
  so_far = nothing_yet;
  driven = driven_new setup.names r w (MayGive s conv.after) conv need spoke;
  done = first_done setup begun s came conv.after (last_ordinal conv);
  alone = alone_input conv.ended (length conv.pending.items) conv.stage need;
}

module _ (setup : Setup) (begun : Chronicle) (start r first w : Option (List ℕ)) (conv : Conversation) (s : Pages) (u : IsUnderWay setup begun (ends start r first w) conv s) where
  still : StillAnswers conv.after s s
  still = record { number = refl; later = u.done.settled; same = λ k le. refl }

  -- it has heard what the reader showed, or that the input is at its end
  pub has_heard : (names : KnownNames) (r' w' : Option (List ℕ)) (new : Conversation) (request : Option Request) → names ≡ setup.names → need_of conv ≡ needs.Input
      → Listened names r r' conv new request → Keeps w w' → IsAsking setup begun (ends start r' first w') new request s
  has_heard names r' w' new request is need on kept = record {
    so_far = u.so_far;
    on = listened_narrow setup.names (ends start r' first w') (MayGive s conv.after) (MayGive s new.after) new request u.so_far (may_less s s conv.after new.after (omega (arith, on.block.after)) still)
        (driven_listened setup.names start r first w (MayGive s conv.after) conv u.so_far u.driven r' w' new request need
        (subst (λ (k : KnownNames). Listened k r r' conv new request) is on) kept);
    done = record {
      came = u.done.came;
      settled = subst (λ n. AreLater s.next (state_now s.hall).order n) (sym on.block.after) u.done.settled;
      last_is = u.done.last_is;
      there = u.done.there;
    };
  }

  pub has_heard_end : (names : KnownNames) (new : Conversation) (request : Option Request) → names ≡ setup.names → need_of conv ≡ needs.End → Hears names conv new [] request
      → KeepsBlock conv new request → IsAsking setup begun (ends start r first w) new request s
  has_heard_end names new request is need hears block = record {
    so_far = u.so_far;
    on = listened_narrow setup.names (ends start r first w) (MayGive s conv.after) (MayGive s new.after) new request u.so_far (may_less s s conv.after new.after (omega (arith, block.after)) still)
        (driven_ended setup.names start r first w (MayGive s conv.after) conv u.so_far u.driven new request need
        (subst (λ (k : KnownNames). Hears k conv new [] request) is hears) block);
    done = record {
      came = u.done.came;
      settled = subst (λ n. AreLater s.next (state_now s.hall).order n) (sym block.after) u.done.settled;
      last_is = u.done.last_is;
      there = u.done.there;
    };
  }

  -- words end no line
  pub after_told : (other : ℕ → List ℕ) (new : Conversation) (w' : Option (List ℕ)) → need_of conv ≡ needs.Room → ToldAll (λ k. []) other conv new w w' → new.after ≡ conv.after
  after_told other new w' need told = omega (arith, told.last, ap (λ l. length l) told.none, nothing_told conv.ended (length conv.pending.items) conv.stage need u.alone)

  -- words were told
  pub has_told : (other : ℕ → List ℕ) (new : Conversation) (w' : Option (List ℕ)) → need_of conv ≡ needs.Room → ToldAll (λ k. []) other conv new w w' → IsUnderWay setup begun (ends start r first w') new s
  has_told other new w' need told = record {
    so_far = with_said u.so_far told.more;
    driven = subst (λ n. IsDriven setup.names (ends start r first w') (MayGive s n) new (with_said u.so_far told.more)) (sym after)
        (driven_told setup.names start r first w w' (MayGive s conv.after) conv new u.so_far (now_given s) (may_now s conv.after) (λ k. []) other
        u.driven.took u.driven.put u.driven.end (spoke_with setup.names start r first w (MayGive s conv.after) conv new u.so_far u.driven (λ k. [])) told);
    done = record {
      came = u.done.came;
      settled = subst (λ n. AreLater s.next (state_now s.hall).order n) (sym after) u.done.settled;
      last_is = omega (arith, u.done.last_is, told.last);
      there = u.done.there;
    };
    alone = subst (λ n. GoesOnAlone n new.stage) (sym (ap (λ l. length l) told.none)) told.alone;
  }
    where
      after : new.after ≡ conv.after
      after = after_told other new w' need told

-- ---- a block is settled

module _ (setup : Setup) (begun : Chronicle) (start rest first kept : Option (List ℕ)) (conv mid : Conversation) (s t : Pages) (a : IsAsking setup begun (ends start rest first kept) conv (Some Settles) s)
    (still : (n : ℕ) → AreLater s.next (state_now s.hall).order n → StillAnswers n s t) (block : SameBlock conv mid) (answers : IsAnswered conv mid)
    (left : ℕ → List ℕ) (left_is : (k : ℕ) → conv.after < k → left k ≡ line_text (state_now t.hall) t.session k) where
  abbrev pub x : Exchange
  x = with_line a.so_far a.on.bytes a.on.more (Settles ∷ [])

  driven : IsDriven setup.names (ends start rest first kept) (MayGive t (last_ordinal conv)) conv x
  driven = driven_narrow setup.names (ends start rest first kept) (MayGive s conv.after) (MayGive t (last_ordinal conv)) conv x
      (may_less s t conv.after (last_ordinal conv) (omega arith) (still conv.after a.done.settled)) a.on.now

  -- what may be given is what is left of the block
  pub settled_spoke : SpokeWith setup.names (MayGive t (last_ordinal conv)) left mid x
  settled_spoke = spoke_answered setup.names start rest first kept (MayGive t (last_ordinal conv)) conv mid x driven left
      (λ given may k low high. left_is k low ∙ sym (may.1 k (omega arith) high)) answers

  -- it was told
  pub has_settled : (other : ℕ → List ℕ) (new : Conversation) (kept' : Option (List ℕ)) → ToldAll left other mid new kept kept' → pages.IsOpen setup t
      → ((told : List Request) → Came setup begun s told → Came setup begun t (told ++ Settles ∷ [])) → (session_at (state_now t.hall) t.session).last ≡ (session_at (state_now s.hall) s.session).last
      → ((n : ℕ) → AreLater t.next (state_now t.hall).order n) → IsUnderWay setup begun (ends start rest first kept') new t
  has_settled other new kept' told there came last settled = record {
    so_far = with_said x told.more;
    driven = subst (λ n. IsDriven setup.names (ends start rest first kept') (MayGive t n) new (with_said x told.more)) (sym after)
        (driven_told setup.names start rest first kept kept' (MayGive t (last_ordinal conv)) mid new x (now_given t) (may_now t (last_ordinal conv)) left other
        a.on.now.took a.on.now.put (λ now. a.on.now.end (sym block.ended ∙ now)) settled_spoke told);
    done = record {
      came = came a.so_far.asked a.done.came;
      settled = settled new.after;
      last_is = omega (arith, last, a.done.last_is, a.on.block.last, block.last, told.last);
      there = inr there;
    };
    alone = subst (λ n. GoesOnAlone n new.stage) (sym (ap (λ l. length l) told.none)) told.alone;
  }
    where
      after : new.after ≡ last_ordinal conv
      after = omega (arith, told.last, block.last, ap (λ l. length l) told.none)
