-- A member over its stream, step by step.
use Rattle.std.proofs.Common.{◌≡◌, Bool, ℕ, ◌+◌, ◌⊎◌, inl, inr, List, [], ◌∷◌, ◌++◌, length, refl, sym, ap, subst, ◌∙◌, arith, append-nil, Option, Some, None}
use Rattle.std.proofs.lemmas.List.Elements.{All-nil}
use Rattle.std.specs.Prelude.{All, replicate}
use Rattle.bl_work.specs.Names.{KnownNames}
use Rattle.bl_hall.specs.declared.reply.Reply.{Reply}
use Rattle.bl_gate.specs.Gates.{PassView}
use Rattle.bl_wire.specs.Faults.{is_read, is_write}
use Rattle.bl_wire.specs.declared.fault.SessionFault.{SessionFault}
use Rattle.bl_wire.specs.declared.fault.SessionFault.TheVariants as faults
use Rattle.bl_engine.specs.Conversations.{Given, GoesOnAlone, HasHeard, KeepsBlock, asks, last_ordinal, need_of, talk_of}
use Rattle.bl_engine.specs.Driving.{Exchange, nothing_yet, with_line}
use Rattle.bl_engine.specs.Outcome.{Stopped}
use Rattle.bl_engine.specs.Parts.{MayTake}
use Rattle.bl_engine.specs.declared.conversation.Need.TheVariants as needs
use Rattle.bl_engine.specs.declared.conversation.Opening.{Opening}
use Rattle.bl_engine.specs.declared.conversation.Opening.TheVariants as openings
use Rattle.bl_engine.specs.declared.request.Request.{Request}
use Rattle.bl_engine.specs.declared.request.Request.TheVariants.{Opens, Admits, Settles}
use Rattle.bl_engine.proofs.Endings.{so_far_at}
use Rattle.bl_connection.specs.Connections.{Answers, HasBegun, HasHeardMore, HearsMore, IsNew, StaysConnected, StopsAs, TellsMore, ends_of, state_of, unwritten, view_of, with_said}
use Rattle.bl_connection.specs.declared.connection.Connection.{Connection}
use Rattle.bl_connection.specs.declared.connection.State.TheVariants as states
use Rattle.bl_connection.specs.declared.stream.Answer.{Answer}
use Rattle.bl_connection.specs.declared.stream.Answer.TheVariants as answers
use Rattle.bl_connection.proofs.Connecting.{begun_still, connected_free}
use Rattle.bl_connection.proofs.States.{hears_at}
use Rattle.bl_serve.specs.Telling.{Stands, left_of}
use Rattle.bl_serve.specs.Told.{IsTold, told_text}
use Rattle.bl_serve.specs.declared.talk.Told.{Told}
use Rattle.bl_crowd.specs.Members.{Account, AwaitsNothing, BeginsAt, HasAnswered, HasAsked, HasCourse, IsAtBlock, IsJoined, IsNext, MayGive}
use Rattle.bl_crowd.specs.Steps.{IsFaultOf}
use Rattle.bl_crowd.specs.Ways.{HasFailed, IsEndOf, IsMember, IsReceived, IsUnderWay, StandsSo, account_of}
use Rattle.bl_crowd.specs.declared.member.Member.{Member}
use Rattle.bl_crowd.specs.declared.tally.Tally.{Tally}
use Rattle.bl_crowd.specs.declared.member.Reception.{Reception}
use Rattle.bl_crowd.specs.declared.member.Reception.TheVariants.{Awaited, Open, Full}
use Rattle.bl_crowd.proofs.Stages.{alone_needs, full_hears, hears_no_room, stands_none, told_needs}

-- ---- what the machine may have answered

-- something may have been
pub some_answered : (names : KnownNames) (replies : List Reply) (upto : ℕ) (reception : Reception)
    → (opening : Opening) × (answers : ℕ → List ℕ) × (last : ℕ) × HasAnswered names replies upto reception opening answers last
some_answered names replies upto Awaited = (openings.Open, λ _. [], 0, tt)
some_answered names replies upto (Open session) = (openings.Open, told_text names replies, upto, (refl, refl, refl))
some_answered names replies upto Full = (openings.Full, λ _. [], 0, refl)

-- that the session is open, unless it was turned away
pub open_answered : (names : KnownNames) (replies : List Reply) (upto : ℕ) (reception : Reception) → IsReceived reception
    → HasAnswered names replies upto reception openings.Open (told_text names replies) upto
open_answered names replies upto Awaited is = tt
open_answered names replies upto (Open session) is = (refl, refl, refl)
open_answered names replies upto Full is = absurd is

-- what is answered is what it may give
pub answers_itself : (opening : Opening) (answers : ℕ → List ℕ) (last : ℕ) → Answers opening answers last (record { opening = opening; replies = answers })
answers_itself opening answers last = (refl, λ k low high. refl)

module _ {S : Type 0} (remaining contents : S → Option (List ℕ)) (names : KnownNames) (first pass : PassView) where
  -- the lines were heard
  pub heard_of : (conn : Connection S) (told : Told) (account : Account) (reception : Reception) (x : Exchange) → IsJoined remaining contents names conn told account reception x
      → HasHeard names conn.conv x.turns x.heard
  heard_of conn told account reception x joined =
      let some = some_answered names account.replies account.upto reception in
      ((joined some.0 some.1 some.2 some.3).spoke (record { opening = some.0; replies = some.1 }) (answers_itself some.0 some.1 some.2)).cut

  -- its stream was of this kind at first
  begun_of : (conn : Connection S) (told : Told) (account : Account) (reception : Reception) (x : Exchange) → IsJoined remaining contents names conn told account reception x
      → HasBegun remaining contents conn
  begun_of conn told account reception x joined =
      let some = some_answered names account.replies account.upto reception in (joined some.0 some.1 some.2 some.3).passed.begun

  -- what was said begins what is told to them
  pub begins_of : (conn : Connection S) (told : Told) (account : Account) (reception : Reception) (x : Exchange) → IsJoined remaining contents names conn told account reception x
      → x.asked ≡ account.done → (given : Given) → MayGive names account.replies account.upto reception given → BeginsAt given x.turns account.done x.said
  begins_of conn told account reception x joined is given may =
      let so_far = so_far_at given (left_of told) conn.conv x.turns x.asked x.said ((joined may.0 may.1 may.2 may.3).spoke given may.4).point in
      record {
        begins = so_far.begins;
        settles = so_far.settles;
        asked_is = so_far.asked_is ∙ ap (λ l. l ++ replicate so_far.settles Settles) is;
      }

  -- ---- it joins

  pub way_first : (member : Member S) (stream : S) → IsNew remaining contents stream member.connection → need_of member.connection.conv ≡ needs.Input → member.reception ≡ Awaited → member.last ≡ 0 → member.upto ≡ 0
      → member.names.now ≡ names → IsUnderWay remaining contents names first pass member None
  way_first member stream new need awaited last upto is = record {
    x = nothing_yet;
    replies = [];
    done = [];
    joined = λ opening answers last _. new.connected names opening answers last (left_of member.told);
    course = subst (HasCourse names first pass (account_of member [] []) [] None) (sym awaited) (record { none = refl; quiet = refl; last = last; upto = upto });
    asks = record { asked_is = refl; alone = subst AwaitsNothing (sym need) tt };
    told = All-nil (IsTold names 0 member.upto);
    block = record {
      last = omega (arith, last);
      within = omega (arith, upto);
      upto = λ _. omega (arith, upto);
      stands = λ room. cc;
    };
    names_are = is;
  }

  -- ---- as it stands

  -- by what is noted of what it asks, and why it is to leave
  pub way_but : (member : Member S) (noted : Option Request) (fault : Option SessionFault) (asked : Option Request)
      → IsUnderWay remaining contents names first pass member asked → IsUnderWay remaining contents names first pass (record member { asked = noted; fault = fault }) asked
  way_but member noted fault asked w = record {
    x = w.x;
    replies = w.replies;
    done = w.done;
    joined = w.joined;
    course = w.course;
    asks = w.asks;
    told = w.told;
    block = w.block;
    names_are = w.names_are;
  }

  -- by whether it is full
  way_full : (member : Member S) (full : Bool) (asked : Option Request)
      → IsUnderWay remaining contents names first pass member asked → IsUnderWay remaining contents names first pass (record member { full = full }) asked
  way_full member full asked w = record {
    x = w.x;
    replies = w.replies;
    done = w.done;
    joined = w.joined;
    course = w.course;
    asks = w.asks;
    told = w.told;
    block = w.block;
    names_are = w.names_are;
  }

  -- by how its lines were taken
  pub way_tally : (member : Member S) (tally : Tally) (asked : Option Request)
      → IsUnderWay remaining contents names first pass member asked → IsUnderWay remaining contents names first pass (record member { tally = tally }) asked
  way_tally member tally asked w = record {
    x = w.x;
    replies = w.replies;
    done = w.done;
    joined = w.joined;
    course = w.course;
    asks = w.asks;
    told = w.told;
    block = w.block;
    names_are = w.names_are;
  }

  pub failed_but : (member : Member S) (noted : Option SessionFault) (fault : SessionFault)
      → HasFailed remaining contents names first pass member fault → HasFailed remaining contents names first pass (record member { fault = noted }) fault
  failed_but member noted fault f = record {
    begun = f.begun;
    x = f.x;
    replies = f.replies;
    course = f.course;
    told = f.told;
    kind = f.kind;
    kind_is = f.kind_is;
    stopped = f.stopped;
  }

  -- one that has not failed
  pub member_of : (member : Member S) (asked : Option Request) → member.fault ≡ None → member.asked ≡ asked → IsUnderWay remaining contents names first pass member asked
      → IsMember remaining contents names first pass member
  member_of member asked fine is w = subst (StandsSo remaining contents names first pass member) (sym fine) (subst (IsUnderWay remaining contents names first pass member) (sym is) w)

  pub way_of : (member : Member S) (asked : Option Request) → member.fault ≡ None → member.asked ≡ asked → IsMember remaining contents names first pass member
      → IsUnderWay remaining contents names first pass member asked
  way_of member asked fine is m = subst (IsUnderWay remaining contents names first pass member) is (subst (StandsSo remaining contents names first pass member) fine m)

  pub member_full : (member : Member S) (full : Bool) → member.fault ≡ None → IsMember remaining contents names first pass member
      → IsMember remaining contents names first pass (record member { full = full })
  member_full member full fine m = member_of (record member { full = full }) member.asked fine refl (way_full member full member.asked (way_of member member.asked fine refl m))

  -- what it asks was taken from it
  pub way_taken : (member : Member S) (noted asked : Option Request) → member.fault ≡ None → member.asked ≡ asked → IsMember remaining contents names first pass member
      → IsUnderWay remaining contents names first pass (record member { asked = noted; fault = member.fault }) asked
  way_taken member noted asked fine is m = way_but member noted member.fault asked (way_of member asked fine is m)

  -- ---- it reads or writes

  pub way_moved : (old : Member S) (conn : Connection S) → StaysConnected remaining contents old.connection conn → conn.conv ≡ old.connection.conv
      → IsUnderWay remaining contents names first pass old None → IsUnderWay remaining contents names first pass (record old { connection = conn }) None
  way_moved old conn stays same w = record {
    x = w.x;
    replies = w.replies;
    done = w.done;
    joined = λ opening answers last fits. stays.1 names opening answers last (left_of old.told) w.x (w.joined opening answers last fits);
    course = w.course;
    asks = record { asked_is = w.asks.asked_is; alone = subst (λ v. AwaitsNothing (need_of v)) (sym same) w.asks.alone };
    told = w.told;
    block = subst (λ v. IsAtBlock v old.told (account_of old w.replies w.done)) (sym same) w.block;
    names_are = w.names_are;
  }

  -- ---- it hears

  -- what it was told is kept nowhere by then
  module _ (old : Member S) (conn : Connection S) (told : Told) (request : Option Request) (state : state_of old.connection ≡ states.Hears)
      (hears : HearsMore remaining contents names old.connection conn request) (output : unwritten conn ≡ unwritten old.connection)
      (none : told.replies.items ≡ []) (next : told.next ≡ 0) (upto : told.upto ≡ 0) (w : IsUnderWay remaining contents names first pass old None) where
    abbrev account : Account
    account = account_of old w.replies w.done

    quiet : need_of old.connection.conv ≡ needs.Room → ⊥
    quiet = hears_no_room old.connection state

    more : HasHeardMore remaining contents names old.connection conn request w.x
    more = hears.1 w.x (heard_of old.connection old.told account old.reception w.x w.joined)

    course_on : (reception : Reception) → old.reception ≡ reception → HasCourse names first pass account w.x.turns None reception → HasCourse names first pass account (w.x.turns ++ more.more) request reception
    course_on Awaited is c = c
    course_on (Open session) is c = c
    course_on Full is c =
        let full : Given = record { opening = openings.Full; replies = λ _. [] } in
        let on = w.joined openings.Full (λ _. []) 0 (subst (λ r. HasAnswered names w.replies old.upto r openings.Full (λ _. []) 0) (sym is) refl) in
        absurd (full_hears old.connection full (left_of old.told) (talk_of old.connection.conv) w.x.turns w.x.asked w.x.said c.subject state refl (w.asks.asked_is ∙ c.done_is)
        (on.spoke full (answers_itself openings.Full (λ _. []) 0)).point)

    next_of : (r : Request) → request ≡ Some r → IsNext old.last conn.conv r
    next_of (Opens subject) is = tt
    next_of (Admits ordinal work) is =
        let b = subst (KeepsBlock old.connection.conv conn.conv) is more.block in
        (b.number.0, (let low = w.block.last in let lt = b.number.1 in omega (arith, low, lt)))
    next_of Settles is = tt

    asks_on : (q : Option Request) → request ≡ q → HasAsked names (MayGive names w.replies old.upto old.reception) conn (with_line w.x more.bytes more.more (asks request)) account q
    asks_on None is = record {
      asked_is = ap (λ q. w.x.asked ++ asks q) is ∙ append-nil w.x.asked ∙ w.asks.asked_is;
      alone = alone_needs conn.conv.ended (last_ordinal conn.conv) conn.conv.stage (subst (KeepsBlock old.connection.conv conn.conv) is more.block).awaits;
    }
    asks_on (Some r) is = record {
      asked_is = ap (λ q. w.x.asked ++ asks q) is ∙ ap (λ l. l ++ r ∷ []) w.asks.asked_is;
      origin = (subst (λ q. HasHeardMore remaining contents names old.connection conn q w.x) is more).origin;
      next = next_of r is;
      awaits = (subst (KeepsBlock old.connection.conv conn.conv) is more.block).awaits;
      quiet = output ∙ (hears_at old.connection state).0;
      front = w.x.turns;
      lacks = (more.more, more.few, refl);
      before = begins_of old.connection old.told account old.reception w.x w.joined w.asks.asked_is;
    }

    pub way_heard : IsUnderWay remaining contents names first pass (record old { connection = conn; told = told; asked = request }) request
    way_heard = record {
      x = with_line w.x more.bytes more.more (asks request);
      replies = w.replies;
      done = w.done;
      joined = λ opening answers last fits.
          more.connected opening answers last (left_of told)
          (connected_free remaining contents names (Answers opening answers last) (left_of old.told) (left_of told) old.connection w.x quiet (w.joined opening answers last fits));
      course = course_on old.reception refl w.course;
      asks = asks_on request refl;
      told = w.told;
      block = record {
        last = (let low = w.block.last in let on = more.block.last in omega (arith, low, on));
        within = w.block.within;
        upto = λ _. (let low = w.block.upto quiet in omega (arith, low, more.block.after));
        stands = λ _. stands_none told (conn.conv.after + conn.conv.line + 1) none next upto (omega arith);
      };
      names_are = w.names_are;
    }

  -- ---- it tells

  pub way_told : (old : Member S) (conn : Connection S) (told : Told) → TellsMore remaining contents (left_of old.told) (left_of told) old.connection conn
      → last_ordinal conn.conv ≡ last_ordinal old.connection.conv
      → ((need_of conn.conv ≡ needs.Room → ⊥) → (conn.conv.pending.items ≡ []) × GoesOnAlone 0 conn.conv.stage)
      → (need_of conn.conv ≡ needs.Room → MayTake (Stands told) (conn.conv.after + conn.conv.line + 1))
      → IsUnderWay remaining contents names first pass old None → IsUnderWay remaining contents names first pass (record old { connection = conn; told = told }) None
  way_told old conn told tells last done stands w = record {
    x = with_said w.x tells.more;
    replies = w.replies;
    done = w.done;
    joined = λ opening answers last fits. tells.connected names opening answers last w.x (w.joined opening answers last fits);
    course = w.course;
    asks = record { asked_is = w.asks.asked_is; alone = told_needs conn.conv.ended conn.conv.stage (λ quiet. (done quiet).1) };
    told = w.told;
    block = record {
      last = (let low = w.block.last in omega (arith, low, last));
      within = w.block.within;
      upto = λ quiet. (let low = w.block.last in let within = w.block.within in let none = ap length (done quiet).0 in omega (arith, low, within, last, none));
      stands = stands;
    };
    names_are = w.names_are;
  }

  -- ---- it fails

  pub way_failed : (old new : Member S) (fault kind : SessionFault) → IsEndOf fault kind → StopsAs remaining contents kind (left_of old.told) old.connection new.connection
      → new.reception ≡ old.reception → new.last ≡ old.last → new.upto ≡ old.upto
      → IsUnderWay remaining contents names first pass old None → HasFailed remaining contents names first pass new fault
  way_failed old new fault kind kind_is stops reception last upto w = record {
    begun = begun_still remaining contents old.connection new.connection stops.0 (begun_of old.connection old.told (account_of old w.replies w.done) old.reception w.x w.joined);
    x = w.x;
    replies = w.replies;
    course = subst (HasCourse names first pass (account_of new w.replies w.x.asked) w.x.turns None) (sym reception)
        (subst (λ (a : Account). HasCourse names first pass a w.x.turns None old.reception) accounts w.course);
    told = subst (λ n. All (IsTold names 0 n) w.replies) (sym upto) w.told;
    kind = kind;
    kind_is = kind_is;
    stopped = λ received.
        subst (λ n. Stopped kind names (ends_of remaining contents new.connection) (is_read kind) (is_write kind) (view_of (told_text names w.replies) n w.x.asked)) (sym upto)
        (stops.1 names (told_text names w.replies) old.upto w.x (w.joined openings.Open (told_text names w.replies) old.upto (open_answered names w.replies old.upto old.reception (subst IsReceived reception received))));
  }
    where
      accounts : ◌≡◌ {A = Account} (account_of old w.replies w.done) (account_of new w.replies w.x.asked)
      accounts = λ i. record { replies = w.replies; done = sym w.asks.asked_is i; last = sym last i; upto = sym upto i }

-- ---- why it fails

module _ {S : Type 0} (reads : S → Answer → S → Type 0) (writes : S → List ℕ → Answer → S → Type 0) (old new : Connection S) (fault : SessionFault) where
  pub read_fault : (fault ≡ faults.Memory) ⊎ ((fault ≡ faults.Read) × reads old.stream answers.Failed new.stream) → IsFaultOf reads writes old new fault
  read_fault (inl is) = subst (IsFaultOf reads writes old new) (sym is) tt
  read_fault (inr why) = subst (IsFaultOf reads writes old new) (sym why.0) why.1

  pub write_fault : (fault ≡ faults.Write) × (writes old.stream (unwritten old) answers.Failed new.stream ⊎ writes old.stream (unwritten old) (answers.Moved 0) new.stream) → IsFaultOf reads writes old new fault
  write_fault why = subst (IsFaultOf reads writes old new) (sym why.0) why.1

  pub hear_fault : state_of old ≡ states.Hears → (fault ≡ faults.Memory) ⊎ (fault ≡ faults.TooLong) → IsFaultOf reads writes old new fault
  hear_fault state (inl is) = subst (IsFaultOf reads writes old new) (sym is) tt
  hear_fault state (inr is) = subst (IsFaultOf reads writes old new) (sym is) state

  pub tell_fault : fault ≡ faults.Memory → IsFaultOf reads writes old new fault
  tell_fault is = subst (IsFaultOf reads writes old new) (sym is) tt
