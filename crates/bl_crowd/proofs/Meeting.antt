-- What a member asks is done at the gate.
use Rattle.std.proofs.Common.{◌≡◌, ℕ, ◌+◌, ◌<◌, ◌≤◌, ◌⊎◌, inl, inr, Bool, false, List, [], ◌∷◌, ◌++◌, length, map, take, drop, refl, sym, ap, subst, ◌∙◌, arith, Option, Some, None, nat_le}
use Rattle.std.proofs.lemmas.Bool.Decides.{nat_tests}
use Rattle.std.proofs.lemmas.List.Elements.{All-cons, All-nil}
use Rattle.std.specs.Prelude.{All, if◌then◌else◌}
use Rattle.bl_work.specs.Names.{KnownNames}
use Rattle.bl_work.specs.Readable.{IsReadable}
use Rattle.bl_work.specs.declared.work.Work.{Work}
use Rattle.bl_setup.specs.Agreement.{Agree}
use Rattle.bl_setup.specs.Setup.{Setup}
use Rattle.bl_order.specs.Known.{KnowsAnswer}
use Rattle.bl_order.specs.Machine as machine
use Rattle.bl_order.specs.Machine.{State, Event, start, most_sessions}
use Rattle.bl_core.specs.Answers.{IsCause}
use Rattle.bl_core.specs.declared.refusal.Cause.{Cause}
use Rattle.bl_core.specs.declared.refusal.Cause.TheVariants as causes
use Rattle.bl_hall.specs.Chronicle.{state_now}
use Rattle.bl_hall.specs.Told.{AreAnswers, reply_of}
use Rattle.bl_hall.specs.declared.reply.Reply.{Reply}
use Rattle.bl_gate.specs.Gates.{PassView, Calls, hall_with, state_seen}
use Rattle.bl_gate.proofs.Following.{base_stays}
use Rattle.bl_gate.proofs.Passing.{after_parts}
use Rattle.bl_worker.proofs.Adding.{adds_call}
use Rattle.bl_wire.specs.Named.{NamesAnswer}
use Rattle.bl_wire.specs.Replies.{line_or_full, line_text}
use Rattle.bl_wire.specs.Turns.{IsTurn}
use Rattle.bl_wire.specs.declared.turn.Turn.TheVariants.{Greets, Ask}
use Rattle.bl_engine.specs.Conversations.{Given, IsAt, SameBlock, last_ordinal, need_at, need_of, talk_of}
use Rattle.bl_engine.specs.Requests.{SameUpTo}
use Rattle.bl_engine.specs.declared.conversation.Closing.{Closing}
use Rattle.bl_engine.specs.declared.conversation.Need.TheVariants as needs
use Rattle.bl_engine.specs.declared.conversation.Opening.{Opening}
use Rattle.bl_engine.specs.declared.conversation.Opening.TheVariants as openings
use Rattle.bl_engine.specs.declared.conversation.Stage.{Stage}
use Rattle.bl_engine.specs.declared.conversation.Stage.TheVariants as stages
use Rattle.bl_engine.specs.declared.request.Request.{Request}
use Rattle.bl_engine.specs.declared.request.Request.TheVariants.{Opens, Admits, Settles}
use Rattle.bl_connection.specs.Connections.{Answers, IsAnswered, IsConnected, OpensAs, state_of}
use Rattle.bl_connection.specs.declared.connection.Connection.{Connection}
use Rattle.bl_connection.specs.declared.connection.State.TheVariants as states
use Rattle.bl_connection.proofs.Connecting.{connected_free, connected_still}
use Rattle.bl_connection.proofs.States.{tells_at}
use Rattle.bl_session.proofs.RunLaws.{setup_after}
use Rattle.bl_session.proofs.ServeLaws.{are_served}
use Rattle.bl_serve.specs.Courses.{Course, IsCourse, SpeaksAlone, SpeaksForItsOwn}
use Rattle.bl_serve.specs.Telling.{left_of}
use Rattle.bl_serve.specs.Together.{AreOnCourse, GoesOnTo, IsNoLineBut, Standing, SpeaksForNoOther}
use Rattle.bl_serve.specs.Told.{BeginsAbove, IsBlock, line_of, ordinal_of, told_text}
use Rattle.bl_serve.specs.Visits.{IsCrowded}
use Rattle.bl_serve.specs.declared.talk.Told.{Told}
use Rattle.bl_serve.proofs.Asking.{admits_then, at_stage, opens_first, settles_then}
use Rattle.bl_serve.proofs.Cutting.{left_is_block, line_stays}
use Rattle.bl_serve.proofs.Going.{block_text, course_asked, course_full, course_opened, course_settled}
use Rattle.bl_serve.proofs.Opened.{last_low, sessions_grow}
use Rattle.bl_serve.proofs.Telling.{GoByLines}
use Rattle.bl_serve.proofs.Together.{one_goes_on}
use Rattle.bl_serve.proofs.ToldLaws.{all_named, page_first, text_new, text_stays, told_on}
use Rattle.bl_serve.proofs.Transcribing.{heard}
use Rattle.bl_crowd.specs.Members.{Account, HasAnswered, HasCourse, HasNoSession, IsAtBlock, course_of}
use Rattle.bl_crowd.specs.Receptions.{HasEntered, HasReceived, opening_of}
use Rattle.bl_crowd.specs.Steps.{IsNewSession}
use Rattle.bl_crowd.specs.Ways.{IsHome, IsUnderWay, account_of}
use Rattle.bl_crowd.specs.declared.member.Member.{Member}
use Rattle.bl_crowd.specs.declared.member.Reception.{Reception}
use Rattle.bl_crowd.specs.declared.member.Reception.TheVariants.{Awaited, Open, Full}
use Rattle.bl_crowd.proofs.Stages.{listens_needs, room_needs, stands_first, stands_none}
use Rattle.bl_crowd.proofs.Streaming.{answers_itself, some_answered}

-- the setup stays
pub setup_is : (pass : PassView) → (state_seen pass).setup ≡ pass.gate.base.setup
setup_is pass = setup_after (start pass.gate.base.setup pass.gate.base.limit) pass.seen

-- its number is a new one
new_number : (p q : PassView) (event : Event) (session : ℕ) → Calls p event (λ x. session ≡ length x.sessions) q → length (state_seen p).sessions ≤ session
new_number p q event session call =
    let is = ap (λ (l : List Event). state_now (hall_with p.gate.base l)) call.from.1 ∙ after_parts (start p.gate.base.setup p.gate.base.limit) p.seen call.from.0 in
    let grown = sessions_grow (state_seen p) call.from.0 in
    let same = ap (λ y. length y.sessions) is in
    let answered = call.answered in
    omega (arith, grown, same, answered)

module _ {S : Type 0} (remaining contents : S → Option (List ℕ)) (names : KnownNames) (first p : PassView) (old : Member S) where
  -- where it stands when this is asked
  module _ (request : Request) (w : IsUnderWay remaining contents names first p old (Some request)) where
    abbrev account : Account
    account = account_of old w.replies w.done

    abbrev pub one_given : Given
    one_given = record {
      opening = (some_answered names w.replies old.upto old.reception).0;
      replies = (some_answered names w.replies old.upto old.reception).1;
    }

    pub one_at : IsAt old.connection.conv.stage one_given (left_of old.told) (talk_of old.connection.conv) w.x.turns (w.done ++ request ∷ []) w.x.said
    one_at =
        let some = some_answered names w.replies old.upto old.reception in
        subst (λ l. IsAt old.connection.conv.stage one_given (left_of old.told) (talk_of old.connection.conv) w.x.turns l w.x.said) w.asks.asked_is
        ((w.joined some.0 some.1 some.2 some.3).spoke one_given (answers_itself some.0 some.1 some.2)).point

    not_full : (reception : Reception) → old.reception ≡ reception → reception ≡ Full → ⊥
    not_full reception is full =
        let c = subst (HasCourse names first p account w.x.turns (Some request)) (is ∙ full) w.course in
        let none = c.none in cc

  -- ---- the opening

  module _ (subject : ℕ) (w : IsUnderWay remaining contents names first p old (Some (Opens subject))) where
    opens_at : IsAt stages.Opens (one_given (Opens subject) w) (left_of old.told) (talk_of old.connection.conv) w.x.turns (w.done ++ Opens subject ∷ []) w.x.said
    opens_at = at_stage old.connection.conv.stage stages.Opens (one_given (Opens subject) w) (left_of old.told) (talk_of old.connection.conv) w.x.turns (w.done ++ Opens subject ∷ []) w.x.said w.asks.awaits (one_at (Opens subject) w)

    nothing_done : w.done ≡ []
    nothing_done = opens_first (one_given (Opens subject) w) (left_of old.told) (talk_of old.connection.conv) w.x.turns w.done w.x.said subject opens_at

    was_awaited : (reception : Reception) → old.reception ≡ reception → (reception ≡ Awaited) × HasNoSession (account_of old w.replies w.done)
    was_awaited Awaited is = (refl, subst (HasCourse names first p (account_of old w.replies w.done) w.x.turns (Some (Opens subject))) is w.course)
    was_awaited (Open session) is =
        let c : IsCourse names first p (course_of names (account_of old w.replies w.done) session) w.done = subst (HasCourse names first p (account_of old w.replies w.done) w.x.turns (Some (Opens subject))) is w.course in
        absurd (let o = c.opened in let n = nothing_done in cc)
    was_awaited Full is = absurd (not_full (Opens subject) w Full is refl)

    pub awaited : (old.reception ≡ Awaited) × HasNoSession (account_of old w.replies w.done)
    awaited = was_awaited old.reception refl

    pub serves : IsHome names p → subject < length p.gate.base.setup.policy.subjects
    serves home = (let origin = w.asks.origin in are_served p.gate.base.setup home.agree origin.0 (Greets subject) (subst (λ n. IsTurn n origin.0 (Greets subject)) home.names_are origin.1))

    no_room : need_of old.connection.conv ≡ needs.Room → ⊥
    no_room room = opens_no_room old.connection.conv.ended old.connection.conv.stage w.asks.awaits room
      where
        opens_no_room : (ended : Bool) (stage : Stage) → stage ≡ stages.Opens → need_at ended stage ≡ needs.Room → ⊥
        opens_no_room ended stage is room = (let e = ap (need_at ended) is in cc)

    module _ (q : PassView) (conn : Connection S) (told : Told) (block : SameBlock old.connection.conv conn.conv) (state : state_of conn ≡ states.Tells)
        (none : told.replies.items ≡ []) (next : told.next ≡ 0) (upto : told.upto ≡ 0) where
      block_on : (reception : Reception) (done : List Request) → IsAtBlock conn.conv told (account_of (record old { connection = conn; told = told; reception = reception }) w.replies done)
      block_on reception done = record {
        last = (let zero = awaited.1.last in omega (arith, zero));
        within = w.block.within;
        upto = λ _. (let zero = awaited.1.upto in omega (arith, zero));
        stands = λ _. stands_none told (conn.conv.after + conn.conv.line + 1) none next upto (omega arith);
      }

      joined_on : (opening : Opening) → OpensAs remaining contents opening old.connection conn → (answers : ℕ → List ℕ) (last : ℕ)
          → IsConnected remaining contents names (Answers opening answers last) (left_of told) conn w.x
      joined_on opening opens answers last =
          opens.1 names answers last (left_of told) w.x
          (connected_free remaining contents names (Answers opening answers last) (left_of old.told) (left_of told) old.connection w.x no_room
          (w.joined opening answers last (subst (λ r. HasAnswered names w.replies old.upto r opening answers last) (sym awaited.0) tt)))

      pub way_opened : (session : ℕ) → GoesOnTo p q → Calls p (machine.Opens subject) (λ x. session ≡ length x.sessions) q → OpensAs remaining contents openings.Open old.connection conn → SpeaksForItsOwn first p
          → IsUnderWay remaining contents names first q (record old { connection = conn; told = told; subject = Some subject; reception = Open session }) None
      way_opened session on call opens speaks = record {
        x = w.x;
        replies = w.replies;
        done = Opens subject ∷ [];
        joined = λ opening answers last fits. subst (λ o. IsConnected remaining contents names (Answers o answers last) (left_of told) conn w.x) (sym fits.0) (joined_on openings.Open opens answers last);
        course = subst (λ (c : Course). IsCourse names first q c (Opens subject ∷ []))
            (λ i. record { session = session; last = sym awaited.1.last i; upto = sym awaited.1.upto i; replies = told_text names w.replies })
            (course_opened names first p q speaks.gained speaks.own speaks.within session subject (told_text names w.replies) on.trail (base_stays p q on.follows) call (ap (λ l. told_text names l 0) awaited.1.quiet));
        asks = record {
          asked_is = w.asks.asked_is ∙ ap (λ l. l ++ Opens subject ∷ []) nothing_done;
          alone = room_needs (need_of conn.conv) (tells_at conn state).1;
        };
        told = w.told;
        block = block_on (Open session) (Opens subject ∷ []);
        names_are = w.names_are;
      }

      pub way_full : IsCrowded q → OpensAs remaining contents openings.Full old.connection conn
          → IsUnderWay remaining contents names first q (record old { connection = conn; told = told; subject = Some subject; reception = Full }) None
      way_full crowded opens = record {
        x = w.x;
        replies = w.replies;
        done = Opens opens_at.subject ∷ [];
        joined = λ opening answers last fits. subst (λ o. IsConnected remaining contents names (Answers o answers last) (left_of told) conn w.x) (sym fits) (joined_on openings.Full opens answers last);
        course = record { crowded = crowded; subject = opens_at.subject; opened = opens_at.opened; done_is = refl; none = refl };
        asks = record {
          asked_is = w.asks.asked_is ∙ opens_at.asked_is;
          alone = room_needs (need_of conn.conv) (tells_at conn state).1;
        };
        told = w.told;
        block = block_on Full (Opens opens_at.subject ∷ []);
        names_are = w.names_are;
      }

      -- however it was received
      pub way_received : (reception : Reception) → GoesOnTo p q → HasReceived p q subject reception → OpensAs remaining contents (opening_of reception) old.connection conn → SpeaksForItsOwn first p
          → IsUnderWay remaining contents names first q (record old { connection = conn; told = told; subject = Some subject; reception = reception }) None
      way_received Awaited on received opens speaks = absurd received
      way_received (Open session) on received opens speaks = way_opened session on received opens speaks
      way_received Full on received opens speaks = way_full received.1 opens

-- its number is a new one
pub new_received : (p q : PassView) (subject : ℕ) (reception : Reception) → HasReceived p q subject reception → IsNewSession p reception
new_received p q subject Awaited received = absurd received
new_received p q subject (Open session) received = new_number p q (machine.Opens subject) session received
new_received p q subject Full received = tt

-- ---- a line

module _ {S : Type 0} (remaining contents : S → Option (List ℕ)) (names : KnownNames) (first p : PassView) (old : Member S)
    (ordinal : ℕ) (work : Work) (w : IsUnderWay remaining contents names first p old (Some (Admits ordinal work))) where
  pub admits_open : (reception : Reception) → old.reception ≡ reception → (session : ℕ) × (reception ≡ Open session)
  admits_open Awaited is =
      let c : HasNoSession (account_of old w.replies w.done) = subst (HasCourse names first p (account_of old w.replies w.done) w.x.turns (Some (Admits ordinal work))) is w.course in
      absurd (admits_then (one_given remaining contents names first p old (Admits ordinal work) w) (left_of old.told) (talk_of old.connection.conv) w.x.turns w.done w.x.said ordinal work
      (at_stage old.connection.conv.stage stages.Listens (one_given remaining contents names first p old (Admits ordinal work) w) (left_of old.told) (talk_of old.connection.conv) w.x.turns (w.done ++ Admits ordinal work ∷ []) w.x.said w.asks.awaits
      (one_at remaining contents names first p old (Admits ordinal work) w)) c.none)
  admits_open (Open session) is = (session, refl)
  admits_open Full is = absurd (not_full remaining contents names first p old (Admits ordinal work) w Full is refl)

  pub readable : IsHome names p → IsReadable p.gate.base.setup.names work
  readable home = (let origin = w.asks.origin in are_served p.gate.base.setup home.agree origin.0 (Ask work) (subst (λ n. IsTurn n origin.0 (Ask work)) home.names_are origin.1))

  module _ (session : ℕ) (is : old.reception ≡ Open session) where
    abbrev before : Course
    before = course_of names (account_of old w.replies w.done) session

    abbrev after : Course
    after = record { session = session; last = ordinal; upto = old.upto; replies = told_text names w.replies }

    pub line_course : IsCourse names first p before w.done
    line_course = subst (HasCourse names first p (account_of old w.replies w.done) w.x.turns (Some (Admits ordinal work))) is w.course

    -- it was admitted, or there was no room for it
    way_lined : (q : PassView) → IsCourse names first q after (w.done ++ Admits ordinal work ∷ []) → IsUnderWay remaining contents names first q (record old { last = ordinal }) None
    way_lined q course = record {
      x = w.x;
      replies = w.replies;
      done = w.done ++ Admits ordinal work ∷ [];
      joined = w.joined;
      course = subst (HasCourse names first q (record { replies = w.replies; done = w.done ++ Admits ordinal work ∷ []; last = ordinal; upto = old.upto }) w.x.turns None) (sym is) course;
      asks = record { asked_is = w.asks.asked_is; alone = listens_needs old.connection.conv.ended old.connection.conv.stage w.asks.awaits };
      told = w.told;
      block = record {
        last = (let end = w.asks.next.0 in omega (arith, end));
        within = (let within = w.block.within in let lt = w.asks.next.1 in omega (arith, within, lt));
        upto = w.block.upto;
        stands = w.block.stands;
      };
      names_are = w.names_are;
    }

    module _ (q : PassView) (on : GoesOnTo p q) (A : State → Type 0) (call : Calls p (machine.Admits session ordinal work) A q) where
      course_then : IsCourse names first q after (w.done ++ Admits ordinal work ∷ [])
      course_then = course_asked p q on.follows on.trail names first before w.done line_course ordinal work A w.asks.next.1 w.block.within call

      pub way_admitted : IsUnderWay remaining contents names first q (record old { last = ordinal }) None
      way_admitted = way_lined q course_then

      pub alone_spoken : SpeaksForNoOther session p q
      alone_spoken = adds_call (λ _. IsNoLineBut session) p q (machine.Admits session ordinal work) A call refl

      pub speaks_admitted : SpeaksForItsOwn first p → SpeaksForItsOwn first q
      speaks_admitted speaks =
          (one_goes_on names first p q (one ∷ []) on_course on 0 (record { course = after; told = w.done ++ Admits ordinal work ∷ [] }) (omega arith) refl alone_spoken course_then).speaks
        where
          one : Standing
          one = record { course = before; told = w.done }

          on_course : AreOnCourse names first p (one ∷ [])
          on_course = record {
            speaks = speaks;
            each = All-cons (λ (s : Standing). IsCourse names first p s.course s.told) one [] line_course (All-nil (λ (s : Standing). IsCourse names first p s.course s.told));
            differ = λ i j d lt inside. absurd (omega (arith, lt, inside));
          }

    pub way_no_room : IsCause (state_seen p) session ordinal work causes.Full → IsUnderWay remaining contents names first p (record old { last = ordinal }) None
    way_no_room cause = way_lined p (course_full names first p before w.done line_course ordinal work w.asks.next.1 cause.3)

    pub way_entered : (q : PassView) → GoesOnTo p q → HasEntered p q session ordinal work → SpeaksForItsOwn first p
        → IsUnderWay remaining contents names first q (record old { last = ordinal }) None × SpeaksForItsOwn first q
    way_entered q on (inl call) speaks = (way_admitted q on (λ x. Unit {0}) call, speaks_admitted q on (λ x. Unit {0}) call speaks)
    way_entered q on (inr (same, full)) speaks =
        subst (λ (v : PassView). IsUnderWay remaining contents names first v (record old { last = ordinal }) None × SpeaksForItsOwn first v) (sym same) (way_no_room full, speaks)

    -- for another cause: then another pass spoke for the session
    pub way_clash : (why : Cause) → IsHome names p → IsCause (state_seen p) session ordinal work why → (why ≡ causes.Full → ⊥) → SpeaksAlone first p session → ⊥
    way_clash causes.Stranger home is other alone = is (subst (λ (s : Setup). IsReadable s.names work) (sym (setup_is p)) (readable home))
    way_clash causes.Session home is other alone = (let there = line_course.there in omega (arith, is.1, there))
    way_clash causes.Ordinal home is other alone =
        let h = heard names first p before w.done line_course home.names_are alone in
        let low = last_low (start p.gate.base.setup p.gate.base.limit) p.seen session old.last (omega arith)
        (subst (All (λ (a : ℕ × Work). a.0 ≤ old.last)) (sym h.lines) line_course.admits.works_low)
        in
        let lt = w.asks.next.1 in
        omega (arith, is.2, low, lt)
    way_clash causes.Full home is other alone = other refl

-- ---- a block

-- above the last ordinal before the block nothing was taken
not_le : (k n : ℕ) → n < k → nat_le k n ≡ false
not_le k n lt = grind (arith, nat_tests)

pub left_is : (b : Told) (names : KnownNames) (block : List Reply) (after : ℕ) → b.names.now ≡ names → b.replies.items ≡ block → b.upto ≡ after → (k : ℕ) → after < k → left_of b k ≡ told_text names block k
left_is b names block after n t u k lt =
    ap (λ (o : Bool). if o then [] else told_text b.names.now b.replies.items k) (not_le k b.upto (omega (arith, u, lt)))
    ∙ ap (λ (m : KnownNames). told_text m b.replies.items k) n ∙ ap (λ (l : List Reply). told_text names l k) t

module _ {S : Type 0} (remaining contents : S → Option (List ℕ)) (names : KnownNames) (first p : PassView) (old : Member S) (w : IsUnderWay remaining contents names first p old (Some Settles)) where
  pub settles_open : (reception : Reception) → old.reception ≡ reception → (session : ℕ) × (reception ≡ Open session)
  settles_open Awaited is =
      let c : HasNoSession (account_of old w.replies w.done) = subst (HasCourse names first p (account_of old w.replies w.done) w.x.turns (Some Settles)) is w.course in
      let stage = w.asks.awaits in
      absurd (settles_then (one_given remaining contents names first p old Settles w) (left_of old.told) (talk_of old.connection.conv) w.x.turns w.done w.x.said stage.0
      (at_stage old.connection.conv.stage (stages.Settles stage.0) (one_given remaining contents names first p old Settles w) (left_of old.told) (talk_of old.connection.conv) w.x.turns (w.done ++ Settles ∷ []) w.x.said stage.1
      (one_at remaining contents names first p old Settles w)) c.none)
  settles_open (Open session) is = (session, refl)
  settles_open Full is = absurd (not_full remaining contents names first p old Settles w Full is refl)

  settles_no_room : (ended : Bool) (stage : Stage) (closing : Closing) → stage ≡ stages.Settles closing → need_at ended stage ≡ needs.Room → ⊥
  settles_no_room ended stage closing is room = (let e = ap (need_at ended) is in cc)

  pub no_room_yet : need_of old.connection.conv ≡ needs.Room → ⊥
  no_room_yet = (let stage = w.asks.awaits in settles_no_room old.connection.conv.ended old.connection.conv.stage stage.0 stage.1)

  module _ (session : ℕ) (is : old.reception ≡ Open session) where
    pub block_course : IsCourse names first p (course_of names (account_of old w.replies w.done) session) w.done
    block_course = subst (HasCourse names first p (account_of old w.replies w.done) w.x.turns (Some Settles)) is w.course

    -- these are its answers, of which so many are to the lines of the block
    module _ (by_lines : GoByLines) (home : IsHome names p) (all : List Reply) (count : ℕ) (answers : AreAnswers (state_seen p) session old.upto (map reply_of all))
        (known : All (λ (r : Reply). KnowsAnswer (state_seen p).setup r.answer) all) (low : All (λ (r : Reply). ordinal_of r ≤ last_ordinal old.connection.conv) (take count all))
        (next : BeginsAbove (last_ordinal old.connection.conv) (drop count all)) where
      abbrev ordinal : ℕ
      ordinal = last_ordinal old.connection.conv

      abbrev block : List Reply
      block = take count all

      names_here : (state_seen p).setup.names ≡ names
      names_here = ap (λ (s : Setup). s.names) (setup_is p) ∙ sym home.names_are

      is_block : IsBlock names old.upto ordinal block
      is_block = subst (λ n. IsBlock n old.upto ordinal block) names_here
          (left_is_block by_lines (state_seen p) session old.upto ordinal count all answers (subst Agree (sym (setup_is p)) home.agree) low known)

      within : old.upto ≤ ordinal
      within = (let a = w.block.within in let b = w.block.last in omega (arith, a, b))

      below_or_not : (a b : ℕ) → (a ≤ b) ⊎ (b < a)
      below_or_not a b = grind arith

      same : SameUpTo old.upto (told_text names w.replies) (line_text (state_seen p) session) → SameUpTo ordinal (told_text names (w.replies ++ block)) (line_text (state_seen p) session)
      same was k le = side (below_or_not k old.upto)
        where
          side : (k ≤ old.upto) ⊎ (old.upto < k) → line_text (state_seen p) session k ≡ told_text names (w.replies ++ block) k
          side (inl before) = was k before ∙ sym (text_stays names old.upto ordinal w.replies block is_block.are k before)
          side (inr after) =
              sym (text_new names old.upto w.replies block w.told k after
              ∙ (ap (λ n. line_or_full n k (map reply_of (line_of k block))) (sym names_here)
              ∙ (ap (λ l. line_or_full (state_seen p).setup.names k (map reply_of l)) (line_stays by_lines (state_seen p) session old.upto ordinal count all answers k le next)
              ∙ block_text by_lines (state_seen p) session all old.upto k after answers)))

      module _ (conn : Connection S) (told : Told) (on : IsAnswered remaining contents old.connection conn) (stays : SameBlock old.connection.conv conn.conv) (state : state_of conn ≡ states.Tells)
          (named : told.names.now ≡ names) (items : told.replies.items ≡ block) (first_next : told.next ≡ 0) (upto : told.upto ≡ old.connection.conv.after) where
        joined_settled : IsConnected remaining contents names (Answers openings.Open (told_text names (w.replies ++ block)) ordinal) (left_of told) conn w.x
        joined_settled =
            on.1 names openings.Open (told_text names (w.replies ++ block)) ordinal (left_of old.told) (left_of told) w.x (omega arith)
            (λ k above le. left_is told names block old.connection.conv.after named items upto k above
            ∙ sym (text_new names old.upto w.replies block w.told k (let begins = w.block.upto no_room_yet in omega (arith, above, begins))))
            (connected_still remaining contents names openings.Open (told_text names w.replies) (told_text names (w.replies ++ block)) old.upto ordinal (left_of old.told) old.connection w.x within
            (λ k le. text_stays names old.upto ordinal w.replies block is_block.are k le)
            (w.joined openings.Open (told_text names w.replies) old.upto (subst (λ r. HasAnswered names w.replies old.upto r openings.Open (told_text names w.replies) old.upto) (sym is) (refl, refl, refl))))

        joined_so : (reception : Reception) → reception ≡ Open session → (opening : Opening) (f : ℕ → List ℕ) (last : ℕ) → HasAnswered names (w.replies ++ block) ordinal reception opening f last
            → IsConnected remaining contents names (Answers opening f last) (left_of told) conn w.x
        joined_so reception opens opening f last fits =
            let is_so = subst (λ r. HasAnswered names (w.replies ++ block) ordinal r opening f last) opens fits in
            subst (λ o. IsConnected remaining contents names (Answers o f last) (left_of told) conn w.x) (sym is_so.0)
            (subst (λ g. IsConnected remaining contents names (Answers openings.Open g last) (left_of told) conn w.x) (sym is_so.1)
            (subst (λ n. IsConnected remaining contents names (Answers openings.Open (told_text names (w.replies ++ block)) n) (left_of told) conn w.x) (sym is_so.2) joined_settled))

        pub way_settled : IsUnderWay remaining contents names first p (record old { connection = conn; told = told; last = last_ordinal old.connection.conv; upto = last_ordinal old.connection.conv }) None
        way_settled = record {
          x = w.x;
          replies = w.replies ++ block;
          done = w.done ++ Settles ∷ [];
          joined = joined_so old.reception is;
          course = subst (HasCourse names first p (record { replies = w.replies ++ block; done = w.done ++ Settles ∷ []; last = ordinal; upto = ordinal }) w.x.turns None) (sym is)
              (course_settled names first p (course_of names (account_of old w.replies w.done) session) w.done block_course ordinal (told_text names (w.replies ++ block)) w.block.last answers.waits
              (λ _ was. same was));
          asks = record { asked_is = w.asks.asked_is; alone = room_needs (need_of conn.conv) (tells_at conn state).1 };
          told = told_on names old.upto ordinal w.replies block within w.told is_block.are;
          block = record {
            last = omega (arith, stays.last);
            within = omega arith;
            upto = λ quiet. absurd (quiet (tells_at conn state).1);
            stands = λ _. stands_first told block old.connection.conv.after (conn.conv.after + conn.conv.line + 1) items first_next (omega (arith, upto)) (page_first block old.connection.conv.after is_block.order)
                (subst (λ n. All (λ (r : Reply). NamesAnswer n r.answer) block) (sym named) (all_named names old.upto ordinal block is_block.are)) (omega (arith, stays.after));
          };
          names_are = w.names_are;
        }
