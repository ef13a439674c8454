-- How a member leaves: what went through its stream is a session, and a transcript.
use Rattle.std.proofs.Common.{◌≡◌, ℕ, inl, inr, Bool, true, false, List, [], ◌∷◌, ◌++◌, replicate, refl, sym, ap, subst, ◌∙◌, arith, append-nil, Option, Some, None, OnSome}
use Rattle.std.specs.Io.KnownBytes.{Appends, Consumes, IsAtEnd}
use Rattle.bl_work.specs.Names.{KnownNames}
use Rattle.bl_gate.specs.Gates.{PassView, state_seen}
use Rattle.bl_wire.specs.Faults.{is_read, is_write}
use Rattle.bl_wire.specs.Replies.{line_text}
use Rattle.bl_wire.specs.Texts.{session_text}
use Rattle.bl_wire.specs.Turns.{IsOpening}
use Rattle.bl_wire.specs.declared.fault.SessionFault.{SessionFault}
use Rattle.bl_wire.specs.declared.turn.Turn.{Turn}
use Rattle.bl_wire.specs.declared.turn.Turn.TheVariants.{Skip, Wait, Greets, Bad, Ask}
use Rattle.bl_engine.specs.BlockText.{Begins}
use Rattle.bl_engine.specs.Conversations.{AreSo, AwaitsAt, Given, HasHeard, full_text, need_at, whole_asked, whole_text}
use Rattle.bl_engine.specs.Outcome.{Cutting, Finished, LacksTheLast, Stopped}
use Rattle.bl_engine.specs.Requests.{SameUpTo, told_by}
use Rattle.bl_engine.specs.declared.conversation.Need.TheVariants as needs
use Rattle.bl_engine.specs.declared.conversation.Opening.{Opening}
use Rattle.bl_engine.specs.declared.conversation.Opening.TheVariants as openings
use Rattle.bl_engine.specs.declared.conversation.Stage.{Stage}
use Rattle.bl_engine.specs.declared.request.Request.{Request}
use Rattle.bl_engine.specs.declared.request.Request.TheVariants.{Opens, Admits, Settles}
use Rattle.bl_connection.specs.Connections.{Answers, Finishes, HasFinished, IsConnected, ends_of, state_of, to_hear, unwritten, view_of}
use Rattle.bl_connection.specs.declared.connection.State.TheVariants as states
use Rattle.bl_connection.proofs.Passing.{begins_front}
use Rattle.bl_connection.proofs.States.{over_at}
use Rattle.bl_session.specs.Transcripts.{IsTranscript}
use Rattle.bl_serve.specs.Courses.{HasOpened, IsCourse, IsOpenedAt}
use Rattle.bl_serve.specs.Outcome.{IsSeen}
use Rattle.bl_serve.specs.Talks.{full_words}
use Rattle.bl_serve.specs.Telling.{left_of}
use Rattle.bl_serve.specs.Told.{told_text}
use Rattle.bl_serve.proofs.OutcomeLaws.{finished_plain, only_settles, stopped_plain}
use Rattle.bl_serve.proofs.ToldLaws.{all_named}
use Rattle.bl_serve.proofs.Transcribing.{gained_is, nothing_told, replies_are, transcribed, turned_away, written_is}
use Rattle.bl_crowd.specs.Departures.{BeginsAmong, Departs, HasLeft, IsCutShortAmong, IsServedAmong, IsTranscribedAmong}
use Rattle.bl_crowd.specs.Members.{Account, BeginsAt, HasAnswered, HasAsked, HasCourse, MayGive, course_of}
use Rattle.bl_crowd.specs.Ways.{HasFailed, IsHome, IsReceived, IsUnderWay, StandsSo, account_of}
use Rattle.bl_crowd.specs.declared.member.Member.{Member}
use Rattle.bl_crowd.specs.declared.member.Reception.{Reception}
use Rattle.bl_crowd.specs.declared.member.Reception.TheVariants.{Awaited, Open, Full}
use Rattle.bl_crowd.proofs.Streaming.{begins_of, heard_of, open_answered, some_answered}

-- ---- words

-- what is told where there are as many sessions as there may be
full_is : (subject : ℕ) (turns : List Turn) → IsOpening subject turns → full_text turns ≡ full_words
full_is subject [] opened = absurd opened
full_is subject (Skip ∷ turns) opened = full_is subject turns opened
full_is subject (Greets named ∷ turns) opened = refl
full_is subject (Wait ∷ turns) opened = absurd opened
full_is subject (Bad fault ∷ turns) opened = absurd opened
full_is subject (Ask work ∷ turns) opened = absurd opened

-- nothing is asked of the machine at the end
over_asks : (ended : Bool) (stage : Stage) (last : ℕ) (request : Request) → need_at ended stage ≡ needs.Over → AwaitsAt (Some request) last stage → ⊥
over_asks ended stage last (Opens subject) over awaits = (let e = ap (need_at ended) awaits in cc)
over_asks true stage last (Admits ordinal work) over awaits = (let e = ap (need_at true) awaits in cc)
over_asks false stage last (Admits ordinal work) over awaits = (let e = ap (need_at false) awaits in cc)
over_asks ended stage last Settles over awaits = (let e = ap (need_at ended) awaits.1 in cc)

-- ---- transcripts

module _ (names : KnownNames) (first pass : PassView) (account : Account) (home : IsHome names pass) where
  opened_of : (session : ℕ) (t : IsCourse names first pass (course_of names account session) account.done) → HasOpened first pass session
  opened_of session t = (t.subject, subst (λ (l : List ℕ). IsOpenedAt l pass session t.subject) (sym (gained_is names first pass (course_of names account session) account.done t)) t.opening)

  -- a first part of what is told to these lines was written
  module _ (lines : List Turn) (written : List ℕ) (settles : ℕ) (asked_is : told_by lines ≡ account.done ++ replicate settles Settles)
      (begins : (later : ℕ → List ℕ) → SameUpTo account.upto (told_text names account.replies) later → Begins written (session_text later lines)) where
    begins_awaited : account.done ≡ [] → BeginsAmong first pass lines written
    begins_awaited nothing =
        let none = only_settles lines settles (asked_is ∙ ap (λ l. l ++ replicate settles Settles) nothing) in
        inl (
          inl none,
          (
            session_text (told_text names account.replies) lines,
            nothing_told pass (told_text names account.replies) lines none,
            begins (told_text names account.replies) (λ k low. refl),
          ),
        )

    begins_open : (session : ℕ) → IsCourse names first pass (course_of names account session) account.done → BeginsAmong first pass lines written
    begins_open session t = inr (
      session,
      opened_of session t,
      λ alone. (
        session_text (line_text (state_seen pass) session) lines,
        transcribed names first pass (course_of names account session) account.done t home.names_are alone lines settles asked_is,
        begins (line_text (state_seen pass) session) (replies_are names first pass (course_of names account session) account.done t home.names_are alone),
      ),
    )

module _ {S : Type 0} (remaining contents : S → Option (List ℕ)) (names : KnownNames) (first pass : PassView) (member : Member S) (home : IsHome names pass) where
  -- ---- at any moment

  module _ (asked : Option Request) (w : IsUnderWay remaining contents names first pass member asked) where
    abbrev account : Account
    account = account_of member w.replies w.done

    abbrev May : Given → Type 0
    May = MayGive names w.replies member.upto member.reception

    -- the lines whose requests were done
    front_of : (asked : Option Request) → HasAsked names May member.connection w.x account asked
        → (front : List Turn) × LacksTheLast front w.x.turns × ((given : Given) → May given → BeginsAt given front w.done w.x.said)
    front_of None a = (w.x.turns, ([], omega arith, sym (append-nil w.x.turns)), begins_of remaining contents names first pass member.connection member.told account member.reception w.x w.joined a.asked_is)
    front_of (Some request) a = (a.front, a.lacks, a.before)

    abbrev front : List Turn
    front = (front_of asked w.asks).0

    module _ (opening : Opening) (answers : ℕ → List ℕ) (last : ℕ) (fits : HasAnswered names w.replies member.upto member.reception opening answers last) where
      on : IsConnected remaining contents names (Answers opening answers last) (left_of member.told) member.connection w.x
      on = w.joined opening answers last fits

      begins_by : (given : Given) → Answers opening answers last given → Begins on.written (whole_text given.opening given.replies front)
      begins_by given may = begins_front on.written (unwritten member.connection) w.x.said (whole_text given.opening given.replies front) on.passed.said
          ((front_of asked w.asks).2 given (opening, answers, last, fits, may)).begins

      asked_by : (given : Given) → Answers opening answers last given → (settles : ℕ) × (whole_asked given.opening front ≡ w.done ++ replicate settles Settles)
      asked_by given may = (let b = (front_of asked w.asks).2 given (opening, answers, last, fits, may) in (b.settles, b.asked_is))

      left_by : BeginsAmong first pass front on.written → HasLeft remaining contents names first pass member.connection
      left_by transcribed = record {
        heard = w.x.heard;
        turns = w.x.turns;
        took = on.passed.took;
        cut = heard_of remaining contents names first pass member.connection member.told account member.reception w.x w.joined;
        front = front;
        lacks = (front_of asked w.asks).1;
        written = on.written;
        put = on.passed.put;
        transcribed = transcribed;
      }

    -- where the machine opens the session
    module _ (received : IsReceived member.reception) where
      fits_open : HasAnswered names w.replies member.upto member.reception openings.Open (told_text names w.replies) member.upto
      fits_open = open_answered names w.replies member.upto member.reception received

      later_may : (later : ℕ → List ℕ) → SameUpTo member.upto (told_text names w.replies) later → Answers openings.Open (told_text names w.replies) member.upto (record { opening = openings.Open; replies = later })
      later_may later same = (refl, λ k low high. same k high)

      asks_now : (settles : ℕ) × (told_by front ≡ w.done ++ replicate settles Settles)
      asks_now = asked_by openings.Open (told_text names w.replies) member.upto fits_open (record { opening = openings.Open; replies = told_text names w.replies }) (later_may (told_text names w.replies) (λ k low. refl))

      begins_later : (later : ℕ → List ℕ) → SameUpTo member.upto (told_text names w.replies) later → Begins (on openings.Open (told_text names w.replies) member.upto fits_open).written (session_text later front)
      begins_later later same = begins_by openings.Open (told_text names w.replies) member.upto fits_open (record { opening = openings.Open; replies = later }) (later_may later same)

      left_open : (BeginsAmong first pass front (on openings.Open (told_text names w.replies) member.upto fits_open).written) → HasLeft remaining contents names first pass member.connection
      left_open = left_by openings.Open (told_text names w.replies) member.upto fits_open

    has_left : (reception : Reception) → member.reception ≡ reception → HasLeft remaining contents names first pass member.connection
    unfolding front_of
    has_left Awaited is =
        let received = subst IsReceived (sym is) tt in
        let c = subst (HasCourse names first pass account w.x.turns asked) is w.course in
        left_open received (begins_awaited names first pass account home front (on openings.Open (told_text names w.replies) member.upto (fits_open received)).written (asks_now received).0 (asks_now received).1 (begins_later received) c.none)
    has_left (Open session) is =
        let received = subst IsReceived (sym is) tt in
        let c = subst (HasCourse names first pass account w.x.turns asked) is w.course in
        left_open received (begins_open names first pass account home front (on openings.Open (told_text names w.replies) member.upto (fits_open received)).written (asks_now received).0 (asks_now received).1 (begins_later received) session c)
    has_left Full is =
        let c = subst (HasCourse names first pass account w.x.turns asked) is w.course in
        let fits = subst (λ r. HasAnswered names w.replies member.upto r openings.Full (λ _. []) 0) (sym is) refl in
        left_by openings.Full (λ _. []) 0 fits (inl (
          inr c.crowded,
          (
            full_words,
            subst (λ l. IsSeen pass 0 l full_words) (sym (whole_front c.none)) (turned_away pass c.subject w.x.turns c.crowded.trail c.crowded.full c.opened),
            subst (Begins (on openings.Full (λ _. []) 0 fits).written) (ap full_text (whole_front c.none) ∙ full_is c.subject w.x.turns c.opened)
                (begins_by openings.Full (λ _. []) 0 fits (record { opening = openings.Full; replies = λ _. [] }) (refl, λ k low high. refl)),
          ),
        ))
      where
        whole_front : asked ≡ None → front ≡ w.x.turns
        whole_front none = go asked none w.asks
          where
            go : (asked : Option Request) → asked ≡ None → (a : HasAsked names May member.connection w.x account asked) → (front_of asked a).0 ≡ w.x.turns
            go None none a = refl
            go (Some request) none a = cc

  -- ---- after a fault

  module _ (fault : SessionFault) (f : HasFailed remaining contents names first pass member fault) where
    abbrev failed : Account
    failed = account_of member f.replies f.x.asked

    cut_short : IsReceived member.reception → IsCutShortAmong remaining contents names first pass fault member.connection
    cut_short received = (
      f.replies,
      all_named names 0 member.upto f.replies f.told,
      f.kind,
      f.kind_is,
      stopped_plain names (ends_of remaining contents member.connection) (view_of (told_text names f.replies) member.upto f.x.asked) f.kind (is_read f.kind) (is_write f.kind) s,
      go member.reception refl,
    )
      where
        s : Stopped f.kind names (ends_of remaining contents member.connection) (is_read f.kind) (is_write f.kind) (view_of (told_text names f.replies) member.upto f.x.asked)
        s = f.stopped received

        asks : told_by s.heard ≡ f.x.asked ++ replicate s.settles Settles
        asks = s.told_is ∙ ap (λ l. l ++ replicate s.settles Settles) s.came

        begins : (later : ℕ → List ℕ) → SameUpTo member.upto (told_text names f.replies) later → Begins s.written (session_text later s.heard)
        begins later same = s.begins later (λ k low. same k (omega (arith, low, s.settled)))

        go : (reception : Reception) → member.reception ≡ reception → BeginsAmong first pass s.heard s.written
        go Awaited is =
            let c = subst (HasCourse names first pass failed f.x.turns None) is f.course in
            begins_awaited names first pass failed home s.heard s.written s.settles asks begins c.none
        go (Open session) is = begins_open names first pass failed home s.heard s.written s.settles asks begins session (subst (HasCourse names first pass failed f.x.turns None) is f.course)
        go Full is = absurd (subst IsReceived is received)

  pub departs : (fault : Option SessionFault) → StandsSo remaining contents names first pass member fault → Departs remaining contents names first pass member.connection member.reception fault
  departs None w = has_left member.asked w member.reception refl
  departs (Some fault) (inl w) = inl (has_left member.asked w member.reception refl)
  departs (Some fault) (inr f) = inr (cut_short fault f)

  -- ---- at the end

  module _ (asked : Option Request) (w : IsUnderWay remaining contents names first pass member asked) (over : state_of member.connection ≡ states.Over) (finishes : Finishes remaining contents member.connection) where
    abbrev ending : Account
    ending = account_of member w.replies w.done

    all_done : (asked : Option Request) → HasAsked names (MayGive names w.replies member.upto member.reception) member.connection w.x ending asked → w.x.asked ≡ w.done
    all_done None a = a.asked_is
    all_done (Some request) a = absurd (over_asks member.connection.conv.ended member.connection.conv.stage _ request (over_at member.connection over).1 a.awaits)

    module _ (opening : Opening) (answers : ℕ → List ℕ) (last : ℕ) (fits : HasAnswered names w.replies member.upto member.reception opening answers last) where
      finished : HasFinished remaining contents names opening answers last member.connection w.x
      finished = finishes names opening answers last (left_of member.told) w.x (w.joined opening answers last fits)

    -- where the session was open, or none was asked for
    module _ (received : IsReceived member.reception) where
      f : Finished names (ends_of remaining contents member.connection) (view_of (told_text names w.replies) member.upto w.x.asked)
      f = (finished openings.Open (told_text names w.replies) member.upto (open_answered names w.replies member.upto member.reception received)).finished refl

      came : told_by f.turns ≡ w.done
      came = f.came ∙ all_done asked w.asks

      served_by : IsTranscribedAmong first pass f.turns (session_text (told_text names w.replies) f.turns) → IsServedAmong remaining contents names first pass member.connection
      served_by transcribed = (
        w.replies,
        all_named names 0 member.upto w.replies w.told,
        inl (finished_plain names (ends_of remaining contents member.connection) (view_of (told_text names w.replies) member.upto w.x.asked) f, transcribed),
      )

    -- where it was turned away
    away : (ended : Bool) → member.connection.conv.ended ≡ ended
        → (again : Bool) × Cutting again names member.connection.first.remaining (to_hear remaining member.connection) member.connection.conv.left w.x.turns
    away ended is = go ended is heard.cut
      where
        heard : HasHeard names member.connection.conv w.x.turns w.x.heard
        heard = heard_of remaining contents names first pass member.connection member.told ending member.reception w.x w.joined

        end : member.connection.conv.ended ≡ true → OnSome member.connection.first.remaining (IsAtEnd (to_hear remaining member.connection))
        end = (let some = some_answered names w.replies member.upto member.reception in (w.joined some.0 some.1 some.2 some.3).passed.heard_end)

        took : Consumes member.connection.first.remaining (to_hear remaining member.connection) w.x.heard
        took = (let some = some_answered names w.replies member.upto member.reception in (w.joined some.0 some.1 some.2 some.3).passed.took)

        all : w.x.heard ≡ heard.whole
        all = heard.split ∙ ap (λ l. heard.whole ++ l) (heard.none (λ input. (let end = (over_at member.connection over).1 in cc))) ∙ append-nil heard.whole

        go : (ended : Bool) → member.connection.conv.ended ≡ ended → AreSo member.connection.conv.ended heard.whole heard.lines
            → (again : Bool) × Cutting again names member.connection.first.remaining (to_hear remaining member.connection) member.connection.conv.left w.x.turns
        go true is cut = (
          false,
          record {
            bytes = w.x.heard;
            lines = heard.lines;
            cut = (subst (λ (b : List ℕ). AreSo true b heard.lines) (sym all) (subst (λ (e : Bool). AreSo e heard.whole heard.lines) is cut), end is);
            took = took;
            count = heard.count;
            are = heard.are;
          },
        )
        go false is cut = (
          true,
          record {
            bytes = w.x.heard;
            lines = heard.lines;
            cut = subst (λ (b : List ℕ). AreSo false b heard.lines) (sym all) (subst (λ (e : Bool). AreSo e heard.whole heard.lines) is cut);
            took = took;
            count = heard.count;
            are = heard.are;
          },
        )

    pub is_served : (reception : Reception) → member.reception ≡ reception → IsServedAmong remaining contents names first pass member.connection
    is_served Awaited is =
        let received = subst IsReceived (sym is) tt in
        let c = subst (HasCourse names first pass ending w.x.turns asked) is w.course in
        let none = came received ∙ c.none in
        served_by received (inl (none, nothing_told pass (told_text names w.replies) (f received).turns none))
    is_served (Open session) is =
        let received = subst IsReceived (sym is) tt in
        let c : IsCourse names first pass (course_of names ending session) w.done = subst (HasCourse names first pass ending w.x.turns asked) is w.course in
        let turns = (f received).turns in
        served_by received (inr (
          session,
          opened_of names first pass ending home session c,
          λ alone.
              subst (IsTranscript pass.gate.base.setup pass.gate.base.limit pass.seen session turns)
              (sym (written_is names first pass (course_of names ending session) w.done c home.names_are alone turns (came received)))
              (transcribed names first pass (course_of names ending session) w.done c home.names_are alone turns 0 (came received ∙ sym (append-nil w.done))),
        ))
    is_served Full is =
        let c = subst (HasCourse names first pass ending w.x.turns asked) is w.course in
        let fits = subst (λ r. HasAnswered names w.replies member.upto r openings.Full (λ _. []) 0) (sym is) refl in
        let cut = away member.connection.conv.ended refl in (
          w.replies,
          all_named names 0 member.upto w.replies w.told,
          inr (
            record {
              subject = c.subject;
              turns = w.x.turns;
              opened = c.opened;
              again = cut.0;
              left = member.connection.conv.left;
              read = cut.1;
              put = subst (Appends member.connection.first.contents (contents member.connection.stream)) (full_is c.subject w.x.turns c.opened) (finished openings.Full (λ _. []) 0 fits).put;
              came = tt;
            },
            turned_away pass c.subject w.x.turns c.crowded.trail c.crowded.full c.opened,
          ),
        )
