-- Laws of the hall of one session: what became of its places, and what was told.
use Rattle.std.proofs.Common.{◌≡◌, ℕ, zero, suc, ◌+◌, ◌-◌, ◌<◌, ◌≤◌, Bool, true, false, cond, List, [], ◌∷◌, ◌++◌, length, refl, sym, ap, subst, ◌∙◌, arith, append-nil, append_assoc, nat_lt, replicate, true≢false, inl, inr, ◌⊎◌, sum_by, slice_index_or, slice_set}
use Rattle.std.proofs.lemmas.Bool.Decides.{nat_tests}
use mathlib.Core.Path.{fun_ext}
use Rattle.bl_work.specs.Readable.{IsReadable}
use Rattle.bl_work.specs.declared.work.Work.{Work}
use Rattle.bl_setup.specs.Setup.{Setup}
use Rattle.bl_order.specs.Order.{Line}
use Rattle.bl_order.specs.Past.{is_done, place, content_before}
use Rattle.bl_order.specs.Machine.{State, Event, Session, Phase, MayStart, Needs, Waiting, Running, Ended, Gone, is_gone, is_waiting, past_at, phase_at, change, state_after, start, runs, has_ended, session_at, no_session, entry_weight, weight_of, most_sessions}
use Rattle.bl_order.specs.Machine as machine
use Rattle.bl_core.specs.Answers.{IsCause, loan_at, loan_of}
use Rattle.bl_core.specs.declared.refusal.Cause.{Cause}
use Rattle.bl_core.specs.declared.refusal.Cause.TheVariants as cause
use Rattle.bl_hall.specs.Chronicle.{Chronicle, HasTrail, state_now, with_event}
use Rattle.bl_wire.specs.declared.turn.Turn.{Turn}
use Rattle.bl_wire.specs.Replies.{line_text}
use Rattle.bl_engine.specs.declared.request.Request.{Request}
use Rattle.bl_engine.specs.declared.request.Request.TheVariants.{Opens, Admits, Settles}
use Rattle.bl_engine.specs.Requests.{SameUpTo, told_by}
use Rattle.bl_session.specs.declared.entries.Pages.{Pages}
use Rattle.bl_session.specs.One.{Fate, Kept, Starved, Unrun, started_then, events_by, place_events, run_from, settling, fits, events_of, next_session, one_after}
use Rattle.bl_session.specs.Keeping.{IsFrontOf}
use Rattle.bl_session.specs.Pages.{AreLater, BeganIn, RanUpTo, Stands, Came, HasEnded, HasHad, HaveRun, with_events}
use Rattle.bl_session.proofs.OrderLaws.{later-line, text-stands}
use Rattle.bl_session.proofs.PhaseLaws.{more_waiting}
use Rattle.bl_session.proofs.RunLaws.{GoesOn, state_after-append, limit_after, goes_run, goes_from, goes_same, goes_settles, next_runs, place_is, ran_place, ran_line, run-skip, run-one, run-none, told_append}

-- ---- the events of a place

-- the state that more events lead to
pub state_with : (h : Chronicle) (events : List Event) → state_now (with_events h events) ≡ state_after (state_now h) events
state_with h events = state_after-append (start h.setup h.limit) h.trail events

pub state_next : (h : Chronicle) (e : Event) → state_now (with_event h e) ≡ change (state_now h) e
state_next h e = state_with h (e ∷ [])

two_events : (h : Chronicle) (a b : Event) → with_event (with_event h a) b ≡ with_events h (a ∷ b ∷ [])
two_events h a b = λ i. record { setup = h.setup; limit = h.limit; trail = append_assoc h.trail (a ∷ []) (b ∷ []) i }

-- a start loses no place
lost_started : (phases : List Phase) (n : ℕ) (b : Bool) → is_waiting (slice_index_or phases n Waiting) ≡ true → (k : ℕ)
    → is_gone (slice_index_or (slice_set phases n (cond b Running Ended)) k Waiting) ≡ is_gone (slice_index_or phases k Waiting)
lost_started [] n b waits k = refl
lost_started (p ∷ phases) zero b waits zero = none b ∙ sym (idle p waits)
  where
    none : (c : Bool) → is_gone (cond c Running Ended) ≡ false
    none true = refl
    none false = refl

    idle : (p : Phase) → is_waiting p ≡ true → is_gone p ≡ false
    idle Waiting is = refl
    idle Running is = absurd (true≢false (sym is))
    idle Ended is = absurd (true≢false (sym is))
    idle Gone is = absurd (true≢false (sym is))
lost_started (p ∷ phases) zero b waits (suc k) = refl
lost_started (p ∷ phases) (suc n) b waits zero = refl
lost_started (p ∷ phases) (suc n) b waits (suc k) = lost_started phases n b waits k

-- what is lent at the start is what the running place is lent
pub loan_started : (x : State) (n : ℕ) → MayStart x n → loan_at (change x (machine.Starts n)) n ≡ loan_at x n
loan_started x n may =
    ap (λ (l : ℕ → Bool). loan_of n (place x.setup l x.order n).task (λ doc. content_before x.setup l x.order doc n))
    (fun_ext (lost_started x.phases n (is_done (past_at x n).answer) may.waits))

module _ (h : Chronicle) (n : ℕ) (ran : RanUpTo n (state_now h)) (there : n < length (state_now h).order) where
  -- where it runs, and has ended or is lost
  pub had_run : (mid after : Chronicle) → mid ≡ with_event h (machine.Starts n) → is_done (past_at (state_now h) n).answer ≡ true → HasEnded n mid after → HasHad n h after
  had_run mid after at done e = go e.is
    where
      running : runs (change (state_now h) (machine.Starts n)) n ≡ true
      running = next_runs (state_now h) n ran there ∙ done

      events : (f : Fate) (event : Event) → events_by f (state_now h) n ≡ started_then (state_now h) n event → place_events f (state_now h) n ≡ machine.Starts n ∷ event ∷ []
      events f event by = place_is (state_now h) n ran there f ∙ by ∙ ap (λ b. cond b (machine.Starts n ∷ event ∷ []) (machine.Starts n ∷ [])) running

      had : (f : Fate) (event : Event) → events_by f (state_now h) n ≡ started_then (state_now h) n event → after ≡ with_event mid event → HasHad n h after
      had f event by is = record {
        fate = f;
        is = is ∙ ap (λ m. with_event m event) at ∙ two_events h (machine.Starts n) event ∙ ap (with_events h) (sym (events f event by));
        trail = e.trail;
      }

      go : (after ≡ with_event mid (machine.Ends n)) ⊎ (after ≡ with_event mid (machine.Loses n)) → HasHad n h after
      go (inl is) = had Kept (machine.Ends n) refl is
      go (inr is) = had Unrun (machine.Loses n) refl is

  -- where it has ended at its start
  pub had_started : (after : Chronicle) → after ≡ with_event h (machine.Starts n) → HasTrail after → is_done (past_at (state_now h) n).answer ≡ false → HasHad n h after
  had_started after is trail done = record {
    fate = Kept;
    is = is
        ∙ ap (with_events h) (sym (place_is (state_now h) n ran there Kept ∙ ap (λ b. cond b (machine.Starts n ∷ machine.Ends n ∷ []) (machine.Starts n ∷ [])) (next_runs (state_now h) n ran there ∙ done)));
    trail = trail;
  }

  -- where there was no memory to start it
  pub had_lost : (after : Chronicle) → after ≡ with_event h (machine.Loses n) → HasTrail after → HasHad n h after
  had_lost after is trail = record { fate = Starved; is = is ∙ ap (with_events h) (sym (place_is (state_now h) n ran there Starved)); trail = trail }

-- ---- a place after the other

pub run_start : (h : Chronicle) (n : ℕ) → HasTrail h → RanUpTo n (state_now h) → HaveRun h n h n
run_start h n trail ran = record {
  some = omega arith;
  setup_is = refl;
  limit_is = refl;
  trail = trail;
  ran = ran;
  fate = λ k. Kept;
  led = λ other same most. let e : most ≡ (n - n) + most = omega arith in ap (λ k. h.trail ++ run_from other k (state_now h) n) e;
}

pub run_step : (h g after : Chronicle) (from to : ℕ) → HaveRun h from g to → to < length (state_now g).order → HasHad to g after → HaveRun h from after (suc to)
run_step h g after from to run lt had = subst (λ c. HaveRun h from c (suc to)) (sym had.is) (record {
  some = omega (arith, run.some);
  setup_is = run.setup_is;
  limit_is = run.limit_is;
  trail = subst HasTrail had.is had.trail;
  ran = subst (RanUpTo (suc to)) (sym (state_with g events)) (ran_place y to run.ran lt had.fate);
  fate = fate;
  led = led;
})
  where
    y : State
    y = state_now g

    events : List Event
    events = place_events had.fate y to

    fate : ℕ → Fate
    fate k = cond (nat_lt k to) (run.fate k) had.fate

    below : (k : ℕ) → k < to → fate k ≡ run.fate k
    below k low = let e : nat_lt k to ≡ true = grind (arith, nat_tests) in ap (λ b. cond b (run.fate k) had.fate) e

    here : fate to ≡ had.fate
    here = let e : nat_lt to to ≡ false = grind (arith, nat_tests) in ap (λ b. cond b (run.fate to) had.fate) e

    led : (other : ℕ → Fate) → ((k : ℕ) → from ≤ k → k < suc to → other k ≡ fate k) → (most : ℕ)
        → (g.trail ++ events) ++ run_from other most (state_now (with_events g events)) (suc to) ≡ h.trail ++ run_from other ((suc to - from) + most) (state_now h) from
    led other same most =
        let fated : place_events (other to) y to ≡ events = ap (λ f. place_events f y to) (same to run.some (omega arith) ∙ here) in
        let count : (to - from) + suc most ≡ (suc to - from) + most = omega (arith, run.some) in
        append_assoc g.trail events (run_from other most (state_now (with_events g events)) (suc to))
        ∙ ap (λ z. g.trail ++ (events ++ run_from other most z (suc to))) (state_with g events)
        ∙ ap (λ (l : List Event). g.trail ++ (l ++ run_from other most (state_after y l) (suc to))) (sym fated)
        ∙ ap (λ l. g.trail ++ l) (sym (run-one other y to most lt))
        ∙ run.led other (λ k low high. same k low (omega (arith, high)) ∙ below k high) (suc most)
        ∙ ap (λ k. h.trail ++ run_from other k (state_now h) from) count

-- where all have run
module _ (h after : Chronicle) (from to : ℕ) (before : RanUpTo from (state_now h)) (run : HaveRun h from after to) where
  run_is : after ≡ with_events h (run_from run.fate (to - from) (state_now h) from)
  run_is = λ i. record { setup = run.setup_is i; limit = run.limit_is i; trail = trail i }
    where
      count : (to - from) + 0 ≡ to - from
      count = omega arith

      trail : after.trail ≡ h.trail ++ run_from run.fate (to - from) (state_now h) from
      trail = sym (append-nil after.trail) ∙ run.led run.fate (λ k low high. refl) 0 ∙ ap (λ k. h.trail ++ run_from run.fate k (state_now h) from) count

  -- the events of the places are added
  pub run_front : IsFrontOf h after
  run_front = (run_from run.fate (to - from) (state_now h) from, run_is)

  run_state : state_now after ≡ state_after (state_now h) (run_from run.fate (to - from) (state_now h) from)
  run_state = ap state_now run_is ∙ state_with h (run_from run.fate (to - from) (state_now h) from)

  run_goes : (n : ℕ) → AreLater from (state_now h).order n → GoesOn (state_now h) from n (state_now after)
  run_goes n later =
      subst (GoesOn (state_now h) from n) (sym run_state)
      (goes_run (state_now h) from n before.over run.fate (to - from) (state_now h) from (goes_from (state_now h) from n before later))

  -- what stands stays
  pub run_settled : (i n : ℕ) → AreLater from (state_now h).order n → AreLater to (state_now after).order n × SameUpTo n (line_text (state_now h) i) (line_text (state_now after) i)
  run_settled i n later =
      let on : GoesOn (state_now h) from n (state_now after) = run_goes n later in
      (λ p low high. on.later p (omega (arith, low, run.some)) high, goes_same (state_now h) i from n (state_now after) before.within on)

  pub run_sessions : (n : ℕ) → AreLater from (state_now h).order n → (state_now after).sessions ≡ (state_now h).sessions
  run_sessions n later = (run_goes n later).sessions_are

-- a line more leaves what stands
pub asked_settled : (x : State) (i e k n : ℕ) (w : Work) → RanUpTo e x → n < k → AreLater e x.order n
    → AreLater e (change x (machine.Admits i k w)).order n × SameUpTo n (line_text x i) (line_text (change x (machine.Admits i k w)) i)
asked_settled x i e k n w ran lt later =
    let grown : AreLater e (change x (machine.Admits i k w)).order n = later-line x.order e i k (session_at x i).subject n w later lt in
    (grown, text-stands x (change x (machine.Admits i k w)) i (Line i k (session_at x i).subject w ∷ []) e n refl refl (λ p low. ap is_gone (more_waiting x.phases 1 p)) ran.within grown)

-- what is read by the setup's names, of a session that is open, with an ordinal above its last one, is refused only since there is no room
pub only_full : (x : State) (i k : ℕ) (w : Work) (why : Cause) → i < length x.sessions → IsReadable x.setup.names w → (session_at x i).last < k → IsCause x i k w why
    → (why ≡ cause.Stranger) ⊎ ((why ≡ cause.Session) ⊎ (why ≡ cause.Ordinal)) → ⊥
only_full x i k w why there readable last is (inl e) = subst (IsCause x i k w) e is readable
only_full x i k w why there readable last is (inr (inl e)) = let none = (subst (IsCause x i k w) e is).1 in omega (arith, none, there)
only_full x i k w why there readable last is (inr (inr e)) = let low = (subst (IsCause x i k w) e is).2 in omega (arith, low, last)

-- ---- what was told

-- the session that is opened is the last
pub session_born : (sessions : List Session) (s : Session) → slice_index_or (sessions ++ s ∷ []) (length sessions) no_session ≡ s
session_born [] s = refl
session_born (r ∷ sessions) s = session_born sessions s

-- there is none behind
pub session_none : (sessions : List Session) → slice_index_or sessions (length sessions) no_session ≡ no_session
session_none [] = refl
session_none (r ∷ sessions) = session_none sessions

-- behind the last place none has begun
waits_behind : (phases : List Phase) (p : ℕ) → length phases ≤ p → slice_index_or phases p Waiting ≡ Waiting
waits_behind [] p le = refl
waits_behind (q ∷ phases) zero le = absurd (omega arith)
waits_behind (q ∷ phases) (suc p) le = waits_behind phases p (omega (arith, le))

-- where all places have ended, they have run up to the last
pub ran_all : (x : State) → length x.phases ≡ length x.order → ((n : ℕ) → n < length x.order → has_ended x n ≡ true) → RanUpTo (length x.order) x
ran_all x as_many ended = record {
  as_many = as_many;
  within = omega arith;
  over = λ p lt. ended p lt;
  waits = λ p le. waits_behind x.phases p (omega (arith, le, as_many));
}

module _ (setup : Setup) (begun : Chronicle) where
  -- where the session begins in its hall, in which all has ended
  pub new_came : (s : Pages) → s.hall ≡ begun → begun.setup ≡ setup → HasTrail begun → s.next ≡ length (state_now begun).order → s.session ≡ next_session (state_now begun)
      → length (state_now begun).sessions < most_sessions → length (state_now begun).phases ≡ length (state_now begun).order
      → ((n : ℕ) → n < length (state_now begun).order → has_ended (state_now begun) n ≡ true) → Came setup begun s []
  new_came s is over trail next session room as_many ended = record {
    stands = record {
      setup_is = ap (λ (h : Chronicle). h.setup) is ∙ over;
      trail = subst HasTrail (sym is) trail;
      ran = subst (λ (h : Chronicle). RanUpTo s.next (state_now h)) (sym is) (subst (λ n. RanUpTo n (state_now begun)) (sym next) (ran_all (state_now begun) as_many ended));
    };
    began = record {
      setup_is = over;
      limit_is = ap (λ (h : Chronicle). h.limit) is;
      session_is = session;
      room = omega (arith, session, room);
      over = omega (arith, next);
    };
    fate = λ n. Kept;
    led = λ other same. ap (λ (h : Chronicle). h.trail) is ∙ sym (append-nil begun.trail);
  }

  -- what was told has these events
  came_events : (s : Pages) (told : List Request) (c : Came setup begun s told) (other : ℕ → Fate) → ((n : ℕ) → n < s.next → other n ≡ c.fate n)
      → state_now s.hall ≡ state_after (state_now begun) (events_of s.session other (state_now begun) told)
  came_events s told c other same =
      ap (λ (k : Setup). state_after (start k s.hall.limit) s.hall.trail) (c.stands.setup_is ∙ sym c.began.setup_is)
      ∙ ap (λ k. state_after (start begun.setup k) s.hall.trail) c.began.limit_is
      ∙ ap (state_after (start begun.setup begun.limit)) (c.led other same)
      ∙ state_after-append (start begun.setup begun.limit) begun.trail (events_of s.session other (state_now begun) told)

  -- the state is where what was told leads
  pub came_state : (s : Pages) (told : List Request) (c : Came setup begun s told) → state_now s.hall ≡ state_after (state_now begun) (events_of s.session c.fate (state_now begun) told)
  came_state s told c = came_events s told c c.fate (λ n lt. refl)

  module _ (s t : Pages) where
    -- the session is still the one that began in the hall
    began_on : BeganIn setup begun s → t.hall.limit ≡ s.hall.limit → t.session ≡ s.session → s.next ≤ t.next → BeganIn setup begun t
    began_on b limit session next = record {
      setup_is = b.setup_is;
      limit_is = limit ∙ b.limit_is;
      session_is = session ∙ b.session_is;
      room = omega (arith, session, b.room);
      over = omega (arith, b.over, next);
    }

    -- an event that changes no phase and is told
    came_more : (told : List Request) (request : Request) (events : List Event) → Came setup begun s told → t.hall ≡ with_events s.hall events → t.next ≡ s.next → t.session ≡ s.session → HasTrail t.hall
        → RanUpTo s.next (state_now t.hall) → ((other : ℕ → Fate) → events_of s.session other (state_now s.hall) (request ∷ []) ≡ events) → Came setup begun t (told ++ request ∷ [])
    came_more told request events c is next session trail ran by = record {
      stands = record {
        setup_is = ap (λ (h : Chronicle). h.setup) is ∙ c.stands.setup_is;
        trail = trail;
        ran = subst (λ n. RanUpTo n (state_now t.hall)) (sym next) ran;
      };
      began = began_on c.began (ap (λ (h : Chronicle). h.limit) is) session (omega (arith, next));
      fate = c.fate;
      led = λ other same.
          let x : State = state_now begun in
          let early : (n : ℕ) → n < s.next → other n ≡ c.fate n = λ n lt. same n (omega (arith, lt, next)) in
          let at : state_now s.hall ≡ state_after x (events_of s.session other x told) = came_events s told c other early in
          ap (λ (h : Chronicle). h.trail) is
          ∙ ap (λ l. l ++ events) (c.led other early)
          ∙ append_assoc begun.trail (events_of s.session other x told) events
          ∙ ap (λ l. begun.trail ++ (events_of s.session other x told ++ l)) (sym (by other) ∙ ap (λ y. events_of s.session other y (request ∷ [])) at)
          ∙ ap (λ l. begun.trail ++ l) (sym (told_append other s.session told (request ∷ []) x))
          ∙ ap (λ j. begun.trail ++ events_of j other x (told ++ request ∷ [])) (sym session);
    }

    -- a line is admitted
    pub asked_stands : (k : ℕ) (w : Work) → Stands setup s → t.hall ≡ with_event s.hall (machine.Admits s.session k w) → t.next ≡ s.next → HasTrail t.hall → Stands setup t
    asked_stands k w stands is next trail = record {
      setup_is = ap (λ (h : Chronicle). h.setup) is ∙ stands.setup_is;
      trail = trail;
      ran = subst (λ n. RanUpTo n (state_now t.hall)) (sym next)
          (subst (RanUpTo s.next) (sym (ap state_now is ∙ state_next s.hall (machine.Admits s.session k w))) (ran_line (state_now s.hall) s.next s.session k w stands.ran));
    }

    -- a session is opened
    pub came_opened : (u : ℕ) → Came setup begun s [] → t.hall ≡ with_event s.hall (machine.Opens u) → t.next ≡ s.next → t.session ≡ s.session → HasTrail t.hall → Came setup begun t (Opens u ∷ [])
    came_opened u c is next session trail =
        came_more [] (Opens u) (machine.Opens u ∷ []) c is next session trail
        (subst (RanUpTo s.next) (sym (ap state_now is ∙ state_next s.hall (machine.Opens u))) (record { as_many = c.stands.ran.as_many; within = c.stands.ran.within; over = c.stands.ran.over; waits = c.stands.ran.waits }))
        (λ other. refl)

    -- a line that fits is admitted
    pub came_asked : (k : ℕ) (w : Work) (told : List Request) → Came setup begun s told → t.hall ≡ with_event s.hall (machine.Admits s.session k w) → t.next ≡ s.next → t.session ≡ s.session → HasTrail t.hall
        → Needs (state_now s.hall) (machine.Admits s.session k w) → Came setup begun t (told ++ Admits k w ∷ [])
    came_asked k w told c is next session trail needs =
        came_more told (Admits k w) (machine.Admits s.session k w ∷ []) c is next session trail
        (subst (RanUpTo s.next) (sym (ap state_now is ∙ state_next s.hall (machine.Admits s.session k w))) (ran_line (state_now s.hall) s.next s.session k w c.stands.ran))
        (λ other. ap (λ b. cond b (machine.Admits s.session k w ∷ []) []) fit)
      where
        fit : fits (state_now s.hall) w ≡ true
        fit = let room : sum_by entry_weight (state_now s.hall).order + weight_of w ≤ (state_now s.hall).limit = needs.4 in grind (arith, nat_tests)

    -- a line that does not fit is not
    pub came_full : (k : ℕ) (w : Work) (told : List Request) → Came setup begun s told → t.hall ≡ s.hall → t.next ≡ s.next → t.session ≡ s.session
        → (state_now s.hall).limit < sum_by entry_weight (state_now s.hall).order + weight_of w → Came setup begun t (told ++ Admits k w ∷ [])
    came_full k w told c is next session full =
        came_more told (Admits k w) [] c (is ∙ sym none) next session (subst HasTrail (sym is) c.stands.trail) (subst (λ h. RanUpTo s.next (state_now h)) (sym is) c.stands.ran)
        (λ other. ap (λ b. cond b (machine.Admits s.session k w ∷ []) []) fit)
      where
        none : with_events s.hall [] ≡ s.hall
        none = λ i. record { setup = s.hall.setup; limit = s.hall.limit; trail = append-nil s.hall.trail i }

        fit : fits (state_now s.hall) w ≡ false
        fit = grind (arith, nat_tests)

    -- all that was admitted is answered
    pub came_settled : (told : List Request) → Came setup begun s told → HaveRun s.hall s.next t.hall t.next → t.session ≡ s.session → t.next ≡ length (state_now t.hall).order
        → length (state_now t.hall).order ≤ (state_now t.hall).limit → Came setup begun t (told ++ Settles ∷ [])
    came_settled told c run session all room = record {
      stands = record {
        setup_is = run.setup_is ∙ c.stands.setup_is;
        trail = run.trail;
        ran = run.ran;
      };
      began = began_on c.began run.limit_is session run.some;
      fate = fate;
      led = led;
    }
      where
        x : State
        x = state_now s.hall

        b : State
        b = state_now begun

        fate : ℕ → Fate
        fate k = cond (nat_lt k s.next) (c.fate k) (run.fate k)

        early : (k : ℕ) → k < s.next → fate k ≡ c.fate k
        early k low = let e : nat_lt k s.next ≡ true = grind (arith, nat_tests) in ap (λ b. cond b (c.fate k) (run.fate k)) e

        late : (k : ℕ) → s.next ≤ k → fate k ≡ run.fate k
        late k low = let e : nat_lt k s.next ≡ false = grind (arith, nat_tests) in ap (λ b. cond b (c.fate k) (run.fate k)) e

        led : (other : ℕ → Fate) → ((k : ℕ) → k < t.next → other k ≡ fate k) → t.hall.trail ≡ begun.trail ++ events_of t.session other (state_now begun) (told ++ Settles ∷ [])
        led other same =
            let most : ℕ = x.limit - t.next in
            let limits : (state_now t.hall).limit ≡ x.limit = limit_after (start t.hall.setup t.hall.limit) t.hall.trail ∙ run.limit_is ∙ sym (limit_after (start s.hall.setup s.hall.limit) s.hall.trail) in
            let count : (t.next - s.next) + most ≡ x.limit - s.next = omega (arith, run.some, all, room, limits) in
            let within : s.next + (x.limit - s.next) ≡ x.limit = omega (arith, run.some, all, room, limits) in
            let before : (n : ℕ) → n < s.next → other n ≡ c.fate n = λ n lt. same n (omega (arith, lt, run.some)) ∙ early n lt in
            let front : s.hall.trail ≡ begun.trail ++ events_of s.session other b told = c.led other before in
            let at : x ≡ state_after b (events_of s.session other b told) = came_events s told c other before in
            let none : run_from other most (state_now t.hall) t.next ≡ [] = ap (run_from other most (state_now t.hall)) all ∙ run-none other (state_now t.hall) most in
            let back : t.hall.trail ++ run_from other most (state_now t.hall) t.next ≡ s.hall.trail ++ run_from other ((t.next - s.next) + most) x s.next =
            run.led other (λ k low high. same k high ∙ late k low) most
            in
            let from : 0 + s.next ≡ s.next = omega arith in
            let skip : settling other x ≡ run_from other (x.limit - s.next) x s.next =
            ap (λ k. run_from other k x 0) (sym within)
            ∙ run-skip other x s.next 0 (x.limit - s.next) (λ p lt. c.stands.ran.over p (omega (arith, lt))) (omega (arith, c.stands.ran.within))
            ∙ ap (run_from other (x.limit - s.next) x) from
            in
            sym (append-nil t.hall.trail) ∙ ap (λ l. t.hall.trail ++ l) (sym none) ∙ back
            ∙ ap (λ k. s.hall.trail ++ run_from other k x s.next) count
            ∙ ap (λ l. s.hall.trail ++ l) (sym skip ∙ sym (append-nil (settling other x)))
            ∙ ap (λ l. l ++ events_of s.session other x (Settles ∷ [])) front
            ∙ append_assoc begun.trail (events_of s.session other b told) (events_of s.session other x (Settles ∷ []))
            ∙ ap (λ y. begun.trail ++ (events_of s.session other b told ++ events_of s.session other y (Settles ∷ []))) at
            ∙ ap (λ l. begun.trail ++ l) (sym (told_append other s.session told (Settles ∷ []) b))
            ∙ ap (λ j. begun.trail ++ events_of j other b (told ++ Settles ∷ [])) (sym session)

  -- ---- what is written

  -- where all leads that these lines tell
  leads_as : (s : Pages) (fate : ℕ → Fate) (turns : List Turn) → s.session ≡ next_session (state_now begun)
      → state_after (state_now begun) (events_of s.session fate (state_now begun) (told_by turns)) ≡ state_after (state_now begun) (one_after (state_now begun) fate turns)
  leads_as s fate turns is = ap (λ j. state_after (state_now begun) (events_of j fate (state_now begun) (told_by turns))) is

  -- the transcript after all was told
  pub one_whole : (s : Pages) (turns : List Turn) → (c : Came setup begun s (told_by turns)) → (k : ℕ)
      → line_text (state_now s.hall) s.session k ≡ line_text (state_after (state_now begun) (one_after (state_now begun) c.fate turns)) (next_session (state_now begun)) k
  one_whole s turns c k =
      ap (λ y. line_text y s.session k) (came_state s (told_by turns) c ∙ leads_as s c.fate turns c.began.session_is)
      ∙ ap (λ j. line_text (state_after (state_now begun) (one_after (state_now begun) c.fate turns)) j k) c.began.session_is

  -- the transcript where the last blocks are still to be settled
  pub one_part : (s : Pages) (n times : ℕ) (told : List Request) (heard : List Turn) → (c : Came setup begun s told) → AreLater s.next (state_now s.hall).order n → told_by heard ≡ told ++ replicate times Settles
      → SameUpTo n (line_text (state_now s.hall) s.session) (line_text (state_after (state_now begun) (one_after (state_now begun) c.fate heard)) (next_session (state_now begun)))
  one_part s n times told heard c later is =
      let x : State = state_now s.hall in
      let b : State = state_now begun in
      let i : ℕ = s.session in
      let y : State = state_after x (events_of i c.fate x (replicate times Settles)) in
      let leads : state_after b (one_after b c.fate heard) ≡ y =
      sym (leads_as s c.fate heard c.began.session_is)
      ∙ ap (λ l. state_after b (events_of i c.fate b l)) is
      ∙ ap (state_after b) (told_append c.fate i told (replicate times Settles) b)
      ∙ state_after-append b (events_of i c.fate b told) (events_of i c.fate (state_after b (events_of i c.fate b told)) (replicate times Settles))
      ∙ ap (λ z. state_after z (events_of i c.fate z (replicate times Settles))) (sym (came_state s told c))
      in
      subst (λ j. SameUpTo n (line_text x i) (line_text (state_after b (one_after b c.fate heard)) j)) c.began.session_is
      (subst (λ (z : State). SameUpTo n (line_text x i) (line_text z i)) (sym leads)
      (goes_same x i s.next n y c.stands.ran.within
      (goes_settles x s.next n c.stands.ran.over i c.fate times x (goes_from x s.next n c.stands.ran later))))
