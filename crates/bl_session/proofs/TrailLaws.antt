-- What one worker does is a trail, at whose end every place has ended.
use Rattle.std.proofs.Common.{◌≡◌, ℕ, zero, suc, ◌+◌, ◌<◌, ◌≤◌, ◌^◌, Bool, true, false, cond, List, [], ◌∷◌, ◌++◌, length, refl, sym, ap, subst, ◌∙◌, arith, inl, inr, ◌⊎◌, slice_index_or, slice_set, nat_lt, ltb-true, length-append, sum_by}
use Rattle.std.specs.Prelude.{All, IsTrue, ◌==◌}
use Rattle.std.proofs.lemmas.Bool.Decides.{nat_tests}
use Rattle.std.proofs.lemmas.List.Elements.{All-head, All-tail, All-cons, All-nil}
use Rattle.bl_work.specs.Names.{KnownNames}
use Rattle.bl_work.specs.Readable.{IsReadable}
use Rattle.bl_work.specs.declared.work.Work.{Work}
use Rattle.bl_setup.specs.Agreement.{Agree}
use Rattle.bl_setup.specs.Setup.{Setup}
use Rattle.bl_order.specs.Headline.{IsReached, Holds}
use Rattle.bl_order.specs.Machine.{State, Event, Session, MayStart, Needs, IsTrail, is_waiting, has_ended, runs, change, start, state_after, session_at, no_session, entry_weight, weight_of}
use Rattle.bl_order.specs.Machine as machine
use Rattle.bl_order.specs.TheHeadline.{IsTheHeadlineThroughout}
use Rattle.bl_wire.specs.declared.turn.Turn.{Turn}
use Rattle.bl_wire.specs.declared.turn.Turn.TheVariants.{Skip, Wait, Greets, Bad, Ask}
use Rattle.bl_wire.specs.Lines.{onto, lines_of, without_cr}
use Rattle.bl_wire.specs.Turns.{StandsIn, AreTurns}
use Rattle.bl_engine.specs.declared.request.Request.TheVariants.{Settles}
use Rattle.bl_engine.specs.Requests.{told_of}
use Rattle.bl_session.specs.One.{Fate, Kept, Starved, Unrun, events_by, place_events, run_from, settling, fits, events_of, one, one_state}
use Rattle.bl_session.specs.OneTrail.{IsOneTrail}
use Rattle.bl_session.specs.Pages.{RanUpTo}
use Rattle.bl_engine.specs.BlockText.{Begins}
use Rattle.bl_session.proofs.RunLaws.{state_after-append, setup_after, limit_after, ran_place, ran_line}
use Rattle.bl_session.proofs.ServeLaws.{subject_of}

-- what the laws of the order say: a step leads on, and the order stays within the limit
abbrev pub StepsLeadOn : Type 0
StepsLeadOn = (x : State) (event : Event) → IsReached x → Needs x event → IsReached (change x event)

abbrev pub OrderHasRoom : Type 0
OrderHasRoom = (x : State) → IsReached x → length x.order ≤ x.limit

-- two trails, one after the other
trail-append : (x : State) (a b : List Event) → IsTrail x a → IsTrail (state_after x a) b → IsTrail x (a ++ b)
trail-append x [] b first then = then
trail-append x (e ∷ a) b first then = (first.0, trail-append (change x e) a b first.1 then)

-- the next place that waits may start
pub may_next : (x : State) (n : ℕ) → RanUpTo n x → n < length x.order → MayStart x n
may_next x n ran lt = record {
  there = lt;
  waits = ap is_waiting (ran.waits n (omega arith));
  clear = λ m below c. ran.over m below;
}

-- a session's last ordinal is that of its last line
pub last_set : (sessions : List Session) (i k : ℕ) → i < length sessions
    → (i < length (slice_set sessions i (record (slice_index_or sessions i no_session) { last = k })))
    × ((slice_index_or (slice_set sessions i (record (slice_index_or sessions i no_session) { last = k })) i no_session).last ≡ k)
last_set [] i k some = absurd (omega arith)
last_set (s ∷ sessions) zero k some = (omega arith, refl)
last_set (s ∷ sessions) (suc i) k some = let rest = last_set sessions i k (omega (arith, some)) in (omega (arith, rest.0), rest.1)

module _ (lead : StepsLeadOn) (room : OrderHasRoom) (setup : Setup) (limit u : ℕ) (fate : ℕ → Fate) where
  -- between two turns: the first places have ended and the others wait, the session's ordinals are at most k, and a trail led here
  record Stands (k ended : ℕ) (x : State) : Type 0 where
    ran : RanUpTo ended x
    setup_is : x.setup ≡ setup
    limit_is : x.limit ≡ limit
    opened : 0 < length x.sessions
    last : (session_at x 0).last ≤ k
    reached : IsReached x

  -- these events are a trail, at whose end every place has ended
  record Settled (k : ℕ) (x : State) (events : List Event) : Type 0 where
    trail : IsTrail x events
    ended : ℕ
    stands : Stands k ended (state_after x events)
    all : length (state_after x events).order ≤ ended

  -- what the events of one place keep
  record StepsOn (x : State) (events : List Event) : Type 0 where
    trail : IsTrail x events
    reached : IsReached (state_after x events)
    sessions : (state_after x events).sessions ≡ x.sessions

  steps_on : (x : State) (n : ℕ) → IsReached x → MayStart x n → (f : Fate) → StepsOn x (place_events f x n)
  steps_on x n reached may f = go (has_ended x n)
    where
      first : IsReached (change x (machine.Starts n))
      first = lead x (machine.Starts n) reached may

      started : (c : Bool) → runs (change x (machine.Starts n)) n ≡ c → (e : Event) → (IsTrue (runs (change x (machine.Starts n)) n) → Needs (change x (machine.Starts n)) e)
          → (change (change x (machine.Starts n)) e).sessions ≡ x.sessions → StepsOn x (cond c (machine.Starts n ∷ e ∷ []) (machine.Starts n ∷ []))
      started true running e needs same = record {
        trail = (may, (needs running, tt));
        reached = lead (change x (machine.Starts n)) e first (needs running);
        sessions = same;
      }
      started false running e needs same = record { trail = (may, tt); reached = first; sessions = refl }

      by : (f : Fate) → StepsOn x (events_by f x n)
      by Kept = started (runs (change x (machine.Starts n)) n) refl (machine.Ends n) (λ running. running) refl
      by Starved = record { trail = (inr may, tt); reached = lead x (machine.Loses n) reached (inr may); sessions = refl }
      by Unrun = started (runs (change x (machine.Starts n)) n) refl (machine.Loses n) (λ running. inl running) refl

      go : (b : Bool) → StepsOn x (cond b [] (events_by f x n))
      go true = record { trail = tt; reached = reached; sessions = refl }
      go false = by f

  -- one place, of those up to the first that waits
  record Passed (k p : ℕ) (x : State) (events : List Event) : Type 0 where
    trail : IsTrail x events
    ended : ℕ
    stands : Stands k ended (state_after x events)
    past : suc p ≤ ended

  passed : (f : Fate) (k p ended : ℕ) (x : State) → Stands k ended x → p ≤ ended → p < length x.order → Passed k p x (place_events f x p)
  passed f k p ended x s le lt = go (below_or_same p ended le)
    where
      below_or_same : (a b : ℕ) → a ≤ b → (a < b) ⊎ (a ≡ b)
      below_or_same a b le = grind arith

      next : (n : ℕ) → n ≡ ended → n < length x.order → Passed k n x (place_events f x n)
      next n is there =
          let ran : RanUpTo n x = subst (λ j. RanUpTo j x) (sym is) s.ran in
          let on : StepsOn x (place_events f x n) = steps_on x n s.reached (may_next x n ran there) f in
          record {
            trail = on.trail;
            ended = suc n;
            stands = record {
              ran = ran_place x n ran there f;
              setup_is = setup_after x (place_events f x n) ∙ s.setup_is;
              limit_is = limit_after x (place_events f x n) ∙ s.limit_is;
              opened = subst (λ (l : List Session). 0 < length l) (sym on.sessions) s.opened;
              last = subst (λ (l : List Session). (slice_index_or l 0 no_session).last ≤ k) (sym on.sessions) s.last;
              reached = on.reached;
            };
            past = omega arith;
          }

      go : (p < ended) ⊎ (p ≡ ended) → Passed k p x (place_events f x p)
      go (inl below) =
          subst (Passed k p x)
          (sym (ap (λ b. cond b [] (events_by f x p)) (s.ran.over p below)))
          (record { trail = tt; ended = ended; stands = s; past = below })
      go (inr same) = next p same lt

  -- all places, from one that has ended or is the first that waits
  settled-run : (k most p ended : ℕ) (x : State) → Stands k ended x → p ≤ ended → limit ≤ p + most → Settled k x (run_from fate most x p)
  settled-run k zero p ended x s le enough =
      let few : length x.order ≤ x.limit = room x s.reached in
      record { trail = tt; ended = ended; stands = s; all = omega (arith, few, s.limit_is, enough, le) }
  settled-run k (suc most) p ended x s le enough = go (nat_lt p (length x.order)) refl (λ e y. settled-run k most (suc p) e y)
    where
      go : (b : Bool) → nat_lt p (length x.order) ≡ b
          → ((e : ℕ) (y : State) → Stands k e y → suc p ≤ e → limit ≤ suc p + most → Settled k y (run_from fate most y (suc p)))
          → Settled k x (cond b (place_events (fate p) x p ++ run_from fate most (state_after x (place_events (fate p) x p)) (suc p)) [])
      go true is further =
          let one : Passed k p x (place_events (fate p) x p) = passed (fate p) k p ended x s le (ltb-true p (length x.order) is) in
          let y : State = state_after x (place_events (fate p) x p) in
          let rest : Settled k y (run_from fate most y (suc p)) = further one.ended y one.stands one.past (omega (arith, enough)) in
          let join : state_after x (place_events (fate p) x p ++ run_from fate most y (suc p)) ≡ state_after y (run_from fate most y (suc p)) = state_after-append x (place_events (fate p) x p) (run_from fate most y (suc p)) in
          record {
            trail = trail-append x (place_events (fate p) x p) (run_from fate most y (suc p)) one.trail rest.trail;
            ended = rest.ended;
            stands = subst (Stands k rest.ended) (sym join) rest.stands;
            all = subst (λ (z : State). length z.order ≤ rest.ended) (sym join) rest.all;
          }
      go false is further =
          let least : length x.order ≤ p = grind (arith, nat_tests) in
          record { trail = tt; ended = ended; stands = s; all = omega (arith, least, le) }

  settled-whole : (k ended : ℕ) (x : State) → Stands k ended x → Settled k x (settling fate x)
  settled-whole k ended x s = settled-run k x.limit 0 ended x s (omega arith) (omega (arith, s.limit_is))

  -- two lists of events, one after the other
  settled-append : (k : ℕ) (x : State) (a b : List Event) → IsTrail x a → Settled k (state_after x a) b → Settled k x (a ++ b)
  settled-append k x a b first rest = record {
    trail = trail-append x a b first rest.trail;
    ended = rest.ended;
    stands = subst (Stands k rest.ended) (sym (state_after-append x a b)) rest.stands;
    all = subst (λ (z : State). length z.order ≤ rest.ended) (sym (state_after-append x a b)) rest.all;
  }

  later : (k j ended : ℕ) (x : State) → k ≤ j → Stands k ended x → Stands j ended x
  later k j ended x le s = record { ran = s.ran; setup_is = s.setup_is; limit_is = s.limit_is; opened = s.opened; last = omega (arith, s.last, le); reached = s.reached }

  -- a line that fits may be admitted
  may_admit : (k ended : ℕ) (x : State) (w : Work) → Stands k ended x → IsReadable setup.names w → k + 1 < 2 ^ 32 → fits x w ≡ true → Needs x (machine.Admits 0 (k + 1) w)
  may_admit k ended x w s readable small fit =
      let weighs : sum_by entry_weight x.order + weight_of w ≤ x.limit = grind (arith, nat_tests) in
      (s.opened, subst (λ (t : Setup). IsReadable t.names w) (sym s.setup_is) readable, omega (arith, s.last), small, weighs)

  admitted : (k ended : ℕ) (x : State) (w : Work) → Stands k ended x → Needs x (machine.Admits 0 (k + 1) w) → Stands (k + 1) ended (change x (machine.Admits 0 (k + 1) w))
  admitted k ended x w s needs =
      let set = last_set x.sessions 0 (k + 1) s.opened in
      record {
        ran = ran_line x ended 0 (k + 1) w s.ran;
        setup_is = s.setup_is;
        limit_is = s.limit_is;
        opened = set.0;
        last = omega (arith, set.1);
        reached = lead x (machine.Admits 0 (k + 1) w) s.reached needs;
      }

  -- what the turns after an ordinal tell, and then the end of the input
  told_settled : (turns : List Turn) (k ended : ℕ) (x : State) → All (StandsIn setup.names) turns → k + length turns < 2 ^ 32 → Stands k ended x
      → (j : ℕ) × Settled j x (events_of 0 fate x (told_of k turns ++ Settles ∷ []))
  told_settled [] k ended x are small s =
      let all : Settled k x (settling fate x) = settled-whole k ended x s in
      (k, settled-append k x (settling fate x) [] all.trail (record { trail = tt; ended = all.ended; stands = all.stands; all = all.all }))
  told_settled (Skip ∷ turns) k ended x are small s =
      told_settled turns k ended x (All-tail (StandsIn setup.names) Skip turns are) (omega (arith, small)) s
  told_settled (Wait ∷ turns) k ended x are small s =
      let all : Settled k x (settling fate x) = settled-whole k ended x s in
      let rest = told_settled turns k all.ended (state_after x (settling fate x)) (All-tail (StandsIn setup.names) Wait turns are) (omega (arith, small)) all.stands in
      (rest.0, settled-append rest.0 x (settling fate x) (events_of 0 fate (state_after x (settling fate x)) (told_of k turns ++ Settles ∷ [])) all.trail rest.1)
  told_settled (Greets subject ∷ turns) k ended x are small s =
      told_settled turns (k + 1) ended x (All-tail (StandsIn setup.names) (Greets subject) turns are) (omega (arith, small)) (later k (k + 1) ended x (omega arith) s)
  told_settled (Bad fault ∷ turns) k ended x are small s =
      told_settled turns (k + 1) ended x (All-tail (StandsIn setup.names) (Bad fault) turns are) (omega (arith, small)) (later k (k + 1) ended x (omega arith) s)
  told_settled (Ask work ∷ turns) k ended x are small s = go (fits x work) refl (told_settled turns (k + 1) ended)
    where
      tail : All (StandsIn setup.names) turns
      tail = All-tail (StandsIn setup.names) (Ask work) turns are

      line : StandsIn setup.names (Ask work)
      line = All-head (StandsIn setup.names) (Ask work) turns are

      go : (b : Bool) → fits x work ≡ b
          → ((y : State) → All (StandsIn setup.names) turns → k + 1 + length turns < 2 ^ 32 → Stands (k + 1) ended y → (j : ℕ) × Settled j y (events_of 0 fate y (told_of (k + 1) turns ++ Settles ∷ [])))
          → (j : ℕ) × Settled j x (cond b (machine.Admits 0 (k + 1) work ∷ events_of 0 fate (change x (machine.Admits 0 (k + 1) work)) (told_of (k + 1) turns ++ Settles ∷ [])) (events_of 0 fate x (told_of (k + 1) turns ++ Settles ∷ [])))
      go true fit further =
          let needs : Needs x (machine.Admits 0 (k + 1) work) = may_admit k ended x work s (without_cr line.0, line.1.1) (omega (arith, small)) fit in
          let rest = further (change x (machine.Admits 0 (k + 1) work)) tail (omega (arith, small)) (admitted k ended x work s needs) in
          (rest.0, record { trail = (needs, rest.1.trail); ended = rest.1.ended; stands = rest.1.stands; all = rest.1.all })
      go false full further = further x tail (omega (arith, small)) (later k (k + 1) ended x (omega arith) s)

  -- a session of a subject that is there
  opened : u < length setup.policy.subjects → Needs (start setup limit) (machine.Opens u)
  opened there = (there, omega arith)

  open_stands : u < length setup.policy.subjects → Stands 0 0 (change (start setup limit) (machine.Opens u))
  open_stands there = record {
    ran = record {
      as_many = refl;
      within = omega arith;
      over = λ p lt. absurd (omega (arith, lt));
      waits = λ p le. refl;
    };
    setup_is = refl;
    limit_is = refl;
    opened = omega arith;
    last = omega arith;
    reached = lead (start setup limit) (machine.Opens u) (record { setup = setup; limit = limit; events = []; trail = tt; leads = refl }) (opened there);
  }

-- these events are a trail from the start, at whose end every place has ended
record RunsWhole (setup : Setup) (limit : ℕ) (events : List Event) : Type 0 where
  trail : IsTrail (start setup limit) events
  ended : (n : ℕ) → n < length (state_after (start setup limit) events).order → IsTrue (has_ended (state_after (start setup limit) events) n)

-- no events
runs_none : (setup : Setup) (limit : ℕ) → RunsWhole setup limit []
runs_none setup limit = record { trail = tt; ended = λ n lt. absurd (omega (arith, lt)) }

runs_whole : StepsLeadOn → OrderHasRoom → (setup : Setup) (limit : ℕ) (fate : ℕ → Fate) → Agree setup → (turns : List Turn) → All (StandsIn setup.names) turns → length turns < 2 ^ 32
    → RunsWhole setup limit (one setup limit fate turns)
runs_whole lead room setup limit fate agree [] are small = runs_none setup limit
runs_whole lead room setup limit fate agree (Skip ∷ turns) are small =
    runs_whole lead room setup limit fate agree turns (All-tail (StandsIn setup.names) Skip turns are) (omega (arith, small))
runs_whole lead room setup limit fate agree (Wait ∷ turns) are small = runs_none setup limit
runs_whole lead room setup limit fate agree (Bad fault ∷ turns) are small = runs_none setup limit
runs_whole lead room setup limit fate agree (Ask work ∷ turns) are small = runs_none setup limit
runs_whole lead room setup limit fate agree (Greets subject ∷ turns) are small =
    let line : StandsIn setup.names (Greets subject) = All-head (StandsIn setup.names) (Greets subject) turns are in
    let there : subject < length setup.policy.subjects = subst (λ n. subject < n) agree.subjects (subject_of setup.names line.1.1.spelled subject line.1.1.means) in
    let all = told_settled lead room setup limit subject fate turns 0 0 (change (start setup limit) (machine.Opens subject)) (All-tail (StandsIn setup.names) (Greets subject) turns are) (omega (arith, small))
    (open_stands lead room setup limit subject fate there) in
    record {
      trail = (opened lead room setup limit subject fate there, all.1.trail);
      ended = λ n lt. all.1.stands.ran.over n (omega (arith, lt, all.1.all));
    }

-- and that the headline holds at every moment of a trail
abbrev pub TrailsAreTheHeadline : Type 0
TrailsAreTheHeadline = (setup : Setup) (limit : ℕ) (events : List Event) → IsTrail (start setup limit) events → IsTheHeadlineThroughout setup limit events

pub is_run : StepsLeadOn → OrderHasRoom → TrailsAreTheHeadline → ((x : State) → IsReached x → Holds x) → (setup : Setup) (limit : ℕ) (fate : ℕ → Fate) (turns : List Turn) → Agree setup → All (StandsIn setup.names) turns
    → length turns < 2 ^ 32 → IsOneTrail setup limit fate turns
is_run lead room headline holds setup limit fate turns agree are small =
    let run : RunsWhole setup limit (one setup limit fate turns) = runs_whole lead room setup limit fate agree turns are small in
    record {
      trail = run.trail;
      ended = run.ended;
      headline = headline setup limit (one setup limit fate turns) run.trail;
      holds = holds (one_state setup limit fate turns) (record { setup = setup; limit = limit; events = one setup limit fate turns; trail = run.trail; leads = refl });
    }

-- ---- the turns of an input

length-onto : (b : ℕ) (lines : List (List ℕ)) → length (onto b lines) ≤ suc (length lines)
length-onto b [] = omega arith
length-onto b (line ∷ lines) = omega arith

-- an input has no more lines than bytes
few_lines : (bytes : List ℕ) → length (lines_of bytes) ≤ length bytes
few_lines [] = omega arith
few_lines (b ∷ bytes) = go (b == 10) (few_lines bytes)
  where
    go : (t : Bool) → length (lines_of bytes) ≤ length bytes → length (cond t ([] ∷ lines_of bytes) (onto b (lines_of bytes))) ≤ suc (length bytes)
    go true few = omega (arith, few)
    go false few = omega (arith, few, length-onto b (lines_of bytes))

pub turns_few : (names : KnownNames) (lines : List (List ℕ)) (turns : List Turn) → AreTurns names lines turns → length turns ≡ length lines
turns_few names [] [] are = refl
turns_few names [] (turn ∷ turns) are = absurd are
turns_few names (line ∷ lines) [] are = absurd are
turns_few names (line ∷ lines) (turn ∷ turns) are = ap suc (turns_few names lines turns are.1)

pub turns_stand : (names : KnownNames) (lines : List (List ℕ)) (turns : List Turn) → AreTurns names lines turns → All (StandsIn names) turns
turns_stand names [] [] are = All-nil (StandsIn names)
turns_stand names [] (turn ∷ turns) are = absurd are
turns_stand names (line ∷ lines) [] are = absurd are
turns_stand names (line ∷ lines) (turn ∷ turns) are = All-cons (StandsIn names) turn turns (line, are.0) (turns_stand names lines turns are.1)

all_front : (P : Turn → Type 0) (a b : List Turn) → All P (a ++ b) → All P a
all_front P [] b all = All-nil P
all_front P (t ∷ a) b all = All-cons P t a (All-head P t (a ++ b) all) (all_front P a b (All-tail P t (a ++ b) all))

pub small_turns : (names : KnownNames) (bytes : List ℕ) (turns : List Turn) → AreTurns names (lines_of bytes) turns → length bytes ≤ 16777216 → length turns < 2 ^ 32
small_turns names bytes turns are within = omega (arith, turns_few names (lines_of bytes) turns are, few_lines bytes, within)

-- the beginning of these turns
pub first_turns : (names : KnownNames) (bytes part : List ℕ) (heard turns : List Turn) → AreTurns names (lines_of bytes) turns → length (bytes ++ part) ≤ 16777216 → Begins heard turns
    → All (StandsIn names) heard × (length heard < 2 ^ 32)
first_turns names bytes part heard turns are within begins = (
  all_front (StandsIn names) heard begins.0 (subst (All (StandsIn names)) begins.1 (turns_stand names (lines_of bytes) turns are)),
  omega (arith, ap length begins.1, length-append heard begins.0, length-append bytes part, within, turns_few names (lines_of bytes) turns are, few_lines bytes),
)
