-- Laws of a state of one session whose places start and end by rising place.
use Rattle.std.proofs.Common.{◌≡◌, ℕ, zero, suc, ◌+◌, ◌<◌, ◌≤◌, Bool, true, false, cond, List, [], ◌∷◌, ◌++◌, length, refl, sym, ap, subst, ◌∙◌, arith, append-nil, append_assoc, length-append, slice_set, nat_lt, ltb-true, replicate, true≢false, inl, inr, ◌⊎◌}
use Rattle.std.proofs.Math.ListN.{length-set}
use Rattle.std.proofs.lemmas.Bool.Decides.{nat_tests}
use Rattle.bl_work.specs.Effects.{children}
use Rattle.bl_work.specs.declared.work.Work.{Work}
use Rattle.bl_order.specs.Order.{Entry, Line}
use Rattle.bl_order.specs.Past.{is_done}
use Rattle.bl_order.specs.Machine.{State, Event, Session, Phase, Waiting, Running, Ended, Gone, is_gone, is_over, is_running, past_at, phase_at, change, state_after, children_at, runs, has_ended, with_phase}
use Rattle.bl_order.specs.Machine as machine
use Rattle.bl_order.proofs.Places.{less_or_equal}
use Rattle.bl_hall.proofs.Recalling.{same-setup, same-limit}
use Rattle.bl_engine.specs.declared.request.Request.{Request}
use Rattle.bl_engine.specs.declared.request.Request.TheVariants.{Opens, Admits, Settles}
use Rattle.bl_engine.specs.Requests.{SameUpTo}
use Rattle.bl_wire.specs.Replies.{line_text}
use Rattle.bl_session.specs.One.{Fate, Kept, Starved, Unrun, events_by, place_events, run_from, settling, fits, events_of}
use Rattle.bl_session.specs.Pages.{AreLater, RanUpTo}
use Rattle.bl_session.proofs.OrderLaws.{join, later-children, text-stands}
use Rattle.bl_session.proofs.PhaseLaws.{set_twice, set_behind, set_before, set_here, more_waiting, is_run, long_more}

pub state_after-append : (x : State) (a b : List Event) → state_after x (a ++ b) ≡ state_after (state_after x a) b
state_after-append x [] b = refl
state_after-append x (e ∷ a) b = state_after-append (change x e) a b

pub setup_after : (x : State) (events : List Event) → (state_after x events).setup ≡ x.setup
setup_after x [] = refl
setup_after x (e ∷ events) = setup_after (change x e) events ∙ same-setup x e

pub limit_after : (x : State) (events : List Event) → (state_after x events).limit ≡ x.limit
limit_after x [] = refl
limit_after x (e ∷ events) = limit_after (change x e) events ∙ same-limit x e

-- ---- what a run leaves as it was

-- a state that goes on from another one: the first places stand as they stood there, and each place behind them stands below a later line
pub record GoesOn (x : State) (ended n : ℕ) (y : State) : Type 0 where
  pub setup_is : y.setup ≡ x.setup
  pub sessions_are : y.sessions ≡ x.sessions
  pub more : List Entry
  pub order_is : y.order ≡ x.order ++ more
  pub as_many : length y.phases ≡ length y.order
  pub phases : (p : ℕ) → p < ended → phase_at y p ≡ phase_at x p
  pub later : AreLater ended y.order n

module _ (x : State) (ended n : ℕ) (over : (p : ℕ) → p < ended → has_ended x p ≡ true) where
  goes_set : (y : State) (p : ℕ) (q : Phase) → GoesOn x ended n y → ended ≤ p → GoesOn x ended n (with_phase y p q)
  goes_set y p q g le = record {
    setup_is = g.setup_is;
    sessions_are = g.sessions_are;
    more = g.more;
    order_is = g.order_is;
    as_many = length-set y.phases p q ∙ g.as_many;
    phases = λ r lt. set_before y.phases p r q (omega (arith, lt, le)) ∙ g.phases r lt;
    later = g.later;
  }

  goes_end : (y : State) (p : ℕ) → GoesOn x ended n y → ended ≤ p → p < length y.order → GoesOn x ended n (change y (machine.Ends p))
  goes_end y p g le lt = record {
    setup_is = g.setup_is;
    sessions_are = g.sessions_are;
    more = g.more ++ children_at y p;
    order_is = ap (λ l. l ++ children_at y p) g.order_is ∙ join x.order g.more (children_at y p);
    as_many = long_more y.phases p Ended (length (children_at y p)) ∙ ap (λ k. k + length (children_at y p)) g.as_many ∙ sym (length-append y.order (children_at y p));
    phases = λ r below. more_waiting (slice_set y.phases p Ended) (length (children_at y p)) r ∙ set_before y.phases p r Ended (omega (arith, below, le)) ∙ g.phases r below;
    later = later-children (children (past_at y p).effects) y.order ended p 1 n g.later le lt;
  }

  low : (y : State) (p : ℕ) → GoesOn x ended n y → has_ended y p ≡ false → ended ≤ p
  low y p g is = go (nat_lt p ended) refl
    where
      go : (b : Bool) → nat_lt p ended ≡ b → ended ≤ p
      go true e = let lt : p < ended = ltb-true p ended e in absurd (true≢false (sym (ap is_over (g.phases p lt) ∙ over p lt) ∙ is))
      go false e = grind (arith, nat_tests)

  goes_events : (f : Fate) (y : State) (p : ℕ) → GoesOn x ended n y → ended ≤ p → p < length y.order → GoesOn x ended n (state_after y (events_by f y p))
  goes_events f y p g le lt = by f
    where
      z : State
      z = change y (machine.Starts p)

      first : GoesOn x ended n z
      first = goes_set y p (cond (is_done (past_at y p).answer) Running Ended) g le

      started : (c : Bool) (e : Event) → GoesOn x ended n (change z e) → GoesOn x ended n (state_after y (cond c (machine.Starts p ∷ e ∷ []) (machine.Starts p ∷ [])))
      started true e then = then
      started false e then = first

      by : (f : Fate) → GoesOn x ended n (state_after y (events_by f y p))
      by Kept = started (runs z p) (machine.Ends p) (goes_end z p first le lt)
      by Starved = goes_set y p Gone g le
      by Unrun = started (runs z p) (machine.Loses p) (goes_set z p Gone first le)

  goes_place : (f : Fate) (y : State) (p : ℕ) → GoesOn x ended n y → p < length y.order → GoesOn x ended n (state_after y (place_events f y p))
  goes_place f y p g lt = go (has_ended y p) refl
    where
      go : (b : Bool) → has_ended y p ≡ b → GoesOn x ended n (state_after y (cond b [] (events_by f y p)))
      go true is = g
      go false is = goes_events f y p g (low y p g is) lt

  pub goes_run : (fate : ℕ → Fate) (most : ℕ) (y : State) (p : ℕ) → GoesOn x ended n y → GoesOn x ended n (state_after y (run_from fate most y p))
  goes_run fate zero y p g = g
  goes_run fate (suc most) y p g = go (nat_lt p (length y.order)) refl (λ z. goes_run fate most z (suc p))
    where
      go : (b : Bool) → nat_lt p (length y.order) ≡ b → ((z : State) → GoesOn x ended n z → GoesOn x ended n (state_after z (run_from fate most z (suc p))))
          → GoesOn x ended n (state_after y (cond b (place_events (fate p) y p ++ run_from fate most (state_after y (place_events (fate p) y p)) (suc p)) []))
      go true lt further =
          subst (GoesOn x ended n) (sym (state_after-append y (place_events (fate p) y p) (run_from fate most (state_after y (place_events (fate p) y p)) (suc p))))
          (further (state_after y (place_events (fate p) y p)) (goes_place (fate p) y p g (ltb-true p (length y.order) lt)))
      go false ge further = g

  pub goes_settles : (i : ℕ) (fate : ℕ → Fate) (times : ℕ) (y : State) → GoesOn x ended n y → GoesOn x ended n (state_after y (events_of i fate y (replicate times Settles)))
  goes_settles i fate zero y g = g
  goes_settles i fate (suc times) y g =
      subst (GoesOn x ended n) (sym (state_after-append y (settling fate y) (events_of i fate (state_after y (settling fate y)) (replicate times Settles))))
      (goes_settles i fate times (state_after y (settling fate y)) (goes_run fate y.limit y 0 g))

-- it goes on from itself
pub goes_from : (x : State) (ended n : ℕ) → RanUpTo ended x → AreLater ended x.order n → GoesOn x ended n x
goes_from x ended n ran later = record {
  setup_is = refl;
  sessions_are = refl;
  more = [];
  order_is = sym (append-nil x.order);
  as_many = ran.as_many;
  phases = λ p lt. refl;
  later = later;
}

-- the replies to the lines up to n stand
pub goes_same : (x : State) (i ended n : ℕ) (y : State) → ended ≤ length x.order → GoesOn x ended n y → SameUpTo n (line_text x i) (line_text y i)
goes_same x i ended n y le g = text-stands x y i g.more ended n g.setup_is g.order_is (λ p lt. ap is_gone (g.phases p lt)) le g.later

-- ---- a place after the other

-- where one place more is over and others enter behind all, the places have run up to the next one
ran_on : (x y : State) (m k : ℕ) (p : Phase) → RanUpTo m x → m < length x.order → is_over p ≡ true → y.phases ≡ slice_set x.phases m p ++ replicate k Waiting → length y.order ≡ length x.order + k
    → RanUpTo (suc m) y
ran_on x y m k p ran lt ended phases order = record {
  as_many = ap length phases ∙ long_more x.phases m p k ∙ ap (λ j. j + k) ran.as_many ∙ sym order;
  within = omega (arith, lt, order);
  over = λ q below. ap is_over (at q) ∙ pick q (less_or_equal q m below);
  waits = λ q above. at q ∙ set_behind x.phases m q p (omega (arith, above)) ∙ ran.waits q (omega (arith, above));
}
  where
    at : (q : ℕ) → phase_at y q ≡ machine.phase_at (with_phase x m p) q
    at q = ap (λ l. machine.phase_at (record x { phases = l }) q) phases ∙ more_waiting (slice_set x.phases m p) k q

    pick : (q : ℕ) → (q < m) ⊎ (q ≡ m) → is_over (machine.phase_at (with_phase x m p) q) ≡ true
    pick q (inl before) = ap is_over (set_before x.phases m q p before) ∙ ran.over q before
    pick q (inr here) = ap (λ j. is_over (machine.phase_at (with_phase x m p) j)) here ∙ ap is_over (set_here x.phases m p (omega (arith, lt, ran.as_many))) ∙ ended

-- the next place starts and ends, or is lost, and its children enter
module _ (x : State) (m : ℕ) (ran : RanUpTo m x) (lt : m < length x.order) where
  abbrev z : State
  z = change x (machine.Starts m)

  long : m < length x.phases
  long = omega (arith, lt, ran.as_many)

  pub next_unended : has_ended x m ≡ false
  next_unended = ap is_over (ran.waits m (omega arith))

  -- it runs exactly where it is done
  pub next_runs : runs (change x (machine.Starts m)) m ≡ is_done (past_at x m).answer
  next_runs = ap is_running (set_here x.phases m (cond (is_done (past_at x m).answer) Running Ended) long) ∙ is_run (is_done (past_at x m).answer)

  pub place_is : (f : Fate) → place_events f x m ≡ events_by f x m
  place_is f = ap (λ b. cond b [] (events_by f x m)) next_unended

  ran_started : (c : Bool) → runs z m ≡ c → (e : Event) → RanUpTo (suc m) (change z e) → RanUpTo (suc m) (state_after x (cond c (machine.Starts m ∷ e ∷ []) (machine.Starts m ∷ [])))
  ran_started true running e then = then
  ran_started false running e then =
      ran_on x z m 0 Ended ran lt refl
      (ap (λ b. slice_set x.phases m (cond b Running Ended)) (sym next_runs ∙ running) ∙ sym (append-nil (slice_set x.phases m Ended))) (omega arith)

  ran_events : (f : Fate) → RanUpTo (suc m) (state_after x (events_by f x m))
  ran_events Kept =
      ran_started (runs z m) refl (machine.Ends m)
      (ran_on x (change z (machine.Ends m)) m (length (children_at z m)) Ended ran lt refl
      (ap (λ l. l ++ replicate (length (children_at z m)) Waiting) (set_twice x.phases m (cond (is_done (past_at x m).answer) Running Ended) Ended))
      (length-append x.order (children_at z m)))
  ran_events Starved = ran_on x (change x (machine.Loses m)) m 0 Gone ran lt refl (sym (append-nil (slice_set x.phases m Gone))) (omega arith)
  ran_events Unrun =
      ran_started (runs z m) refl (machine.Loses m)
      (ran_on x (change z (machine.Loses m)) m 0 Gone ran lt refl
      (set_twice x.phases m (cond (is_done (past_at x m).answer) Running Ended) Gone ∙ sym (append-nil (slice_set x.phases m Gone))) (omega arith))

  pub ran_place : (f : Fate) → RanUpTo (suc m) (state_after x (place_events f x m))
  ran_place f = subst (λ events. RanUpTo (suc m) (state_after x events)) (sym (place_is f)) (ran_events f)

-- ---- all places

module _ (fate : ℕ → Fate) where
  -- places that have ended are passed over
  pub run-skip : (x : State) (j n most : ℕ) → ((p : ℕ) → p < n + j → has_ended x p ≡ true) → n + j ≤ length x.order → run_from fate (j + most) x n ≡ run_from fate most x (n + j)
  run-skip x zero n most over le = ap (λ k. run_from fate k x n) (omega arith) ∙ ap (λ k. run_from fate most x k) (omega arith)
  run-skip x (suc j) n most over le =
      let e : suc j + most ≡ suc (j + most) = omega arith in
      let f : suc n + j ≡ n + suc j = omega arith in
      let lt : nat_lt n (length x.order) ≡ true = grind (arith, nat_tests) in
      ap (λ k. run_from fate k x n) e
      ∙ ap (λ b. cond b (place_events (fate n) x n ++ run_from fate (j + most) (state_after x (place_events (fate n) x n)) (suc n)) []) lt
      ∙ ap (λ (events : List Event). events ++ run_from fate (j + most) (state_after x events) (suc n)) (ap (λ b. cond b [] (events_by (fate n) x n)) (over n (omega arith)))
      ∙ run-skip x j (suc n) most (λ p lt. over p (omega (arith, lt, f))) (omega (arith, f))
      ∙ ap (λ k. run_from fate most x k) f

  -- one place and then the others
  pub run-one : (x : State) (n most : ℕ) → n < length x.order
      → run_from fate (suc most) x n ≡ place_events (fate n) x n ++ run_from fate most (state_after x (place_events (fate n) x n)) (suc n)
  run-one x n most lt =
      let b : nat_lt n (length x.order) ≡ true = grind (arith, nat_tests) in
      ap (λ b. cond b (place_events (fate n) x n ++ run_from fate most (state_after x (place_events (fate n) x n)) (suc n)) []) b

  -- behind the last place there is none
  pub run-none : (x : State) (most : ℕ) → run_from fate most x (length x.order) ≡ []
  run-none x zero = refl
  run-none x (suc most) =
      let b : nat_lt (length x.order) (length x.order) ≡ false = grind (arith, nat_tests) in
      ap (λ b. cond b (place_events (fate (length x.order)) x (length x.order) ++ run_from fate most (state_after x (place_events (fate (length x.order)) x (length x.order))) (suc (length x.order))) []) b

  -- what is told in two parts
  pub told_append : (i : ℕ) (told more : List Request) (x : State) → events_of i fate x (told ++ more) ≡ events_of i fate x told ++ events_of i fate (state_after x (events_of i fate x told)) more
  told_append i [] more x = refl
  told_append i (Opens subject ∷ told) more x = ap (λ l. machine.Opens subject ∷ l) (told_append i told more (change x (machine.Opens subject)))
  told_append i (Admits ordinal work ∷ told) more x = go (fits x work) (told_append i told more (change x (machine.Admits i ordinal work))) (told_append i told more x)
    where
      A : State
      A = change x (machine.Admits i ordinal work)

      go : (b : Bool) → events_of i fate A (told ++ more) ≡ events_of i fate A told ++ events_of i fate (state_after A (events_of i fate A told)) more
          → events_of i fate x (told ++ more) ≡ events_of i fate x told ++ events_of i fate (state_after x (events_of i fate x told)) more
          → cond b (machine.Admits i ordinal work ∷ events_of i fate A (told ++ more)) (events_of i fate x (told ++ more))
          ≡ cond b (machine.Admits i ordinal work ∷ events_of i fate A told) (events_of i fate x told)
          ++ events_of i fate (state_after x (cond b (machine.Admits i ordinal work ∷ events_of i fate A told) (events_of i fate x told))) more
      go true one other = ap (λ l. machine.Admits i ordinal work ∷ l) one
      go false one other = other
  told_append i (Settles ∷ told) more x =
      let S : State = state_after x (settling fate x) in
      ap (λ l. settling fate x ++ l) (told_append i told more S)
      ∙ sym (append_assoc (settling fate x) (events_of i fate S told) (events_of i fate (state_after S (events_of i fate S told)) more))
      ∙ ap (λ (y : State). (settling fate x ++ events_of i fate S told) ++ events_of i fate y more) (sym (state_after-append x (settling fate x) (events_of i fate S told)))

-- one line more
pub ran_line : (x : State) (ended session ordinal : ℕ) (work : Work) → RanUpTo ended x → RanUpTo ended (change x (machine.Admits session ordinal work))
ran_line x ended session ordinal work ran = record {
  as_many = length-append x.phases (Waiting ∷ []) ∙ ap (λ n. n + 1) ran.as_many ∙ sym (length-append x.order (Line session ordinal (machine.session_at x session).subject work ∷ []));
  within = omega (arith, ran.within, length-append x.order (Line session ordinal (machine.session_at x session).subject work ∷ []));
  over = λ p below. ap is_over (more_waiting x.phases 1 p) ∙ ran.over p below;
  waits = λ p low. more_waiting x.phases 1 p ∙ ran.waits p low;
}
