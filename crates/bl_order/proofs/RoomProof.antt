-- The order of every state that a trail leads to has room.
use Rattle.std.proofs.Common.{◌≡◌, ℕ, ◌≤◌, ◌<◌, ◌+◌, ◌-◌, Bool, true, false, cond, List, [], ◌∷◌, ◌++◌, length, get_or, refl, ap, sym, ◌∙◌, inl, inr, arith, ◌⊎◌, subst, true≢false, length-append}
use Rattle.std.specs.Prelude.{sum_by}
use Rattle.std.specs.List.{range_with_len}
use Rattle.std.proofs.Math.Seq.{get_or-append_seam}
use Rattle.std.proofs.lemmas.List.Sums.{sum_by-append, sum_by-cons}
use Rattle.bl_work.specs.Effects.{children}
use Rattle.bl_work.specs.LineGrammar.{LineOf}
use Rattle.bl_work.specs.Names.{KnownNames}
use Rattle.bl_work.specs.Readable.{IsReadable}
use Rattle.bl_work.specs.Script.{IsScript}
use Rattle.bl_work.specs.Statements.{Part}
use Rattle.bl_work.specs.declared.asked.Line.TheVariants as line
use Rattle.bl_work.specs.declared.work.Work.{Work}
use Rattle.bl_work.specs.declared.work.Work.TheVariants as work
use Rattle.bl_setup.specs.Setup.{Setup}
use Rattle.bl_order.specs.Order.{Line, Child}
use Rattle.bl_order.specs.Past.{earlier, no_entry, first_task, child_task, task_of}
use Rattle.bl_order.specs.Machine.{State, Phase, Ended, Gone, is_over, Event, Opens, Admits, Starts, Ends, Loses, past_at, is_lost, has_ended, runs, phase_at, with_phase, children_at, child_entries, session_at, entry_weight, weight_of, Needs, IsTrail, change, start, state_after}
use Rattle.bl_order.specs.Room.{IsBehaviourOrRule, may_spawn, still_to_come, HasRoom}
use Rattle.bl_order.specs.Headline.{IsReached}
use Rattle.bl_order.proofs.Sound.{IsSound}
use Rattle.bl_order.proofs.Lawful.{get-back, child-get}
use Rattle.bl_order.proofs.PlaceLaws.{task-child}
use Rattle.bl_order.proofs.PlaceSums.{sum-split, sum-less, sum-drops, sum-new}
use Rattle.bl_order.proofs.Reached.{sound-reached}
use Rattle.bl_order.proofs.SpawnedPlaces.{child_size, Spawns, spawns_at_place}
use Rattle.bl_order.proofs.Steps.{Moves, stays, equal_self, length-child_entries, running_is_not_over, waiting_is_not_over}
use Rattle.bl_order.proofs.Trails.{moves-start, moves-end, moves-lost, or_left, within, past-admitted, past-ended, phases-admitted, sound-step, sound-start}

below_or_not : (a b : ℕ) → (a < b) ⊎ (b ≤ a)
below_or_not a b = grind arith

-- children weigh nothing
weight-children : (parent which : ℕ) (js : List ℕ) → sum_by entry_weight (child_entries parent which js) ≡ 0
weight-children parent which [] = refl
weight-children parent which (j ∷ js) =
    omega (arith, sum_by-cons entry_weight (Child parent which) (child_entries parent (which + 1) js), weight-children parent (which + 1) js)

-- what an ended place, or one that ends, may still spawn is no more than what it might
less-ended : (a b : Bool) (u v : ℕ) → (a ≡ true → b ≡ true) → u ≡ v → cond b 0 u ≤ cond a 0 v
less-ended a true u v stays same = omega arith
less-ended true false u v stays same = absurd (true≢false (sym (stays refl)))
less-ended false false u v stays same = omega (arith, same)

at_most : (b : Bool) (u : ℕ) → cond b 0 u ≤ u
at_most true u = omega arith
at_most false u = omega arith

-- ---- what is kept

-- the order has room, and each place's task is of a script or is a rule
pub record IsRoomy (x : State) : Type 0 where
  pub room : HasRoom x
  pub tasks : (n : ℕ) → n < length x.order → IsBehaviourOrRule (past_at x n).task

-- the work is a script, or it is a rule
abbrev pub IsScriptOrRule : Work → Type 0
IsScriptOrRule (work.Behaviour script) = IsScript script
IsScriptOrRule (work.Rule rule) = Unit {0}

-- the work that an event admits is a script or a rule
abbrev pub AdmitsScript : Event → Type 0
AdmitsScript (Opens subject) = Unit {0}
AdmitsScript (Admits session ordinal asked) = IsScriptOrRule asked
AdmitsScript (Starts n) = Unit {0}
AdmitsScript (Ends n) = Unit {0}
AdmitsScript (Loses n) = Unit {0}

module _ (x : State) (sound : IsSound x) (roomy : IsRoomy x) where
  -- where one place moves, no more may come of any place than before
  still-moved : (y : State) (k : ℕ) (p : Phase) → Moves x y k p → (m : ℕ) → m < length x.order → still_to_come y m ≤ still_to_come x m
  still-moved y k p moves m lt =
      less-ended (has_ended x m) (has_ended y m) (may_spawn (past_at y m).task) (may_spawn (past_at x m).task) (stays x y k p sound moves m)
      (ap may_spawn (moves.tasks m lt))

  -- where the order stays
  roomy-phased : (k : ℕ) (p : Phase) → Moves x (with_phase x k p) k p → IsRoomy (with_phase x k p)
  roomy-phased k p moves = record {
    room = record {
      within_weight = omega (arith, roomy.room.within_weight, sum-less (still_to_come x) (still_to_come (with_phase x k p)) 0 (length x.order) (λ m above below. still-moved (with_phase x k p) k p moves m (omega (arith, below))));
      within_limit = roomy.room.within_limit;
    };
    tasks = λ n lt. subst IsBehaviourOrRule (sym (moves.tasks n lt)) (roomy.tasks n lt);
  }

  -- ---- a line is admitted

  module _ (i o : ℕ) (w : Work) (is : IsScriptOrRule w) (fits : sum_by entry_weight x.order + weight_of w ≤ x.limit) where
    -- the new place does the line's work
    task-admitted : (past_at (change x (Admits i o w)) (length x.order)).task ≡ first_task w
    task-admitted = ap (task_of (earlier x.setup (is_lost (change x (Admits i o w))) (x.order ++ Line i o (session_at x i).subject w ∷ []) (length x.order)))
        (get_or-append_seam x.order (Line i o (session_at x i).subject w) [] no_entry)

    -- a line's first task is of its script, and with what it may spawn it is no more than the line weighs
    first-of : (v : Work) → IsScriptOrRule v → IsBehaviourOrRule (first_task v) × (may_spawn (first_task v) + 1 ≤ weight_of v)
    first-of (work.Rule rule) h = (tt, omega arith)
    first-of (work.Behaviour script) h = ((h, h.preorder.some), omega (arith, h.preorder.whole, h.preorder.some))

    still-admitted : (m : ℕ) → m < length x.order → still_to_come (change x (Admits i o w)) m ≤ still_to_come x m
    still-admitted m lt =
        less-ended (has_ended x m) (has_ended (change x (Admits i o w)) m) (may_spawn (past_at (change x (Admits i o w)) m).task) (may_spawn (past_at x m).task)
        (λ over. ap is_over (phases-admitted x sound i o w m) ∙ over) (ap (λ p. may_spawn p.task) (past-admitted x sound i o w m lt))

    roomy-admitted : IsRoomy (change x (Admits i o w))
    roomy-admitted = record {
      room = record { within_weight = within_weight; within_limit = omega (arith, fits, weight) };
      tasks = λ n lt. tasks n lt (below_or_not n (length x.order));
    }
      where
        weight : sum_by entry_weight (x.order ++ Line i o (session_at x i).subject w ∷ []) ≡ sum_by entry_weight x.order + weight_of w
        weight = sum_by-append entry_weight x.order (Line i o (session_at x i).subject w ∷ [])
            ∙ ap (λ v. sum_by entry_weight x.order + v) (sum_by-cons entry_weight (Line i o (session_at x i).subject w) [])
            ∙ plus_zero (sum_by entry_weight x.order) (weight_of w)
          where
            plus_zero : (a b : ℕ) → a + (b + 0) ≡ a + b
            plus_zero a b = omega arith

        longer : length (x.order ++ Line i o (session_at x i).subject w ∷ []) ≡ length x.order + 1
        longer = length-append x.order (Line i o (session_at x i).subject w ∷ [])

        last : still_to_come (change x (Admits i o w)) (length x.order) + 1 ≤ weight_of w
        last = omega (arith, at_most (has_ended (change x (Admits i o w)) (length x.order)) (may_spawn (past_at (change x (Admits i o w)) (length x.order)).task), ap may_spawn task-admitted, (first-of w is).1)

        split : sum_by (still_to_come (change x (Admits i o w))) (range_with_len 0 (length (x.order ++ Line i o (session_at x i).subject w ∷ [])))
            ≡ sum_by (still_to_come (change x (Admits i o w))) (range_with_len 0 (length x.order)) + still_to_come (change x (Admits i o w)) (length x.order)
        split = sum-split (still_to_come (change x (Admits i o w))) 0 (length x.order) 1 (length (x.order ++ Line i o (session_at x i).subject w ∷ [])) longer
            ∙ ap (λ v. sum_by (still_to_come (change x (Admits i o w))) (range_with_len 0 (length x.order)) + v) one
          where
            zero_plus : (a : ℕ) → 0 + a ≡ a
            zero_plus a = omega arith

            plus_zero : (a : ℕ) → a + 0 ≡ a
            plus_zero a = omega arith

            one : sum_by (still_to_come (change x (Admits i o w))) (range_with_len (0 + length x.order) 1) ≡ still_to_come (change x (Admits i o w)) (length x.order)
            one = ap (λ a. sum_by (still_to_come (change x (Admits i o w))) (range_with_len a 1)) (zero_plus (length x.order))
                ∙ sum_by-cons (still_to_come (change x (Admits i o w))) (length x.order) [] ∙ plus_zero (still_to_come (change x (Admits i o w)) (length x.order))

        within_weight : length (x.order ++ Line i o (session_at x i).subject w ∷ []) + sum_by (still_to_come (change x (Admits i o w))) (range_with_len 0 (length (x.order ++ Line i o (session_at x i).subject w ∷ [])))
            ≤ sum_by entry_weight (x.order ++ Line i o (session_at x i).subject w ∷ [])
        within_weight = omega (
          arith,
          roomy.room.within_weight,
          weight,
          longer,
          last,
          split,
          sum-less (still_to_come x) (still_to_come (change x (Admits i o w))) 0 (length x.order) (λ m above below. still-admitted m (omega (arith, below))),
        )

        tasks : (n : ℕ) → n < length (x.order ++ Line i o (session_at x i).subject w ∷ []) → (n < length x.order) ⊎ (length x.order ≤ n) → IsBehaviourOrRule (past_at (change x (Admits i o w)) n).task
        tasks n lt (inl below) = subst (λ p. IsBehaviourOrRule p.task) (sym (past-admitted x sound i o w n below)) (roomy.tasks n below)
        tasks n lt (inr above) = subst (λ m. IsBehaviourOrRule (past_at (change x (Admits i o w)) m).task) (here n lt above) (subst IsBehaviourOrRule (sym task-admitted) (first-of w is).0)
          where
            here : (n : ℕ) → n < length (x.order ++ Line i o (session_at x i).subject w ∷ []) → length x.order ≤ n → length x.order ≡ n
            here n lt above = omega (arith, lt, above, longer)

  -- ---- a place ends

  module _ (k : ℕ) (running : runs x k ≡ true) where
    -- the place spawns no more than it may
    spawns : Spawns (past_at x k).task (past_at x k).effects
    spawns = spawns_at_place x.setup (is_lost x) x.order k (roomy.tasks k (within x sound k running))

    -- a new place runs the behaviour that was spawned
    task-new : (i : ℕ) → i < length (children (past_at x k).effects)
        → (past_at (change x (Ends k)) (length x.order + i)).task ≡ child_task (past_at x k).task (get_or (children (past_at x k).effects) i 0)
    task-new i lt =
        task-child x.setup (is_lost (change x (Ends k))) (x.order ++ children_at x k) (length x.order + i) k (1 + i) (omega (arith, within x sound k running))
        (get-back x.order (children_at x k) i ∙ child-get k 1 (children (past_at x k).effects) i lt)
        ∙ ap (λ p. child_task p.task (get_or (children p.effects) (1 + i - 1) 0)) (past-ended x sound k running k (within x sound k running))
        ∙ ap (λ j. child_task (past_at x k).task (get_or (children (past_at x k).effects) j 0)) (less_one i)
      where
        less_one : (i : ℕ) → 1 + i - 1 ≡ i
        less_one i = omega arith

    -- and with what it may spawn it is within the behaviour's size
    still-new : (i : ℕ) → i < length (children (past_at x k).effects)
        → still_to_come (change x (Ends k)) (length x.order + i) + 1 ≤ child_size (past_at x k).task (get_or (children (past_at x k).effects) i 0)
    still-new i lt =
        omega (
          arith,
          spawns.one i lt,
          ap may_spawn (task-new i lt),
          at_most (has_ended (change x (Ends k)) (length x.order + i)) (may_spawn (past_at (change x (Ends k)) (length x.order + i)).task),
        )

    moves : Moves x (change x (Ends k)) k Ended
    moves = moves-end x sound k running

    longer : length (x.order ++ children_at x k) ≡ length x.order + length (children (past_at x k).effects)
    longer = length-append x.order (children_at x k) ∙ ap (λ v. length x.order + v) (length-child_entries k 1 (children (past_at x k).effects))

    -- the children enter where their parent might spawn them
    pub room-ended : HasRoom (change x (Ends k))
    room-ended = record { within_weight = within_weight; within_limit = omega (arith, roomy.room.within_limit, weight) }
      where
        weight : sum_by entry_weight (x.order ++ children_at x k) ≡ sum_by entry_weight x.order + 0
        weight = sum_by-append entry_weight x.order (children_at x k) ∙ ap (λ v. sum_by entry_weight x.order + v) (weight-children k 1 (children (past_at x k).effects))

        split : sum_by (still_to_come (change x (Ends k))) (range_with_len 0 (length (x.order ++ children_at x k)))
            ≡ sum_by (still_to_come (change x (Ends k))) (range_with_len 0 (length x.order))
            + sum_by (still_to_come (change x (Ends k))) (range_with_len (length x.order) (length (children (past_at x k).effects)))
        split =
            sum-split (still_to_come (change x (Ends k))) 0 (length x.order) (length (children (past_at x k).effects)) (length (x.order ++ children_at x k)) longer
            ∙ ap (λ a. sum_by (still_to_come (change x (Ends k))) (range_with_len 0 (length x.order)) + sum_by (still_to_come (change x (Ends k))) (range_with_len a (length (children (past_at x k).effects))))
            (zero_plus (length x.order))
          where
            zero_plus : (a : ℕ) → 0 + a ≡ a
            zero_plus a = omega arith

        over : has_ended (change x (Ends k)) k ≡ true
        over = ap is_over (moves.phases k ∙ ap (λ b. cond b Ended (phase_at x k)) (equal_self k))

        gone : still_to_come (change x (Ends k)) k ≡ 0
        gone = ap (λ b. cond b 0 (may_spawn (past_at (change x (Ends k)) k).task)) over

        was : still_to_come x k ≡ may_spawn (past_at x k).task
        was = ap (λ b. cond b 0 (may_spawn (past_at x k).task)) moves.unended

        old : sum_by (still_to_come (change x (Ends k))) (range_with_len 0 (length x.order)) + still_to_come x k ≤ sum_by (still_to_come x) (range_with_len 0 (length x.order))
        old = sum-drops (still_to_come x) (still_to_come (change x (Ends k))) 0 (length x.order) k (omega arith) (omega (arith, within x sound k running)) gone
            (λ m above below. still-moved (change x (Ends k)) k Ended moves m (omega (arith, below)))

        entering : sum_by (still_to_come (change x (Ends k))) (range_with_len (length x.order) (length (children (past_at x k).effects))) + length (children (past_at x k).effects)
            ≤ sum_by (child_size (past_at x k).task) (children (past_at x k).effects)
        entering = sum-new (still_to_come (change x (Ends k))) (child_size (past_at x k).task) (length x.order) (children (past_at x k).effects) still-new

        within_weight : length (x.order ++ children_at x k) + sum_by (still_to_come (change x (Ends k))) (range_with_len 0 (length (x.order ++ children_at x k))) ≤ sum_by entry_weight (x.order ++ children_at x k)
        within_weight = omega (arith, roomy.room.within_weight, weight, longer, split, was, old, entering, spawns.sizes)

    roomy-ended : IsRoomy (change x (Ends k))
    roomy-ended = record { room = room-ended; tasks = λ n lt. tasks n lt (below_or_not n (length x.order)) }
      where
        at : (n : ℕ) → length x.order ≤ n → length x.order + (n - length x.order) ≡ n
        at n above = omega (arith, above)

        tasks : (n : ℕ) → n < length (x.order ++ children_at x k) → (n < length x.order) ⊎ (length x.order ≤ n) → IsBehaviourOrRule (past_at (change x (Ends k)) n).task
        tasks n lt (inl below) = subst IsBehaviourOrRule (sym (moves.tasks n below)) (roomy.tasks n below)
        tasks n lt (inr above) =
            let new : n - length x.order < length (children (past_at x k).effects) = omega (arith, lt, above, longer) in
            subst (λ m. IsBehaviourOrRule (past_at (change x (Ends k)) m).task) (at n above)
            (subst IsBehaviourOrRule (sym (task-new (n - length x.order) new)) (spawns.each (n - length x.order) new))

  -- each event keeps it, where it admits a script or a rule
  pub roomy-step : (e : Event) → AdmitsScript e → Needs x e → IsRoomy (change x e)
  roomy-step (Opens s) is needs = record { room = record { within_weight = roomy.room.within_weight; within_limit = roomy.room.within_limit }; tasks = roomy.tasks }
  roomy-step (Admits i o w) is needs = roomy-admitted i o w is needs.4
  roomy-step (Starts k) is may = roomy-phased k _ (moves-start x sound k may)
  roomy-step (Ends k) is running = roomy-ended k running
  roomy-step (Loses k) is (inl running) =
      roomy-phased k Gone (moves-lost x sound k (within x sound k running) (running_is_not_over (phase_at x k) running) (inl (or_left x sound k running (runs x k) (has_ended x k) running)))
  roomy-step (Loses k) is (inr may) = roomy-phased k Gone (moves-lost x sound k may.there (waiting_is_not_over (phase_at x k) may.waits) (inr may.clear))

-- what the law of lines says
abbrev pub LinesAskScripts : Type 0
LinesAskScripts = (names : KnownNames) (bytes : List ℕ) (script : List Part) → LineOf names bytes (line.Work (work.Behaviour script)) → IsScript script

-- what some line asks is a script or a rule
readable_is : LinesAskScripts → (names : KnownNames) (w : Work) → IsReadable names w → IsScriptOrRule w
readable_is all names (work.Behaviour script) r = all names r.0 script r.1
readable_is all names (work.Rule rule) r = tt

admits-script : (x : State) (e : Event) → LinesAskScripts → Needs x e → AdmitsScript e
admits-script x (Opens s) all needs = tt
admits-script x (Admits i o w) all needs = readable_is all x.setup.names w needs.1
admits-script x (Starts k) all needs = tt
admits-script x (Ends k) all needs = tt
admits-script x (Loses k) all needs = tt

-- a trail keeps it
roomy-trail : (x : State) (es : List Event) → LinesAskScripts → IsSound x → IsRoomy x → IsTrail x es → IsRoomy (state_after x es)
roomy-trail x [] all sound roomy t = roomy
roomy-trail x (e ∷ es) all sound roomy t =
    roomy-trail (change x e) es all (sound-step x e sound t.0) (roomy-step x sound roomy e (admits-script x e all t.0) t.0) t.1

-- at the start nothing stands, and nothing may come
roomy-start : (s : Setup) (limit : ℕ) → IsRoomy (start s limit)
roomy-start s limit = record { room = record { within_weight = omega arith; within_limit = omega arith }; tasks = λ n lt. absurd (omega arith) }

-- each state that a trail leads to has room, and its places' tasks are of scripts or are rules
pub roomy-reached : (x : State) → LinesAskScripts → IsReached x → IsRoomy x
roomy-reached x all r =
    subst IsRoomy (sym r.leads) (roomy-trail (start r.setup r.limit) r.events all (sound-start r.setup r.limit) (roomy-start r.setup r.limit) r.trail)

-- an order that has room is within the limit
pub order-limited : (x : State) → HasRoom x → length x.order ≤ x.limit
order-limited x room = omega (arith, room.within_weight, room.within_limit)

-- and so it is when a place of such a state ends
pub children-limited : (x : State) (n : ℕ) → LinesAskScripts → IsReached x → runs x n ≡ true → length x.order + length (children_at x n) ≤ x.limit
children-limited x n all r running =
    omega (arith, order-limited (change x (Ends n)) (room-ended x (sound-reached x r) (roomy-reached x all r) n running), length-append x.order (children_at x n))
