-- What may come of all that was admitted grows by a line that is admitted, and by nothing else.
use Rattle.std.proofs.Common.{◌≡◌, ◌≢◌, ℕ, zero, suc, ◌≤◌, ◌<◌, ◌+◌, ◌-◌, Bool, true, false, cond, List, [], ◌∷◌, ◌++◌, length, get_or, refl, ap, ◌∙◌, inl, inr, arith, subst, length-append}
use Rattle.std.specs.Prelude.{sum_by}
use Rattle.std.specs.List.{range_with_len}
use Rattle.std.proofs.Math.ListN.{get_or-append}
use Rattle.std.proofs.Math.Seq.{get_or-append_seam}
use Rattle.std.proofs.lemmas.List.Sums.{sum_by-cons}
use Rattle.bl_work.specs.Effects.{Effect, children, outputs}
use Rattle.bl_work.specs.Names.{KnownNames}
use Rattle.bl_work.specs.declared.answer.Answer.{Answer}
use Rattle.bl_work.specs.declared.answer.Answer.TheVariants.{Done, RuleDone, Denied, Lost}
use Rattle.bl_work.specs.declared.work.Work.{Work}
use Rattle.bl_order.specs.Order.{Entry, Line, Child}
use Rattle.bl_order.specs.Past.{Past, child_task, content_of, deeds, earlier, first_task, is_done, no_entry, task_of}
use Rattle.bl_order.specs.Machine.{State, Phase, Waiting, Running, Ended, Gone, is_over, is_gone, Event, Opens, Admits, Starts, Ends, Loses, MayStart, Needs, change, children_at, has_ended, is_lost, past_at, phase_at, runs, session_at, with_phase}
use Rattle.bl_order.proofs.Conflicts.{or_right}
use Rattle.bl_order.proofs.Lawful.{get-back, child-get}
use Rattle.bl_order.proofs.PlaceLaws.{answered, entry-at, task-child}
use Rattle.bl_order.proofs.PlaceSums.{sum-less, sum-split}
use Rattle.bl_order.proofs.RoomProof.{IsRoomy}
use Rattle.bl_order.proofs.Sound.{IsSound}
use Rattle.bl_order.proofs.Steps.{Moves, equal_self, length-child_entries, not_equal, other, running_is_not_over, waiting_is_not_over}
use Rattle.bl_order.proofs.Trails.{moves-end, moves-lost, moves-start, or_left, past-admitted, past-ended, past-started, phases-admitted, phases-ended, within}
use Rattle.bl_sizes.specs.Sizes.{HoldsDocuments, coming_of, denied_more, end_most, ended_size, entry_size, full_size, run_most, shown_size, size_at, work_size}
use Rattle.bl_sizes.proofs.Short.{Does, child_coming, coming-some, place-shows, place-within}
use Rattle.bl_sizes.proofs.Spending.{spent-is}
use Rattle.bl_sizes.proofs.Sums.{sum-moves, sum-places}

-- what a place has and may come to have, by its entry, whether it has ended, and what is said of it
abbrev sized : KnownNames → Entry → Bool → Past → ℕ
sized names e over p = entry_size names e + cond over (ended_size p.answer) run_most + cond over 0 (coming_of p.task)

-- no place beyond the last one has begun
pub waits-beyond : (ps : List Phase) (m : ℕ) → length ps ≤ m → get_or ps m Waiting ≡ Waiting
waits-beyond [] m h = refl
waits-beyond (p ∷ ps) zero h = absurd (omega (arith, h))
waits-beyond (p ∷ ps) (suc m) h = waits-beyond ps m (omega (arith, h))

less-same : (a b : ℕ) → a ≡ b → a ≤ b
less-same a b e = omega (arith, e)

-- what starts: it runs, or it ends with an answer that is no longer than what may come
start-size : (a : Answer) (most : ℕ) → denied_more ≤ most
    → cond (is_over (cond (is_done a) Running Ended)) (ended_size a) run_most + cond (is_over (cond (is_done a) Running Ended)) 0 most ≤ run_most + most
start-size (Done shown) most h = omega arith
start-size RuleDone most h = omega (arith, h)
start-size (Denied denial) most h = omega (arith, h)
start-size Lost most h = omega (arith, h)

-- what an event may add to all that may come
abbrev pub event_size : KnownNames → Event → ℕ
event_size names (Opens s) = 0
event_size names (Admits i o w) = work_size names w
event_size names (Starts n) = 0
event_size names (Ends n) = 0
event_size names (Loses n) = 0

module _ (x : State) (sound : IsSound x) (roomy : IsRoomy x) where
  -- ---- one place moves

  module _ (y : State) (k : ℕ) (p : Phase) (moves : Moves x y k p) (setup : y.setup ≡ x.setup)
      (entries : (m : ℕ) → m < length x.order → get_or y.order m no_entry ≡ get_or x.order m no_entry) where
    over-is : has_ended y k ≡ is_over p
    over-is = ap is_over (moves.phases k ∙ ap (λ b. cond b p (phase_at x k)) (equal_self k))

    over-same : (m : ℕ) → m ≢ k → has_ended y m ≡ has_ended x m
    over-same m ne = ap is_over (other x y k p sound moves m ne)

    -- what is said of the others stays where it counts
    size-same : (m : ℕ) → m < length x.order → m ≢ k → size_at y m ≡ size_at x m
    size-same m lt ne =
        (λ i. sized (setup i).names (entries m lt i) (over-same m ne i) (past_at y m)) ∙ go (has_ended x m) refl
      where
        go : (b : Bool) → has_ended x m ≡ b → sized x.setup.names (get_or x.order m no_entry) b (past_at y m) ≡ sized x.setup.names (get_or x.order m no_entry) b (past_at x m)
        go true e = ap (sized x.setup.names (get_or x.order m no_entry) true) (moves.pasts m lt ne (or_right (runs x m) (has_ended x m) e))
        go false e = ap (λ t. entry_size x.setup.names (get_or x.order m no_entry) + run_most + coming_of t) (moves.tasks m lt)

    size-moved : size_at y k ≡ sized x.setup.names (get_or x.order k no_entry) (is_over p) (past_at y k)
    size-moved = λ i. sized (setup i).names (entries k moves.within i) (over-is i) (past_at y k)

    size-was : size_at x k ≡ sized x.setup.names (get_or x.order k no_entry) false (past_at x k)
    size-was = ap (λ b. sized x.setup.names (get_or x.order k no_entry) b (past_at x k)) moves.unended

    -- the places that stood have moved no further than the one that moved
    sizes-moved : sum_by (size_at y) (range_with_len 0 (length x.order)) + size_at x k ≤ sum_by (size_at x) (range_with_len 0 (length x.order)) + size_at y k
    sizes-moved =
        sum-moves (size_at x) (size_at y) 0 (length x.order) k (omega arith) (omega (arith, moves.within))
        (λ m above below ne. less-same (size_at y m) (size_at x m) (size-same m (omega (arith, below)) ne))

  -- ---- a start and a loss

  full-phased : (k : ℕ) (p : Phase) → Moves x (with_phase x k p) k p → size_at (with_phase x k p) k ≤ size_at x k → full_size (with_phase x k p) ≤ full_size x
  full-phased k p moves less = omega (arith, less, sizes-moved (with_phase x k p) k p moves refl (λ m lt. refl))

  full-started : (k : ℕ) (may : MayStart x k) → full_size (change x (Starts k)) ≤ full_size x
  full-started k may =
      full-phased k (cond (is_done (past_at x k).answer) Running Ended) moves
      (omega (
        arith,
        start-size (past_at x k).answer (coming_of (past_at x k).task) (coming-some (past_at x k).task (roomy.tasks k may.there)),
        size-moved (change x (Starts k)) k (cond (is_done (past_at x k).answer) Running Ended) moves refl (λ m lt. refl)
            ∙ ap (sized x.setup.names (get_or x.order k no_entry) (is_over (cond (is_done (past_at x k).answer) Running Ended))) (past-started x sound k may k),
        size-was (change x (Starts k)) k (cond (is_done (past_at x k).answer) Running Ended) moves refl (λ m lt. refl),
      ))
    where
      moves : Moves x (change x (Starts k)) k (cond (is_done (past_at x k).answer) Running Ended)
      moves = moves-start x sound k may

  full-lost : (k : ℕ) → (moves : Moves x (with_phase x k Gone) k Gone) → full_size (change x (Loses k)) ≤ full_size x
  full-lost k moves =
      full-phased k Gone moves
      (omega (
        arith,
        coming-some (past_at x k).task (roomy.tasks k moves.within),
        size-moved (with_phase x k Gone) k Gone moves refl (λ m lt. refl),
        ap ended_size lost,
        size-was (with_phase x k Gone) k Gone moves refl (λ m lt. refl),
      ))
    where
      lost : (past_at (with_phase x k Gone) k).answer ≡ Lost
      lost = (answered x.setup (is_lost (with_phase x k Gone)) x.order k).gone (ap is_gone (moves.phases k ∙ ap (λ b. cond b Gone (phase_at x k)) (equal_self k)))

  -- ---- an end

  module _ (short : HoldsDocuments x.setup) (k : ℕ) (running : runs x k ≡ true) where
    here : k < length x.order
    here = within x sound k running

    -- what the place does
    does : List Effect
    does = deeds (past_at x k).task (content_of x.setup (earlier x.setup (is_lost x) x.order k))

    does-within : Does (past_at x k).task (deeds (past_at x k).task (content_of x.setup (earlier x.setup (is_lost x) x.order k)))
    does-within = place-within x.setup short (is_lost x) x.order k (λ m lt. roomy.tasks m (omega (arith, lt, here)))

    shows : ((past_at x k).answer ≡ Done (outputs (deeds (past_at x k).task (content_of x.setup (earlier x.setup (is_lost x) x.order k)))))
        × ((past_at x k).effects ≡ deeds (past_at x k).task (content_of x.setup (earlier x.setup (is_lost x) x.order k)))
    shows = place-shows x.setup (is_lost x) x.order k (sound.allowed k here running)

    moves : Moves x (change x (Ends k)) k Ended
    moves = moves-end x sound k running

    entries-stay : (m : ℕ) → m < length x.order → get_or (x.order ++ children_at x k) m no_entry ≡ get_or x.order m no_entry
    entries-stay m lt = get_or-append x.order (children_at x k) no_entry m lt

    longer : length (x.order ++ children_at x k) ≡ length x.order + length (children (past_at x k).effects)
    longer = length-append x.order (children_at x k) ∙ ap (λ v. length x.order + v) (length-child_entries k 1 (children (past_at x k).effects))

    -- a new place waits, has no line, and runs the behaviour that was spawned
    module _ (i : ℕ) (lt : i < length (children (past_at x k).effects)) where
      child-there : get_or (x.order ++ children_at x k) (length x.order + i) no_entry ≡ Child k (1 + i)
      child-there =
          entry-at (x.order ++ children_at x k) (length x.order + i) (Child k (1 + i))
          (get-back x.order (children_at x k) i ∙ child-get k 1 (children (past_at x k).effects) i lt)

      child-waits : has_ended (change x (Ends k)) (length x.order + i) ≡ false
      child-waits =
          ap is_over (phases-ended x sound k running (length x.order + i)
          ∙ ap (λ b. cond b Ended (phase_at x (length x.order + i))) (not_equal (length x.order + i) k (λ e. absurd (omega (arith, e, here))))
          ∙ waits-beyond x.phases (length x.order + i) (omega (arith, sound.as_many)))

      child-runs : (past_at (change x (Ends k)) (length x.order + i)).task ≡ child_task (past_at x k).task (get_or (children (past_at x k).effects) i 0)
      child-runs =
          task-child x.setup (is_lost (change x (Ends k))) (x.order ++ children_at x k) (length x.order + i) k (1 + i) (omega (arith, here))
          (get-back x.order (children_at x k) i ∙ child-get k 1 (children (past_at x k).effects) i lt)
          ∙ ap (λ p. child_task p.task (get_or (children p.effects) (1 + i - 1) 0)) (past-ended x sound k running k here)
          ∙ ap (λ j. child_task (past_at x k).task (get_or (children (past_at x k).effects) j 0)) (less_one i)
        where
          less_one : (i : ℕ) → 1 + i - 1 ≡ i
          less_one i = omega arith

      child-is : size_at (change x (Ends k)) (length x.order + i) ≡ 0 + run_most + coming_of (past_at (change x (Ends k)) (length x.order + i)).task
      child-is = λ j. sized x.setup.names (child-there j) (child-waits j) (past_at (change x (Ends k)) (length x.order + i))

      child-size : size_at (change x (Ends k)) (length x.order + i) ≤ run_most + child_coming (past_at x k).task (get_or (children (past_at x k).effects) i 0)
      child-size = omega (arith, child-is, ap coming_of child-runs)

    full-ended : full_size (change x (Ends k)) ≤ full_size x
    full-ended =
        omega (
          arith,
          split,
          sizes-moved (change x (Ends k)) k Ended moves refl entries-stay,
          size-was (change x (Ends k)) k Ended moves refl entries-stay,
          ended,
          new,
          spent-is (child_coming (past_at x k).task) (deeds (past_at x k).task (content_of x.setup (earlier x.setup (is_lost x) x.order k))),
          does-within.within,
        )
      where
        zero_plus : (a : ℕ) → 0 + a ≡ a
        zero_plus a = omega arith

        split : sum_by (size_at (change x (Ends k))) (range_with_len 0 (length (x.order ++ children_at x k)))
            ≡ sum_by (size_at (change x (Ends k))) (range_with_len 0 (length x.order))
            + sum_by (size_at (change x (Ends k))) (range_with_len (length x.order) (length (children (past_at x k).effects)))
        split =
            sum-split (size_at (change x (Ends k))) 0 (length x.order) (length (children (past_at x k).effects)) (length (x.order ++ children_at x k)) longer
            ∙ ap (λ a. sum_by (size_at (change x (Ends k))) (range_with_len 0 (length x.order)) + sum_by (size_at (change x (Ends k))) (range_with_len a (length (children (past_at x k).effects))))
            (zero_plus (length x.order))

        -- the place has its start and its end, with what it showed
        ended : size_at (change x (Ends k)) k
            ≡ entry_size x.setup.names (get_or x.order k no_entry)
            + (run_most + (end_most + sum_by shown_size (outputs (deeds (past_at x k).task (content_of x.setup (earlier x.setup (is_lost x) x.order k)))))) + 0
        ended =
            size-moved (change x (Ends k)) k Ended moves refl entries-stay
            ∙ ap (sized x.setup.names (get_or x.order k no_entry) true) (past-ended x sound k running k here)
            ∙ ap (λ a. entry_size x.setup.names (get_or x.order k no_entry) + ended_size a + 0) shows.0

        new : sum_by (size_at (change x (Ends k))) (range_with_len (length x.order) (length (children (past_at x k).effects)))
            ≤ sum_by (λ j. run_most + child_coming (past_at x k).task j) (children (deeds (past_at x k).task (content_of x.setup (earlier x.setup (is_lost x) x.order k))))
        new =
            subst (λ es. sum_by (size_at (change x (Ends k))) (range_with_len (length x.order) (length (children (past_at x k).effects)))
            ≤ sum_by (λ j. run_most + child_coming (past_at x k).task j) (children es)) shows.1
            (sum-places (size_at (change x (Ends k))) (λ j. run_most + child_coming (past_at x k).task j) (length x.order) (children (past_at x k).effects) (λ i lt. child-size i lt))

  -- ---- a line

  module _ (i o : ℕ) (w : Work) where
    line-stays : (m : ℕ) → m < length x.order → size_at (change x (Admits i o w)) m ≡ size_at x m
    line-stays m lt =
        λ j. sized x.setup.names (get_or-append x.order (Line i o (session_at x i).subject w ∷ []) no_entry m lt j) (is_over (phases-admitted x sound i o w m j)) (past-admitted x sound i o w m lt j)

    line-last : size_at (change x (Admits i o w)) (length x.order) ≡ work_size x.setup.names w
    line-last =
        (λ j. sized x.setup.names (last j) (waits j) (past_at (change x (Admits i o w)) (length x.order)))
        ∙ ap (λ t. entry_size x.setup.names (Line i o (session_at x i).subject w) + run_most + coming_of t) runs_it
        ∙ grouped (entry_size x.setup.names (Line i o (session_at x i).subject w)) (coming_of (first_task w))
      where
        last : get_or (x.order ++ Line i o (session_at x i).subject w ∷ []) (length x.order) no_entry ≡ Line i o (session_at x i).subject w
        last = get_or-append_seam x.order (Line i o (session_at x i).subject w) [] no_entry

        waits : has_ended (change x (Admits i o w)) (length x.order) ≡ false
        waits = ap is_over (phases-admitted x sound i o w (length x.order) ∙ waits-beyond x.phases (length x.order) (omega (arith, sound.as_many)))

        runs_it : (past_at (change x (Admits i o w)) (length x.order)).task ≡ first_task w
        runs_it = ap (task_of (earlier x.setup (is_lost (change x (Admits i o w))) (x.order ++ Line i o (session_at x i).subject w ∷ []) (length x.order))) last

        grouped : (a b : ℕ) → a + run_most + b ≡ a + (run_most + b)
        grouped a b = omega arith

    pub full-admitted : full_size (change x (Admits i o w)) ≤ full_size x + work_size x.setup.names w
    full-admitted =
        omega (
          arith,
          split,
          line-last,
          sum-less-all,
        )
      where
        longer : length (x.order ++ Line i o (session_at x i).subject w ∷ []) ≡ length x.order + 1
        longer = length-append x.order (Line i o (session_at x i).subject w ∷ [])

        sum-less-all : sum_by (size_at (change x (Admits i o w))) (range_with_len 0 (length x.order)) ≤ sum_by (size_at x) (range_with_len 0 (length x.order))
        sum-less-all =
            sum-less (size_at x) (size_at (change x (Admits i o w))) 0 (length x.order)
            (λ m above below. less-same (size_at (change x (Admits i o w)) m) (size_at x m) (line-stays m (omega (arith, below))))

        split : sum_by (size_at (change x (Admits i o w))) (range_with_len 0 (length (x.order ++ Line i o (session_at x i).subject w ∷ [])))
            ≡ sum_by (size_at (change x (Admits i o w))) (range_with_len 0 (length x.order)) + size_at (change x (Admits i o w)) (length x.order)
        split = sum-split (size_at (change x (Admits i o w))) 0 (length x.order) 1 (length (x.order ++ Line i o (session_at x i).subject w ∷ [])) longer
            ∙ ap (λ v. sum_by (size_at (change x (Admits i o w))) (range_with_len 0 (length x.order)) + v) one
          where
            zero_plus : (a : ℕ) → 0 + a ≡ a
            zero_plus a = omega arith

            plus_zero : (a : ℕ) → a + 0 ≡ a
            plus_zero a = omega arith

            one : sum_by (size_at (change x (Admits i o w))) (range_with_len (0 + length x.order) 1) ≡ size_at (change x (Admits i o w)) (length x.order)
            one = ap (λ a. sum_by (size_at (change x (Admits i o w))) (range_with_len a 1)) (zero_plus (length x.order))
                ∙ sum_by-cons (size_at (change x (Admits i o w))) (length x.order) [] ∙ plus_zero (size_at (change x (Admits i o w)) (length x.order))

  pub full-step : HoldsDocuments x.setup → (e : Event) → Needs x e → full_size (change x e) ≤ full_size x + event_size x.setup.names e
  full-step short (Opens s) needs = omega arith
  full-step short (Admits i o w) needs = full-admitted i o w
  full-step short (Starts k) may = omega (arith, full-started k may)
  full-step short (Ends k) running = omega (arith, full-ended short k running)
  full-step short (Loses k) (inl running) =
      omega (arith, full-lost k (moves-lost x sound k (within x sound k running) (running_is_not_over (phase_at x k) running) (inl (or_left x sound k running (runs x k) (has_ended x k) running))))
  full-step short (Loses k) (inr may) =
      omega (arith, full-lost k (moves-lost x sound k may.there (waiting_is_not_over (phase_at x k) may.waits) (inr may.clear)))
