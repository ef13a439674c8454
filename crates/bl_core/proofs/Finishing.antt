-- A running place ends, or is lost.
use Rattle.std.proofs.Common.{◌≡◌, ℕ, ◌<◌, ◌≤◌, ◌+◌, inl, Bool, true, false, cond, ◌||◌, List, [], length, get_or, set, ◌++◌, refl, ap, sym, ◌∙◌, subst, arith, length-set, get_or-set_same, get_or-set_other, true≢false}
use Rattle.std.specs.Prelude.{All}
use Rattle.std.specs.Vec.{with_item, with_items}
use Rattle.std.proofs.Math.ListN.{get_or-append}
use Rattle.std.proofs.lemmas.List.{get_or_read}
use Rattle.bl_policy.specs.Policy.{SecurityPolicy}
use Rattle.bl_policy.specs.declared.access.Access.{Access}
use Rattle.bl_work.specs.Effects.{Effect, after, children, outputs}
use Rattle.bl_work.specs.declared.answer.Answer.{Answer}
use Rattle.bl_work.specs.declared.answer.Answer.TheVariants as answers
use Rattle.bl_grant.specs.Loaned.{Back}
use Rattle.bl_eval.specs.Loan.{backs, part_of, effects_on}
use Rattle.bl_order.specs.Headline.{IsReached}
use Rattle.bl_order.specs.Room.{IsBehaviourOrRule}
use Rattle.bl_order.specs.Order.{Task, Runs, Applies, accesses_of, is_altered, is_rule}
use Rattle.bl_order.specs.Past.{Past, is_done, may_alter}
use Rattle.bl_order.specs.Machine.{State, Ended, Gone, Ends, Loses, change, with_phase, past_at, runs, is_over, is_gone, is_lost, phase_at, children_at}
use Rattle.bl_order.specs.Now.{content_at, content_now}
use Rattle.bl_order.proofs.Sound.{IsSound}
use Rattle.bl_order.proofs.Conflicts.{altered_is_declared}
use Rattle.bl_order.proofs.Reached.{sound-reached}
use Rattle.bl_order.proofs.HeadlineProof.{holds-reached}
use Rattle.bl_order.proofs.Steps.{Moves, equal_self, running_is_not_over, length-child_entries}
use Rattle.bl_order.proofs.Trails.{within, moves-end, moves-lost, past-ended}
use Rattle.bl_order.proofs.Present.{moves_on-reached, lost-answer, rule_never_runs, policy_now-ended, policy_now-lost}
use Rattle.bl_core.specs.Answers.{loan_at, script_of, index_of}
use Rattle.bl_place.specs.Places.{no_place, place_in, child_places, phase_of}
use Rattle.bl_place.specs.Shelves.{new_shelf, shelf_in, put_back}
use Rattle.bl_queue.specs.Queues.{Queue, with_stand}
use Rattle.bl_queue.specs.declared.entry.Stand.TheVariants as queues
use Rattle.bl_place.specs.Queueing.{MayEnter, QueuesTell}
use Rattle.bl_core.specs.View.{state_of}
use Rattle.bl_core.specs.Keeps.{Keeps, Tells, AreShelved}
use Rattle.bl_place.specs.declared.place.Place.{Place}
use Rattle.bl_place.specs.declared.place.Stand.TheVariants as stands
use Rattle.bl_place.specs.declared.shelf.Shelf.{Shelf}
use Rattle.bl_core.specs.declared.machine.Core.TheInside.{Inside}
use Rattle.bl_core.proofs.Grown.{Same, grows-set, grows-append, grows-both}
use Rattle.bl_core.proofs.Views.{length-order, phase-read, ended_of}
use Rattle.bl_core.proofs.Moved.{kept-moved}
use Rattle.bl_core.proofs.Written.{Written, append_nil, moved-written, state-written, stands_at, same-read}
use Rattle.bl_core.proofs.Shelving.{shelved-back}
use Rattle.bl_core.proofs.Backs.{put_back-read, length-put_back, backs-all, done-effects}
use Rattle.bl_core.proofs.Reading.{shelves-declared}
use Rattle.bl_core.proofs.Lending.{runs_of, accesses_part, written_items}
use Rattle.bl_core.proofs.Queueing.{tell-set, tell-stands}
use Rattle.bl_core.proofs.Ending.{alone, siblings_of, enters-new, state-ended, tells-new, weight-ended}

-- the fields after a running place was lost
abbrev pub lost : Inside → ℕ → Place → Queue → List Shelf → Inside
lost c n s q h = record c { places = with_item c.places n (stands_at s (stands.Ended answers.Lost)); queues = q; shelves = with_items c.shelves h }

-- a running place is a behaviour
behaviour-runs : (x : State) (n : ℕ) → is_done (past_at x n).answer ≡ true → is_rule (past_at x n).task ≡ false
behaviour-runs x n done = go (is_rule (past_at x n).task) refl
  where
    go : (b : Bool) → is_rule (past_at x n).task ≡ b → b ≡ false
    go false e = refl
    go true e = absurd (true≢false (sym done ∙ rule_never_runs x n e))

-- a behaviour is to alter what it declares so
alters-behaviour : (t : Task) → is_rule t ≡ false → (o : ℕ) → may_alter t o ≡ is_altered (accesses_of t) o
alters-behaviour (Runs script index) h o = refl
alters-behaviour (Applies rule) h o = absurd (true≢false h)

module _ (c : Inside) (k : Keeps c) (n : ℕ) (r : runs (state_of c) n ≡ true) where
  sound : IsSound (state_of c)
  sound = sound-reached (state_of c) k.reached

  in_order : n < length (state_of c).order
  in_order = within (state_of c) sound n r

  pub end_there : n < length c.places.items
  end_there = subst (λ (m : ℕ). n < m) (length-order c) in_order

  -- for whom it speaks is in the policy
  pub end_speaks : (s : Place) → s ≡ get_or c.places.items n s → s.subject < length c.policy.subjects
  end_speaks s at =
      subst (λ (t : Place). t.subject < length c.policy.subjects) (sym (get_or_read c.places.items n s end_there at no_place))
      (subst (λ (m : ℕ). (place_in c.places.items n).subject < m) (sym k.subjects) (k.told n end_there).speaks)

  pub end_open : is_over (phase_of (place_in c.places.items n).stand) ≡ false
  end_open = ap is_over (sym (phase-read c n end_there)) ∙ running_is_not_over (phase_at (state_of c) n) r

  done : is_done (past_at (state_of c) n).answer ≡ true
  done = sound.allowed n in_order r

  pub runs-task : (past_at (state_of c) n).task ≡ Runs (script_of (past_at (state_of c) n).task) (index_of (past_at (state_of c) n).task)
  runs-task = runs_of (past_at (state_of c) n).task (behaviour-runs (state_of c) n done)

  -- what comes back has a shelf
  pub end_shelves : (es : List Effect) → All (λ (b : Back). b.access.doc < length c.shelves.items) (backs n (part_of (loan_at (state_of c) n)).accesses (loan_at (state_of c) n).inputs es)
  end_shelves es =
      backs-all (λ (a : Access). a.doc < length c.shelves.items) n (part_of (loan_at (state_of c) n)).accesses (loan_at (state_of c) n).inputs es
      (subst (λ (xs : List Access). All (λ (a : Access). a.doc < length c.shelves.items) xs)
      (ap accesses_of (sym (k.told n end_there).task) ∙ sym (accesses_part (past_at (state_of c) n).task)) (shelves-declared c k n end_there))

  -- the content of what it alters is what it was lent
  lent_now : (o : ℕ) → is_altered (accesses_of (past_at (state_of c) n).task) o ≡ true → content_at (state_of c) o n ≡ content_now (state_of c) o
  lent_now o a = sym ((holds-reached (state_of c) k.reached).content_at_running n o in_order r (altered_is_declared (accesses_of (past_at (state_of c) n).task) o a))

  -- the shelves after what was lent came back, after these effects
  back-read : (es : List Effect) (o : ℕ) → o < length c.shelves.items
      → shelf_in (put_back c.shelves.items (backs n (part_of (loan_at (state_of c) n)).accesses (loan_at (state_of c) n).inputs es)) o
      ≡ cond (is_altered (accesses_of (past_at (state_of c) n).task) o) (new_shelf (after (content_now (state_of c) o) es o)) (shelf_in c.shelves.items o)
  back-read es o lt =
      ap (λ (xs : List Access). shelf_in (put_back c.shelves.items (backs n xs (loan_at (state_of c) n).inputs es)) o) (accesses_part (past_at (state_of c) n).task)
      ∙ put_back-read c.shelves.items n (accesses_of (past_at (state_of c) n).task) (λ e. content_at (state_of c) e n) es o lt
      ∙ go (is_altered (accesses_of (past_at (state_of c) n).task) o) (lent_now o)
    where
      go : (b : Bool) → (b ≡ true → content_at (state_of c) o n ≡ content_now (state_of c) o)
          → cond b (new_shelf (after (content_at (state_of c) o n) es o)) (shelf_in c.shelves.items o) ≡ cond b (new_shelf (after (content_now (state_of c) o) es o)) (shelf_in c.shelves.items o)
      go true e = ap (λ (v : List ℕ). new_shelf (after v es o)) (e refl)
      go false e = refl

  -- ---- it ends
  both : ((past_at (state_of c) n).answer ≡ answers.Done (outputs (effects_on (loan_at (state_of c) n)))) × ((past_at (state_of c) n).effects ≡ effects_on (loan_at (state_of c) n))
  both = done-effects (state_of c) n (script_of (past_at (state_of c) n).task) (index_of (past_at (state_of c) n).task) runs-task done

  -- there is room for the children
  pub end_room : (m : ℕ) → length (state_of c).order + length (children_at (state_of c) n) ≤ c.limit → m ≡ length (children (effects_on (loan_at (state_of c) n)))
      → length c.places.items + m ≤ c.limit
  end_room m fits is =
      omega (arith, fits, is, length-order c, length-child_entries n 1 (children (past_at (state_of c) n).effects), ap (λ (es : List Effect). length (children es)) both.1)

  -- the queues tell of the places that were there, where one has ended and others follow
  pub end_tell : (s : Place) (a : Answer) (more : List Place) → s ≡ get_or c.places.items n s
      → QueuesTell (length c.setup.policy.documents + 1) c.limit (set c.places.items n (stands_at s (stands.Ended a)) ++ more) (length c.places.items) (with_stand c.queues n queues.Ended)
  end_tell s a more at =
      tell-stands c.places.items (set c.places.items n (stands_at s (stands.Ended a)) ++ more)
      (grows-both c.places.items (set c.places.items n (stands_at s (stands.Ended a))) (set c.places.items n (stands_at s (stands.Ended a)) ++ more) (grows-set c.places.items n (stands_at s (stands.Ended a)) end_there (same-read c.places.items n s (stands.Ended a) end_there at)) (grows-append (set c.places.items n (stands_at s (stands.Ended a))) more))
      (λ m lt. (k.told m lt).root) (length c.setup.policy.documents + 1) c.limit c.queues k.queued n (stands.Ended a) end_there
      (ap (λ (v : Place). v.stand) (get_or-append (set c.places.items n (stands_at s (stands.Ended a))) more no_place n (omega (arith, end_there, length-set c.places.items n (stands_at s (stands.Ended a)))) ∙ get_or-set_same c.places.items n (stands_at s (stands.Ended a)) no_place end_there))
      (λ m within ne. ap (λ (v : Place). v.stand)
      (get_or-append (set c.places.items n (stands_at s (stands.Ended a))) more no_place m (omega (arith, within, length-set c.places.items n (stands_at s (stands.Ended a)))) ∙ get_or-set_other c.places.items n m (stands_at s (stands.Ended a)) no_place ne))

  -- the children may enter the queues
  pub end_enters : (s : Place) (outs : List (List ℕ)) (ks : List ℕ) → s ≡ get_or c.places.items n s → ks ≡ children (effects_on (loan_at (state_of c) n))
      → ((x : State) (m : ℕ) → IsReached x → m < length x.order → IsBehaviourOrRule (past_at x m).task) → (m : ℕ) → length c.places.items ≤ m
      → m < length (set c.places.items n (stands_at s (stands.Ended (answers.Done outs))) ++ child_places (siblings_of c n) 1 ks)
      → MayEnter (length c.setup.policy.documents + 1)
      (set c.places.items n (stands_at s (stands.Ended (answers.Done outs))) ++ child_places (siblings_of c n) 1 ks) m
  end_enters s outs ks at named law =
      enters-new c n (stands_at s (stands.Ended (answers.Done outs))) ks k r (same-read c.places.items n s (stands.Ended (answers.Done outs)) end_there at)
      (named ∙ ap children (sym both.1)) law

  module _ (d : Inside) (s : Place) (at : s ≡ get_or c.places.items n s) (outs : List (List ℕ)) (shown : outs ≡ outputs (effects_on (loan_at (state_of c) n)))
      (ks : List ℕ) (named : ks ≡ children (effects_on (loan_at (state_of c) n)))
      (w : Written c d n (stands_at s (stands.Ended (answers.Done outs))) (child_places (siblings_of c n) 1 ks))
      (policy : d.policy ≡ c.policy)
      (shelves : d.shelves.items ≡ put_back c.shelves.items (backs n (part_of (loan_at (state_of c) n)).accesses (loan_at (state_of c) n).inputs (effects_on (loan_at (state_of c) n)))) where
    are : ks ≡ children (past_at (state_of c) n).effects
    are = named ∙ ap children (sym both.1)

    same : Same (place_in c.places.items n) (stands_at s (stands.Ended (answers.Done outs)))
    same = same-read c.places.items n s (stands.Ended (answers.Done outs)) end_there at

    pub end-state : state_of d ≡ change (state_of c) (Ends n)
    end-state = state-ended c d n (stands_at s (stands.Ended (answers.Done outs))) ks w same refl are

    shelved : AreShelved (change (state_of c) (Ends n)) d.shelves.items
    shelved =
        shelved-back (state_of c) (change (state_of c) (Ends n)) n Ended sound (moves-end (state_of c) sound n r) r refl (alone (state_of c) sound n r)
        c.shelves.items d.shelves.items (λ o. after (content_now (state_of c) o) (effects_on (loan_at (state_of c) n)) o)
        (ap length shelves ∙ length-put_back c.shelves.items (backs n (part_of (loan_at (state_of c) n)).accesses (loan_at (state_of c) n).inputs (effects_on (loan_at (state_of c) n))))
        (λ o lt. ap (λ (h : List Shelf). shelf_in h o) shelves ∙ back-read (effects_on (loan_at (state_of c) n)) o lt)
        (λ o lt. (moves_on-reached (state_of c) k.reached).end_content n o r
        ∙ ap (λ (b : Bool). cond b (after (content_now (state_of c) o) (past_at (state_of c) n).effects o) (content_now (state_of c) o))
        (alters-behaviour (past_at (state_of c) n).task (behaviour-runs (state_of c) n done) o)
        ∙ ap (λ (es : List Effect). cond (is_altered (accesses_of (past_at (state_of c) n).task) o) (after (content_now (state_of c) o) es o) (content_now (state_of c) o)) both.1)
        k.shelved

    pub end-kept : ((x : State) (m : ℕ) → IsReached x → m < length x.order → IsBehaviourOrRule (past_at x m).task) → Keeps d
    end-kept law =
        kept-moved c d (Ends n) k r
        (moved-written c d n (stands_at s (stands.Ended (answers.Done outs))) (child_places (siblings_of c n) 1 ks) w end_there same
        k (Ends n) end-state
        (λ a is. ap (λ (p : Past). p.answer) (past-ended (state_of c) sound n r n in_order) ∙ both.0 ∙ ap answers.Done (sym shown) ∙ ended_of (answers.Done outs) a is)
        (λ m ge lt. subst (λ (l : List Place). Tells c.setup l m (past_at (change (state_of c) (Ends n)) m)) (sym w.places)
        (tells-new c n (stands_at s (stands.Ended (answers.Done outs))) ks k r same are law m ge (subst (λ (l : List Place). m < length l) w.places lt)))
        (policy ∙ k.policy ∙ sym (policy_now-ended (state_of c) n sound r))
        (ap (λ (p : SecurityPolicy). length p.subjects) policy) (ap (λ (p : SecurityPolicy). length p.documents) policy)
        (ap length shelves ∙ length-put_back c.shelves.items (backs n (part_of (loan_at (state_of c) n)).accesses (loan_at (state_of c) n).inputs (effects_on (loan_at (state_of c) n))))
        shelved (weight-ended (state_of c) n))

  -- ---- it is lost
  module _ (s : Place) (at : s ≡ get_or c.places.items n s) (q : Queue) (ended : q ≡ with_stand c.queues n queues.Ended)
      (h : List Shelf) (back : h ≡ put_back c.shelves.items (backs n (part_of (loan_at (state_of c) n)).accesses (loan_at (state_of c) n).inputs [])) where
    abbrev d : Inside
    d = lost c n s q h

    shelves : d.shelves.items ≡ put_back c.shelves.items (backs n (part_of (loan_at (state_of c) n)).accesses (loan_at (state_of c) n).inputs [])
    shelves =
        written_items c h
        (omega (arith, ap length back, length-put_back c.shelves.items (backs n (part_of (loan_at (state_of c) n)).accesses (loan_at (state_of c) n).inputs []), c.shelves.ok.0)) ∙ back

    w : Written c d n (stands_at s (stands.Ended answers.Lost)) []
    w = record {
      setup = refl;
      limit = refl;
      weight = refl;
      sessions = refl;
      rooms = refl;
      places = sym (append_nil (set c.places.items n (stands_at s (stands.Ended answers.Lost))));
      capacity = refl;
      queued = subst
          (QueuesTell (length c.setup.policy.documents + 1) c.limit (set c.places.items n (stands_at s (stands.Ended answers.Lost))) (length (set c.places.items n (stands_at s (stands.Ended answers.Lost))))) (sym ended)
          (tell-set c.places.items n s (stands.Ended answers.Lost) (length c.setup.policy.documents + 1) c.limit c.queues end_there at (λ m lt. (k.told m lt).root) k.queued);
    }

    policy : d.policy ≡ c.policy
    policy = refl

    moves : Moves (state_of c) (with_phase (state_of c) n Gone) n Gone
    moves = moves-lost (state_of c) sound n in_order (running_is_not_over (phase_at (state_of c) n) r) (inl (begun (runs (state_of c) n) (is_over (phase_at (state_of c) n)) r))
      where
        begun : (a b : Bool) → a ≡ true → (a || b) ≡ true
        begun true b h = refl
        begun false b h = absurd (true≢false (sym h))

    gone : is_lost (with_phase (state_of c) n Gone) n ≡ true
    gone = ap is_gone (moves.phases n ∙ ap (λ (b : Bool). cond b Gone (phase_at (state_of c) n)) (equal_self n))

    lose_same : Same (place_in c.places.items n) (stands_at s (stands.Ended answers.Lost))
    lose_same = same-read c.places.items n s (stands.Ended answers.Lost) end_there at

    pub lose-state : state_of d ≡ change (state_of c) (Loses n)
    lose-state = state-written c d n (stands_at s (stands.Ended answers.Lost)) Gone w lose_same refl

    either : (b : Bool) (v : List ℕ) → v ≡ cond b v v
    either true v = refl
    either false v = refl

    lose_long : length d.shelves.items ≡ length c.shelves.items
    lose_long = ap length shelves ∙ length-put_back c.shelves.items (backs n (part_of (loan_at (state_of c) n)).accesses (loan_at (state_of c) n).inputs [])

    pub lose-kept : Keeps d
    lose-kept =
        kept-moved c d (Loses n) k (inl r)
        (moved-written c d n (stands_at s (stands.Ended answers.Lost)) [] w end_there lose_same k (Loses n) lose-state
        (λ a is. lost-answer (state_of c).setup (is_lost (with_phase (state_of c) n Gone)) (state_of c).order n gone ∙ ended_of answers.Lost a is)
        (λ m ge lt. absurd (omega (arith, ge, lt, ap length (w.places ∙ append_nil (set c.places.items n (stands_at s (stands.Ended answers.Lost)))), length-set c.places.items n (stands_at s (stands.Ended answers.Lost)))))
        (policy ∙ k.policy ∙ sym (policy_now-lost (state_of c) n sound moves))
        (ap (λ (p : SecurityPolicy). length p.subjects) policy) (ap (λ (p : SecurityPolicy). length p.documents) policy)
        lose_long
        (shelved-back (state_of c) (with_phase (state_of c) n Gone) n Gone sound moves r refl (alone (state_of c) sound n r)
        c.shelves.items d.shelves.items (λ o. content_now (state_of c) o) lose_long
        (λ o lt. ap (λ (h : List Shelf). shelf_in h o) shelves ∙ back-read [] o lt)
        (λ o lt. (moves_on-reached (state_of c) k.reached).loss_content n o (inl r) ∙ either (is_altered (accesses_of (past_at (state_of c) n).task) o) (content_now (state_of c) o))
        k.shelved)
        refl)
