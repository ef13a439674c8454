-- The headline, of each state that a trail leads to.
use Rattle.std.proofs.Common.{◌≡◌, ℕ, suc, ◌<◌, ◌≤◌, Bool, true, false, cond, ◌&&◌, leb, List, [], length, take, drop, take-append-drop, length-take-le, refl, sym, ◌∙◌, ap, inl, inr, arith, subst, ◌⊎◌, true≢false}
use Rattle.std.specs.Prelude.{◌↔◌, All, IsTrue, Option, Some, None}
use Rattle.std.proofs.lemmas.Bool.{leb-true, leb-false}
use Rattle.bl_level.specs.Level.{SecurityLevel}
use Rattle.bl_policy.specs.FirstFault.{first_fault, IsFirstFault}
use Rattle.bl_policy.specs.Policy.{SecurityPolicy}
use Rattle.bl_policy.specs.Properties.{IsGranted}
use Rattle.bl_policy.specs.RuleEffect.{rule_fault, rule_makes, unless_failed, IsRuleFault}
use Rattle.bl_policy.specs.declared.access.Access.{Access}
use Rattle.bl_policy.specs.declared.denial.Denial.{Denial}
use Rattle.bl_policy.specs.declared.rule.Rule.{Rule}
use Rattle.bl_work.specs.Effects.{Effect}
use Rattle.bl_work.specs.declared.answer.Answer.{Answer}
use Rattle.bl_work.specs.declared.answer.Answer.TheVariants.{Denied}
use Rattle.bl_setup.specs.Setup.{Setup}
use Rattle.bl_order.specs.AtHand.{IsAtHand}
use Rattle.bl_order.specs.Headline.{IsReached}
use Rattle.bl_order.specs.Machine.{State, Event, Opens, Admits, Starts, Ends, Loses, Phase, Waiting, Running, Ended, Gone, MayStart, Needs, IsTrail, start, state_after, change, with_phase, phase_at, past_at, is_lost, has_ended, runs, is_waiting, is_running, is_over, is_gone}
use Rattle.bl_order.specs.Now.{policy_at, content_now}
use Rattle.bl_order.specs.Order.{Entry, Task, Runs, Applies, accesses_of, is_rule}
use Rattle.bl_order.specs.Past.{place, changed, is_done, is_rule_done, may_alter, answer_of, fault_of_task, deeds, content_of, earlier}
use Rattle.bl_order.specs.TheHeadline.{IsAllowedAt, IsFirstFaultOf, told_alone, AgreeUpTo, IsTheHeadline, IsTheHeadlineThroughout}
use Rattle.bl_order.proofs.AtHandLaws.{rests_on_ended_places}
use Rattle.bl_order.proofs.Conflicts.{or_left}
use Rattle.bl_order.proofs.HeadlineProof.{done-no_fault, holds-reached, secure-held, present-held}
use Rattle.bl_order.proofs.PlaceLaws.{place-lost, place-unnamed}
use Rattle.bl_order.proofs.Places.{place-grown}
use Rattle.bl_order.proofs.Present.{moves_on-reached}
use Rattle.bl_order.proofs.Reached.{sound-reached, trail-front}
use Rattle.bl_order.proofs.Sound.{IsSound}
use Rattle.bl_order.proofs.Steps.{Moves, equal_self, stays, running_is_not_over, waiting_is_not_over}
use Rattle.bl_order.proofs.Trails.{moves-start, moves-end, moves-lost, within, past-started, past-step, phases-admitted}

-- what bl_policy promises of first faults
pub record FaultLaws : Type 0 where
  pub none : (p : SecurityPolicy) (s : ℕ) (carried : SecurityLevel) (accesses : List Access)
      → (first_fault p s carried accesses ≡ None) ↔ All (λ access. IsGranted p s carried access.doc access.mode) accesses
  pub some : (p : SecurityPolicy) (s : ℕ) (carried : SecurityLevel) (accesses : List Access) (denial : Denial)
      → first_fault p s carried accesses ≡ Some denial → IsFirstFault p s carried accesses denial
  pub rule : (p : SecurityPolicy) (s : ℕ) (rule : Rule) (denial : Denial) → rule_fault p s rule ≡ Some denial → IsRuleFault p s rule denial

-- ---- answers and faults

runs_if : (b : Bool) → is_running (cond b Running Ended) ≡ b
runs_if true = refl
runs_if false = refl

over_unless : (b : Bool) → b ≡ false → is_over (cond b Running Ended) ≡ true
over_unless true h = absurd (true≢false h)
over_unless false h = refl

waits_not_gone : (p : Phase) → is_waiting p ≡ true → is_gone p ≡ false
waits_not_gone Waiting h = refl
waits_not_gone Running h = refl
waits_not_gone Ended h = refl
waits_not_gone Gone h = absurd (true≢false (sym h))

done-where_none : (b : Bool) (f : Option Denial) (t : Task) (es : List Effect) → b ≡ false → f ≡ None → is_rule t ≡ false → is_done (answer_of b f t es) ≡ true
done-where_none true f t es h n r = absurd (true≢false h)
done-where_none false None (Runs script index) es h n r = refl
done-where_none false None (Applies rule) es h n r = absurd (true≢false r)
done-where_none false (Some d) t es h n r = absurd (cc)

denied_fault : (b : Bool) (f : Option Denial) (t : Task) (es : List Effect) (denial : Denial) → answer_of b f t es ≡ Denied denial → f ≡ Some denial
denied_fault true f t es denial h = absurd (cc)
denied_fault false None (Runs script index) es denial h = absurd (cc)
denied_fault false None (Applies rule) es denial h = absurd (cc)
denied_fault false (Some d) t es denial h = let same : d ≡ denial = cc in ap Some same

behaviour_fault : (p : SecurityPolicy) (s : ℕ) (carried : SecurityLevel) (t : Task) → is_rule t ≡ false → fault_of_task p s carried t ≡ first_fault p s carried (accesses_of t)
behaviour_fault p s carried (Runs script index) h = refl
behaviour_fault p s carried (Applies rule) h = absurd (true≢false h)

named : (laws : FaultLaws) (p : SecurityPolicy) (s : ℕ) (carried : SecurityLevel) (t : Task) (denial : Denial) → fault_of_task p s carried t ≡ Some denial → IsFirstFaultOf p s carried t denial
named laws p s carried (Runs script index) denial h = laws.some p s carried (accesses_of (Runs script index)) denial h
named laws p s carried (Applies rule) denial h = laws.rule p s rule denial h

idle_policy : (p : SecurityPolicy) (s : ℕ) (carried : SecurityLevel) (t : Task) (a : Answer) (denial : Denial) → a ≡ Denied denial → fault_of_task p s carried t ≡ Some denial → changed a t s p ≡ p
idle_policy p s carried (Runs script index) a denial is fault = refl
idle_policy p s carried (Applies rule) a denial is fault = ap (λ b. changed b (Applies rule) s p) is ∙ ap (λ f. unless_failed f (rule_makes p s rule) p) fault

-- what a place would do
abbrev would : State → ℕ → List Effect
would x n = deeds (past_at x n).task (content_of x.setup (earlier x.setup (is_lost x) x.order n))

-- what the policy at a place has against it
abbrev fault_there : State → ℕ → Option Denial
fault_there x n = fault_of_task (policy_at x n) (past_at x n).subject (past_at x n).carried (past_at x n).task

-- ---- a start

module _ (x : State) (sound : IsSound x) (n : ℕ) (may : MayStart x n) where
  phase_then : phase_at (change x (Starts n)) n ≡ cond (is_done (past_at x n).answer) Running Ended
  phase_then = (moves-start x sound n may).phases n ∙ ap (λ b. cond b (cond (is_done (past_at x n).answer) Running Ended) (phase_at x n)) (equal_self n)

  runs_then : runs (change x (Starts n)) n ≡ is_done (past_at x n).answer
  runs_then = ap is_running phase_then ∙ runs_if (is_done (past_at x n).answer)

  pub ends_then : is_done (past_at x n).answer ≡ false → has_ended (change x (Starts n)) n ≡ true
  ends_then h = ap is_over phase_then ∙ over_unless (is_done (past_at x n).answer) h

  module _ (laws : FaultLaws) (behaves : is_rule (past_at x n).task ≡ false) where
    same_fault : fault_there x n ≡ first_fault (policy_at x n) (past_at x n).subject (past_at x n).carried (accesses_of (past_at x n).task)
    same_fault = behaviour_fault (policy_at x n) (past_at x n).subject (past_at x n).carried (past_at x n).task behaves

    there : is_done (past_at x n).answer ≡ true → IsAllowedAt x n
    there h = (laws.none (policy_at x n) (past_at x n).subject (past_at x n).carried (accesses_of (past_at x n).task)).0
        (sym same_fault ∙ done-no_fault (is_lost x n) (fault_there x n) (past_at x n).task (would x n) h)

    back : IsAllowedAt x n → is_done (past_at x n).answer ≡ true
    back all = done-where_none (is_lost x n) (fault_there x n) (past_at x n).task (would x n) (waits_not_gone (phase_at x n) may.waits)
        (same_fault ∙ (laws.none (policy_at x n) (past_at x n).subject (past_at x n).carried (accesses_of (past_at x n).task)).1 all) behaves

    pub runs_exactly : IsTrue (runs (change x (Starts n)) n) ↔ IsAllowedAt x n
    runs_exactly = ((λ h. there (sym runs_then ∙ h)), (λ all. runs_then ∙ back all))

-- ---- what is told alone

module _ (x : State) (reached : IsReached x) (n : ℕ) (lt : n < length x.order) (hand : IsAtHand x n) (lost : ℕ → Bool) (agree : AgreeUpTo x lost n) where
  -- as it is told up to n, and behind that as it is
  others : ℕ → Bool
  others k = cond (leb k n) (lost k) (is_lost x k)

  same : (k : ℕ) → IsTrue (has_ended x k) → is_lost x k ≡ others k
  unfolding others
  same k over = go (leb k n) refl
    where
      go : (b : Bool) → leb k n ≡ b → is_lost x k ≡ cond b (lost k) (is_lost x k)
      go true e = agree k (leb-true k n e) (inl over)
      go false e = refl

  as_told : (k : ℕ) → k ≤ n → others k ≡ lost k
  unfolding others
  as_told k le = go (leb k n) refl
    where
      go : (b : Bool) → leb k n ≡ b → cond b (lost k) (is_lost x k) ≡ lost k
      go true e = refl
      go false e = absurd (let h = leb-false k n e in omega arith)

  front : List Entry
  front = take (suc n) x.order

  inside : n < length front
  unfolding front
  inside = let h = length-take-le (suc n) x.order (omega arith) in omega arith

  pub alone : told_alone x lost n ≡ past_at x n
  unfolding front
  alone =
      place-unnamed x.setup lost front n
      ∙ sym (place-grown x.setup lost lost front (drop (suc n) x.order) n (λ k. refl) inside)
      ∙ ap (λ o. place x.setup lost o n) (take-append-drop (suc n) x.order)
      ∙ sym (place-lost x.setup others lost x.order n as_told)
      ∙ sym (rests_on_ended_places x reached others same n lt hand (agree n (omega arith) (inr refl) ∙ sym (as_told n (omega arith))))

-- ---- for good

gone : (x : State) (k : ℕ) (sound : IsSound x) → (IsTrue (runs x k) ⊎ MayStart x k) → Moves x (with_phase x k Gone) k Gone
gone x k sound (inl running) = moves-lost x sound k (within x sound k running) (running_is_not_over (phase_at x k) running) (inl (or_left (runs x k) (has_ended x k) running))
gone x k sound (inr may) = moves-lost x sound k may.there (waiting_is_not_over (phase_at x k) may.waits) (inr may.clear)

stays_ended : (x : State) (e : Event) → IsSound x → Needs x e → (n : ℕ) → has_ended x n ≡ true → has_ended (change x e) n ≡ true
stays_ended x (Opens s) sound needs n over = over
stays_ended x (Admits i o w) sound needs n over = ap is_over (phases-admitted x sound i o w n) ∙ over
stays_ended x (Starts k) sound may n over = stays x (change x (Starts k)) k _ sound (moves-start x sound k may) n over
stays_ended x (Ends k) sound running n over = stays x (change x (Ends k)) k Ended sound (moves-end x sound k running) n over
stays_ended x (Loses k) sound needs n over = stays x (with_phase x k Gone) k Gone sound (gone x k sound needs) n over

-- ---- the headline

pub headline-reached : FaultLaws → (x : State) → IsReached x → IsTheHeadline x
headline-reached laws x r =
    let sound : IsSound x = sound-reached x r in
    let moves = moves_on-reached x r in
    let holds = holds-reached x r in
    record {
      runs_where_allowed = λ n may behaves. runs_exactly x sound n may laws behaves;
      start_leaves = λ k n may. past-started x sound k may n;
      start_ends = λ n may h. ends_then x sound n may h;
      denied_rightly = λ n denial h. named laws (policy_at x n) (past_at x n).subject (past_at x n).carried (past_at x n).task denial (denied_fault (is_lost x n) (fault_there x n) (past_at x n).task (would x n) denial h);
      denied_idle = λ n denial may h. record {
        policy =
            moves.start_policy n may
            ∙ ap (changed (past_at x n).answer (past_at x n).task (past_at x n).subject) (holds.at_ready n may)
            ∙ idle_policy (policy_at x n) (past_at x n).subject (past_at x n).carried (past_at x n).task (past_at x n).answer denial h
            (denied_fault (is_lost x n) (fault_there x n) (past_at x n).task (would x n) denial h)
            ∙ sym (holds.at_ready n may);
        contents = λ doc. moves.start_content n doc may ∙ ap (λ a. cond (is_rule_done a && may_alter (past_at x n).task doc) [] (content_now x doc)) h;
        order = refl;
      };
      told_as_alone = λ n lt hand lost agree. alone x r n lt hand lost agree;
      ended_stays = λ event needs n over. stays_ended x event sound needs n over;
      said_stays = λ event needs n lt over. past-step x event sound needs n lt over;
      secure = secure-held x sound holds.at_running;
      present = present-held x sound holds.at_running;
    }

pub headline-throughout : FaultLaws → (setup : Setup) (limit : ℕ) (events : List Event) → IsTrail (start setup limit) events → IsTheHeadlineThroughout setup limit events
headline-throughout laws setup limit events trail front rest is =
    headline-reached laws (state_after (start setup limit) front) (record {
      setup = setup;
      limit = limit;
      events = front;
      trail = trail-front (start setup limit) front rest (subst (IsTrail (start setup limit)) is trail);
      leads = refl;
    })
