-- What was followed of a trail from its head on.
use Rattle.std.proofs.Common.{◌≡◌, ◌<◌, ◌+◌, ◌≤◌, ◌++◌, ◌∷◌, ◌∙◌, ℕ, suc, List, [], ap, arith, inl, inr, length, length-append, refl, subst, sym}
use Rattle.std.specs.Prelude.{All, Some}
use Rattle.bl_setup.specs.Setup.{Setup, by_version}
use Rattle.bl_setup.specs.declared.version.Version.TheVariants.{Two}
use Rattle.bl_state.specs.Whole.{IsWhole}
use Rattle.bl_order.specs.Machine.{Event, IsTrail, Needs, Starts, State, change, start, state_after}
use Rattle.bl_order.specs.Now.{policy_now}
use Rattle.bl_trail.specs.EventText.{event_text}
use Rattle.bl_trail.specs.Follow.{Followed, IsFollowed, IsVerdict}
use Rattle.bl_trail.specs.TrueText.{event_texts, head_lines, joined}
use Rattle.bl_trail.specs.declared.verdict.Verdict.{Verdict}
use Rattle.bl_trail.specs.declared.verdict.Verdict.TheVariants.{Accepted, Rejected}
use Rattle.bl_trail.proofs.Following.{setup-end}
use Rattle.bl_hall.specs.Chronicle.{Chronicle, state_now}
use Rattle.bl_rebuild.specs.Following.{Course, HasTaken, IsBegun}
use Rattle.bl_rebuild.proofs.Recovering.{by-two}
use Rattle.bl_explain.specs.Run.{rules_of}
use Rattle.bl_explain.specs.Since.{KnowsApplied, policy_after}
use Rattle.bl_explain.specs.declared.since.Applied.{Applied}
use Rattle.bl_ruled.specs.Noting.{AreLeftBefore}
use Rattle.bl_ruled.specs.Ruled.{IsFront}
use Rattle.bl_ruled.specs.declared.ruled.Front.TheVariants.{Fewer, Wrong}
use Rattle.bl_ruled.proofs.Fronts.{front-is, front-rules}
use Rattle.bl_explaining.specs.declared.explained.Explained.{Explained}
use Rattle.bl_explaining.specs.declared.setting.Moment.{Moment}
use Rattle.bl_explaining_event.specs.Courses.{EndsBehind, HasGone, HasHappened, IsNotTaken, fault_by}
use Rattle.bl_explaining_event.specs.Decisions.{HasEventAt, HasNoDecision, IsDecision, TellsStart}
use Rattle.bl_explaining_event.specs.Starts.{IsBehind, IsToldBehind}
use Rattle.bl_explaining_event.specs.declared.fault.EventFault.{EventFault}
use Rattle.bl_explaining_event.proofs.Going.{happened, leads}

-- each event has a line
pub as-long : (x : State) (events : List Event) → length events ≤ length (joined (event_texts x events))
as-long x [] = omega arith
as-long x (e ∷ events) =
    omega (
      arith,
      as-long (change x e) events,
      length-append (event_text x e ++ 10 ∷ []) (joined (event_texts (change x e) events)),
      length-append (event_text x e) (10 ∷ []),
    )

pub still-within : (x : State) (text rest : List ℕ) (events : List Event) → Followed x text rest events → length events + length rest ≤ length text
still-within x text rest events followed =
    omega (arith, as-long x events, ap length followed.split, length-append (joined (event_texts x events)) rest)

module _ (setup : Setup) (whole : IsWhole setup) (trail : List ℕ) (course : Course) (begun : IsBegun setup trail course) where
  abbrev pub first : State
  first = start (by_version Two setup) begun.limit

  by : by_version Two setup ≡ setup
  by = by-two setup whole.two

  pub none-yet : course.hall.trail ≡ []
  none-yet = ap (λ (h : Chronicle). h.trail) begun.hall

  pub first-is : state_now course.hall ≡ first
  first-is = ap state_now begun.hall ∙ ap (λ s. start s begun.limit) (sym by)

  pub setup-is : course.hall.setup ≡ setup
  setup-is = ap (λ (h : Chronicle). h.setup) begun.hall

  abbrev pub Law : Type 0
  Law = (verdict : Verdict) → IsFollowed first course.rest verdict → IsVerdict setup (joined (head_lines Two begun.limit) ++ course.rest) verdict

  pub no-decision : Law → (number : ℕ) (verdict : Verdict) (fewer : ℕ) → fewer < number → EndsBehind (state_now course.hall) course.rest fewer verdict
      → HasNoDecision setup trail number (fault_by verdict number)
  no-decision law number (Accepted count) fewer lt ends =
      let left : AreLeftBefore first course.rest number Fewer = (
        count,
        subst (λ (x : State). IsFollowed x course.rest (Accepted count)) first-is ends.0,
        omega (arith, ends.1, lt),
      ) in
      (refl, inr (front-rules setup Two begun.limit tt begun.is_limit trail course.rest begun.head law number Fewer left))
  no-decision law number (Rejected line) fewer lt ends =
      let moved : (f : IsFollowed first course.rest (Rejected line)) × (length f.0 ≡ fewer) =
      subst (λ (x : State). (f : IsFollowed x course.rest (Rejected line)) × (length f.0 ≡ fewer)) first-is ends in
      let left : AreLeftBefore first course.rest number (Wrong line) = (moved.0, omega (arith, moved.1, lt)) in
      let found = front-rules setup Two begun.limit tt begun.is_limit trail course.rest begun.head law number (Wrong line) left in
      inr (inr (line, refl, found.0, found.1))

  pub not-taken : Law → (number : ℕ) (fault : EventFault) → IsNotTaken course number fault → HasNoDecision setup trail number fault
  not-taken law number fault (inl is) = subst (HasNoDecision setup trail number) (sym is) (inl refl)
  not-taken law number fault (inr why) =
      subst (HasNoDecision setup trail number) (sym why.4) (no-decision law number why.0 why.1 why.2 why.3)

  module _ (mid after : Course) (rules : List Applied) (events : List Event) (gone : HasGone course mid rules events) (taken : HasTaken mid after) where
    abbrev pub followed : Followed first course.rest mid.rest events
    followed = subst (λ (x : State). Followed x course.rest mid.rest events) first-is gone.followed

    abbrev pub front : IsFront setup trail (length events)
    front = front-is setup Two begun.limit tt begun.is_limit trail course.rest begun.head events mid.rest (length events) followed refl

    pub found-is : state_now mid.hall ≡ state_after first events
    found-is = leads course mid after rules events none-yet gone taken ∙ ap (λ (x : State). state_after x events) first-is

    pub rules-are : rules ≡ rules_of 0 first events
    rules-are = gone.rules_are ∙ ap (λ (x : State). rules_of 0 x events) first-is

    abbrev pub event-at : (number : ℕ) → number ≡ suc (length events) → (event : Event) → taken.event ≡ event → HasEventAt setup trail number event
    event-at number counted event is = record {
      before = length events;
      counted = counted;
      front = front;
      needs = subst (λ (e : Event). Needs (state_after first events) e) is (subst (λ (x : State). Needs x taken.event) found-is taken.needs);
      more = after.rest;
      line = taken.line ∙ ap (λ (x : State). event_text x taken.event ++ 10 ∷ after.rest) found-is
          ∙ ap (λ (e : Event). event_text (state_after first events) e ++ 10 ∷ after.rest) is;
    }

    pub decision-is : (bytes path : List ℕ) (number : ℕ) → number ≡ suc (length events) → (told : Explained)
        → IsToldBehind setup bytes rules path number (state_now mid.hall) taken.event (Some told)
        → IsDecision setup bytes trail path number told.text.items told.granted
    decision-is bytes path number counted told r =
        let at = r.tells.2 in
        record {
          n = r.tells.0;
          at = event-at number counted (Starts r.tells.0) r.tells.1;
          t = at.t;
          setup_is = ap (λ (m : Moment). m.setup.now) at.moment_is ∙ r.setup_is;
          bytes_is = ap (λ (m : Moment). m.bytes.now) at.moment_is ∙ r.bytes_is;
          path_is = at.path_is;
          rules_are = ap (λ (m : Moment). m.rules.now) at.moment_is ∙ r.rules_are ∙ rules-are;
          policy_is = ap (λ (m : Moment). m.policy.now) at.moment_is ∙ r.policy_is ∙ ap policy_now found-is;
          told = subst (λ (x : State). TellsStart at.t x number r.tells.0 told.text.items told.granted) found-is at.told;
        }

    pub last : HasHappened after.hall (state_now mid.hall) taken.event
    last = happened course mid after rules events none-yet gone taken

    -- what the event found is what its rules made
    pub behind : ((s : Setup) (limit : ℕ) (es : List Event) → IsTrail (start s limit) es
        → policy_now (state_after (start s limit) es) ≡ policy_after s.policy (rules_of 0 (start s limit) es))
        → IsBehind setup rules after.hall (state_now mid.hall) taken.event
    behind law = record {
      whole = whole;
      happened = last;
      setup_is = ap (λ (x : State). x.setup) found-is ∙ sym (setup-end first events) ∙ by;
      known = subst (λ (s : Setup). All (KnowsApplied s.policy) rules) setup-is gone.known;
      made = ap policy_now found-is ∙ law (by_version Two setup) begun.limit events followed.steps ∙ ap (policy_after setup.policy) (sym rules-are);
    }
