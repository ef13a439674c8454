-- Lines that fit in the trail, and those that are held back.
use Rattle.std.proofs.Common.{◌≡◌, ℕ, zero, suc, ◌+◌, ◌-◌, ◌<◌, inl, inr, List, [], ◌∷◌, ◌++◌, length, take, take_all, refl, sym, ap, subst, ◌∙◌, arith, length-append, Option, Some, None}
use Rattle.std.specs.Prelude.{IsSome, true}
use Rattle.std.proofs.lemmas.List.{take-append-le}
use Rattle.bl_work.specs.Names.{KnownNames}
use Rattle.bl_work.specs.declared.work.Work.{Work}
use Rattle.bl_order.specs.Machine.{State, Event, Opens, Admits, Starts, Ends, Loses, IsTrail, start}
use Rattle.bl_hall.specs.Chronicle.{Chronicle, HasTrail, state_now}
use Rattle.bl_gate.specs.Counts.{from, gained}
use Rattle.bl_gate.specs.Gates.{Calls, Follows, OwnsAllSince, PassView, hall_seen, hall_with, state_seen}
use Rattle.bl_gate.proofs.Following.{base_stays}
use Rattle.bl_gate.proofs.Passing.{trail_back}
use Rattle.bl_gate.proofs.Trails.{begins_whole}
use Rattle.bl_worker.specs.Turns.{Adds, AdmitsNoLine, IsNoLine}
use Rattle.bl_worker.proofs.Adding.{adds_as, adds_call, adds_itself, adds_then}
use Rattle.bl_engine.specs.declared.request.Request.{Request}
use Rattle.bl_engine.specs.declared.request.Request.TheVariants as requests
use Rattle.bl_sizes.specs.Counts.{LeadsOn}
use Rattle.bl_quota.specs.Quotas.{IsAllowed}
use Rattle.bl_quota.specs.declared.quota.Fit.{Fit}
use Rattle.bl_quota.specs.declared.quota.Fit.TheVariants as fits
use Rattle.bl_quota.specs.declared.quota.Fit.TheVariants.{Now}
use Rattle.bl_serve.specs.Together.{GoesOnTo}
use Rattle.bl_serve.proofs.Going.{state_is}
use Rattle.bl_crowd.specs.Crowds.{IsMet, IsMetOn, IsPutOff}
use Rattle.bl_crowd.specs.Fitting.{AdmitsWhatFits, HadRoom, IsHeldBack}
use Rattle.bl_crowd.specs.Receptions.{HasEntered}
use Rattle.bl_crowd.specs.declared.member.Member.{Member}

-- a pass that goes on goes on with the run
pub leads_on : (p q : PassView) → GoesOnTo p q → LeadsOn (state_seen p) (state_seen q)
leads_on p q on = record {
  events = on.follows.seen.0;
  steps = trail_back (start p.gate.base.setup p.gate.base.limit) p.seen on.follows.seen.0 whole;
  leads = state_is p q on.follows on.trail;
}
  where
    hall_is : hall_seen q ≡ hall_with p.gate.base (p.seen ++ on.follows.seen.0)
    hall_is = λ i. hall_with (base_stays p q on.follows i) (on.follows.seen.1 i)

    whole : IsTrail (start p.gate.base.setup p.gate.base.limit) (p.seen ++ on.follows.seen.0)
    whole = subst HasTrail hall_is on.trail

-- ---- what was admitted

length_from : (a n : ℕ) → length (from a n) ≡ n
length_from a zero = refl
length_from a (suc n) = (let e = length_from (a + 1) n in omega (arith, e))

-- a call behind which nobody else came stands right behind all that was seen
right_behind : (p q : PassView) (event : Event) (A : State → Type 0) → OwnsAllSince p q → (call : Calls p event A q) → call.trail ≡ p.seen
right_behind p q event A alone call =
    begins_whole call.trail p.seen call.from (let own = ap length (sym call.own ∙ alone) in
    let one = length-append p.own (length call.trail ∷ []) in
    let all = length-append p.own (gained (length p.seen) (length q.seen)) in
    let count = length_from (length p.seen) (length q.seen - length p.seen) in
    let long = ap length call.seen ∙ length-append call.trail (event ∷ []) in
    omega (arith, own, one, all, count, long))

module _ (bound : Option ℕ) where
  room_later : (q r : PassView) → Follows q r → (i : ℕ) (e : Event) → i < length q.seen → HadRoom bound q i e → HadRoom bound r i e
  room_later q r follows i (Opens u) lt h = tt
  room_later q r follows i (Admits s k w) lt h =
      let same : take i q.seen ≡ take i r.seen = sym (ap (take i) follows.seen.1 ∙ take-append-le i q.seen follows.seen.0 (omega (arith, lt))) in
      let base : q.gate.base ≡ r.gate.base = sym (base_stays q r follows) in
      subst (λ (c : Chronicle). IsAllowed bound (state_now c) w Now) (λ j. hall_with (base j) (same j)) h
  room_later q r follows i (Starts n) lt h = tt
  room_later q r follows i (Ends n) lt h = tt
  room_later q r follows i (Loses n) lt h = tt

  pub fits_itself : (p q : PassView) → q.own ≡ p.own → AdmitsWhatFits bound p q
  fits_itself p q same = adds_itself (HadRoom bound q) p q same

  pub fits_then : (p q r : PassView) → AdmitsWhatFits bound p q → AdmitsWhatFits bound q r → Follows q r → AdmitsWhatFits bound p r
  fits_then p q r one other follows = adds_then (HadRoom bound r) p q r later other follows
    where
      later : Adds (HadRoom bound r) p q
      later = record {
        gained = one.gained;
        own = one.own;
        within = one.within;
        events = λ i e h at. room_later q r follows i e (one.within i h) (one.events i e h at);
      }

  pub fits_quiet : (p q : PassView) → AdmitsNoLine p q → AdmitsWhatFits bound p q
  fits_quiet p q none = adds_as (λ _. IsNoLine) (HadRoom bound q) p q none by
    where
      by : (i : ℕ) (e : Event) → IsNoLine e → HadRoom bound q i e
      by i (Opens u) h = tt
      by i (Admits s k w) h = absurd h
      by i (Starts n) h = tt
      by i (Ends n) h = tt
      by i (Loses n) h = tt

  pub fits_entered : (p q : PassView) (session ordinal : ℕ) (work : Work) → Follows p q → OwnsAllSince p q → HasEntered p q session ordinal work
      → IsAllowed bound (state_seen p) work Now → AdmitsWhatFits bound p q
  fits_entered p q session ordinal work follows alone (inr (same, full)) fit = fits_itself p q (ap (λ (v : PassView). v.own) same)
  fits_entered p q session ordinal work follows alone (inl call) fit =
      adds_call (HadRoom bound q) p q (Admits session ordinal work) (λ x. Unit {0}) call
      (subst (λ (c : Chronicle). IsAllowed bound (state_now c) work Now) (λ j. hall_with (base j) (there j)) fit)
    where
      base : p.gate.base ≡ q.gate.base
      base = sym (base_stays p q follows)

      front : take (length call.trail) q.seen ≡ call.trail
      front =
          ap (take (length call.trail)) call.seen
          ∙ (take-append-le (length call.trail) call.trail (Admits session ordinal work ∷ []) (omega arith) ∙ take_all (length call.trail) call.trail (omega arith))

      there : p.seen ≡ take (length call.trail) q.seen
      there = sym (front ∙ right_behind p q (Admits session ordinal work) (λ x. Unit {0}) alone call)

-- once more in a turn: what the quota counts stays known
pub fits_more : (K A B : Type 0) (bound other : Option ℕ) (before p q : PassView) → other ≡ bound → Follows p q → (K → AdmitsWhatFits bound before p × A) → (A → AdmitsWhatFits other p q × B)
    → K → AdmitsWhatFits bound before q × B
fits_more K A B bound other before p q same follows was next known =
    let one = was known in
    let then = next one.1 in
    (fits_then bound before p q one.0 (subst (λ (o : Option ℕ). AdmitsWhatFits o p q) same then.0) follows, then.1)

-- ---- what is held back

held_some : (K : Type 0) (bound : Option ℕ) (x : State) (asked : Option Request) (fit : Fit) → IsHeldBack K bound x asked fit → IsSome asked
held_some K bound x (Some request) fit held = refl
held_some K bound x None fit held = absurd held

-- a member that is full still asks
pub full_asks : {S : Type 0} (K : Type 0) (bound : Option ℕ) (x : State) (was now : Member S) → now ≡ record was { full = true } → IsHeldBack K bound x was.asked fits.Never → IsSome now.asked
full_asks {S} K bound x was now is held = subst IsSome (ap (λ (m : Member S). m.asked) (sym is)) (held_some K bound x was.asked fits.Never held)

module _ (K L : Type 0) (bound other : Option ℕ) (on : K → L) (same : other ≡ bound) where
  pub held_as : (x : State) (asked : Option Request) (fit : Fit) → IsHeldBack L other x asked fit → IsHeldBack K bound x asked fit
  held_as x (Some (requests.Admits ordinal work)) fit held = λ known. subst (λ (o : Option ℕ). IsAllowed o x work fit) same (held (on known))
  held_as x (Some (requests.Opens subject)) fit held = absurd held
  held_as x (Some requests.Settles) fit held = absurd held
  held_as x None fit held = absurd held

  module _ {S : Type 0} where
    put_off_as : (at : PassView) (member : Member S) → IsPutOff L other at member → IsPutOff K bound at member
    put_off_as at member (inl waits) = inl waits
    put_off_as at member (inr (inl later)) = inr (inl (held_as (state_seen at) member.asked fits.Later later))
    put_off_as at member (inr (inr (full, never))) = inr (inr (full, held_as (state_seen at) member.asked fits.Never never))

    pub met_as : (first before after : PassView) (was now : Member S) → IsMet L other first before after was now → IsMet K bound first before after was now
    met_as first before after was now (inl none) = inl none
    met_as first before after was now (inr (inl failed)) = inr (inl failed)
    met_as first before after was now (inr (inr (at, since, to, off))) = inr (inr (at, since, to, put_off_as at now off))

    pub met_on_as : (remaining contents : S → Option (List ℕ)) (names : KnownNames) (first before after : PassView) (was now : Member S)
        → IsMetOn remaining contents names L other first before after was now → IsMetOn remaining contents names K bound first before after was now
    met_on_as remaining contents names first before after was now (inl met) = inl (met_as first before after was now met)
    met_on_as remaining contents names first before after was now (inr long) = inr long
