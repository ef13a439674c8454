-- Events that a pass makes for members.
use Rattle.std.proofs.Common.{◌≡◌, ◌≢◌, ℕ, ◌<◌, ◌⊎◌, inl, inr, true, false, List, [], ◌∷◌, length, get_or, take, take_all, refl, sym, ap, subst, ◌∙◌, arith, eqb}
use Rattle.std.specs.Prelude.{slice_set}
use Rattle.std.proofs.lemmas.Bool.Decides.{eqb_tells}
use Rattle.std.proofs.lemmas.Grind.{get_or-set_at}
use Rattle.std.proofs.lemmas.List.{get_or-set_other, length-set, take-append-le}
use Rattle.bl_work.specs.declared.work.Work.{Work}
use Rattle.bl_order.specs.Machine.{Event, Opens, Admits, Starts, Ends, Loses}
use Rattle.bl_hall.specs.Chronicle.{state_now}
use Rattle.bl_gate.specs.Gates.{Follows, PassView, hall_with}
use Rattle.bl_gate.proofs.Following.{base_stays}
use Rattle.bl_worker.specs.Turns.{Adds, AddsTurnsAlone, IsEventOf}
use Rattle.bl_worker.proofs.Adding.{adds_as, adds_call, adds_itself, adds_then}
use Rattle.bl_serve.specs.Courses.{AdmitsNoLineOf, IsNoLineOf}
use Rattle.bl_crowd.specs.Openings.{AddsItsOwn, AddsTheirOwn, IsItsOwn, IsOfOne, number_at}
use Rattle.bl_crowd.specs.Receptions.{HasEntered, HasReceived}
use Rattle.bl_crowd.specs.Steps.{IsNewSession}
use Rattle.bl_crowd.specs.declared.member.Member.{Member}
use Rattle.bl_crowd.specs.declared.member.Reception.{Reception}
use Rattle.bl_crowd.specs.declared.member.Reception.TheVariants.{Awaited, Open, Full}

-- a session that was opened at a position has the same number later
number_stays : (q r : PassView) → Follows q r → (i : ℕ) → i < length q.seen → number_at r i ≡ number_at q i
number_stays q r follows i lt =
    let same : take i r.seen ≡ take i q.seen = ap (take i) follows.seen.1 ∙ take-append-le i q.seen follows.seen.0 (omega (arith, lt)) in
    let base : r.gate.base ≡ q.gate.base = base_stays q r follows in
    (λ j. length (state_now (hall_with (base j) (same j))).sessions)

-- one part after the other, where the first is of a kind that is of the other's later
adds_more : (One Two : ℕ → Event → Type 0) (p q r : PassView) → Adds One p q → ((i : ℕ) (e : Event) → i < length q.seen → One i e → Two i e) → Adds Two q r → Follows q r → Adds Two p r
adds_more One Two p q r one wider other follows = adds_then Two p q r (record {
  gained = one.gained;
  own = one.own;
  within = one.within;
  events = λ i e h at. wider i e (one.within i h) (one.events i e h at);
}) other follows

-- ---- of one member

-- it stays its own while the member keeps its session
own_later : (was mid now : Reception) (q r : PassView) → Follows q r → ((session : ℕ) → mid ≡ Open session → now ≡ mid) → (i : ℕ) (e : Event) → i < length q.seen
    → IsItsOwn was mid q i e → IsItsOwn was now r i e
own_later was mid now q r follows stays i (Opens u) lt h = (h.0, stays (number_at q i) h.1 ∙ (h.1 ∙ ap Open (sym (number_stays q r follows i lt))))
own_later was mid now q r follows stays i (Admits s k w) lt h = stays s h ∙ h
own_later was mid now q r follows stays i (Starts n) lt h = h
own_later was mid now q r follows stays i (Ends n) lt h = h
own_later was mid now q r follows stays i (Loses n) lt h = h

pub own_itself : (was now : Reception) (p q : PassView) → q.own ≡ p.own → AddsItsOwn was now p q
own_itself was now p q same = adds_itself (IsItsOwn was now q) p q same

pub own_then : (was mid now : Reception) (p q r : PassView) → Follows q r → (mid ≡ was) ⊎ IsNewSession p mid → ((session : ℕ) → mid ≡ Open session → now ≡ mid)
    → AddsItsOwn was mid p q → AddsItsOwn mid now q r → AddsItsOwn was now p r
own_then was mid now p q r follows new stays one other =
    adds_more (IsItsOwn was mid q) (IsItsOwn was now r) p q r one (own_later was mid now q r follows stays) (adds_as (IsItsOwn mid now r) (IsItsOwn was now r) q r other back) follows
  where
    was_so : mid ≡ Awaited → (mid ≡ was) ⊎ IsNewSession p mid → was ≡ Awaited
    was_so awaited (inl same) = sym same ∙ awaited
    was_so awaited (inr fresh) = absurd (subst (IsNewSession p) awaited fresh)

    back : (i : ℕ) (e : Event) → IsItsOwn mid now r i e → IsItsOwn was now r i e
    back i (Opens u) h = (was_so h.0 new, h.1)
    back i (Admits s k w) h = h
    back i (Starts n) h = h
    back i (Ends n) h = h
    back i (Loses n) h = h

-- it admits no line of another session
pub own_others : (was now : Reception) (p q : PassView) → AddsItsOwn was now p q → (session : ℕ) → now ≢ Open session → AdmitsNoLineOf session p q
own_others was now p q own session apart = adds_as (IsItsOwn was now q) (λ _. IsNoLineOf session) p q own by
  where
    by : (i : ℕ) (e : Event) → IsItsOwn was now q i e → IsNoLineOf session e
    by i (Opens u) h = tt
    by i (Admits s k w) h = λ same. apart (h ∙ ap Open same)
    by i (Starts n) h = absurd h
    by i (Ends n) h = absurd h
    by i (Loses n) h = absurd h

-- it is received
pub own_received : (p q : PassView) (subject : ℕ) (was now : Reception) → was ≡ Awaited → Follows p q → HasReceived p q subject now → AddsItsOwn was now p q
own_received p q subject was Awaited awaited follows received = absurd received
own_received p q subject was Full awaited follows received = own_itself was Full p q received.0
own_received p q subject was (Open session) awaited follows call =
    adds_call (IsItsOwn was (Open session) q) p q (Opens subject) (λ x. session ≡ length x.sessions) call (awaited, ap Open (call.answered ∙ there))
  where
    front : call.trail ≡ take (length call.trail) q.seen
    front =
        sym (ap (take (length call.trail)) call.seen
        ∙ (take-append-le (length call.trail) call.trail (Opens subject ∷ []) (omega arith) ∙ take_all (length call.trail) call.trail (omega arith)))

    base : p.gate.base ≡ q.gate.base
    base = sym (base_stays p q follows)

    there : length (state_now (hall_with p.gate.base call.trail)).sessions ≡ number_at q (length call.trail)
    there = λ j. length (state_now (hall_with (base j) (front j))).sessions

-- its line is admitted
pub own_entered : (p q : PassView) (session ordinal : ℕ) (work : Work) (was now : Reception) → now ≡ Open session → HasEntered p q session ordinal work → AddsItsOwn was now p q
own_entered p q session ordinal work was now is (inl call) = adds_call (IsItsOwn was now q) p q (Admits session ordinal work) (λ x. Unit {0}) call is
own_entered p q session ordinal work was now is (inr (same, full)) = own_itself was now p q (ap (λ (v : PassView). v.own) same)

-- ---- of all members

module _ {S : Type 0} (old : List (Member S)) where
  module _ (members : List (Member S)) where
    pub theirs_itself : (p q : PassView) → q.own ≡ p.own → AddsTheirOwn old members p q
    theirs_itself p q same = adds_itself (IsOfOne old members q) p q same

    -- turns with entries
    pub theirs_turns : (p q : PassView) → AddsTurnsAlone p q → AddsTheirOwn old members p q
    theirs_turns p q turns = adds_as (λ _. IsEventOf (λ n. Unit {0})) (IsOfOne old members q) p q turns (λ i e h. inl h)

    one_later : (q r : PassView) → Follows q r → (i : ℕ) (e : Event) → i < length q.seen → IsOfOne old members q i e → IsOfOne old members r i e
    one_later q r follows i e lt (inl turn) = inl turn
    one_later q r follows i e lt (inr (j, within, mine)) =
        inr (j, within, λ d. own_later (get_or old j d).reception (get_or members j d).reception (get_or members j d).reception q r follows (λ session is. refl) i e lt (mine d))

    pub theirs_then : (p q r : PassView) → AddsTheirOwn old members p q → AddsTheirOwn old members q r → Follows q r → AddsTheirOwn old members p r
    theirs_then p q r one other follows = adds_more (IsOfOne old members q) (IsOfOne old members r) p q r one (one_later q r follows) other follows

  -- one of them, which was as at first, goes on
  module _ (members : List (Member S)) (i : ℕ) (was now : Member S) (lt : i < length members) (here : (d : Member S) → was ≡ get_or members i d)
      (still : (d : Member S) → get_or members i d ≡ get_or old i d) (stays : (session : ℕ) → was.reception ≡ Open session → now.reception ≡ was.reception)
      (q r : PassView) (follows : Follows q r) where
    abbrev then : List (Member S)
    then = slice_set members i now

    count : length then ≡ length members
    count = length-set members i now

    kept : (k j : ℕ) (e : Event) → k < length q.seen → ((d : Member S) → IsItsOwn (get_or old j d).reception (get_or members j d).reception q k e)
        → ((eqb j i ≡ true) × (j ≡ i)) ⊎ ((eqb j i ≡ false) × (j ≢ i)) → (d : Member S) → IsItsOwn (get_or old j d).reception (get_or then j d).reception r k e
    kept k j e low mine (inl same) d =
        let before = (get_or old j d).reception in
        let is : get_or members j d ≡ was = ap (λ (n : ℕ). get_or members n d) same.1 ∙ sym (here d) in
        let had = subst (λ (m : Member S). IsItsOwn before m.reception q k e) is (mine d) in
        subst (λ (m : Member S). IsItsOwn before m.reception r k e) (sym (get_or-set_at members i j now d same.1 lt))
        (own_later before was.reception now.reception q r follows stays k e low had)
    kept k j e low mine (inr other) d =
        let before = (get_or old j d).reception in
        let on = (get_or members j d).reception in
        subst (λ (m : Member S). IsItsOwn before m.reception r k e) (sym (get_or-set_other members i j now d other.1))
        (own_later before on on q r follows (λ session is. refl) k e low (mine d))

    front : (k : ℕ) (e : Event) → k < length q.seen → IsOfOne old members q k e → IsOfOne old then r k e
    front k e low (inl turn) = inl turn
    front k e low (inr (j, within, mine)) = inr (j, omega (arith, within, count), kept k j e low mine (eqb_tells j i))

    back : (k : ℕ) (e : Event) → IsItsOwn was.reception now.reception r k e → IsOfOne old then r k e
    back k e h = inr (
      i,
      omega (arith, lt, count),
      λ d. subst (λ (m : Member S). IsItsOwn (get_or old i d).reception m.reception r k e) (sym (get_or-set_at members i i now d refl lt))
          (subst (λ (m : Member S). IsItsOwn m.reception now.reception r k e) (here d ∙ still d) h),
    )

    pub theirs_more : (p : PassView) → AddsTheirOwn old members p q → AddsItsOwn was.reception now.reception q r → AddsTheirOwn old (slice_set members i now) p r
    theirs_more p one own =
        adds_more (IsOfOne old members q) (IsOfOne old then r) p q r one front (adds_as (IsItsOwn was.reception now.reception r) (IsOfOne old then r) q r own back) follows
