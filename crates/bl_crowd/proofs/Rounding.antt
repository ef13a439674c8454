-- A member that hears on at the gate, and the batch that is in hand meanwhile.
use Rattle.std.proofs.Common.{◌≡◌, ◌≢◌, ℕ, ◌+◌, ◌<◌, ◌≤◌, ◌⊎◌, inl, inr, List, length, get_or, refl, sym, ap, subst, ◌∙◌, arith, eqb, Bool, true, false, true≢false, Option, Some}
use Rattle.std.specs.Prelude.{Result, Err, IsSome, slice_set}
use Rattle.std.proofs.lemmas.Bool.Decides.{eqb_tells}
use Rattle.std.proofs.lemmas.Grind.{get_or-set_at}
use Rattle.std.proofs.lemmas.List.{get_or-set_other}
use Rattle.bl_work.specs.Names.{KnownNames}
use Rattle.bl_work.specs.declared.work.Work.{Work}
use Rattle.bl_order.specs.Machine.{State, Opens, Admits, Starts}
use Rattle.bl_hall.specs.Chronicle.{HasTrail}
use Rattle.bl_gate.specs.Gates.{Calls, Follows, KeepsInHand, PassView, hall_seen, state_seen}
use Rattle.bl_gate.proofs.Following.{follows_itself, follows_then}
use Rattle.bl_wire.specs.declared.fault.SessionFault.{SessionFault}
use Rattle.bl_wire.specs.declared.fault.SessionFault.TheVariants.{Memory, TooLong}
use Rattle.bl_engine.specs.Conversations.{waits_left}
use Rattle.bl_connection.specs.Connections.{state_of}
use Rattle.bl_connection.specs.declared.connection.Connection.{Connection}
use Rattle.bl_connection.specs.declared.connection.State.TheVariants as states
use Rattle.bl_worker.specs.Turns.{AddsTurnsAlone}
use Rattle.bl_worker.proofs.Adding.{adds_no_line}
use Rattle.bl_worker.proofs.Settling.{settles_call, settles_itself, settles_then}
use Rattle.bl_serve.specs.Courses.{SpeaksForItsOwn}
use Rattle.bl_serve.specs.Together.{GoesOnTo}
use Rattle.bl_serve.proofs.Going.{state_is}
use Rattle.bl_serve.proofs.Opened.{sessions_grow}
use Rattle.bl_crowd.specs.Crowds.{AreMetOn, HasHeardOn, HaveHeardOn, IsMet, IsMetOn}
use Rattle.bl_crowd.specs.Openings.{AddsItsOwn}
use Rattle.bl_crowd.specs.Steps.{IsNewSession, KeepsHand}
use Rattle.bl_crowd.specs.Ways.{AreMembers, HasFailed, IsHome, IsMember}
use Rattle.bl_crowd.specs.declared.member.Member.{Member}
use Rattle.bl_crowd.specs.declared.member.Met.{Met}
use Rattle.bl_crowd.specs.declared.member.Met.TheVariants as mets
use Rattle.bl_crowd.specs.declared.member.Reception.{Reception}
use Rattle.bl_crowd.specs.declared.member.Reception.TheVariants.{Awaited, Open, Full}
use Rattle.bl_crowd.proofs.Crowding.{crowd_goes}
use Rattle.bl_crowd.proofs.Opening.{own_itself, own_then}
use Rattle.bl_crowd.proofs.Passing.{goes_itself, goes_then, home_on}

-- ---- what is in hand

pub hand_itself : (p : PassView) → KeepsHand p p
hand_itself p = record { in_hand = λ loan held. held; settles = settles_itself p p refl }

pub hand_same : (p q : PassView) → q ≡ p → KeepsHand p q
hand_same p q same = subst (KeepsHand p) (sym same) (hand_itself p)

-- no event was made
pub hand_quiet : (p q : PassView) → q.own ≡ p.own → KeepsInHand p q → KeepsHand p q
hand_quiet p q own keeps = record { in_hand = keeps; settles = settles_itself p q own }

no_start_is_opening : (u n : ℕ) → Opens u ≡ Starts n → ⊥
no_start_is_opening u n is = absurd (cc)

no_start_is_line : (s k n : ℕ) (w : Work) → Admits s k w ≡ Starts n → ⊥
no_start_is_line s k n w is = absurd (cc)

-- a session was opened
pub hand_opened : (p q : PassView) (subject : ℕ) (A : State → Type 0) → Calls p (Opens subject) A q → KeepsInHand p q → KeepsHand p q
hand_opened p q subject A call keeps = record {
  in_hand = keeps;
  settles = settles_call p q (Opens subject) A call (λ n is. absurd (no_start_is_opening subject n (let h : Opens subject ≡ Starts n = cc in h)));
}

-- a line was admitted
pub hand_admitted : (p q : PassView) (session ordinal : ℕ) (work : Work) (A : State → Type 0) → Calls p (Admits session ordinal work) A q → KeepsInHand p q → KeepsHand p q
hand_admitted p q session ordinal work A call keeps = record {
  in_hand = keeps;
  settles = settles_call p q (Admits session ordinal work) A call (λ n is. absurd (no_start_is_line session ordinal n work (let h : Admits session ordinal work ≡ Starts n = cc in h)));
}

pub hand_then : (p q r : PassView) → KeepsHand p q → KeepsHand q r → GoesOnTo q r → KeepsHand p r
hand_then p q r one other on = record {
  in_hand = λ loan held. other.in_hand loan (one.in_hand loan held);
  settles = settles_then p q r one.settles other.settles on.follows on.trail;
}

-- ---- faults

pub fault_of : (a b : SessionFault) → ◌≡◌ {A = Result Bool SessionFault} (Err a) (Err b) → a ≡ b
fault_of a b is = (let h : a ≡ b = cc in h)

-- ---- new sessions

-- there are no fewer later
sessions_on : (p q : PassView) → GoesOnTo p q → length (state_seen p).sessions ≤ length (state_seen q).sessions
sessions_on p q on =
    let is = ap (λ y. length y.sessions) (state_is p q on.follows on.trail) in
    let grown = sessions_grow (state_seen p) on.follows.seen.0 in
    omega (arith, is, grown)

new_since : (p q : PassView) → GoesOnTo p q → (reception : Reception) → IsNewSession q reception → IsNewSession p reception
new_since p q on Awaited new = new
new_since p q on (Open session) new = let grown = sessions_on p q on in omega (arith, new, grown)
new_since p q on Full new = new

new_then : (p q : PassView) (was mid now : Reception) → GoesOnTo p q → (mid ≡ was) ⊎ IsNewSession p mid → (now ≡ mid) ⊎ IsNewSession q now
    → (now ≡ was) ⊎ IsNewSession p now
new_then p q was mid now on first (inr new) = inr (new_since p q on now new)
new_then p q was mid now on (inl same) (inl still) = inl (still ∙ same)
new_then p q was mid now on (inr new) (inl still) = inr (subst (IsNewSession p) (sym still) new)

-- ---- a member that goes on in a turn

-- It has gone on from one moment to another, with whatever it asked and heard in between.
pub record HasGoneOn {S : Type 0} (remaining contents : S → Option (List ℕ)) (before after : PassView) (was now : Member S) : Type 0 where
  pub goes : GoesOnTo before after
  pub way : (names : KnownNames) (first : PassView) → IsHome names before → SpeaksForItsOwn first before → IsMember remaining contents names first before was
      → IsMember remaining contents names first after now × SpeaksForItsOwn first after
  pub own : AddsItsOwn was.reception now.reception before after
  pub hand : KeepsHand before after
  pub new : (now.reception ≡ was.reception) ⊎ IsNewSession before now.reception
  pub stays : (session : ℕ) → was.reception ≡ Open session → now.reception ≡ was.reception

module _ {S : Type 0} (remaining contents : S → Option (List ℕ)) where
  pub gone_itself : (p : PassView) (member : Member S) → HasTrail (hall_seen p) → HasGoneOn remaining contents p p member member
  gone_itself p member legal = record {
    goes = goes_itself p legal;
    way = λ names first home speaks here. (here, speaks);
    own = own_itself member.reception member.reception p p refl;
    hand = hand_itself p;
    new = inl refl;
    stays = λ session is. refl;
  }

  module _ (before p : PassView) (was mid now : Member S) (gone : HasGoneOn remaining contents before p was mid) where
    -- it meets
    pub gone_meets : (q : PassView) → GoesOnTo p q
        → ((names : KnownNames) (first : PassView) → IsHome names p → SpeaksForItsOwn first p → IsMember remaining contents names first p mid → IsMember remaining contents names first q now × SpeaksForItsOwn first q)
        → AddsItsOwn mid.reception now.reception p q → KeepsHand p q → ((now.reception ≡ mid.reception) ⊎ IsNewSession p now.reception)
        → ((session : ℕ) → mid.reception ≡ Open session → now.reception ≡ mid.reception) → HasGoneOn remaining contents before q was now
    gone_meets q on way own hand new stays = record {
      goes = goes_then before p q gone.goes on;
      way = λ names first home speaks here.
          (let there = gone.way names first home speaks here in way names first (home_on names before p gone.goes.follows home) there.1 there.0);
      own = own_then was.reception mid.reception now.reception before p q on.follows gone.new stays gone.own own;
      hand = hand_then before p q gone.hand hand on;
      new = new_then before p was.reception mid.reception now.reception gone.goes gone.new new;
      stays = λ session is. (let kept = gone.stays session is in stays session (kept ∙ is) ∙ kept);
    }

    -- it hears
    pub gone_hears : ((names : KnownNames) (first : PassView) → IsMember remaining contents names first p mid → IsMember remaining contents names first p now) → now.reception ≡ mid.reception
        → HasGoneOn remaining contents before p was now
    gone_hears way same = record {
      goes = gone.goes;
      way = λ names first home speaks here. (let there = gone.way names first home speaks here in (way names first there.0, there.1));
      own = subst (λ (r : Reception). AddsItsOwn was.reception r before p) (sym same) gone.own;
      hand = gone.hand;
      new = elim gone.new [ inl is ↦ inl (same ∙ is) | inr new ↦ inr (subst (IsNewSession before) (sym same) new) ];
      stays = λ session is. same ∙ gone.stays session is;
    }

-- ---- that it has met

module _ {S : Type 0} (known : Type 0) (bound : Option ℕ) (first before p : PassView) (was mid now : Member S) where
  -- since an earlier moment, at which it had failed by the same or not at all
  pub met_since : (q : PassView) → Follows before p → mid.fault ≡ was.fault → IsMet known bound first p q mid now → IsMet known bound first before q was now
  met_since q from same (inl none) = inl none
  met_since q from same (inr (inl (fault, is, inl kept))) = inr (inl (fault, is, inl (sym same ∙ kept)))
  met_since q from same (inr (inl (fault, is, inr (inl memory)))) = inr (inl (fault, is, inr (inl memory)))
  met_since q from same (inr (inl (fault, is, inr (inr (clash, (at, since, to, spoken)))))) =
      inr (inl (fault, is, inr (inr (clash, (at, follows_then before p at from since, to, spoken)))))
  met_since q from same (inr (inr (at, since, to, waits))) = inr (inr (at, follows_then before p at from since, to, waits))

module _ {S : Type 0} (remaining contents : S → Option (List ℕ)) (names : KnownNames) (known : Type 0) (bound : Option ℕ) (first before p : PassView) (was now : Member S) where
  -- by a line that it has heard
  pub met_by_line : (fault : SessionFault) → Follows before p → now.fault ≡ Some fault
      → (fault ≡ Memory) ⊎ ((fault ≡ TooLong) × HasFailed remaining contents names first p now TooLong) → IsMetOn remaining contents names known bound first before p was now
  met_by_line fault from is (inl memory) = inl (inr (inl (fault, is, inr (inl memory))))
  met_by_line fault from is (inr (long, failed)) = inr (is ∙ ap Some long, (p, from, follows_itself p, failed))

  pub met_on_later : (q : PassView) → Follows p q → IsMetOn remaining contents names known bound first before p was now → IsMetOn remaining contents names known bound first before q was now
  met_on_later q follows (inl met) = inl (later met)
    where
      later : IsMet known bound first before p was now → IsMet known bound first before q was now
      later (inl none) = inl none
      later (inr (inl (fault, is, inl kept))) = inr (inl (fault, is, inl kept))
      later (inr (inl (fault, is, inr (inl memory)))) = inr (inl (fault, is, inr (inl memory)))
      later (inr (inl (fault, is, inr (inr (clash, (at, from, to, spoken)))))) = inr (inl (fault, is, inr (inr (clash, (at, from, follows_then at p q to follows, spoken)))))
      later (inr (inr (at, from, to, waits))) = inr (inr (at, from, follows_then at p q to follows, waits))
  met_on_later q follows (inr (long, (at, from, to, failed))) = inr (long, (at, from, follows_then at p q to follows, failed))

  pub met_on_since : (earlier : PassView) → Follows earlier before → IsMetOn remaining contents names known bound first before p was now → IsMetOn remaining contents names known bound first earlier p was now
  met_on_since earlier from (inl met) = inl (met_since known bound first earlier before was was now p from refl met)
  met_on_since earlier from (inr (long, (at, since, to, failed))) = inr (long, (at, follows_then earlier before at from since, to, failed))

pub cause : {A B C D : Type 0} → A ⊎ (B × C) → (C → D) → A ⊎ (B × D)
cause (inl a) f = inl a
cause (inr b) f = inr (b.0, f b.1)

-- ---- that it has heard

module _ {S : Type 0} (most : ℕ) (was mid now : Member S) where
  -- it has not met
  pub heard_unmet : (met : Met) → met ≢ mets.Done → (met ≡ mets.Waits → now ≡ mid) → (met ≡ mets.Waits → IsSome mid.asked) → (met ≡ mets.Full → IsSome now.asked) → ((fault : SessionFault) → met ≡ mets.Failed fault → now.fault ≡ Some fault)
      → HasHeardOn most was now
  heard_unmet mets.Done other waits asks full failed fine none state = absurd (other refl)
  heard_unmet mets.Full other waits asks full failed fine none state = (let h = subst IsSome none (full refl) in absurd (true≢false (sym h)))
  heard_unmet mets.Waits other waits asks full failed fine none state =
      (let h = subst IsSome (ap (λ (m : Member S). m.asked) (sym (waits refl)) ∙ none) (asks refl) in absurd (true≢false (sym h)))
  heard_unmet (mets.Failed fault) other waits asks full failed fine none state = (let e = sym (failed fault refl) ∙ fine in cc)

  -- it has heard as many as it may
  pub heard_all : (count : ℕ) → most ≤ count → count + waits_left mid.connection.conv ≤ waits_left was.connection.conv → (state_of now.connection ≡ states.Hears → now.connection ≡ mid.connection)
      → HasHeardOn most was now
  heard_all count full nearer hears fine none state =
      let same = ap (λ (conn : Connection S). waits_left conn.conv) (hears state) in omega (arith, full, nearer, same)

  -- there was nothing to hear
  pub heard_nothing : (state_of now.connection ≢ states.Hears) → HasHeardOn most was now
  heard_nothing other fine none state = absurd (other state)

  -- it has failed
  pub heard_failed : (fault : SessionFault) → now.fault ≡ Some fault → HasHeardOn most was now
  heard_failed fault is fine none state = (let e = sym is ∙ fine in cc)

  -- one more
  pub one_nearer : (next : Member S) (count : ℕ) → (state_of now.connection ≡ states.Hears → now.connection ≡ mid.connection) → state_of now.connection ≡ states.Hears
      → waits_left next.connection.conv < waits_left now.connection.conv → count + waits_left mid.connection.conv ≤ waits_left was.connection.conv
      → (count + 1) + waits_left next.connection.conv ≤ waits_left was.connection.conv
  one_nearer next count hears state less nearer =
      let same = ap (λ (conn : Connection S). waits_left conn.conv) (hears state) in omega (arith, same, less, nearer)

-- one more has met
module _ {S : Type 0} (remaining contents : S → Option (List ℕ)) (names : KnownNames) (known : Type 0) (bound : Option ℕ) (first before : PassView) (old members : List (Member S)) (i : ℕ) (member : Member S) where
  less : (j : ℕ) → j ≢ i → j < i + 1 → j < i
  less j other low = grind arith

  pub met_on_more : (p q : PassView) → i < length members → Follows p q → ((d : Member S) → IsMetOn remaining contents names known bound first before q (get_or old i d) member)
      → AreMetOn remaining contents names known bound first before p old members i → AreMetOn remaining contents names known bound first before q old (slice_set members i member) (i + 1)
  met_on_more p q lt follows new met j d low = go (eqb_tells j i)
    where
      go : ((eqb j i ≡ true) × (j ≡ i)) ⊎ ((eqb j i ≡ false) × (j ≢ i)) → IsMetOn remaining contents names known bound first before q (get_or old j d) (get_or (slice_set members i member) j d)
      go (inl e) =
          subst (IsMetOn remaining contents names known bound first before q (get_or old j d)) (sym (get_or-set_at members i j member d e.1 lt))
          (subst (λ k. IsMetOn remaining contents names known bound first before q (get_or old k d) member) (sym e.1) (new d))
      go (inr e) =
          subst (IsMetOn remaining contents names known bound first before q (get_or old j d)) (sym (get_or-set_other members i j member d e.1))
          (met_on_later remaining contents names known bound first before p (get_or old j d) (get_or members j d) q follows (met j d (less j e.1 low)))

-- one more has heard
module _ {S : Type 0} (old members : List (Member S)) (i : ℕ) (member : Member S) where
  lower : (j : ℕ) → j ≢ i → j < i + 1 → j < i
  lower j other low = grind arith

  pub heard_on_more : (most : ℕ) → i < length members → ((d : Member S) → HasHeardOn most (get_or old i d) member) → HaveHeardOn most old members i
      → HaveHeardOn most old (slice_set members i member) (i + 1)
  heard_on_more most lt new heard j d low = go (eqb_tells j i)
    where
      go : ((eqb j i ≡ true) × (j ≡ i)) ⊎ ((eqb j i ≡ false) × (j ≢ i)) → HasHeardOn most (get_or old j d) (get_or (slice_set members i member) j d)
      go (inl e) =
          subst (HasHeardOn most (get_or old j d)) (sym (get_or-set_at members i j member d e.1 lt))
          (subst (λ k. HasHeardOn most (get_or old k d) member) (sym e.1) (new d))
      go (inr e) = subst (HasHeardOn most (get_or old j d)) (sym (get_or-set_other members i j member d e.1)) (heard j d (lower j e.1 low))

pub are_met_on : {S : Type 0} (remaining contents : S → Option (List ℕ)) (names : KnownNames) (known : Type 0) (bound : Option ℕ) (first earlier before p q : PassView) (old new : List (Member S)) (count : ℕ)
    → Follows earlier before → Follows p q → AreMetOn remaining contents names known bound first before p old new count → AreMetOn remaining contents names known bound first earlier q old new count
are_met_on remaining contents names known bound first earlier before p q old new count from to met i d low =
    met_on_since remaining contents names known bound first before q (get_or old i d) (get_or new i d) earlier from
    (met_on_later remaining contents names known bound first before p (get_or old i d) (get_or new i d) q to (met i d low))

-- ---- a round

-- while the pass takes turns alone
pub crowd_turns : {S : Type 0} (remaining contents : S → Option (List ℕ)) (names : KnownNames) (first p q : PassView) (members : List (Member S)) → AreMembers remaining contents names first p members
    → Follows p q → HasTrail (hall_seen q) → AddsTurnsAlone p q → AreMembers remaining contents names first q members
crowd_turns remaining contents names first p q members here follows legal adds =
    crowd_goes remaining contents names first p q members here (record { follows = follows; trail = legal }) (adds_no_line (λ n. Unit {0}) p q adds)
