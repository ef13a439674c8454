-- A crowd while one of its members goes on, comes or leaves.
use Rattle.std.proofs.Common.{◌≡◌, ◌≢◌, ℕ, ◌+◌, ◌<◌, ◌≤◌, ◌⊎◌, inl, inr, true, false, List, [], ◌∷◌, ◌++◌, length, get_or, take, drop, suc, refl, sym, ap, subst, ◌∙◌, arith, eqb, Option, Some, None}
use Rattle.std.specs.Prelude.{slice_index_or, slice_set}
use Rattle.std.specs.List.{remove}
use Rattle.std.proofs.lemmas.Bool.Decides.{eqb_tells}
use Rattle.std.proofs.lemmas.Grind.{get_or-set_at}
use Rattle.std.proofs.lemmas.List.{get_or-set_other, length-set, get_or_default}
use Rattle.std.proofs.lemmas.List.Elements.{All-append, All-drop, All-from_get_or, All-get_or, All-nil, All-push, All-take, All-weaker}
use Rattle.std.proofs.lemmas.List.Quantifiers.{all_pairs_push, all_pairs_remove}
use Rattle.bl_work.specs.Names.{KnownNames}
use Rattle.bl_gate.specs.Gates.{Follows, PassView, state_seen}
use Rattle.bl_wire.specs.declared.fault.SessionFault.{SessionFault}
use Rattle.bl_wire.specs.declared.fault.SessionFault.TheVariants.{Memory, Clash}
use Rattle.bl_gate.proofs.Following.{follows_itself, follows_then}
use Rattle.bl_worker.specs.Turns.{AdmitsNoLine}
use Rattle.bl_serve.specs.Courses.{AdmitsNoLineOf, SpeaksForItsOwn}
use Rattle.bl_serve.specs.Together.{GoesOnTo}
use Rattle.bl_serve.proofs.Owning.{speaks_for_none}
use Rattle.bl_crowd.specs.Members.{HasCourse}
use Rattle.bl_quota.specs.declared.quota.Fit.TheVariants.{Later, Never}
use Rattle.bl_crowd.specs.Crowds.{IsMet, IsPutOff, IsTurnFault}
use Rattle.bl_crowd.specs.Fitting.{IsHeldBack}
use Rattle.bl_crowd.specs.Steps.{IsClash, IsNewSession, IsWaiting}
use Rattle.bl_crowd.specs.Ways.{AreApart, AreMembers, IsHome, IsMember, IsUnderWay, StandsSo, account_of}
use Rattle.bl_crowd.specs.declared.member.Member.{Member}
use Rattle.bl_crowd.specs.declared.member.Met.{Met}
use Rattle.bl_crowd.specs.declared.member.Met.TheVariants as mets
use Rattle.bl_crowd.specs.declared.member.Reception.TheVariants.{Awaited, Open}
use Rattle.bl_crowd.proofs.Passing.{home_on, member_goes, none_of, speaks_on}

module _ {S : Type 0} (remaining contents : S → Option (List ℕ)) (names : KnownNames) (first p : PassView) where
  abbrev Here : PassView → Member S → Type 0
  Here pass = IsMember remaining contents names first pass

  -- the session of a member is open in what the pass has seen
  open_there : (member : Member S) (session : ℕ) → member.reception ≡ Open session → Here p member → session < length (state_seen p).sessions
  open_there member session is m = go member.fault m
    where
      way : IsUnderWay remaining contents names first p member member.asked → session < length (state_seen p).sessions
      way w = (subst (HasCourse names first p (account_of member w.replies w.done) w.x.turns member.asked) is w.course).there

      go : (fault : Option SessionFault) → StandsSo remaining contents names first p member fault → session < length (state_seen p).sessions
      go None w = way w
      go (Some fault) (inl w) = way w
      go (Some fault) (inr f) = (subst (HasCourse names first p (account_of member f.replies f.x.asked) f.x.turns None) is f.course).there

  apart_swap : (one other : Member S) → AreApart one other → AreApart other one
  apart_swap one other apart session is same = apart session same is

  -- one leaves
  pub crowd_leaves : (members : List (Member S)) (i : ℕ) → i < length members → AreMembers remaining contents names first p members → AreMembers remaining contents names first p (remove members i)
  crowd_leaves members i lt a = record {
    home = a.home;
    speaks = a.speaks;
    each = All-append (Here p) (take i members) (drop (suc i) members) (All-take (Here p) i members a.each) (All-drop (Here p) (suc i) members a.each);
    differ = all_pairs_remove AreApart members i lt a.differ;
  }

  -- one comes
  pub crowd_joins : (members : List (Member S)) (member : Member S) → Here p member → member.reception ≡ Awaited → AreMembers remaining contents names first p members
      → AreMembers remaining contents names first p (members ++ member ∷ [])
  crowd_joins members member here awaited a = record {
    home = a.home;
    speaks = a.speaks;
    each = All-push (Here p) members member a.each here;
    differ = all_pairs_push AreApart members member a.differ (λ k d inside session theirs is. (let e = sym awaited ∙ is in cc));
  }

  -- nobody is there
  pub crowd_begins : IsHome names p → first ≡ p → AreMembers remaining contents names first p []
  crowd_begins home same = record {
    home = home;
    speaks = speaks_for_none first p (ap (λ (v : PassView). v.own) (sym same));
    each = All-nil (Here p);
    differ = λ i j d lt inside. absurd (omega (arith, inside));
  }

  module _ (q : PassView) (members : List (Member S)) (a : AreMembers remaining contents names first p members) where
    -- while the pass admits no line
    pub crowd_goes : GoesOnTo p q → AdmitsNoLine p q → AreMembers remaining contents names first q members
    crowd_goes on none = record {
      home = home_on names p q on.follows a.home;
      speaks = speaks_on names first p q on none a.speaks;
      each = All-weaker (Here p) (Here q) (λ m h. member_goes names first p q on remaining contents m (λ session is. none_of session p q none) h) members a.each;
      differ = a.differ;
    }

    -- while one member goes on, and each other one with it whose session is not its own
    module _ (i : ℕ) (member : Member S) (lt : i < length members) (home : IsHome names q) (speaks : SpeaksForItsOwn first q) (own : Here q member)
        (carry : (other : Member S) → ((session : ℕ) → other.reception ≡ Open session → member.reception ≢ Open session) → Here p other → Here q other)
        (fresh : (member.reception ≡ (get_or members i member).reception) ⊎ IsNewSession p member.reception) where
      abbrev then : List (Member S)
      then = slice_set members i member

      -- it has no session of another one
      not_its : (j : ℕ) (d : Member S) → j < length members → j ≢ i → (session : ℕ) → (get_or members j d).reception ≡ Open session → member.reception ≢ Open session
      not_its j d low other session theirs its = go fresh
        where
          side : (x y : ℕ) → (x < y) ⊎ ((y < x) ⊎ (x ≡ y))
          side x y = grind arith

          go : (member.reception ≡ (get_or members i member).reception) ⊎ IsNewSession p member.reception → ⊥
          go (inl same) =
              let was : (get_or members i d).reception ≡ Open session = ap (λ (m : Member S). m.reception) (get_or_default members i d member lt) ∙ (sym same ∙ its) in
              by was (side j i)
            where
              by : (get_or members i d).reception ≡ Open session → (j < i) ⊎ ((i < j) ⊎ (j ≡ i)) → ⊥
              by was (inl before) = a.differ j i d before lt session theirs was
              by was (inr (inl after)) = a.differ i j d after low session was theirs
              by was (inr (inr same)) = other same
          go (inr new) =
              let there = open_there (get_or members j d) session theirs (All-get_or (Here p) members j d low a.each) in
              let above : length (state_seen p).sessions ≤ session = subst (IsNewSession p) its new in
              absurd (omega (arith, there, above))

      each_then : (j : ℕ) (d : Member S) → j < length members → ((eqb j i ≡ true) × (j ≡ i)) ⊎ ((eqb j i ≡ false) × (j ≢ i)) → Here q (get_or then j d)
      each_then j d low (inl e) = subst (Here q) (sym (get_or-set_at members i j member d e.1 lt)) own
      each_then j d low (inr e) =
          subst (Here q) (sym (get_or-set_other members i j member d e.1))
          (carry (get_or members j d) (not_its j d low e.1) (All-get_or (Here p) members j d low a.each))

      apart_then : (j k : ℕ) (d : Member S) → j < k → k < length members → ((eqb j i ≡ true) × (j ≡ i)) ⊎ ((eqb j i ≡ false) × (j ≢ i)) → ((eqb k i ≡ true) × (k ≡ i)) ⊎ ((eqb k i ≡ false) × (k ≢ i))
          → AreApart (get_or then j d) (get_or then k d)
      apart_then j k d lt_k low (inl e) (inl f) = absurd (omega (arith, lt_k, e.1, f.1))
      apart_then j k d lt_k low (inl e) (inr f) =
          subst (λ m. AreApart m (get_or then k d)) (sym (get_or-set_at members i j member d e.1 lt))
          (subst (AreApart member) (sym (get_or-set_other members i k member d f.1)) (λ session is theirs. not_its k d low f.1 session theirs is))
      apart_then j k d lt_k low (inr e) (inl f) =
          subst (λ m. AreApart m (get_or then k d)) (sym (get_or-set_other members i j member d e.1))
          (subst (AreApart (get_or members j d)) (sym (get_or-set_at members i k member d f.1 lt)) (λ session theirs is. not_its j d (omega (arith, lt_k, low)) e.1 session theirs is))
      apart_then j k d lt_k low (inr e) (inr f) =
          subst (λ m. AreApart m (get_or then k d)) (sym (get_or-set_other members i j member d e.1))
          (subst (AreApart (get_or members j d)) (sym (get_or-set_other members i k member d f.1)) (a.differ j k d lt_k low))

      pub one_moves : AreMembers remaining contents names first q (slice_set members i member)
      one_moves =
          let count = length-set members i member in
          record {
            home = home;
            speaks = speaks;
            each = All-from_get_or (Here q) (slice_set members i member) member (λ j inside. each_then j member (omega (arith, inside, count)) (eqb_tells j i));
            differ = λ j k d lt_k inside. apart_then j k d lt_k (omega (arith, inside, count)) (eqb_tells j i) (eqb_tells k i);
          }

    -- one of them meets at the gate
    pub one_meets : (i : ℕ) (member : Member S) → i < length members → GoesOnTo p q → SpeaksForItsOwn first q → Here q member → ((session : ℕ) → member.reception ≢ Open session → AdmitsNoLineOf session p q)
        → ((member.reception ≡ (get_or members i member).reception) ⊎ IsNewSession p member.reception) → AreMembers remaining contents names first q (slice_set members i member)
    one_meets i member lt on speaks own others fresh =
        one_moves i member lt (home_on names p q on.follows a.home) speaks own (λ other apart here. member_goes names first p q on remaining contents other (λ session is. others session (apart session is)) here) fresh

  -- one of them goes on over its stream
  pub one_steps : (members : List (Member S)) (i : ℕ) (member : Member S) → i < length members → Here p member → member.reception ≡ (get_or members i member).reception
      → AreMembers remaining contents names first p members → AreMembers remaining contents names first p (slice_set members i member)
  one_steps members i member lt own same a = one_moves p members a i member lt a.home a.speaks own (λ other apart here. here) (inl same)

-- what stands at a place, whatever stands where there is none
pub at_place : {X : Type 0} (xs : List X) (i : ℕ) (x d : X) → i < length xs → x ≡ slice_index_or xs i x → x ≡ get_or xs i d
at_place xs i x d lt is = is ∙ get_or_default xs i x d lt

-- ---- who has met

module _ {S : Type 0} (known : Type 0) (bound : Option ℕ) (first before p q : PassView) where
  met_on : (was now : Member S) → Follows p q → IsMet known bound first before p was now → IsMet known bound first before q was now
  met_on was now follows (inl none) = inl none
  met_on was now follows (inr (inl (fault, is, inl kept))) = inr (inl (fault, is, inl kept))
  met_on was now follows (inr (inl (fault, is, inr (inl memory)))) = inr (inl (fault, is, inr (inl memory)))
  met_on was now follows (inr (inl (fault, is, inr (inr (clash, (at, from, to, spoken)))))) = inr (inl (fault, is, inr (inr (clash, (at, from, follows_then at p q to follows, spoken)))))
  met_on was now follows (inr (inr (at, from, to, waits))) = inr (inr (at, from, follows_then at p q to follows, waits))

  -- why it failed
  failed_by : (was now : Member S) (fault : SessionFault) (before_it : Option SessionFault) → was.fault ≡ before_it → Follows before q → now.fault ≡ Some fault
      → (was.fault ≡ None → (fault ≡ Memory) ⊎ ((fault ≡ Clash) × IsClash first q now.reception)) → ((f : SessionFault) → was.fault ≡ Some f → now ≡ was) → IsTurnFault first before q was now fault
  failed_by was now fault None is to failed cause kept = elim (cause is) [ inl memory ↦ inr (inl memory) | inr clash ↦ inr (inr (clash.0, (q, to, follows_itself q, clash.1))) ]
  failed_by was now fault (Some f) is to failed cause kept = inl (ap (λ (m : Member S). m.fault) (sym (kept f is)) ∙ failed)

  -- by what it came to
  pub met_by : (was now : Member S) (met : Met) → Follows before p → Follows p q → (met ≡ mets.Done → now.asked ≡ None)
      → (met ≡ mets.Waits → (now ≡ was) × (q ≡ p) × (IsWaiting p was.reception ⊎ IsHeldBack known bound (state_seen p) was.asked Later))
      → (met ≡ mets.Full → (now ≡ record was { full = true }) × (q ≡ p) × IsHeldBack known bound (state_seen p) was.asked Never)
      → ((fault : SessionFault) → met ≡ mets.Failed fault → now.fault ≡ Some fault)
      → ((fault : SessionFault) → was.fault ≡ None → met ≡ mets.Failed fault → (fault ≡ Memory) ⊎ ((fault ≡ Clash) × IsClash first q now.reception))
      → ((fault : SessionFault) → was.fault ≡ Some fault → now ≡ was) → IsMet known bound first before q was now
  met_by was now mets.Done from to done waits full failed cause kept = inl (done refl)
  met_by was now mets.Waits from to done waits full failed cause kept = inr (inr (p, from, to, subst (IsPutOff known bound p) (sym (waits refl).0) (elim (waits refl).2 [ inl w ↦ inl w | inr later ↦ inr (inl later) ])))
  met_by was now mets.Full from to done waits full failed cause kept = inr (inr (p, from, to, subst (IsPutOff known bound p) (sym (full refl).0) (inr (inr (refl, (full refl).2)))))
  met_by was now (mets.Failed fault) from to done waits full failed cause kept =
      inr (inl (fault, failed fault refl, failed_by was now fault was.fault refl (follows_then before p q from to) (failed fault refl) (λ none. cause fault none refl) kept))

-- those behind a place are as they were
pub still_behind : {S : Type 0} (old members : List (Member S)) (i : ℕ) (member : Member S) → ((j : ℕ) (d : Member S) → i ≤ j → get_or members j d ≡ get_or old j d)
    → (j : ℕ) (d : Member S) → i + 1 ≤ j → get_or (slice_set members i member) j d ≡ get_or old j d
still_behind old members i member still j d low =
    get_or-set_other members i j member d (λ is. omega (arith, is, low)) ∙ still j d (omega (arith, low))
