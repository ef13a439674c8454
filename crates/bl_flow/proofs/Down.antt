-- What the star and the carry property let down: nothing.
use Rattle.std.proofs.Common.{◌≡◌, ℕ, suc, ◌<◌, Bool, true, false, ◌&&◌, ◌||◌, List, [], ◌∷◌, refl, sym, ◌∙◌, ap, subst, inl, inr, arith, ◌⊎◌, true≢false}
use Rattle.std.specs.Prelude.{◌==◌, All, IsTrue}
use Rattle.std.proofs.lemmas.Bool.Decides.{nat_tests}
use Rattle.bl_level.specs.Level.{SecurityLevel, dominates, Dominates, join_of}
use Rattle.bl_level.proofs.Dominance.{join-above_first, join-above_second, join-least}
use Rattle.bl_policy.specs.Policy.{SecurityPolicy, current_of, level_of, is_trusted}
use Rattle.bl_policy.specs.Properties.{IsGranted, Flows, MayCarry}
use Rattle.bl_policy.specs.declared.access.Access.{Access}
use Rattle.bl_policy.specs.declared.access.Mode.{Mode}
use Rattle.bl_policy.specs.declared.access.Mode.TheVariants.{Read, Append, Write}
use Rattle.bl_work.specs.Modes.{observes, alters, declares}
use Rattle.bl_setup.specs.declared.version.Version.TheVariants.{Two}
use Rattle.bl_flow.specs.Low.{History, place_in, is_low_document}
use Rattle.bl_flow.specs.Sealed.{IsPossible, NoChildComesDown}
use Rattle.bl_flow.proofs.LawsBelow.{DominanceIsTested, ChildrenFollow}

-- the two parts of the test of an access
same_doc : (a b : ℕ) (c : Bool) → ((a == b) && c) ≡ true → (a ≡ b) × (c ≡ true)
same_doc a b c h = grind (arith, nat_tests)

-- one of the accesses to the document passes the test, and what holds of each of them holds of it
one_of : (test : Mode → Bool) (P : Access → Type 0) (xs : List Access) (doc : ℕ) → All P xs → declares test xs doc ≡ true
    → (a : Access) × (a.doc ≡ doc) × (test a.mode ≡ true) × P a
one_of test P [] doc each h = absurd (true≢false (sym h))
one_of test P (x ∷ xs) doc each h = go ((x.doc == doc) && test x.mode) refl h (one_of test P xs doc (λ k d lt. each (suc k) d (omega (arith, lt))))
  where
    go : (b : Bool) → ((x.doc == doc) && test x.mode) ≡ b → (b || declares test xs doc) ≡ true
        → (declares test xs doc ≡ true → (a : Access) × (a.doc ≡ doc) × (test a.mode ≡ true) × P a)
        → (a : Access) × (a.doc ≡ doc) × (test a.mode ≡ true) × P a
    go true e k deeper =
        let t : (x.doc ≡ doc) × (test x.mode ≡ true) = same_doc x.doc doc (test x.mode) e in
        (x, t.0, t.1, each 0 x (omega arith))
    go false e k deeper = deeper k

-- who is not trusted has no exemption
bound : {P : Type 0} (b : Bool) → b ≡ false → IsTrue b ⊎ P → P
bound b untrusted (inl trusted) = absurd (true≢false (sym trusted ∙ untrusted))
bound b untrusted (inr p) = p

module _ (dominance : DominanceIsTested) (level : SecurityLevel) where
  -- what dominates a level dominates what that one dominates
  low-below : (b c : SecurityLevel) → dominates level b ≡ true → Dominates b c → dominates level c ≡ true
  low-below b c h e =
      let d : Dominates level b = (dominance level b).0 h in
      (dominance level c).1 (record { rank = omega (arith, d.rank, e.rank); categories = λ i x. d.categories i (e.categories i x) })

  -- and a join just where it dominates both
  pub low-joined : (a b : SecurityLevel) → dominates level a ≡ true → dominates level b ≡ true → dominates level (join_of a b) ≡ true
  low-joined a b h k = (dominance level (join_of a b)).1 (join-least a b level ((dominance level a).0 h) ((dominance level b).0 k))

  pub low-first : (a b : SecurityLevel) → dominates level (join_of a b) ≡ true → dominates level a ≡ true
  low-first a b h = low-below (join_of a b) a h (join-above_first a b)

  pub low-second : (a b : SecurityLevel) → dominates level (join_of a b) ≡ true → dominates level b ≡ true
  low-second a b h = low-below (join_of a b) b h (join-above_second a b)

  -- what a place may look at is no higher than the level at which it runs
  looks-down : (current doc : SecurityLevel) (m : Mode) → Flows current doc m → observes m ≡ true → dominates level current ≡ true → dominates level doc ≡ true
  looks-down current doc Read flow h low = low-below current doc low flow
  looks-down current doc Append flow h low = absurd (true≢false (sym h))
  looks-down current doc Write flow h low = ap (dominates level) (sym flow) ∙ low

  -- what a place may alter is no lower than the level at which it runs
  alters-up : (current doc : SecurityLevel) (m : Mode) → Flows current doc m → alters m ≡ true → dominates level doc ≡ true → dominates level current ≡ true
  alters-up current doc Read flow h low = absurd (true≢false (sym h))
  alters-up current doc Append flow h low = low-below doc current low flow
  alters-up current doc Write flow h low = ap (dominates level) flow ∙ low

  -- and no lower than what it carries
  carries-up : (carried doc : SecurityLevel) (m : Mode) → MayCarry carried doc m → alters m ≡ true → dominates level doc ≡ true → dominates level carried ≡ true
  carries-up carried doc Read carry h low = absurd (true≢false (sym h))
  carries-up carried doc Append carry h low = low-below doc carried low carry
  carries-up carried doc Write carry h low = low-below doc carried low carry

  module _ (p : SecurityPolicy) (s : ℕ) (carried : SecurityLevel) (untrusted : is_trusted p s ≡ false) (xs : List Access) where
    abbrev Granted : Access → Type 0
    Granted a = IsGranted p s carried a.doc a.mode

    -- what a low place is granted to look at is low
    pub looks-low : All Granted xs → (doc : ℕ) → dominates level (join_of (current_of p s) carried) ≡ true → declares observes xs doc ≡ true → is_low_document level p doc ≡ true
    looks-low granted doc low h =
        let a : (a : Access) × (a.doc ≡ doc) × (observes a.mode ≡ true) × Granted a = one_of observes Granted xs doc granted h in
        ap (is_low_document level p) (sym a.1)
        ∙ looks-down (current_of p s) (level_of p a.0.doc) a.0.mode (bound (is_trusted p s) untrusted a.3.secure.star) a.2 (low-first (current_of p s) carried low)

    -- and who is granted to alter what is low is low
    pub alters-low : All Granted xs → (doc : ℕ) → declares alters xs doc ≡ true → is_low_document level p doc ≡ true → dominates level (join_of (current_of p s) carried) ≡ true
    alters-low granted doc h low =
        let a : (a : Access) × (a.doc ≡ doc) × (alters a.mode ≡ true) × Granted a = one_of alters Granted xs doc granted h in
        let there : is_low_document level p a.0.doc ≡ true = ap (is_low_document level p) a.1 ∙ low in
        low-joined (current_of p s) carried
        (alters-up (current_of p s) (level_of p a.0.doc) a.0.mode (bound (is_trusted p s) untrusted a.3.secure.star) a.2 there)
        (carries-up carried (level_of p a.0.doc) a.0.mode (bound (is_trusted p s) untrusted a.3.carry) a.2 there)

  -- in version 2 no child comes down: it carries the level at which its parent ran, and what that carried
  pub no-child-down : ChildrenFollow → (h : History) → IsPossible h → h.setup.version ≡ Two → NoChildComesDown level h
  no-child-down children h possible two n parent which is low =
      let behind : parent < n = (possible.legal.placed n parent which is).behind in
      subst (λ c. dominates level c ≡ true) ((children h.setup h.lost h.order n parent which behind is).carried two)
      (low-second (place_in h n).level (place_in h n).carried low)
