-- The order of every state that a trail leads to is legal.
use Rattle.std.proofs.Common.{◌≡◌, ◌≢◌, ℕ, zero, suc, ◌+◌, ◌<◌, ◌≤◌, Bool, true, List, [], ◌∷◌, ◌++◌, length, refl, sym, ◌∙◌, ap, subst, inl, inr, arith, ◌⊎◌, true≢false, length-set, length-append, get_or-set_same, get_or-set_other}
use Rattle.std.specs.Prelude.{Some, slice_get, IsTrue}
use Rattle.std.proofs.Math.ListN.{get_or-append}
use Rattle.bl_work.specs.Effects.{children}
use Rattle.bl_work.specs.declared.work.Work.{Work}
use Rattle.bl_setup.specs.Setup.{Setup}
use Rattle.bl_order.specs.Order.{Entry, Line, Child}
use Rattle.bl_order.specs.Past.{place, is_done}
use Rattle.bl_order.specs.Machine.{State, Session, Event, Opens, Admits, Starts, Ends, Loses, past_at, is_lost, has_ended, runs, MayStart, Needs, IsTrail, change, children_at, child_entries, session_at, no_session, start, state_after, phase_at}
use Rattle.bl_order.specs.Legal.{HasPlace, IsLegal}
use Rattle.bl_order.proofs.Sound.{IsSound, HasParent}
use Rattle.bl_order.proofs.PlaceLaws.{entry-at}
use Rattle.bl_order.proofs.Steps.{running_is_not_over}
use Rattle.bl_order.proofs.Trails.{within, past-ended, past-step, sound-step}

-- ---- entries by their places

within-get : (xs : List Entry) (n : ℕ) (e : Entry) → slice_get xs n ≡ Some e → n < length xs
within-get [] n e h = absurd (cc)
within-get (x ∷ xs) zero e h = omega arith
within-get (x ∷ xs) (suc n) e h = omega (arith, within-get xs n e h)

-- an entry of two lists is one of the first, or of the second
get-append : (xs ys : List Entry) (n : ℕ) (e : Entry) → slice_get (xs ++ ys) n ≡ Some e → (slice_get xs n ≡ Some e) ⊎ ((i : ℕ) × (n ≡ length xs + i) × (slice_get ys i ≡ Some e))
get-append [] ys n e h = inr (n, omega arith, h)
get-append (x ∷ xs) ys zero e h = inl h
get-append (x ∷ xs) ys (suc n) e h = go (get-append xs ys n e h)
  where
    go : (slice_get xs n ≡ Some e) ⊎ ((i : ℕ) × (n ≡ length xs + i) × (slice_get ys i ≡ Some e)) → (slice_get xs n ≡ Some e) ⊎ ((i : ℕ) × (suc n ≡ length (x ∷ xs) + i) × (slice_get ys i ≡ Some e))
    go (inl k) = inl k
    go (inr k) = inr (k.0, omega (arith, k.1), k.2)

get-front : (xs ys : List Entry) (n : ℕ) (e : Entry) → slice_get xs n ≡ Some e → slice_get (xs ++ ys) n ≡ Some e
get-front [] ys n e h = absurd (cc)
get-front (x ∷ xs) ys zero e h = h
get-front (x ∷ xs) ys (suc n) e h = get-front xs ys n e h

pub get-back : (xs ys : List Entry) (i : ℕ) → slice_get (xs ++ ys) (length xs + i) ≡ slice_get ys i
get-back [] ys i = ap (slice_get ys) (zero_plus i)
  where
    zero_plus : (j : ℕ) → 0 + j ≡ j
    zero_plus j = omega arith
get-back (x ∷ xs) ys i = ap (slice_get ((x ∷ xs) ++ ys)) (suc_plus (length xs) i) ∙ get-back xs ys i
  where
    suc_plus : (a b : ℕ) → suc a + b ≡ suc (a + b)
    suc_plus a b = omega arith

-- the children of a place are numbered from `which` on
get-child : (p which : ℕ) (ks : List ℕ) (i : ℕ) (e : Entry) → slice_get (child_entries p which ks) i ≡ Some e → (i < length ks) × (e ≡ Child p (which + i))
get-child p which [] i e h = absurd (cc)
get-child p which (k ∷ ks) zero e h = (omega arith, go (plus_zero which))
  where
    plus_zero : (a : ℕ) → a ≡ a + 0
    plus_zero a = omega arith

    go : which ≡ which + 0 → e ≡ Child p (which + 0)
    go same = let first : e ≡ Child p which = cc in first ∙ ap (Child p) same
get-child p which (k ∷ ks) (suc i) e h =
    let deeper : (i < length ks) × (e ≡ Child p (which + 1 + i)) = get-child p (which + 1) ks i e h in
    (omega (arith, deeper.0), deeper.1 ∙ ap (Child p) (next which i))
  where
    next : (a b : ℕ) → a + 1 + b ≡ a + suc b
    next a b = omega arith

pub child-get : (p which : ℕ) (ks : List ℕ) (i : ℕ) → i < length ks → slice_get (child_entries p which ks) i ≡ Some (Child p (which + i))
child-get p which [] i lt = absurd (omega arith)
child-get p which (k ∷ ks) zero lt = ap (λ j. Some (Child p j)) (plus_zero which)
  where
    plus_zero : (a : ℕ) → a ≡ a + 0
    plus_zero a = omega arith
child-get p which (k ∷ ks) (suc i) lt = child-get p (which + 1) ks i (omega arith) ∙ ap (λ j. Some (Child p j)) (next which i)
  where
    next : (a b : ℕ) → a + 1 + b ≡ a + suc b
    next a b = omega arith

-- ---- what is kept

-- the order is legal, and no line of a session has an ordinal above the session's last
pub record IsLawful (x : State) : Type 0 where
  pub legal : IsLegal x.setup (is_lost x) x.order
  pub numbered : (n s k u : ℕ) (w : Work) → slice_get x.order n ≡ Some (Line s k u w) → (s < length x.sessions) × (k ≤ (session_at x s).last)

-- a child keeps its place where its parent's record and the entries stay
place-kept : (s : Setup) (l m : ℕ → Bool) (A B : List Entry) (n p w : ℕ) → place s m B p ≡ place s l A p
    → ((i : ℕ) (e : Entry) → slice_get A i ≡ Some e → slice_get B i ≡ Some e) → HasPlace s l A n p w → HasPlace s m B n p w
place-kept s l m A B n p w same stays h = record {
  behind = h.behind;
  done = subst (λ r. IsTrue (is_done r.answer)) (sym same) h.done;
  from_one = h.from_one;
  spawned = subst (λ r. w ≤ length (children r.effects)) (sym same) h.spawned;
  first = h.first;
  stands = h.stands;
  together = λ i lt. stays (h.first + i) (Child p (suc i)) (h.together i (subst (λ r. i < length (children r.effects)) same lt));
}

module _ (x : State) (sound : IsSound x) (lawful : IsLawful x) where
  -- a child's parent stands before it and has ended
  parent-of : (n p w : ℕ) → slice_get x.order n ≡ Some (Child p w) → (p < n) × (n < length x.order) × (has_ended x p ≡ true)
  parent-of n p w h =
      let at : n < length x.order = within-get x.order n (Child p w) h in
      let parent : HasParent (has_ended x) n (Child p w) = subst (HasParent (has_ended x) n) (entry-at x.order n (Child p w) h) (sound.parents n at) in
      (parent.0, at, parent.1)

  -- where the order stays
  stays-placed : (e : Event) → Needs x e → (m : ℕ → Bool) → ((p : ℕ) → past_at (change x e) p ≡ place x.setup m x.order p) → (n p w : ℕ) → slice_get x.order n ≡ Some (Child p w) → HasPlace x.setup m x.order n p w
  stays-placed e needs m same n p w h =
      let parent : (p < n) × (n < length x.order) × (has_ended x p ≡ true) = parent-of n p w h in
      place-kept x.setup (is_lost x) m x.order x.order n p w (sym (same p) ∙ past-step x e sound needs p (omega (arith, parent.0, parent.1)) parent.2) (λ i y k. k) (lawful.legal.placed n p w h)

  lawful-opened : (s : ℕ) → IsLawful (change x (Opens s))
  lawful-opened s = record {
    legal = lawful.legal;
    numbered = λ n i k u w h.
        let old : (i < length x.sessions) × (k ≤ (session_at x i).last) = lawful.numbered n i k u w h in
        (omega (arith, old.0, length-append x.sessions (new ∷ [])), subst (λ z. k ≤ z.last) (sym (get_or-append x.sessions (new ∷ []) no_session i old.0)) old.1);
  }
    where
      new : Session
      new = record { subject = s; last = 0 }

  lawful-started : (k : ℕ) → MayStart x k → IsLawful (change x (Starts k))
  lawful-started k may = record {
    legal = record {
      rising = lawful.legal.rising;
      placed = stays-placed (Starts k) may (is_lost (change x (Starts k))) (λ p. refl);
      once = lawful.legal.once;
    };
    numbered = lawful.numbered;
  }

  lawful-lost : (k : ℕ) → (IsTrue (runs x k) ⊎ MayStart x k) → IsLawful (change x (Loses k))
  lawful-lost k needs = record {
    legal = record {
      rising = lawful.legal.rising;
      placed = stays-placed (Loses k) needs (is_lost (change x (Loses k))) (λ p. refl);
      once = lawful.legal.once;
    };
    numbered = lawful.numbered;
  }

  -- ---- a line is admitted

  module _ (i o : ℕ) (w : Work) (needs : Needs x (Admits i o w)) where
    new : Entry
    new = Line i o (session_at x i).subject w

    -- a line of the longer order is an old one, or the new one
    line-of : (n s k u : ℕ) (v : Work) → slice_get (x.order ++ new ∷ []) n ≡ Some (Line s k u v) → (slice_get x.order n ≡ Some (Line s k u v)) ⊎ ((n ≡ length x.order) × (s ≡ i) × (k ≡ o))
    unfolding new
    line-of n s k u v h = go (get-append x.order (new ∷ []) n (Line s k u v) h)
      where
        only : (j : ℕ) → slice_get (Line i o (session_at x i).subject w ∷ []) j ≡ Some (Line s k u v) → (j ≡ 0) × (s ≡ i) × (k ≡ o)
        only zero same = (refl, cc, cc)
        only (suc j) same = absurd (cc)

        go : (slice_get x.order n ≡ Some (Line s k u v)) ⊎ ((j : ℕ) × (n ≡ length x.order + j) × (slice_get (new ∷ []) j ≡ Some (Line s k u v))) → (slice_get x.order n ≡ Some (Line s k u v)) ⊎ ((n ≡ length x.order) × (s ≡ i) × (k ≡ o))
        go (inl old) = inl old
        go (inr t) = let is : (t.0 ≡ 0) × (s ≡ i) × (k ≡ o) = only t.0 t.2 in inr (omega (arith, t.1, is.0), is.1, is.2)

    -- a child of the longer order is an old one
    child-of : (n p j : ℕ) → slice_get (x.order ++ new ∷ []) n ≡ Some (Child p j) → slice_get x.order n ≡ Some (Child p j)
    unfolding new
    child-of n p j h = go (get-append x.order (new ∷ []) n (Child p j) h)
      where
        none : (k : ℕ) → slice_get (Line i o (session_at x i).subject w ∷ []) k ≡ Some (Child p j) → ⊥
        none zero same = cc
        none (suc k) same = cc

        go : (slice_get x.order n ≡ Some (Child p j)) ⊎ ((k : ℕ) × (n ≡ length x.order + k) × (slice_get (new ∷ []) k ≡ Some (Child p j))) → slice_get x.order n ≡ Some (Child p j)
        go (inl old) = old
        go (inr t) = absurd (none t.0 t.2)

    -- the last ordinals: that of the session is the new one, and the others stay
    last-of : (s k : ℕ) → s < length x.sessions → k ≤ (session_at x s).last → k ≤ (session_at (change x (Admits i o w)) s).last
    last-of s k at le = go (same_or_not s i)
      where
        same_or_not : (a b : ℕ) → (b ≡ a) ⊎ (a ≢ b)
        same_or_not a b = grind arith

        go : (i ≡ s) ⊎ (s ≢ i) → k ≤ (session_at (change x (Admits i o w)) s).last
        go (inl e) =
            subst (λ j. k ≤ (session_at (change x (Admits i o w)) j).last) e
            (subst (λ z. k ≤ z.last) (sym (get_or-set_same x.sessions i (record (session_at x i) { last = o }) no_session needs.0))
            (let below : k ≤ (session_at x i).last = subst (λ j. k ≤ (session_at x j).last) (sym e) le in omega (arith, below, needs.2)))
        go (inr ne) = subst (λ z. k ≤ z.last) (sym (get_or-set_other x.sessions i s (record (session_at x i) { last = o }) no_session ne)) le

    lawful-admitted : IsLawful (change x (Admits i o w))
    unfolding new
    lawful-admitted = record {
      legal = record {
        rising = λ m n s k l t u v z lt first second. rising m n s k l t u v z lt (line-of m s k t v first) (line-of n s l u z second);
        placed = λ n p j h.
            let old : slice_get x.order n ≡ Some (Child p j) = child-of n p j h in
            let parent : (p < n) × (n < length x.order) × (has_ended x p ≡ true) = parent-of n p j old in
            place-kept x.setup (is_lost x) (is_lost (change x (Admits i o w))) x.order (x.order ++ new ∷ []) n p j
            (past-step x (Admits i o w) sound needs p (omega (arith, parent.0, parent.1)) parent.2) (get-front x.order (new ∷ [])) (lawful.legal.placed n p j old);
        once = λ m n p j first second. lawful.legal.once m n p j (child-of m p j first) (child-of n p j second);
      };
      numbered = λ n s k u v h. numbered n s k u v (line-of n s k u v h);
    }
      where
        rising : (m n s k l t u : ℕ) (v z : Work) → m < n → (slice_get x.order m ≡ Some (Line s k t v)) ⊎ ((m ≡ length x.order) × (s ≡ i) × (k ≡ o))
            → (slice_get x.order n ≡ Some (Line s l u z)) ⊎ ((n ≡ length x.order) × (s ≡ i) × (l ≡ o)) → k < l
        rising m n s k l t u v z lt (inl first) (inl second) = lawful.legal.rising m n s k l t u v z lt first second
        rising m n s k l t u v z lt (inl first) (inr second) =
            let old : (s < length x.sessions) × (k ≤ (session_at x s).last) = lawful.numbered m s k t v first in
            let last : k ≤ (session_at x i).last = subst (λ j. k ≤ (session_at x j).last) second.1 old.1 in
            omega (arith, last, needs.2, second.2)
        rising m n s k l t u v z lt (inr first) (inl second) = absurd (omega (arith, first.0, within-get x.order n (Line s l u z) second))
        rising m n s k l t u v z lt (inr first) (inr second) = absurd (omega (arith, first.0, second.0))

        numbered : (n s k u : ℕ) (v : Work) → (slice_get x.order n ≡ Some (Line s k u v)) ⊎ ((n ≡ length x.order) × (s ≡ i) × (k ≡ o))
            → (s < length (change x (Admits i o w)).sessions) × (k ≤ (session_at (change x (Admits i o w)) s).last)
        numbered n s k u v (inl old) =
            let was : (s < length x.sessions) × (k ≤ (session_at x s).last) = lawful.numbered n s k u v old in
            (omega (arith, was.0, length-set x.sessions i (record (session_at x i) { last = o })), last-of s k was.0 was.1)
        numbered n s k u v (inr t) = (
          subst (λ j. j < length (change x (Admits i o w)).sessions) (sym t.1) (omega (arith, needs.0, length-set x.sessions i (record (session_at x i) { last = o }))),
          subst (λ j. k ≤ (session_at (change x (Admits i o w)) j).last) (sym t.1)
              (subst (λ z. k ≤ z.last) (sym (get_or-set_same x.sessions i (record (session_at x i) { last = o }) no_session needs.0)) (omega (arith, t.2))),
        )

  -- ---- a place ends

  module _ (k : ℕ) (running : runs x k ≡ true) where
    ks : List ℕ
    ks = children (past_at x k).effects

    at : k < length x.order
    at = within x sound k running

    -- an entry of the longer order is an old one, or a child of the place that ends
    entry-of : (n : ℕ) (e : Entry) → slice_get (x.order ++ children_at x k) n ≡ Some e
        → (slice_get x.order n ≡ Some e) ⊎ ((i : ℕ) × (n ≡ length x.order + i) × (i < length (children (past_at x k).effects)) × (e ≡ Child k (1 + i)))
    entry-of n e h = go (get-append x.order (children_at x k) n e h)
      where
        go : (slice_get x.order n ≡ Some e) ⊎ ((i : ℕ) × (n ≡ length x.order + i) × (slice_get (children_at x k) i ≡ Some e))
            → (slice_get x.order n ≡ Some e) ⊎ ((i : ℕ) × (n ≡ length x.order + i) × (i < length (children (past_at x k).effects)) × (e ≡ Child k (1 + i)))
        go (inl old) = inl old
        go (inr t) = let is : (t.0 < length (children (past_at x k).effects)) × (e ≡ Child k (1 + t.0)) = get-child k 1 (children (past_at x k).effects) t.0 e t.2 in inr (t.0, t.1, is.0, is.1)

    -- no child of the place stands in the order before
    none-before : (n w : ℕ) → slice_get x.order n ≡ Some (Child k w) → ⊥
    none-before n w h = true≢false (sym (parent-of n k w h).2 ∙ running_is_not_over (phase_at x k) running)

    new-place : (n i : ℕ) → n ≡ length x.order + i → i < length (children (past_at x k).effects) → HasPlace x.setup (is_lost (change x (Ends k))) (x.order ++ children_at x k) n k (1 + i)
    new-place n i e lt = record {
      behind = omega (arith, e, within x sound k running);
      done = subst (λ r. IsTrue (is_done r.answer)) (sym same) (sound.allowed k (within x sound k running) running);
      from_one = omega arith;
      spawned = subst (λ r. 1 + i ≤ length (children r.effects)) (sym same) (omega arith);
      first = length x.order;
      stands = omega (arith, e);
      together = λ j below.
          let under : j < length (children (past_at x k).effects) = subst (λ r. j < length (children r.effects)) same below in
          get-back x.order (children_at x k) j ∙ child-get k 1 (children (past_at x k).effects) j under ∙ ap (λ a. Some (Child k a)) (one_plus j);
    }
      where
        same : past_at (change x (Ends k)) k ≡ past_at x k
        same = past-ended x sound k running k (within x sound k running)

        one_plus : (a : ℕ) → 1 + a ≡ suc a
        one_plus a = omega arith

    lawful-ended : IsLawful (change x (Ends k))
    lawful-ended = record {
      legal = record {
        rising = λ m n s a b t u v z lt first second.
            lawful.legal.rising m n s a b t u v z lt (old-line m s a t v (entry-of m (Line s a t v) first)) (old-line n s b u z (entry-of n (Line s b u z) second));
        placed = λ n p w h. placed n p w (entry-of n (Child p w) h);
        once = λ m n p w first second. once m n p w (entry-of m (Child p w) first) (entry-of n (Child p w) second);
      };
      numbered = λ n s a u v h. lawful.numbered n s a u v (old-line n s a u v (entry-of n (Line s a u v) h));
    }
      where
        old-line : (n s a u : ℕ) (v : Work) → (slice_get x.order n ≡ Some (Line s a u v)) ⊎ ((i : ℕ) × (n ≡ length x.order + i) × (i < length (children (past_at x k).effects)) × (Line s a u v ≡ Child k (1 + i)))
            → slice_get x.order n ≡ Some (Line s a u v)
        old-line n s a u v (inl h) = h
        old-line n s a u v (inr t) = let wrong : Line s a u v ≡ Child k (1 + t.0) = t.3 in cc

        placed : (n p w : ℕ) → (slice_get x.order n ≡ Some (Child p w)) ⊎ ((i : ℕ) × (n ≡ length x.order + i) × (i < length (children (past_at x k).effects)) × (Child p w ≡ Child k (1 + i)))
            → HasPlace x.setup (is_lost (change x (Ends k))) (x.order ++ children_at x k) n p w
        placed n p w (inl old) =
            let parent : (p < n) × (n < length x.order) × (has_ended x p ≡ true) = parent-of n p w old in
            place-kept x.setup (is_lost x) (is_lost (change x (Ends k))) x.order (x.order ++ children_at x k) n p w
            (past-ended x sound k running p (omega (arith, parent.0, parent.1))) (get-front x.order (children_at x k)) (lawful.legal.placed n p w old)
        placed n p w (inr t) =
            let e : Child p w ≡ Child k (1 + t.0) = t.3 in
            let parent : p ≡ k = cc in
            let which : w ≡ 1 + t.0 = cc in
            subst (λ q. HasPlace x.setup (is_lost (change x (Ends k))) (x.order ++ children_at x k) n q w) (sym parent)
            (subst (λ j. HasPlace x.setup (is_lost (change x (Ends k))) (x.order ++ children_at x k) n k j) (sym which) (new-place n t.0 t.1 t.2))

        once : (m n p w : ℕ) → (slice_get x.order m ≡ Some (Child p w)) ⊎ ((i : ℕ) × (m ≡ length x.order + i) × (i < length (children (past_at x k).effects)) × (Child p w ≡ Child k (1 + i)))
            → (slice_get x.order n ≡ Some (Child p w)) ⊎ ((i : ℕ) × (n ≡ length x.order + i) × (i < length (children (past_at x k).effects)) × (Child p w ≡ Child k (1 + i))) → m ≡ n
        once m n p w (inl first) (inl second) = lawful.legal.once m n p w first second
        once m n p w (inl first) (inr second) =
            let e : Child p w ≡ Child k (1 + second.0) = second.3 in
            let parent : p ≡ k = cc in
            absurd (none-before m w (subst (λ q. slice_get x.order m ≡ Some (Child q w)) parent first))
        once m n p w (inr first) (inl second) =
            let e : Child p w ≡ Child k (1 + first.0) = first.3 in
            let parent : p ≡ k = cc in
            absurd (none-before n w (subst (λ q. slice_get x.order n ≡ Some (Child q w)) parent second))
        once m n p w (inr first) (inr second) =
            let e : Child p w ≡ Child k (1 + first.0) = first.3 in
            let f : Child p w ≡ Child k (1 + second.0) = second.3 in
            let a : w ≡ 1 + first.0 = cc in
            let b : w ≡ 1 + second.0 = cc in
            omega (arith, first.1, second.1, a, b)

  lawful-step : (e : Event) → Needs x e → IsLawful (change x e)
  lawful-step (Opens s) needs = lawful-opened s
  lawful-step (Admits i o w) needs = lawful-admitted i o w needs
  lawful-step (Starts k) needs = lawful-started k needs
  lawful-step (Ends k) needs = lawful-ended k needs
  lawful-step (Loses k) needs = lawful-lost k needs

pub lawful-trail : (x : State) (es : List Event) → IsSound x → IsLawful x → IsTrail x es → IsLawful (state_after x es)
lawful-trail x [] sound lawful t = lawful
lawful-trail x (e ∷ es) sound lawful t = lawful-trail (change x e) es (sound-step x e sound t.0) (lawful-step x sound lawful e t.0) t.1

pub lawful-start : (s : Setup) (limit : ℕ) → IsLawful (start s limit)
lawful-start s limit = record {
  legal = record {
    rising = λ m n i k l t u v w lt first second. absurd (omega (arith, within-get [] m (Line i k t v) first));
    placed = λ n p w h. absurd (omega (arith, within-get [] n (Child p w) h));
    once = λ m n p w first second. absurd (omega (arith, within-get [] m (Child p w) first));
  };
  numbered = λ n i k u w h. absurd (omega (arith, within-get [] n (Line i k u w) h));
}
