-- The replies above an ordinal, as they stand.
use Rattle.std.proofs.Common.{◌≡◌, ◌≢◌, ℕ, zero, suc, ◌<◌, true, false, ◌&&◌, ◌==◌, nat_lt, List, [], ◌∷◌, ◌++◌, length, map, refl, sym, ap, subst, ◌∙◌, arith, eqb-true, eq-eqb, ltb-true, lt-ltb, slice_index_or}
use Rattle.std.specs.Prelude.{AllPairs, Contains, IsTrue}
use Rattle.std.proofs.lemmas.List.Kept.{AllPairs-cons}
use Rattle.bl_order.specs.Headline.{IsReached}
use Rattle.bl_order.specs.Labels.{Tag, Reply, tag, is_before}
use Rattle.bl_order.specs.Machine.{State}
use Rattle.bl_hall.specs.Linked.{places_with}
use Rattle.bl_hall.specs.Told.{AreInOrder, IsAbove, is_above, replies_above, reply_in, root_ordinal}
use Rattle.bl_hall.proofs.Entering.{both}
use Rattle.bl_hall.proofs.Labels.{before-other}
use Rattle.bl_hall.proofs.Ordered.{Each, InOrder, IsFound, IsMember, StandOnce, are-members, are-ordered, each-all, each-as, each-both, found, replies-over, stand-once}
use Rattle.bl_hall.proofs.Tags.{same-place}

-- whether the label of a reply is before that of another
abbrev IsBefore : Reply → Reply → Type 0
IsBefore earlier later = IsTrue (is_before earlier.label later.label)

each-map : {A B : Type 0} (f : A → B) (P : B → Type 0) (xs : List A) → Each (λ x. P (f x)) xs → Each P (map f xs)
each-map f P [] h = tt
each-map f P (x ∷ xs) h = (h.0, each-map f P xs h.1)

contains-later : {A : Type 0} (x y : A) (xs : List A) → Contains xs y → Contains (x ∷ xs) y
contains-later x y xs c = (suc c.0, omega (arith, c.1), c.2)

contains-split : {A B : Type 0} (f : A → B) (before : List A) (x : A) (behind : List A) → Contains (map f (before ++ x ∷ behind)) (f x)
contains-split f [] x behind = (0, omega arith, refl)
contains-split f (y ∷ before) x behind = contains-later (f y) (f x) (map f (before ++ x ∷ behind)) (contains-split f before x behind)

-- what stands in the image of a list is the image of one of its elements
module _ {A B : Type 0} (f : A → B) (P : A → Type 0) (y : B) where
  contained : (xs : List A) → Each P xs → Contains (map f xs) y → (x : A) × P x × (y ≡ f x)
  contained [] h c = absurd (omega (arith, c.1))
  contained (x ∷ xs) h c = go c.0 c.1 c.2 (contained xs h.1)
    where
      go : (k : ℕ) → k < length (map f (x ∷ xs)) → slice_index_or (map f (x ∷ xs)) k y ≡ y
          → (Contains (map f xs) y → (x : A) × P x × (y ≡ f x)) → (x : A) × P x × (y ≡ f x)
      go zero lt is deeper = (x, h.0, sym is)
      go (suc k) lt is deeper = deeper (k, omega (arith, lt), is)

pairs-nil : AllPairs IsBefore []
pairs-nil = λ i j d lt there. absurd (omega (arith, there))

module _ (x : State) (r : IsReached x) (session after : ℕ) where
  passes : (t : Tag) → is_above session after t ≡ true → (t.session ≡ session) × (after < root_ordinal t)
  passes t h =
      let parts = both (t.session == session) (nat_lt after (root_ordinal t)) h in
      (eqb-true t.session session parts.0, ltb-true after (root_ordinal t) parts.1)

  is-above : (n : ℕ) → IsMember x.order (is_above session after) (length x.order) n → IsAbove x session after n
  is-above n member =
      let parts = passes (tag x.order n) member.1 in
      record { there = member.0; own = parts.0; above = parts.1 }

  test : (n : ℕ) → IsAbove x session after n → is_above session after (tag x.order n) ≡ true
  test n h =
      ap (λ b. b && nat_lt after (root_ordinal (tag x.order n))) (eq-eqb (tag x.order n).session session h.own) ∙ lt-ltb after (root_ordinal (tag x.order n)) h.above

  -- of two places of the session the one whose label is not before the other's stands behind it
  strict : (m q : ℕ) → IsAbove x session after m → IsAbove x session after q → is_before (tag x.order q).label (tag x.order m).label ≡ false → q ≢ m
      → IsBefore (reply_in x m) (reply_in x q)
  strict m q h k not_before apart =
      before-other (tag x.order q).label (tag x.order m).label not_before
      (λ e. apart (same-place x r q m k.there h.there (k.own ∙ sym h.own) e))

  rises : (ms : List ℕ) → InOrder x.order ms → StandOnce x.order ms → Each (IsAbove x session after) ms → AllPairs IsBefore (map (reply_in x) ms)
  rises [] ordered apart above = pairs-nil
  rises (m ∷ ms) ordered apart above =
      AllPairs-cons IsBefore (reply_in x m) (map (reply_in x) ms)
      (each-all (IsBefore (reply_in x m)) (map (reply_in x) ms)
      (each-map (reply_in x) (IsBefore (reply_in x m)) ms
      (each-both (λ q. (is_before (tag x.order q).label (tag x.order m).label ≡ false) × (q ≢ m)) (IsAbove x session after) (λ q. IsBefore (reply_in x m) (reply_in x q)) ms
      (λ q h k. strict m q above.0 k h.0 h.1)
      (each-both (λ q. is_before (tag x.order q).label (tag x.order m).label ≡ false) (λ q. q ≢ m) (λ q. (is_before (tag x.order q).label (tag x.order m).label ≡ false) × (q ≢ m)) ms
      (λ q h k. (h, k)) ordered.0 apart.0)
      above.1)))
      (rises ms ordered.1 apart.1 above.1)

  places : List ℕ
  places = places_with x.order (is_above session after) (length x.order)

  all-above : Each (IsAbove x session after) places
  unfolding places
  all-above =
      each-as (IsMember x.order (is_above session after) (length x.order)) (IsAbove x session after)
      (places_with x.order (is_above session after) (length x.order)) is-above (are-members x.order (is_above session after) (length x.order))

  of-places : AreInOrder x session after (map (reply_in x) places)
  unfolding places
  of-places = record {
    rising =
        rises places (are-ordered x.order (is_above session after) (length x.order)) (stand-once x.order (is_above session after) (length x.order)) all-above;
    each = λ n h.
        let at : IsFound x.order n places = found x.order (is_above session after) n (length x.order) h.there (test n h) in
        subst (λ ms. Contains (map (reply_in x) ms) (reply_in x n)) (sym at.is) (contains-split (reply_in x) at.before n at.behind);
    no_other = λ reply c. contained (reply_in x) (IsAbove x session after) reply places all-above c;
  }

  pub in-order : AreInOrder x session after (replies_above x session after (length x.order))
  unfolding places
  in-order = subst (AreInOrder x session after) (sym (replies-over x session after (length x.order))) of-places
