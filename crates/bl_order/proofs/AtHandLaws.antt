-- The frame law at a place that runs or may start.
use Rattle.std.proofs.Common.{◌≡◌, ℕ, ◌<◌, Bool, true, false, ◌||◌, length, refl, sym, ◌∙◌, subst, inl, inr, ◌⊎◌, true≢false, zero, suc, List, [], ◌∷◌, get_or, arith}
use Rattle.std.specs.Prelude.{IsTrue, ◌==◌, slice_get, Some}
use Rattle.std.proofs.lemmas.Bool.Decides.{eqb_tells}
use Rattle.bl_order.specs.AtHand.{IsAtHand, RestsOnEndedPlaces, ParentsHaveEnded}
use Rattle.bl_order.specs.Headline.{IsReached}
use Rattle.bl_order.specs.Laws.{IsClosed}
use Rattle.bl_order.specs.Order.{conflict, Entry, Child}
use Rattle.bl_order.specs.Past.{place, no_entry}
use Rattle.bl_order.specs.Machine.{State, past_at, is_lost, has_ended, runs}
use Rattle.bl_order.proofs.Sound.{IsSound, HasParent, HaveParents}
use Rattle.bl_order.proofs.Conflicts.{or_left, or_right}
use Rattle.bl_order.proofs.Frame.{place-alike}
use Rattle.bl_order.proofs.Steps.{parent-map, equal_self}
use Rattle.bl_order.proofs.Reached.{sound-reached}

one_of : (a b : Bool) → (a || b) ≡ true → (a ≡ true) ⊎ (b ≡ true)
one_of true b h = inl refl
one_of false b h = inr h

is_same : (k n : ℕ) → (k == n) ≡ true → k ≡ n
is_same k n h = go (eqb_tells k n)
  where
    go : (((k == n) ≡ true) × (k ≡ n)) ⊎ (((k == n) ≡ false) × (k ≡ n → ⊥)) → k ≡ n
    go (inl t) = t.1
    go (inr t) = absurd (true≢false (sym h ∙ t.0))

module _ (x : State) (sound : IsSound x) (others : ℕ → Bool) (same : (k : ℕ) → IsTrue (has_ended x k) → is_lost x k ≡ others k)
    (n : ℕ) (within : n < length x.order) (hand : IsAtHand x n) (itself : is_lost x n ≡ others n) where
  -- the ended places and this one
  settled : ℕ → Bool
  settled k = has_ended x k || k == n

  settled-same : (k : ℕ) → settled k ≡ true → is_lost x k ≡ others k
  unfolding settled
  settled-same k h = go (one_of (has_ended x k) (k == n) h)
    where
      go : (has_ended x k ≡ true) ⊎ ((k == n) ≡ true) → is_lost x k ≡ others k
      go (inl over) = same k over
      go (inr is) = subst (λ j. is_lost x j ≡ others j) (sym (is_same k n is)) itself

  -- what conflicts with this one before it has ended
  clear : (k : ℕ) → k < n → conflict (past_at x k).task (past_at x n).task ≡ true → has_ended x k ≡ true
  clear k lt c = go hand
    where
      go : IsAtHand x n → has_ended x k ≡ true
      go (inl over) = sound.orderly k n lt within (or_right (runs x n) (has_ended x n) over) c
      go (inr (inl r)) = sound.orderly k n lt within (or_left (runs x n) (has_ended x n) r) c
      go (inr (inr may)) = may.clear k lt c

  settled-orderly : (k j : ℕ) → k < j → j < length x.order → settled j ≡ true → conflict (past_at x k).task (past_at x j).task ≡ true → settled k ≡ true
  unfolding settled
  settled-orderly k j lt at h c = or_left (has_ended x k) (k == n) (go (one_of (has_ended x j) (j == n) h))
    where
      go : (has_ended x j ≡ true) ⊎ ((j == n) ≡ true) → has_ended x k ≡ true
      go (inl over) = sound.orderly k j lt at (or_right (runs x j) (has_ended x j) over) c
      go (inr is) = clear k (subst (λ i. k < i) (is_same j n is) lt) (subst (λ i. conflict (past_at x k).task (past_at x i).task ≡ true) (is_same j n is) c)

  settled-parents : HaveParents settled x.order
  unfolding settled
  settled-parents m lt = parent-map (has_ended x) settled m _ (λ k over. or_left (has_ended x k) (k == n) over) (sound.parents m lt)

  settled-itself : settled n ≡ true
  unfolding settled
  settled-itself = or_right (has_ended x n) (n == n) (equal_self n)

  pub at_hand-alike : past_at x n ≡ place x.setup others x.order n
  at_hand-alike = (place-alike x.setup x.order (is_lost x) others settled settled-same settled-orderly settled-parents n within).all settled-itself

pub rests_on_ended_places : (x : State) → IsReached x → RestsOnEndedPlaces x
rests_on_ended_places x r others same n within hand itself = at_hand-alike x (sound-reached x r) others same n within hand itself

-- what stands at a place of an order
stands : (order : List Entry) (n : ℕ) (e : Entry) → slice_get order n ≡ Some e → (n < length order) × (get_or order n no_entry ≡ e)
stands [] n e h = absurd (cc)
stands (x ∷ xs) zero e h = (omega arith, cc)
stands (x ∷ xs) (suc n) e h = let t : (n < length xs) × (get_or xs n no_entry ≡ e) = stands xs n e h in (omega (arith, t.0), t.1)

pub parents-ended : (x : State) → IsSound x → ParentsHaveEnded x
parents-ended x sound n parent which h =
    let t : (n < length x.order) × (get_or x.order n no_entry ≡ Child parent which) = stands x.order n (Child parent which) h in
    subst (HasParent (has_ended x) n) t.1 (sound.parents n t.0)

pub parents_have_ended : (x : State) → IsReached x → ParentsHaveEnded x
parents_have_ended x r = parents-ended x (sound-reached x r)

-- the ended places are closed
pub closed-sound : (x : State) → IsSound x → IsClosed x.setup (is_lost x) x.order (has_ended x)
closed-sound x sound = record {
  conflicts = λ m n lt within over c. sound.orderly m n lt within (or_right (runs x n) (has_ended x n) over) c;
  parents = λ n parent which h. parents-ended x sound n parent which h;
}
