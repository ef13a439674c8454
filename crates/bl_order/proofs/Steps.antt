use Rattle.std.proofs.Common.{◌≡◌, ◌≢◌, ℕ, zero, suc, ◌<◌, ◌≤◌, ◌+◌, Bool, true, false, cond, ◌||◌, List, [], ◌∷◌, ◌++◌, length, refl, sym, ◌∙◌, ap, subst, inl, inr, arith, ◌⊎◌, true≢false, get_or, set, replicate, get_or-set_same, get_or-set_other}
use Rattle.std.specs.Prelude.{◌==◌}
use Rattle.std.proofs.lemmas.Bool.Decides.{nat_tests, eqb_tells}
use Rattle.bl_order.specs.Order.{Entry, Line, Child, Task, conflict}
use Rattle.bl_order.specs.Past.{no_entry, is_done}
use Rattle.bl_order.specs.Machine.{State, Phase, Waiting, Running, Ended, Gone, is_waiting, is_running, is_over, is_gone, phase_at, is_lost, has_ended, runs, past_at, with_phase, child_entries}
use Rattle.bl_order.proofs.Sound.{IsOrderly, HasParent, HaveParents, IsSound, has_begun}
use Rattle.bl_order.proofs.Conflicts.{or_right}
use Rattle.bl_order.proofs.Frame.{IsAlike, place-alike}

-- ---- phases

waits-replicate : (k m : ℕ) → get_or (replicate k Waiting) m Waiting ≡ Waiting
waits-replicate zero m = refl
waits-replicate (suc k) zero = refl
waits-replicate (suc k) (suc m) = waits-replicate k m

pub phases-grown : (ps : List Phase) (k m : ℕ) → get_or (ps ++ replicate k Waiting) m Waiting ≡ get_or ps m Waiting
phases-grown [] k m = waits-replicate k m
phases-grown (p ∷ ps) k zero = refl
phases-grown (p ∷ ps) k (suc m) = phases-grown ps k m

-- the phase of each place after one is set
pub phases-set : (ps : List Phase) (n m : ℕ) (p : Phase) → n < length ps → get_or (set ps n p) m Waiting ≡ cond (m == n) p (get_or ps m Waiting)
phases-set ps n m p lt = go (eqb_tells m n)
  where
    go : (((m == n) ≡ true) × (m ≡ n)) ⊎ (((m == n) ≡ false) × (m ≡ n → ⊥)) → get_or (set ps n p) m Waiting ≡ cond (m == n) p (get_or ps m Waiting)
    go (inl t) = ap (λ k. get_or (set ps n p) k Waiting) t.1 ∙ get_or-set_same ps n p Waiting lt ∙ ap (λ b. cond b p (get_or ps m Waiting)) (sym t.0)
    go (inr t) = get_or-set_other ps n m p Waiting t.1 ∙ ap (λ b. cond b p (get_or ps m Waiting)) (sym t.0)

pub running_is_not_over : (p : Phase) → is_running p ≡ true → is_over p ≡ false
running_is_not_over Waiting h = refl
running_is_not_over Running h = refl
running_is_not_over Ended h = absurd (true≢false (sym h))
running_is_not_over Gone h = absurd (true≢false (sym h))

pub waiting_is_not_over : (p : Phase) → is_waiting p ≡ true → is_over p ≡ false
waiting_is_not_over Waiting h = refl
waiting_is_not_over Running h = refl
waiting_is_not_over Ended h = absurd (true≢false (sym h))
waiting_is_not_over Gone h = absurd (true≢false (sym h))

pub not_over_is_not_gone : (p : Phase) → is_over p ≡ false → is_gone p ≡ false
not_over_is_not_gone Waiting h = refl
not_over_is_not_gone Running h = refl
not_over_is_not_gone Ended h = refl
not_over_is_not_gone Gone h = h

-- what a step keeps of the places that were there
pub record Keeps (x y : State) : Type 0 where
  pub longer : length x.order ≤ length y.order
  pub tasks : (m : ℕ) → m < length x.order → (past_at y m).task ≡ (past_at x m).task
  pub ended : (m : ℕ) → m < length x.order → has_ended x m ≡ true → has_ended y m ≡ true
  pub begun : (n : ℕ) → n < length y.order → has_begun y n ≡ true
      → (n < length x.order) × ((has_begun x n ≡ true) ⊎ ((m : ℕ) → m < n → conflict (past_at x m).task (past_at x n).task ≡ true → has_ended x m ≡ true))

conflict-same : {t u v w : Task} → t ≡ v → u ≡ w → conflict t u ≡ true → conflict v w ≡ true
conflict-same {t = t} {w = w} i j h = ap (λ a. conflict a w) (sym i) ∙ ap (conflict t) (sym j) ∙ h

pub orderly-kept : (x y : State) → IsOrderly x → Keeps x y → IsOrderly y
orderly-kept x y orderly k m n lt within over c = go (k.begun n within over)
  where
    go : (n < length x.order) × ((has_begun x n ≡ true) ⊎ ((m : ℕ) → m < n → conflict (past_at x m).task (past_at x n).task ≡ true → has_ended x m ≡ true)) → has_ended y m ≡ true
    go r = k.ended m (omega arith) (was r.1)
      where
        old : conflict (past_at x m).task (past_at x n).task ≡ true
        old = conflict-same (k.tasks m (omega arith)) (k.tasks n r.0) c

        was : (has_begun x n ≡ true) ⊎ ((m : ℕ) → m < n → conflict (past_at x m).task (past_at x n).task ≡ true → has_ended x m ≡ true) → has_ended x m ≡ true
        was (inl b) = orderly m n lt r.0 b old
        was (inr f) = f m lt old

pub not_equal : (a b : ℕ) → a ≢ b → (a == b) ≡ false
not_equal a b h = grind (arith, nat_tests)

equal : (a b : ℕ) → (a == b) ≡ false → a ≢ b
equal a b h = grind (arith, nat_tests)

pub equal_self : (a : ℕ) → (a == a) ≡ true
equal_self a = grind (arith, nat_tests)

-- ---- a place that is lost

pub parent-map : (e f : ℕ → Bool) (n : ℕ) (x : Entry) → ((m : ℕ) → e m ≡ true → f m ≡ true) → HasParent e n x → HasParent f n x
parent-map e f n (Line i o u w) k h = tt
parent-map e f n (Child p j) k h = (h.0, k p h.1)

module _ (x : State) (k : ℕ) (sound : IsSound x) (within : k < length x.order) (unended : has_ended x k ≡ false) where
  -- the places that have begun, but for the one that is lost
  pub settled : ℕ → Bool
  settled m = cond (m == k) false (has_begun x m)

  ended_settled : (m : ℕ) → has_ended x m ≡ true → settled m ≡ true
  unfolding settled
  ended_settled m e = ap (λ b. cond b false (has_begun x m)) (not_equal m k (λ same. true≢false (sym e ∙ ap (has_ended x) same ∙ unended))) ∙ or_right (runs x m) (has_ended x m) e

  settled_begun : (m : ℕ) → settled m ≡ true → (m ≢ k) × (has_begun x m ≡ true)
  unfolding settled
  settled_begun m e = go (m == k) refl e
    where
      go : (b : Bool) → (m == k) ≡ b → cond b false (has_begun x m) ≡ true → (m ≢ k) × (has_begun x m ≡ true)
      go true i h = absurd (true≢false (sym h))
      go false i h = (equal m k i, h)

  pub past-alike : (n : ℕ) → n < length x.order → IsAlike (settled n) (past_at x n) (past_at (with_phase x k Gone) n)
  past-alike n lt =
      place-alike x.setup x.order (is_lost x) (is_lost (with_phase x k Gone)) settled
      (λ m e. ap is_gone (sym (get_or-set_other x.phases k m Gone Waiting (settled_begun m e).0)))
      (λ m j below at over c. ended_settled m (sound.orderly m j below at (settled_begun j over).1 c))
      (λ m at. parent-map (has_ended x) settled m (get_or x.order m no_entry) ended_settled (sound.parents m at))
      n lt

  -- nothing that has begun is answered otherwise once another place is lost
  pub past-lost : (n : ℕ) → n < length x.order → n ≢ k → has_begun x n ≡ true → past_at (with_phase x k Gone) n ≡ past_at x n
  unfolding settled
  past-lost n lt ne b = sym ((past-alike n lt).all (ap (λ c. cond c false (has_begun x n)) (not_equal n k ne) ∙ b))

-- the children of a place: each stands after it
pub child-parents : (f : ℕ → Bool) (p w n : ℕ) (ks : List ℕ) → p < n → f p ≡ true → (i : ℕ) → HasParent f n (get_or (child_entries p w ks) i no_entry) ⊎ (length ks ≤ i)
child-parents f p w n [] lt e i = inr (omega arith)
child-parents f p w n (k ∷ ks) lt e zero = inl (lt, e)
child-parents f p w n (k ∷ ks) lt e (suc i) = go (child-parents f p (w + 1) n ks lt e i)
  where
    go : HasParent f n (get_or (child_entries p (w + 1) ks) i no_entry) ⊎ (length ks ≤ i) → HasParent f n (get_or (child_entries p (w + 1) ks) i no_entry) ⊎ (suc (length ks) ≤ suc i)
    go (inl h) = inl h
    go (inr h) = inr (omega arith)

pub length-child_entries : (p w : ℕ) (ks : List ℕ) → length (child_entries p w ks) ≡ length ks
length-child_entries p w [] = refl
length-child_entries p w (k ∷ ks) = ap suc (length-child_entries p (w + 1) ks)

pub begun_within : (ps : List Phase) (n : ℕ) → (is_running (get_or ps n Waiting) || is_over (get_or ps n Waiting)) ≡ true → n < length ps
begun_within [] n h = absurd (true≢false (sym h))
begun_within (p ∷ ps) zero h = omega arith
begun_within (p ∷ ps) (suc n) h = omega (arith, begun_within ps n h)

begun_phase : Phase → Bool
begun_phase p = is_running p || is_over p

-- what a step does that gives one place a new phase, and may let the order grow
pub record Moves (x y : State) (k : ℕ) (p : Phase) : Type 0 where
  pub within : k < length x.order
  pub longer : length x.order ≤ length y.order
  pub as_many : length y.phases ≡ length y.order
  pub unended : has_ended x k ≡ false
  pub phases : (m : ℕ) → phase_at y m ≡ cond (m == k) p (phase_at x m)
  pub tasks : (m : ℕ) → m < length x.order → (past_at y m).task ≡ (past_at x m).task
  pub pasts : (m : ℕ) → m < length x.order → m ≢ k → has_begun x m ≡ true → past_at y m ≡ past_at x m
  pub clear : (has_begun x k ≡ true) ⊎ ((m : ℕ) → m < k → conflict (past_at x m).task (past_at x k).task ≡ true → has_ended x m ≡ true)
  pub allowed : is_running p ≡ true → is_done (past_at y k).answer ≡ true
  pub parents : ((m : ℕ) → has_ended x m ≡ true → has_ended y m ≡ true) → HaveParents (has_ended y) y.order

module _ (x y : State) (k : ℕ) (p : Phase) (sound : IsSound x) (moves : Moves x y k p) where
  pub other : (m : ℕ) → m ≢ k → phase_at y m ≡ phase_at x m
  other m ne = moves.phases m ∙ ap (λ b. cond b p (phase_at x m)) (not_equal m k ne)

  pub stays : (m : ℕ) → has_ended x m ≡ true → has_ended y m ≡ true
  stays m e = ap is_over (other m (λ same. true≢false (sym e ∙ ap (has_ended x) same ∙ moves.unended))) ∙ e

  pub same_or_other : (m : ℕ) → (m ≡ k) ⊎ (m ≢ k)
  same_or_other m = grind arith

  keeps : Keeps x y
  keeps = record {
    longer = moves.longer;
    tasks = moves.tasks;
    ended = λ m lt e. stays m e;
    begun = λ n lt b. begun n b (same_or_other n);
  }
    where
      begun : (n : ℕ) → has_begun y n ≡ true → (n ≡ k) ⊎ (n ≢ k)
          → (n < length x.order) × ((has_begun x n ≡ true) ⊎ ((m : ℕ) → m < n → conflict (past_at x m).task (past_at x n).task ≡ true → has_ended x m ≡ true))
      begun n b (inl e) =
          subst (λ j. (j < length x.order) × ((has_begun x j ≡ true) ⊎ ((m : ℕ) → m < j → conflict (past_at x m).task (past_at x j).task ≡ true → has_ended x m ≡ true))) (sym e) (moves.within, moves.clear)
      begun n b (inr ne) =
          let was : has_begun x n ≡ true = ap (λ q. is_running q || is_over q) (sym (other n ne)) ∙ b in
          (subst (λ j. n < j) sound.as_many (begun_within x.phases n was), inl was)

  pub sound-moved : IsSound y
  sound-moved = record {
    as_many = moves.as_many;
    orderly = orderly-kept x y sound.orderly keeps;
    parents = moves.parents stays;
    allowed = λ n lt r. allowed n r (same_or_other n);
  }
    where
      or_left : (a b : Bool) → a ≡ true → (a || b) ≡ true
      or_left true b h = refl
      or_left false b h = absurd (true≢false (sym h))

      allowed : (n : ℕ) → runs y n ≡ true → (n ≡ k) ⊎ (n ≢ k) → is_done (past_at y n).answer ≡ true
      allowed n r (inl e) = subst (λ j. is_done (past_at y j).answer ≡ true) (sym e) (moves.allowed (ap (λ b. is_running (cond b p (phase_at x k))) (sym (equal_self k)) ∙ ap is_running (sym (moves.phases k)) ∙ ap (runs y) (sym e) ∙ r))
      allowed n r (inr ne) =
          let was : runs x n ≡ true = ap is_running (sym (other n ne)) ∙ r in
          let begun : has_begun x n ≡ true = or_left (runs x n) (has_ended x n) was in
          let within : n < length x.order = subst (λ j. n < j) sound.as_many (begun_within x.phases n begun) in
          ap (λ q. is_done q.answer) (moves.pasts n within ne begun) ∙ sound.allowed n within was
