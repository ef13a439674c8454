-- The shelves while places start and end.
use Rattle.std.proofs.Common.{◌≡◌, ◌≢◌, ℕ, ◌<◌, ◌⊎◌, inl, inr, Bool, true, false, cond, ◌&&◌, ◌||◌, List, [], ◌∷◌, length, set, refl, ap, sym, ◌∙◌, subst, arith, length-set, get_or-set_same, get_or-set_other, true≢false}
use Rattle.std.specs.Prelude.{◌==◌}
use Rattle.std.proofs.lemmas.Bool.Decides.{eqb_tells}
use Rattle.bl_policy.specs.Mode.{is_exclusive}
use Rattle.bl_policy.specs.declared.access.Access.{Access}
use Rattle.bl_order.specs.Order.{Task, accesses_of, is_altered}
use Rattle.bl_order.specs.Machine.{State, Phase, past_at, runs, is_running, phase_at}
use Rattle.bl_order.specs.Now.{content_now}
use Rattle.bl_order.proofs.Sound.{IsSound}
use Rattle.bl_order.proofs.Steps.{Moves, equal_self, not_equal}
use Rattle.bl_order.proofs.Trails.{within}
use Rattle.bl_place.specs.Shelves.{AreEmptied, emptied, new_shelf, shelf_in, content_in, mark_one, marked}
use Rattle.bl_core.specs.Keeps.{IsAway, AreShelved}
use Rattle.bl_place.specs.declared.shelf.Shelf.{Shelf}
use Rattle.bl_core.proofs.Grown.{equal_or_not}

-- ---- the shelves where some are lent

mark_one-read : (h : List Shelf) (a : Access) (o : ℕ) → o < length h
    → (content_in (mark_one h a) o ≡ content_in h o) × ((shelf_in (mark_one h a) o).lent ≡ ((shelf_in h o).lent || ((a.doc == o) && is_exclusive a.mode)))
mark_one-read h a o lt = go (is_exclusive a.mode) (eqb_tells a.doc o)
  where
    or_false : (b : Bool) → b ≡ (b || false)
    or_false true = refl
    or_false false = refl

    or_true : (b : Bool) → true ≡ (b || true)
    or_true true = refl
    or_true false = refl

    go : (e : Bool) → (((a.doc == o) ≡ true) × (a.doc ≡ o)) ⊎ (((a.doc == o) ≡ false) × (a.doc ≡ o → ⊥))
        → (content_in (cond e (set h a.doc (record (shelf_in h a.doc) { lent = true })) h) o ≡ content_in h o)
        × ((shelf_in (cond e (set h a.doc (record (shelf_in h a.doc) { lent = true })) h) o).lent ≡ ((shelf_in h o).lent || ((a.doc == o) && e)))
    go false (inl q) = (refl, or_false (shelf_in h o).lent ∙ ap (λ b. (shelf_in h o).lent || (b && false)) (sym q.0))
    go false (inr q) = (refl, or_false (shelf_in h o).lent ∙ ap (λ b. (shelf_in h o).lent || (b && false)) (sym q.0))
    go true (inl q) =
        let at : shelf_in (set h a.doc (record (shelf_in h a.doc) { lent = true })) o ≡ record (shelf_in h a.doc) { lent = true } =
        ap (λ j. shelf_in (set h a.doc (record (shelf_in h a.doc) { lent = true })) j) (sym q.1) ∙ get_or-set_same h a.doc (record (shelf_in h a.doc) { lent = true }) (new_shelf []) (subst (λ (j : ℕ). j < length h) (sym q.1) lt) in (
          ap (λ (f : Shelf). f.content) at ∙ ap (content_in h) q.1,
          ap (λ (f : Shelf). f.lent) at ∙ or_true (shelf_in h o).lent ∙ ap (λ b. (shelf_in h o).lent || (b && true)) (sym q.0),
        )
    go true (inr q) =
        let at : shelf_in (set h a.doc (record (shelf_in h a.doc) { lent = true })) o ≡ shelf_in h o = get_or-set_other h a.doc o (record (shelf_in h a.doc) { lent = true }) (new_shelf []) (λ e. q.1 (sym e)) in (
          ap (λ (f : Shelf). f.content) at,
          ap (λ (f : Shelf). f.lent) at ∙ or_false (shelf_in h o).lent ∙ ap (λ b. (shelf_in h o).lent || (b && true)) (sym q.0),
        )

length-mark_one : (h : List Shelf) (a : Access) → length (mark_one h a) ≡ length h
length-mark_one h a = go (is_exclusive a.mode)
  where
    go : (e : Bool) → length (cond e (set h a.doc (record (shelf_in h a.doc) { lent = true })) h) ≡ length h
    go true = length-set h a.doc (record (shelf_in h a.doc) { lent = true })
    go false = refl

pub length-marked : (h : List Shelf) (xs : List Access) → length (marked h xs) ≡ length h
length-marked h [] = refl
length-marked h (a ∷ xs) = length-marked (mark_one h a) xs ∙ length-mark_one h a

or_assoc : (a b c : Bool) → ((a || b) || c) ≡ (a || (b || c))
or_assoc true b c = refl
or_assoc false b c = refl

or_right_false : (b : Bool) → b ≡ (b || false)
or_right_false true = refl
or_right_false false = refl

pub marked-read : (h : List Shelf) (xs : List Access) (o : ℕ) → o < length h
    → (content_in (marked h xs) o ≡ content_in h o) × ((shelf_in (marked h xs) o).lent ≡ ((shelf_in h o).lent || is_altered xs o))
marked-read h [] o lt = (refl, or_right_false (shelf_in h o).lent)
marked-read h (a ∷ xs) o lt =
    let one : (content_in (mark_one h a) o ≡ content_in h o) × ((shelf_in (mark_one h a) o).lent ≡ ((shelf_in h o).lent || ((a.doc == o) && is_exclusive a.mode))) = mark_one-read h a o lt in
    let rest : (content_in (marked (mark_one h a) xs) o ≡ content_in (mark_one h a) o) × ((shelf_in (marked (mark_one h a) xs) o).lent ≡ ((shelf_in (mark_one h a) o).lent || is_altered xs o)) =
    marked-read (mark_one h a) xs o (omega (arith, lt, length-mark_one h a)) in
    (rest.0 ∙ one.0, rest.1 ∙ ap (λ b. b || is_altered xs o) one.1 ∙ or_assoc (shelf_in h o).lent ((a.doc == o) && is_exclusive a.mode) (is_altered xs o))

-- ---- a place moves

or_split : (a b : Bool) → (a || b) ≡ true → (a ≡ true) ⊎ (b ≡ true)
or_split true b h = inl refl
or_split false b h = inr h

or_none : (a b : Bool) → (a || b) ≡ false → (a ≡ false) × (b ≡ false)
or_none true b h = absurd (true≢false h)
or_none false b h = (refl, h)

module _ (x y : State) (n : ℕ) (p : Phase) (sound : IsSound x) (moves : Moves x y n p) where
  altered-same : (m o : ℕ) → m < length x.order → is_altered (accesses_of (past_at y m).task) o ≡ is_altered (accesses_of (past_at x m).task) o
  altered-same m o lt = ap (λ (t : Task). is_altered (accesses_of t) o) (moves.tasks m lt)

  runs_other : (m : ℕ) → m ≢ n → runs y m ≡ runs x m
  runs_other m ne = ap is_running (moves.phases m ∙ ap (λ b. cond b p (phase_at x m)) (not_equal m n ne))

  runs_it : runs y n ≡ is_running p
  runs_it = ap is_running (moves.phases n ∙ ap (λ b. cond b p (phase_at x n)) (equal_self n))

  -- a place that did not run starts, and does not run: nothing is lent
  module _ (was : runs x n ≡ false) (idle : is_running p ≡ false) where
    runs_same : (m : ℕ) → (m ≡ n) ⊎ (m ≢ n) → runs y m ≡ runs x m
    runs_same m (inl e) = ap (runs y) e ∙ runs_it ∙ idle ∙ sym was ∙ ap (runs x) (sym e)
    runs_same m (inr ne) = runs_other m ne

    pub shelved-emptied : (these : ℕ → Bool) (h h' : List Shelf) → AreEmptied these h h' → ((o : ℕ) → content_now y o ≡ cond (these o) [] (content_now x o)) → AreShelved x h → AreShelved y h'
    shelved-emptied these h h' e now s = record {
      contents = λ o lt. contents o (here o lt) (these o) (e.each o) (now o);
      away = λ o lt is.
          let q : IsAway x o = s.away o (here o lt) (sym (lent o (these o) (e.each o)) ∙ is) in
          (q.0, runs_same q.0 (equal_or_not q.0 n) ∙ q.1, altered-same q.0 o (within x sound q.0 q.1) ∙ q.2);
      home = λ o lt is m r.
          let r' : runs x m ≡ true = sym (runs_same m (equal_or_not m n)) ∙ r in
          altered-same m o (within x sound m r') ∙ s.home o (here o lt) (sym (lent o (these o) (e.each o)) ∙ is) m r';
    }
      where
        here : (o : ℕ) → o < length h' → o < length h
        here o lt = omega (arith, lt, e.as_many)

        contents : (o : ℕ) → o < length h → (b : Bool) → shelf_in h' o ≡ cond b (emptied (shelf_in h o)) (shelf_in h o) → content_now y o ≡ cond b [] (content_now x o) → content_in h' o ≡ content_now y o
        contents o lt true i f = ap (λ (v : Shelf). v.content) i ∙ sym f
        contents o lt false i f = ap (λ (v : Shelf). v.content) i ∙ s.contents o lt ∙ sym f

        lent : (o : ℕ) (b : Bool) → shelf_in h' o ≡ cond b (emptied (shelf_in h o)) (shelf_in h o) → (shelf_in h' o).lent ≡ (shelf_in h o).lent
        lent o true i = ap (λ (v : Shelf). v.lent) i
        lent o false i = ap (λ (v : Shelf). v.lent) i

    pub shelved-idle : (h : List Shelf) → ((o : ℕ) → content_now y o ≡ content_now x o) → AreShelved x h → AreShelved y h
    shelved-idle h same s = shelved-emptied (λ o. false) h h (record { as_many = refl; each = λ o. refl }) same s

  -- a place that did not run runs: what it alters is lent
  module _ (was : runs x n ≡ false) (running : is_running p ≡ true) (xs : List Access) (are : xs ≡ accesses_of (past_at x n).task) where
    pub shelved-marked : (h : List Shelf) → ((o : ℕ) → content_now y o ≡ content_now x o) → AreShelved x h → AreShelved y (marked h xs)
    shelved-marked h same s = record {
      contents = λ o lt. (marked-read h xs o (here o lt)).0 ∙ s.contents o (here o lt) ∙ sym (same o);
      away = λ o lt is. away o (here o lt) (or_split (shelf_in h o).lent (is_altered xs o) (sym (marked-read h xs o (here o lt)).1 ∙ is));
      home = λ o lt is m r. home o (here o lt) (or_none (shelf_in h o).lent (is_altered xs o) (sym (marked-read h xs o (here o lt)).1 ∙ is)) m r (equal_or_not m n);
    }
      where
        here : (o : ℕ) → o < length (marked h xs) → o < length h
        here o lt = omega (arith, lt, length-marked h xs)

        away : (o : ℕ) → o < length h → ((shelf_in h o).lent ≡ true) ⊎ (is_altered xs o ≡ true) → IsAway y o
        away o lt (inl old) =
            let q : IsAway x o = s.away o lt old in
            (q.0, runs_other q.0 (λ e. true≢false (sym q.1 ∙ ap (runs x) e ∙ was)) ∙ q.1, altered-same q.0 o (within x sound q.0 q.1) ∙ q.2)
        away o lt (inr new) = (n, runs_it ∙ running, altered-same n o moves.within ∙ ap (λ zs. is_altered zs o) (sym are) ∙ new)

        home : (o : ℕ) → o < length h → ((shelf_in h o).lent ≡ false) × (is_altered xs o ≡ false) → (m : ℕ) → runs y m ≡ true → (m ≡ n) ⊎ (m ≢ n)
            → is_altered (accesses_of (past_at y m).task) o ≡ false
        home o lt both m r (inl e) =
            ap (λ j. is_altered (accesses_of (past_at y j).task) o) e ∙ altered-same n o moves.within ∙ ap (λ zs. is_altered zs o) (sym are) ∙ both.1
        home o lt both m r (inr ne) =
            let r' : runs x m ≡ true = sym (runs_other m ne) ∙ r in
            altered-same m o (within x sound m r') ∙ s.home o lt both.0 m r'

  -- a place that ran has ended: what it altered is back
  module _ (ran : runs x n ≡ true) (idle : is_running p ≡ false) (alone : (m o : ℕ) → m ≢ n → runs x m ≡ true
      → is_altered (accesses_of (past_at x m).task) o ≡ true → is_altered (accesses_of (past_at x n).task) o ≡ true → ⊥) where
    went_on : (m : ℕ) → runs y m ≡ true → (m ≡ n) ⊎ (m ≢ n) → (m ≢ n) × (runs x m ≡ true)
    went_on m r (inl e) = absurd (true≢false (sym r ∙ ap (runs y) e ∙ runs_it ∙ idle))
    went_on m r (inr ne) = (ne, sym (runs_other m ne) ∙ r)

    pub shelved-back : (h h' : List Shelf) (content : ℕ → List ℕ) → length h' ≡ length h
        → ((o : ℕ) → o < length h → shelf_in h' o ≡ cond (is_altered (accesses_of (past_at x n).task) o) (new_shelf (content o)) (shelf_in h o))
        → ((o : ℕ) → o < length h → content_now y o ≡ cond (is_altered (accesses_of (past_at x n).task) o) (content o) (content_now x o))
        → AreShelved x h → AreShelved y h'
    shelved-back h h' content long back now s = record {
      contents = λ o lt. contents o (here o lt) (is_altered (accesses_of (past_at x n).task) o) (back o (here o lt)) (now o (here o lt));
      away = λ o lt is. away o (here o lt) (is_altered (accesses_of (past_at x n).task) o) refl (back o (here o lt)) is;
      home = λ o lt is m r. home o (here o lt) (is_altered (accesses_of (past_at x n).task) o) refl (back o (here o lt)) is m (went_on m r (equal_or_not m n));
    }
      where
        here : (o : ℕ) → o < length h' → o < length h
        here o lt = omega (arith, lt, long)

        contents : (o : ℕ) → o < length h → (b : Bool) → shelf_in h' o ≡ cond b (new_shelf (content o)) (shelf_in h o) → content_now y o ≡ cond b (content o) (content_now x o)
            → content_in h' o ≡ content_now y o
        contents o lt true e f = ap (λ (v : Shelf). v.content) e ∙ sym f
        contents o lt false e f = ap (λ (v : Shelf). v.content) e ∙ s.contents o lt ∙ sym f

        away : (o : ℕ) → o < length h → (b : Bool) → is_altered (accesses_of (past_at x n).task) o ≡ b → shelf_in h' o ≡ cond b (new_shelf (content o)) (shelf_in h o)
            → (shelf_in h' o).lent ≡ true → IsAway y o
        away o lt true i e is = absurd (true≢false (sym is ∙ ap (λ (v : Shelf). v.lent) e))
        away o lt false i e is =
            let q : IsAway x o = s.away o lt (sym (ap (λ (v : Shelf). v.lent) e) ∙ is) in
            (q.0, runs_other q.0 (λ same. true≢false (sym q.2 ∙ ap (λ j. is_altered (accesses_of (past_at x j).task) o) same ∙ i)) ∙ q.1, altered-same q.0 o (within x sound q.0 q.1) ∙ q.2)

        home : (o : ℕ) → o < length h → (b : Bool) → is_altered (accesses_of (past_at x n).task) o ≡ b → shelf_in h' o ≡ cond b (new_shelf (content o)) (shelf_in h o)
            → (shelf_in h' o).lent ≡ false → (m : ℕ) → (m ≢ n) × (runs x m ≡ true) → is_altered (accesses_of (past_at y m).task) o ≡ false
        home o lt false i e is m q = altered-same m o (within x sound m q.1) ∙ s.home o lt (sym (ap (λ (v : Shelf). v.lent) e) ∙ is) m q.1
        home o lt true i e is m q = altered-same m o (within x sound m q.1) ∙ never (is_altered (accesses_of (past_at x m).task) o) refl
          where
            never : (b : Bool) → is_altered (accesses_of (past_at x m).task) o ≡ b → b ≡ false
            never false j = refl
            never true j = absurd (alone m o q.0 q.1 j i)
