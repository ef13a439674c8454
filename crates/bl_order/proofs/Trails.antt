use Rattle.std.proofs.Common.{◌≡◌, ◌≢◌, ℕ, ◌<◌, ◌≤◌, ◌+◌, ◌-◌, Bool, true, false, cond, ◌||◌, List, [], ◌∷◌, ◌++◌, length, refl, sym, ◌∙◌, ap, subst, inl, inr, arith, ◌⊎◌, length-append, true≢false, get_or, set, replicate, length-set}
use mathlib.Core.Path.{fun_ext}
use Rattle.std.specs.Prelude.{◌==◌, IsTrue}
use Rattle.std.proofs.Math.ListN.{get_or-append}
use Rattle.std.proofs.Math.Seq.{get_or-append_seam}
use Rattle.std.proofs.lemmas.Bool.Decides.{eqb_tells}
use Rattle.std.proofs.lemmas.List.{length-replicate, get_or-append_right}
use Rattle.bl_work.specs.declared.work.Work.{Work}
use Rattle.bl_work.specs.Effects.{children}
use Rattle.bl_setup.specs.Setup.{Setup}
use Rattle.bl_order.specs.Order.{Entry, Line, conflict}
use Rattle.bl_order.specs.Past.{place, no_entry, is_done}
use Rattle.bl_order.specs.Machine.{State, Event, Opens, Admits, Starts, Ends, Loses, Phase, Waiting, Running, Ended, Gone, is_running, is_over, is_gone, phase_at, is_lost, has_ended, runs, past_at, MayStart, Needs, change, with_phase, children_at, session_at, start, state_after}
use Rattle.bl_order.specs.Machine.{IsTrail}
use Rattle.bl_order.proofs.Sound.{HasParent, HaveParents, IsSound, has_begun}
use Rattle.bl_order.proofs.Places.{place-grown}
use Rattle.bl_order.proofs.Conflicts.{or_right}
use Rattle.bl_order.proofs.Steps.{Moves, sound-moved, orderly-kept, phases-set, phases-grown, past-alike, past-lost, child-parents, length-child_entries, parent-map, waiting_is_not_over, running_is_not_over, not_over_is_not_gone, equal_self, begun_within}

below_or_not : (a b : ℕ) → (a < b) ⊎ (b ≤ a)
below_or_not a b = grind arith

module _ (x : State) (sound : IsSound x) where
  -- setting a phase that is not lost, where it was not lost, loses nothing
  lost-set : (k : ℕ) (p : Phase) → k < length x.order → has_ended x k ≡ false → is_gone p ≡ false → (m : ℕ) → is_gone (get_or (set x.phases k p) m Waiting) ≡ is_lost x m
  lost-set k p within unended alive m = ap is_gone (phases-set x.phases k m p (subst (λ j. k < j) (sym sound.as_many) within)) ∙ go (eqb_tells m k)
    where
      go : (((m == k) ≡ true) × (m ≡ k)) ⊎ (((m == k) ≡ false) × (m ≡ k → ⊥)) → is_gone (cond (m == k) p (phase_at x m)) ≡ is_lost x m
      go (inl t) = ap (λ b. is_gone (cond b p (phase_at x m))) t.0 ∙ alive ∙ sym (ap (is_lost x) t.1 ∙ not_over_is_not_gone (phase_at x k) unended)
      go (inr t) = ap (λ b. is_gone (cond b p (phase_at x m))) t.0

  -- ---- Start
  module _ (k : ℕ) (may : MayStart x k) where
    pub unended : has_ended x k ≡ false
    unended = waiting_is_not_over (phase_at x k) may.waits

    phase : Phase
    phase = cond (is_done (past_at x k).answer) Running Ended

    alive : (b : Bool) → is_gone (cond b Running Ended) ≡ false
    alive true = refl
    alive false = refl

    only_done : (b : Bool) → is_running (cond b Running Ended) ≡ true → b ≡ true
    only_done true h = refl
    only_done false h = h

    pub past-started : (m : ℕ) → past_at (change x (Starts k)) m ≡ past_at x m
    past-started m = ap (λ f. place x.setup f x.order m) (fun_ext (lost-set k (cond (is_done (past_at x k).answer) Running Ended) may.there unended (alive (is_done (past_at x k).answer))))

    pub moves-start : Moves x (change x (Starts k)) k (cond (is_done (past_at x k).answer) Running Ended)
    moves-start = record {
      within = may.there;
      longer = omega arith;
      as_many = length-set x.phases k _ ∙ sound.as_many;
      unended = unended;
      phases = λ m. phases-set x.phases k m _ (subst (λ j. k < j) (sym sound.as_many) may.there);
      tasks = λ m lt. ap (λ p. p.task) (past-started m);
      pasts = λ m lt ne b. past-started m;
      clear = inr may.clear;
      allowed = λ r. ap (λ p. is_done p.answer) (past-started k) ∙ only_done (is_done (past_at x k).answer) r;
      parents = λ stays n lt. parent-map (has_ended x) (has_ended (change x (Starts k))) n (get_or x.order n no_entry) stays (sound.parents n lt);
    }

  -- ---- End
  module _ (k : ℕ) (running : runs x k ≡ true) where
    pub or_left : (a b : Bool) → a ≡ true → (a || b) ≡ true
    or_left true b h = refl
    or_left false b h = absurd (true≢false (sym h))

    pub within : k < length x.order
    within = subst (λ j. k < j) sound.as_many (begun_within x.phases k (or_left (runs x k) (has_ended x k) running))

    pub phases-ended : (m : ℕ) → phase_at (change x (Ends k)) m ≡ cond (m == k) Ended (phase_at x m)
    phases-ended m = phases-grown (set x.phases k Ended) (length (children_at x k)) m ∙ phases-set x.phases k m Ended (subst (λ j. k < j) (sym sound.as_many) within)

    lost-ended : (m : ℕ) → is_lost (change x (Ends k)) m ≡ is_lost x m
    lost-ended m = ap is_gone (phases-grown (set x.phases k Ended) (length (children_at x k)) m) ∙ lost-set k Ended within (running_is_not_over (phase_at x k) running) refl m

    pub past-ended : (m : ℕ) → m < length x.order → past_at (change x (Ends k)) m ≡ past_at x m
    past-ended m lt = place-grown x.setup (is_lost x) (is_lost (change x (Ends k))) x.order (children_at x k) m lost-ended lt

    parents-ended : ((m : ℕ) → has_ended x m ≡ true → has_ended (change x (Ends k)) m ≡ true) → HaveParents (has_ended (change x (Ends k))) (x.order ++ children_at x k)
    parents-ended stays n lt = go (below_or_not n (length x.order))
      where
        f : ℕ → Bool
        f = has_ended (change x (Ends k))

        ks : List ℕ
        ks = children (past_at x k).effects

        over : f k ≡ true
        over = ap is_over (phases-ended k ∙ ap (λ b. cond b Ended (phase_at x k)) (equal_self k))

        at_end : HasParent f n (get_or (children_at x k) (n - length x.order) no_entry) ⊎ (length ks ≤ n - length x.order) → length x.order ≤ n → HasParent f n (get_or (children_at x k) (n - length x.order) no_entry)
        at_end (inl h) ge = h
        at_end (inr h) ge = absurd (omega (arith, length-append x.order (children_at x k), length-child_entries k 1 ks))

        go : (n < length x.order) ⊎ (length x.order ≤ n) → HasParent f n (get_or (x.order ++ children_at x k) n no_entry)
        go (inl below) = subst (HasParent f n) (sym (get_or-append x.order (children_at x k) no_entry n below)) (parent-map (has_ended x) f n (get_or x.order n no_entry) stays (sound.parents n below))
        go (inr ge) = subst (HasParent f n) (sym (get_or-append_right x.order (children_at x k) (length x.order) n no_entry refl ge))
            (at_end (child-parents f k 1 n ks (omega (arith, within)) over (n - length x.order)) ge)

    pub moves-end : Moves x (change x (Ends k)) k Ended
    moves-end = record {
      within = within;
      longer = omega (arith, length-append x.order (children_at x k));
      as_many = length-append (set x.phases k Ended) (replicate (length (children_at x k)) Waiting) ∙ ap₂+ (length-set x.phases k Ended ∙ sound.as_many) (length-replicate (length (children_at x k)) Waiting) ∙ sym (length-append x.order (children_at x k));
      unended = running_is_not_over (phase_at x k) running;
      phases = phases-ended;
      tasks = λ m lt. ap (λ p. p.task) (past-ended m lt);
      pasts = λ m lt ne b. past-ended m lt;
      clear = inl (or_left (runs x k) (has_ended x k) running);
      allowed = λ r. absurd (true≢false (sym r));
      parents = parents-ended;
    }
      where
        ap₂+ : {a b c d : ℕ} → a ≡ b → c ≡ d → a + c ≡ b + d
        ap₂+ {b = b} {c = c} i j = ap (λ t. t + c) i ∙ ap (λ t. b + t) j

  -- ---- Lost
  module _ (k : ℕ) (within : k < length x.order) (unended : has_ended x k ≡ false)
      (clear : (has_begun x k ≡ true) ⊎ ((m : ℕ) → m < k → conflict (past_at x m).task (past_at x k).task ≡ true → has_ended x m ≡ true)) where
    pub moves-lost : Moves x (with_phase x k Gone) k Gone
    moves-lost = record {
      within = within;
      longer = omega arith;
      as_many = length-set x.phases k Gone ∙ sound.as_many;
      unended = unended;
      phases = λ m. phases-set x.phases k m Gone (subst (λ j. k < j) (sym sound.as_many) within);
      tasks = λ m lt. sym (past-alike x k sound within unended m lt).task;
      pasts = λ m lt ne b. past-lost x k sound within unended m lt ne b;
      clear = clear;
      allowed = λ r. absurd (true≢false (sym r));
      parents = λ stays n lt. parent-map (has_ended x) (has_ended (with_phase x k Gone)) n (get_or x.order n no_entry) stays (sound.parents n lt);
    }

  -- ---- Line
  module _ (i o : ℕ) (w : Work) where
    pub phases-admitted : (m : ℕ) → phase_at (change x (Admits i o w)) m ≡ phase_at x m
    phases-admitted m = phases-grown x.phases 1 m

    pub past-admitted : (m : ℕ) → m < length x.order → past_at (change x (Admits i o w)) m ≡ past_at x m
    past-admitted m lt = place-grown x.setup (is_lost x) (is_lost (change x (Admits i o w))) x.order (Line i o (session_at x i).subject w ∷ []) m (λ k. ap is_gone (phases-admitted k)) lt

    old : (n : ℕ) → has_begun (change x (Admits i o w)) n ≡ true → (n < length x.order) × (has_begun x n ≡ true)
    old n b =
        let was : has_begun x n ≡ true = ap (λ q. is_running q || is_over q) (sym (phases-admitted n)) ∙ b in
        (subst (λ j. n < j) sound.as_many (begun_within x.phases n was), was)

    or_left' : (a b : Bool) → a ≡ true → (a || b) ≡ true
    or_left' true b h = refl
    or_left' false b h = absurd (true≢false (sym h))

    parents-admitted : HaveParents (has_ended (change x (Admits i o w))) (x.order ++ Line i o (session_at x i).subject w ∷ [])
    parents-admitted n lt = go (below_or_not n (length x.order))
      where
        f : ℕ → Bool
        f = has_ended (change x (Admits i o w))

        new : Entry
        new = Line i o (session_at x i).subject w

        last : length x.order ≤ n → length x.order ≡ n
        last ge = omega (arith, length-append x.order (new ∷ []))

        go : (n < length x.order) ⊎ (length x.order ≤ n) → HasParent f n (get_or (x.order ++ new ∷ []) n no_entry)
        go (inl below) = subst (HasParent f n) (sym (get_or-append x.order (new ∷ []) no_entry n below)) (parent-map (has_ended x) f n (get_or x.order n no_entry) (λ m e. ap is_over (phases-admitted m) ∙ e) (sound.parents n below))
        go (inr ge) = subst (λ j. HasParent f n (get_or (x.order ++ new ∷ []) j no_entry)) (last ge) (subst (HasParent f n) (sym (get_or-append_seam x.order new [] no_entry)) tt)

    pub sound-admitted : IsSound (change x (Admits i o w))
    sound-admitted = record {
      as_many = length-append x.phases (Waiting ∷ []) ∙ ap (λ j. j + 1) sound.as_many ∙ sym (length-append x.order (Line i o (session_at x i).subject w ∷ []));
      orderly = orderly-kept x (change x (Admits i o w)) sound.orderly (record {
        longer = omega (arith, length-append x.order (Line i o (session_at x i).subject w ∷ []));
        tasks = λ m lt. ap (λ p. p.task) (past-admitted m lt);
        ended = λ m lt e. ap is_over (phases-admitted m) ∙ e;
        begun = λ n lt b. ((old n b).0, inl (old n b).1);
      });
      parents = parents-admitted;
      allowed = λ n lt r.
          let was : runs x n ≡ true = ap is_running (sym (phases-admitted n)) ∙ r in
          let here : n < length x.order = (old n (or_left' (runs (change x (Admits i o w)) n) (has_ended (change x (Admits i o w)) n) r)).0 in
          ap (λ q. is_done q.answer) (past-admitted n here) ∙ sound.allowed n here was;
    }

-- each event keeps the invariant
pub sound-step : (x : State) (e : Event) → IsSound x → Needs x e → IsSound (change x e)
sound-step x (Opens s) sound needs = record { as_many = sound.as_many; orderly = sound.orderly; parents = sound.parents; allowed = sound.allowed }
sound-step x (Admits i o w) sound needs = sound-admitted x sound i o w
sound-step x (Starts k) sound may = sound-moved x (change x (Starts k)) k _ sound (moves-start x sound k may)
sound-step x (Ends k) sound running = sound-moved x (change x (Ends k)) k Ended sound (moves-end x sound k running)
sound-step x (Loses k) sound (inl running) =
    sound-moved x (with_phase x k Gone) k Gone sound (moves-lost x sound k (within x sound k running) (running_is_not_over (phase_at x k) running) (inl (or_left x sound k running (runs x k) (has_ended x k) running)))
sound-step x (Loses k) sound (inr may) =
    sound-moved x (with_phase x k Gone) k Gone sound (moves-lost x sound k may.there (waiting_is_not_over (phase_at x k) may.waits) (inr may.clear))

-- a trail keeps it
pub sound-trail : (x : State) (es : List Event) → IsSound x → IsTrail x es → IsSound (state_after x es)
sound-trail x [] sound t = sound
sound-trail x (e ∷ es) sound t = sound-trail (change x e) es (sound-step x e sound t.0) t.1

pub sound-start : (s : Setup) (limit : ℕ) → IsSound (start s limit)
sound-start s limit = record {
  as_many = refl;
  orderly = λ m n lt within b c. absurd (omega arith);
  parents = λ n lt. absurd (omega arith);
  allowed = λ n lt r. absurd (omega arith);
}

-- an event changes nothing that is said of a place that has ended
pub past-step : (x : State) (e : Event) → IsSound x → Needs x e → (n : ℕ) → n < length x.order → has_ended x n ≡ true → past_at (change x e) n ≡ past_at x n
past-step x (Opens s) sound needs n lt over = refl
past-step x (Admits i o w) sound needs n lt over = past-admitted x sound i o w n lt
past-step x (Starts k) sound may n lt over = past-started x sound k may n
past-step x (Ends k) sound running n lt over = past-ended x sound k running n lt
past-step x (Loses k) sound needs n lt over = go needs
  where
    other_than : has_ended x k ≡ false → n ≢ k
    other_than u same = true≢false (sym over ∙ ap (has_ended x) same ∙ u)

    go : (IsTrue (runs x k)) ⊎ (MayStart x k) → past_at (with_phase x k Gone) n ≡ past_at x n
    go (inl r) = let u : has_ended x k ≡ false = running_is_not_over (phase_at x k) r in past-lost x k sound (within x sound k r) u n lt (other_than u) (or_right (runs x n) (has_ended x n) over)
    go (inr may) = let u : has_ended x k ≡ false = waiting_is_not_over (phase_at x k) may.waits in past-lost x k sound may.there u n lt (other_than u) (or_right (runs x n) (has_ended x n) over)

-- an event changes nothing that is said of a place that has begun, but that its own loss ends it
pub past-begun : (x : State) (e : Event) → IsSound x → Needs x e → (n : ℕ) → n < length x.order → (runs x n || has_ended x n) ≡ true → (e ≡ Loses n → ⊥)
    → past_at (change x e) n ≡ past_at x n
past-begun x (Opens s) sound needs n lt begun other = refl
past-begun x (Admits i o w) sound needs n lt begun other = past-admitted x sound i o w n lt
past-begun x (Starts k) sound may n lt begun other = past-started x sound k may n
past-begun x (Ends k) sound running n lt begun other = past-ended x sound k running n lt
past-begun x (Loses k) sound needs n lt begun other = go needs
  where
    apart : n ≢ k
    apart same = other (ap Loses (sym same))

    go : (IsTrue (runs x k)) ⊎ (MayStart x k) → past_at (with_phase x k Gone) n ≡ past_at x n
    go (inl r) = past-lost x k sound (within x sound k r) (running_is_not_over (phase_at x k) r) n lt apart begun
    go (inr may) = past-lost x k sound may.there (waiting_is_not_over (phase_at x k) may.waits) n lt apart begun
