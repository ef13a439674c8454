-- What runs is lent what it was, as events come; and the slots tell it.
use Rattle.std.proofs.Common.{◌≡◌, ℕ, Bool, true, false, cond, List, [], ◌∷◌, map, refl, sym, ◌∙◌, ap, inl, inr, ◌⊎◌, true≢false}
use Rattle.std.specs.Prelude.{◌==◌, Option, Some, None}
use Rattle.std.proofs.lemmas.Bool.Decides.{eqb_tells}
use Rattle.bl_policy.specs.declared.access.Access.{Access}
use Rattle.bl_work.specs.declared.work.Work.{Work}
use Rattle.bl_order.specs.Headline.{IsReached}
use Rattle.bl_order.specs.Machine.{State, Event, Opens, Admits, Starts, Ends, Loses, Phase, Waiting, Running, Ended, Gone, MayStart, Needs, change, is_running, is_waiting, past_at, phase_at, runs}
use Rattle.bl_order.specs.Now.{content_at}
use Rattle.bl_order.specs.Order.{accesses_of, is_declared}
use Rattle.bl_order.specs.Past.{Past, is_done}
use Rattle.bl_order.specs.Running.{GoesOn}
use Rattle.bl_order.proofs.Conflicts.{or_left, or_right}
use Rattle.bl_order.proofs.Present.{moves-gone}
use Rattle.bl_order.proofs.Reached.{sound-reached}
use Rattle.bl_order.proofs.Running.{goes_on-reached, goes_on-started}
use Rattle.bl_order.proofs.Sound.{IsSound}
use Rattle.bl_order.proofs.Steps.{Moves, equal_self}
use Rattle.bl_order.proofs.Trails.{moves-end, moves-start, phases-admitted}
use Rattle.bl_core.specs.Answers.{loan_at, loan_of}
use Rattle.bl_eval.specs.Loan.{Loan}
use Rattle.bl_rebuild.specs.Unfinished.{AreLent, lent_in, slot_at}

-- two contents that are the same for what is declared are lent alike
lent_alike : (xs : List Access) (f g : ℕ → List ℕ) → ((o : ℕ) → is_declared xs o ≡ true → f o ≡ g o) → map (λ (a : Access). f a.doc) xs ≡ map (λ (a : Access). g a.doc) xs
lent_alike [] f g same = refl
lent_alike (a ∷ xs) f g same =
    ap (λ c. c ∷ map (λ (b : Access). f b.doc) xs) (same a.doc (or_left (a.doc == a.doc) (is_declared xs a.doc) (equal_self a.doc)))
    ∙ ap (λ l. g a.doc ∷ l) (lent_alike xs f g (λ o d. same o (or_right (a.doc == o) (is_declared xs o) d)))

-- what goes on is lent what it was lent
lent_still : (x y : State) (n : ℕ) → GoesOn x y n → loan_at y n ≡ loan_at x n
lent_still x y n goes =
    ap (λ (p : Past). loan_of n p.task (λ doc. content_at y doc n)) goes.past
    ∙ ap (λ l. record (loan_at x n) { inputs = l }) (lent_alike (accesses_of (past_at x n).task) (λ doc. content_at y doc n) (λ doc. content_at x doc n) goes.contents)

-- ---- one place

where-runs : (x : State) (n : ℕ) → runs x n ≡ true → lent_in x n ≡ Some (loan_at x n)
where-runs x n e = ap (λ b. cond b (Some (loan_at x n)) None) e

where-idle : (x : State) (n : ℕ) → runs x n ≡ false → lent_in x n ≡ None
where-idle x n e = ap (λ b. cond b (Some (loan_at x n)) None) e

same-lent : (x y : State) (n : ℕ) → runs y n ≡ runs x n → (runs x n ≡ true → loan_at y n ≡ loan_at x n) → lent_in y n ≡ lent_in x n
same-lent x y n same still = go (runs x n) refl
  where
    go : (b : Bool) → runs x n ≡ b → lent_in y n ≡ lent_in x n
    go true e = where-runs y n (same ∙ e) ∙ ap Some (still e) ∙ sym (where-runs x n e)
    go false e = where-idle y n (same ∙ e) ∙ sym (where-idle x n e)

-- what is lent tells whether the place runs
pub lent-runs : (x : State) (n : ℕ) (l : Loan) → lent_in x n ≡ Some l → (runs x n ≡ true) × (l ≡ loan_at x n)
lent-runs x n l h = go (runs x n) refl
  where
    same : (a b : Loan) → ◌≡◌ {A = Option Loan} (Some a) (Some b) → b ≡ a
    same a b q = cc

    none : ◌≡◌ {A = Option Loan} None (Some l) → ⊥
    none q = cc

    go : (b : Bool) → runs x n ≡ b → (runs x n ≡ true) × (l ≡ loan_at x n)
    go true e = (e, same (loan_at x n) l (sym (where-runs x n e) ∙ h))
    go false e = absurd (none (sym (where-idle x n e) ∙ h))

pub lent-idle : (x : State) (n : ℕ) → lent_in x n ≡ None → runs x n ≡ false
lent-idle x n h = go (runs x n) refl
  where
    some : (l : Loan) → ◌≡◌ {A = Option Loan} (Some l) None → ⊥
    some l q = cc

    go : (b : Bool) → runs x n ≡ b → runs x n ≡ false
    go true e = absurd (some (loan_at x n) (sym (where-runs x n e) ∙ h))
    go false e = e

-- what waits does not run
idle-waiting : (p : Phase) → is_waiting p ≡ true → is_running p ≡ false
idle-waiting Waiting h = refl
idle-waiting Running h = absurd (true≢false (sym h))
idle-waiting Ended h = absurd (true≢false (sym h))
idle-waiting Gone h = absurd (true≢false (sym h))

-- ---- one event

module _ (x : State) (reached : IsReached x) where
  sound : IsSound x
  sound = sound-reached x reached

  -- an event that is neither the end nor the loss of a place leaves what that is lent
  stays : (e : Event) (n : ℕ) → Needs x e → runs (change x e) n ≡ runs x n → (e ≡ Ends n → ⊥) → (e ≡ Loses n → ⊥) → lent_in (change x e) n ≡ lent_in x n
  stays e n needs same end loss = same-lent x (change x e) n same (λ running. lent_still x (change x e) n (goes_on-reached x e n reached needs running end loss))

  pub lent-opened : (s : ℕ) (slots : List (Option Loan)) → Needs x (Opens s) → AreLent x slots → AreLent (change x (Opens s)) slots
  lent-opened s slots needs lent n = lent n ∙ sym (stays (Opens s) n needs refl (λ h. cc) (λ h. cc))

  pub lent-admitted : (i o : ℕ) (w : Work) (slots : List (Option Loan)) → Needs x (Admits i o w) → AreLent x slots → AreLent (change x (Admits i o w)) slots
  lent-admitted i o w slots needs lent n = lent n ∙ sym (stays (Admits i o w) n needs (ap is_running (phases-admitted x sound i o w n)) (λ h. cc) (λ h. cc))

  -- one place moves, and what stands in its slot with it
  moved : (e : Event) (k : ℕ) (p : Phase) → Needs x e → Moves x (change x e) k p → ((m : ℕ) → (m ≡ k → ⊥) → (e ≡ Ends m → ⊥) × (e ≡ Loses m → ⊥))
      → (slots later : List (Option Loan)) (o : Option Loan) → AreLent x slots → o ≡ lent_in (change x e) k
      → ((m : ℕ) → slot_at later m ≡ cond (m == k) o (slot_at slots m)) → AreLent (change x e) later
  moved e k p needs moves others slots later o lent here is m = go (eqb_tells m k)
    where
      go : (((m == k) ≡ true) × (m ≡ k)) ⊎ (((m == k) ≡ false) × (m ≡ k → ⊥)) → slot_at later m ≡ lent_in (change x e) m
      go (inl t) = is m ∙ ap (λ b. cond b o (slot_at slots m)) t.0 ∙ here ∙ ap (lent_in (change x e)) (sym t.1)
      go (inr t) =
          is m ∙ ap (λ b. cond b o (slot_at slots m)) t.0 ∙ lent m
          ∙ sym (stays e m needs (ap is_running (moves.phases m ∙ ap (λ b. cond b p (phase_at x m)) t.0)) (others m t.1).0 (others m t.1).1)

  -- the phase of the place that moves
  phase-moved : (e : Event) (k : ℕ) (p : Phase) → Moves x (change x e) k p → phase_at (change x e) k ≡ p
  phase-moved e k p moves = moves.phases k ∙ ap (λ b. cond b p (phase_at x k)) (equal_self k)

  other-start : (k m : ℕ) → (Starts k ≡ Ends m → ⊥) × (Starts k ≡ Loses m → ⊥)
  other-start k m = ((λ h. cc), (λ h. cc))

  -- a place starts to run
  pub lent-run : (k : ℕ) (slots later : List (Option Loan)) (l : Loan) → MayStart x k → is_done (past_at x k).answer ≡ true → l ≡ loan_at x k → AreLent x slots
      → ((m : ℕ) → slot_at later m ≡ cond (m == k) (Some l) (slot_at slots m)) → AreLent (change x (Starts k)) later
  lent-run k slots later l may done is lent set =
      let goes : GoesOn x (change x (Starts k)) k = goes_on-started x k sound may done in
      moved (Starts k) k (cond (is_done (past_at x k).answer) Running Ended) may (moves-start x sound k may) (λ m ne. other-start k m) slots later (Some l) lent
      (ap Some (is ∙ sym (lent_still x (change x (Starts k)) k goes)) ∙ sym (where-runs (change x (Starts k)) k goes.running)) set

  -- the slot of a place that waits has nothing
  none-waits : (k : ℕ) (slots : List (Option Loan)) → MayStart x k → AreLent x slots → slot_at slots k ≡ None
  none-waits k slots may lent = lent k ∙ where-idle x k (idle-waiting (phase_at x k) may.waits)

  -- a place ends with its start
  pub lent-begun : (k : ℕ) (slots : List (Option Loan)) → MayStart x k → is_done (past_at x k).answer ≡ false → AreLent x slots → AreLent (change x (Starts k)) slots
  lent-begun k slots may done lent =
      moved (Starts k) k (cond (is_done (past_at x k).answer) Running Ended) may (moves-start x sound k may) (λ m ne. other-start k m) slots slots None lent
      (sym (where-idle (change x (Starts k)) k
      (ap is_running (phase-moved (Starts k) k _ (moves-start x sound k may) ∙ ap (λ b. cond b Running Ended) done))))
      (λ m. same m (eqb_tells m k))
    where
      same : (m : ℕ) → (((m == k) ≡ true) × (m ≡ k)) ⊎ (((m == k) ≡ false) × (m ≡ k → ⊥)) → slot_at slots m ≡ cond (m == k) None (slot_at slots m)
      same m (inl t) = ap (slot_at slots) t.1 ∙ none-waits k slots may lent ∙ sym (ap (λ b. cond b None (slot_at slots m)) t.0)
      same m (inr t) = sym (ap (λ b. cond b None (slot_at slots m)) t.0)

  ends-one : (k m : ℕ) → Ends k ≡ Ends m → m ≡ k
  ends-one k m h = cc

  loses-one : (k m : ℕ) → Loses k ≡ Loses m → m ≡ k
  loses-one k m h = cc

  pub lent-ended : (k : ℕ) (slots later : List (Option Loan)) → runs x k ≡ true → AreLent x slots
      → ((m : ℕ) → slot_at later m ≡ cond (m == k) None (slot_at slots m)) → AreLent (change x (Ends k)) later
  lent-ended k slots later running lent set =
      moved (Ends k) k Ended running (moves-end x sound k running) (λ m ne. ((λ h. ne (ends-one k m h)), (λ h. cc))) slots later None lent
      (sym (where-idle (change x (Ends k)) k (ap is_running (phase-moved (Ends k) k Ended (moves-end x sound k running))))) set

  pub lent-lost : (k : ℕ) (slots later : List (Option Loan)) → Needs x (Loses k) → AreLent x slots
      → ((m : ℕ) → slot_at later m ≡ cond (m == k) None (slot_at slots m)) → AreLent (change x (Loses k)) later
  lent-lost k slots later needs lent set =
      moved (Loses k) k Gone needs (moves-gone x k sound needs) (λ m ne. ((λ h. cc), (λ h. ne (loses-one k m h)))) slots later None lent
      (sym (where-idle (change x (Loses k)) k (ap is_running (phase-moved (Loses k) k Gone (moves-gone x k sound needs))))) set
