-- What a monitor that is told of later losses says of a place in a state that knows nothing of them.
use Rattle.std.proofs.Common.{◌≡◌, ℕ, zero, suc, ◌<◌, ◌≤◌, Bool, true, false, cond, ◌&&◌, not, List, [], ◌∷◌, length, map, take, get_or, refl, sym, ◌∙◌, ap, inl, inr, arith, ◌⊎◌, true≢false}
use Rattle.std.specs.Prelude.{◌==◌, Option, Some, None, nat_lt, is_none}
use Rattle.std.proofs.lemmas.Bool.Decides.{eqb_tells, nat_tests}
use Rattle.bl_level.specs.Level.{SecurityLevel}
use Rattle.bl_policy.specs.Policy.{SecurityPolicy}
use Rattle.bl_policy.specs.FirstFault.{first_fault}
use Rattle.bl_policy.specs.declared.denial.Denial.{Denial}
use Rattle.bl_work.specs.Effects.{Effect}
use Rattle.bl_work.specs.declared.work.Work.{Work}
use Rattle.bl_setup.specs.Setup.{Setup}
use Rattle.bl_setup.specs.declared.version.Version.{Version}
use Rattle.bl_setup.specs.declared.version.Version.TheVariants.{One, Two}
use Rattle.bl_order.specs.Order.{Entry, Line, Child, unnamed, Task, Runs, Applies, accesses_of, is_rule}
use Rattle.bl_order.specs.Past.{Past, earlier, place, past_of, no_entry, is_done, subject_of, carried_of, task_of, policy_of, deeds, content_of, judged, answer_of, fault_of_task}
use Rattle.bl_order.specs.Machine.{State, past_at, is_lost, has_ended}
use Rattle.bl_order.specs.AtHand.{IsAtHand, RestsOnEndedPlaces}
use Rattle.bl_monitor.specs.Heard.{Heard, place_at, heard_policy_at, fault_of}
use Rattle.bl_monitor.specs.Heard as heard
use Rattle.std.proofs.lemmas.List.{length-map}
use Rattle.bl_replay.specs.Told.{IsTold}
use Rattle.bl_replay.specs.Marks.{AreForetold}

-- ---- an order without its sessions and ordinals

carried-unnamed : (v : Version) (h : List Past) (session ordinal subject : ℕ) (work : Work)
    → carried_of v h (Line 0 0 subject work) ≡ carried_of v h (Line session ordinal subject work)
carried-unnamed One h session ordinal subject work = refl
carried-unnamed Two h session ordinal subject work = refl

past-unnamed : (s : Setup) (lost : Bool) (h : List Past) (e : Entry) → past_of s lost h (unnamed e) ≡ past_of s lost h e
past-unnamed s lost h (Line session ordinal subject work) =
    ap (λ c. judged lost (policy_of s h) (deeds (task_of h (Line 0 0 subject work)) (content_of s h)) subject c (task_of h (Line 0 0 subject work)))
    (carried-unnamed s.version h session ordinal subject work)
past-unnamed s lost h (Child parent which) = refl

pub get-unnamed : (A : List Entry) (n : ℕ) → get_or (map unnamed A) n no_entry ≡ unnamed (get_or A n no_entry)
get-unnamed [] n = refl
get-unnamed (x ∷ A) zero = refl
get-unnamed (x ∷ A) (suc n) = get-unnamed A n

get-first : (A : List Entry) (k n : ℕ) → n < k → get_or (take k A) n no_entry ≡ get_or A n no_entry
get-first A zero n lt = absurd (omega arith)
get-first [] (suc k) n lt = refl
get-first (x ∷ A) (suc k) zero lt = refl
get-first (x ∷ A) (suc k) (suc n) lt = get-first A k n (omega arith)

-- two orders and two sets of lost places that say the same of each place before n
module _ (s : Setup) (l m : ℕ → Bool) (A B : List Entry) where
  abbrev pub IsSame : ℕ → Type 0
  IsSame k = (l k ≡ m k) × ((h : List Past) (b : Bool) → past_of s b h (get_or A k no_entry) ≡ past_of s b h (get_or B k no_entry))

  earlier-same : (n : ℕ) → ((k : ℕ) → k < n → IsSame k) → earlier s l A n ≡ earlier s m B n
  earlier-same zero same = refl
  earlier-same (suc n) same =
      ap (λ p. p ∷ earlier s l A n) ((same n (omega arith)).1 (earlier s l A n) (l n))
      ∙ ap (λ h. past_of s (l n) h (get_or B n no_entry) ∷ h) (earlier-same n (λ k lt. same k (omega arith)))
      ∙ ap (λ b. past_of s b (earlier s m B n) (get_or B n no_entry) ∷ earlier s m B n) (same n (omega arith)).0

  pub place-same : (n : ℕ) → ((k : ℕ) → k < suc n → IsSame k) → place s l A n ≡ place s m B n
  place-same n same =
      (same n (omega arith)).1 (earlier s l A n) (l n)
      ∙ ap (λ h. past_of s (l n) h (get_or B n no_entry)) (earlier-same n (λ k lt. same k (omega arith)))
      ∙ ap (λ b. past_of s b (earlier s m B n) (get_or B n no_entry)) (same n (omega arith)).0

-- ---- what a monitor says of a place

module _ (setup : Setup) (marks : ℕ → Bool) (order : List Entry) (h : Heard) (told : IsTold setup marks (map unnamed order) h) where
  told-entry : (k : ℕ) → k < length h.order → (p : List Past) (b : Bool) → past_of setup b p (get_or h.order k no_entry) ≡ past_of setup b p (get_or order k no_entry)
  told-entry k lt p b =
      ap (λ A. past_of setup b p (get_or A k no_entry)) told.told
      ∙ ap (past_of setup b p) (get-first (map unnamed order) (length h.order) k lt)
      ∙ ap (past_of setup b p) (get-unnamed order k)
      ∙ past-unnamed setup b p (get_or order k no_entry)

  -- the record of a place that it was told is the order's, by the marks
  pub told-place : (n : ℕ) → n < length h.order → place_at h n ≡ place setup marks order n
  told-place n lt =
      ap (λ s. place s (heard.is_lost h) h.order n) told.setup_is
      ∙ place-same setup (heard.is_lost h) marks h.order order n (λ k le. (told.marked k (omega arith), told-entry k (omega arith)))

  told-earlier : (n : ℕ) → n < length h.order → earlier h.setup (heard.is_lost h) h.order n ≡ earlier setup marks order n
  told-earlier n lt =
      ap (λ s. earlier s (heard.is_lost h) h.order n) told.setup_is
      ∙ earlier-same setup (heard.is_lost h) marks h.order order n (λ k le. (told.marked k (omega arith), told-entry k (omega arith)))

-- ---- a place that is not lost, or lost later

-- the marks, but for one place
abbrev spared : (ℕ → Bool) → ℕ → ℕ → Bool
spared marks n k = marks k && not (k == n)

other : (k n : ℕ) → k < n → (k == n) ≡ false
other k n lt = grind (arith, nat_tests)

below : (k n : ℕ) → k < n → nat_lt k n ≡ true
below k n lt = grind (arith, nat_tests)

itself : (n : ℕ) → (n == n) ≡ true
itself n = grind (arith, nat_tests)

and_true : (b c : Bool) → c ≡ false → (b && not c) ≡ b
and_true true c h = ap not h
and_true false c h = refl

and_false : (b c : Bool) → c ≡ true → (b && not c) ≡ false
and_false true c h = ap not h
and_false false c h = refl

-- whether a task would run, by what the policy has against its accesses
would_run : (f : Option Denial) (t : Task) (es : List Effect) (p : SecurityPolicy) (u : ℕ) (c : SecurityLevel) → fault_of_task p u c t ≡ f
    → is_done (answer_of false f t es) ≡ (not (is_rule t) && is_none (first_fault p u c (accesses_of t)))
would_run (Some d) (Runs script index) es p u c is = ap is_none (sym is)
would_run None (Runs script index) es p u c is = ap is_none (sym is)
would_run (Some d) (Applies rule) es p u c is = refl
would_run None (Applies rule) es p u c is = refl

module _ (x : State) (rests : RestsOnEndedPlaces x) (marks : ℕ → Bool) (foretold : AreForetold marks x) (h : Heard) (told : IsTold x.setup marks (map unnamed x.order) h)
    (n : ℕ) (within : n < length h.order) (hand : IsAtHand x n) where
  -- THE FIRST HALF: of a place that ended so, or is not lost later, the monitor's record is the state's
  pub told-now : is_lost x n ≡ marks n → place_at h n ≡ past_at x n
  told-now same =
      let le : length h.order ≤ length x.order = omega (arith, told.few, length-map x.order unnamed) in
      told-place x.setup marks x.order h told n within ∙ sym (rests marks foretold n (omega arith) hand same)

  -- THE SECOND HALF: of a place that has not ended and is lost later, the fault that the monitor tells says whether it runs now
  module _ (unended : has_ended x n ≡ false) (kept : is_lost x n ≡ false) (later : marks n ≡ true) where
    spared-foretold : AreForetold (spared marks n) x
    spared-foretold k over = go (eqb_tells k n)
      where
        go : (((k == n) ≡ true) × (k ≡ n)) ⊎ (((k == n) ≡ false) × (k ≡ n → ⊥)) → is_lost x k ≡ (marks k && not (k == n))
        go (inl t) = absurd (true≢false (sym (ap (has_ended x) (sym t.1) ∙ over) ∙ unended))
        go (inr t) = foretold k over ∙ sym (and_true (marks k) (k == n) t.0)

    -- the record that the state has of the place
    now : past_at x n ≡ past_of x.setup false (earlier x.setup marks x.order n) (get_or x.order n no_entry)
    now =
        let le : length h.order ≤ length x.order = omega (arith, told.few, length-map x.order unnamed) in
        rests (spared marks n) spared-foretold n (omega arith) hand (kept ∙ sym (and_false (marks n) (n == n) (itself n)))
        ∙ ap (λ b. past_of x.setup b (earlier x.setup (spared marks n) x.order n) (get_or x.order n no_entry)) (and_false (marks n) (n == n) (itself n))
        ∙ ap (λ p. past_of x.setup false p (get_or x.order n no_entry))
        (earlier-same x.setup (spared marks n) marks x.order x.order n (λ k lt. (and_true (marks k) (k == n) (other k n lt), λ p b. refl)))

    -- who speaks and what is done, and the policy at the place, are the monitor's
    before : List Past
    before = earlier x.setup marks x.order n

    entry : Entry
    entry = get_or x.order n no_entry

    pub told-task : (place_at h n).task ≡ (past_at x n).task
    told-task = ap (λ p. p.task) (told-place x.setup marks x.order h told n within) ∙ sym (ap (λ p. p.task) now)

    carried : SecurityLevel
    carried = carried_of x.setup.version before entry

    told-fault : fault_of h n ≡ first_fault (policy_of x.setup before) (subject_of before entry) carried (accesses_of (task_of before entry))
    unfolding before entry carried
    told-fault =
        ap (λ b. cond b (first_fault (heard_policy_at h n) (place_at h n).subject (place_at h n).carried (accesses_of (place_at h n).task)) None) (below n (length h.order) within)
        ∙ ap (λ (p : Past). first_fault (heard_policy_at h n) p.subject p.carried (accesses_of p.task)) (told-place x.setup marks x.order h told n within)
        ∙ ap (λ (s : Setup). first_fault (policy_of s (earlier h.setup (heard.is_lost h) h.order n)) (subject_of before entry) carried (accesses_of (task_of before entry))) told.setup_is
        ∙ ap (λ p. first_fault (policy_of x.setup p) (subject_of before entry) carried (accesses_of (task_of before entry))) (told-earlier x.setup marks x.order h told n within)

    pub runs-now : is_done (past_at x n).answer ≡ (not (is_rule (past_at x n).task) && is_none (fault_of h n))
    unfolding before entry carried
    runs-now =
        ap (λ p. is_done p.answer) now
        ∙ would_run (fault_of_task (policy_of x.setup before) (subject_of before entry) carried (task_of before entry)) (task_of before entry)
        (deeds (task_of before entry) (content_of x.setup before)) (policy_of x.setup before) (subject_of before entry) carried refl
        ∙ ap (λ f. not (is_rule (task_of before entry)) && is_none f) (sym told-fault)
        ∙ ap (λ (t : Task). not (is_rule t) && is_none (fault_of h n)) (sym (ap (λ p. p.task) now))
