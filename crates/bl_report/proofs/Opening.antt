-- What the items tell to be open is what is held.
use Rattle.std.proofs.Common.{◌≡◌, ℕ, zero, suc, ◌+◌, ◌≤◌, ◌<◌, Bool, true, false, cond, ◌&&◌, ◌||◌, ◌⊎◌, List, [], ◌∷◌, ◌++◌, length, map, Option, Some, None, refl, sym, ◌∙◌, ap, subst, inl, inr, arith, true≢false, length-append, append_assoc, append-nil}
use Rattle.std.specs.Prelude.{◌==◌, nat_le, nat_lt, take, option_map, option_to_list, IsTrue}
use Rattle.std.proofs.lemmas.Bool.Decides.{nat_tests, eqb_tells}
use Rattle.bl_policy.specs.declared.access.Access.{Access}
use Rattle.bl_policy.specs.declared.denial.Clause.{Clause}
use Rattle.bl_work.specs.Modes.{alters}
use Rattle.bl_work.specs.declared.answer.Answer.{Answer}
use Rattle.bl_work.specs.declared.answer.Answer.TheVariants as answer
use Rattle.bl_setup.specs.Setup.{Setup}
use Rattle.bl_order.specs.Order.{Entry, Task, Runs, Applies, accesses_of}
use Rattle.bl_order.specs.Past.{Past, is_done}
use Rattle.bl_order.specs.Machine.{State, Event, Opens, Admits, Starts, Ends, Loses, Hold, IsTrail, MayStart, Needs, Phase, Waiting, Running, Ended, Gone, change, children_at, has_ended, held, held_below, is_running, is_waiting, past_at, phase_at, runs, start, state_after, with_phase}
use Rattle.bl_order.proofs.Sound.{IsSound}
use Rattle.bl_order.proofs.Steps.{past-alike, running_is_not_over, waiting_is_not_over}
use Rattle.bl_order.proofs.Trails.{past-admitted, past-ended, past-started, sound-start, sound-step, within}
use Rattle.bl_hall.specs.Chronicle.{Chronicle, state_now, with_event}
use Rattle.bl_report.specs.Items.{altering, ended_at, ends_it, entering, item_of, items_at, judged_at, report_items, right_since, starting, told, unbegun}
use Rattle.bl_report.specs.Opened.{held_at, is_before, is_within, open_below, open_of, opened_by}
use Rattle.bl_report.specs.declared.item.Blame.{Blame}
use Rattle.bl_report.specs.declared.item.Happening.TheVariants.{Held, Denied}
use Rattle.bl_report.specs.declared.item.ReportItem.{ReportItem}
use Rattle.bl_report.proofs.Running.{ended-idle, one-step, over-now, over-step}

-- the state behind one event more
pub state-more : (x : State) (es : List Event) (e : Event) → state_after x (es ++ e ∷ []) ≡ change (state_after x es) e
state-more x [] e = refl
state-more x (f ∷ es) e = state-more (change x f) es e

pub state-with : (h : Chronicle) (e : Event) → state_now (with_event h e) ≡ change (state_now h) e
state-with h e = state-more (start h.setup h.limit) h.trail e

-- ---- what is held

-- who speaks at a place and what it does
record IsSame (p q : Past) : Type 0 where
  subject : p.subject ≡ q.subject
  task : p.task ≡ q.task

abbrev piece : Past → List Hold
piece past = map (λ (a : Access). record { subject = past.subject; doc = a.doc; mode = a.mode }) (accesses_of past.task)

same-piece : (a b : Past) → IsSame a b → piece a ≡ piece b
same-piece a b s =
    ap (λ who. map (λ (acc : Access). record { subject = who; doc = acc.doc; mode = acc.mode }) (accesses_of a.task)) s.subject
    ∙ ap (λ t. map (λ (acc : Access). record { subject = b.subject; doc = acc.doc; mode = acc.mode }) (accesses_of t)) s.task

of-equal : (p q : Past) → p ≡ q → IsSame p q
of-equal p q e = record { subject = ap (λ r. r.subject) e; task = ap (λ r. r.task) e }

-- an event leaves that alone
same-step : (x : State) (e : Event) → IsSound x → Needs x e → (n : ℕ) → n < length x.order → IsSame (past_at (change x e) n) (past_at x n)
same-step x (Opens s) sound needs n lt = record { subject = refl; task = refl }
same-step x (Admits i o w) sound needs n lt = of-equal _ _ (past-admitted x sound i o w n lt)
same-step x (Starts k) sound may n lt = of-equal _ _ (past-started x sound k may n)
same-step x (Ends k) sound running n lt = of-equal _ _ (past-ended x sound k running n lt)
same-step x (Loses k) sound needs n lt = go needs
  where
    go : IsTrue (runs x k) ⊎ MayStart x k → IsSame (past_at (with_phase x k Gone) n) (past_at x n)
    go (inl r) =
        let alike = past-alike x k sound (within x sound k r) (running_is_not_over (phase_at x k) r) n lt in
        record { subject = sym alike.subject; task = sym alike.task }
    go (inr may) =
        let alike = past-alike x k sound may.there (waiting_is_not_over (phase_at x k) may.waits) n lt in
        record { subject = sym alike.subject; task = sym alike.task }

-- what a place holds stays so while whether it runs does
kept-held : (x : State) (e : Event) → IsSound x → Needs x e → (n : ℕ) (b : Bool) → runs x n ≡ b → runs (change x e) n ≡ runs x n
    → held_at x n ≡ held_at (change x e) n
kept-held x e sound needs n true r same =
    ap (λ b. cond b (piece (past_at x n)) []) r
    ∙ sym (same-piece (past_at (change x e) n) (past_at x n) (same-step x e sound needs n (within x sound n r)))
    ∙ sym (ap (λ b. cond b (piece (past_at (change x e) n)) []) (same ∙ r))
kept-held x e sound needs n false r same =
    ap (λ b. cond b (piece (past_at x n)) []) r ∙ sym (ap (λ b. cond b (piece (past_at (change x e) n)) []) (same ∙ r))

waits-idle : (p : Phase) → is_waiting p ≡ true → is_running p ≡ false
waits-idle Waiting w = refl
waits-idle Running w = absurd (cc)
waits-idle Ended w = absurd (cc)
waits-idle Gone w = absurd (cc)

-- what an event begins to be held by a place
abbrev pub begun : State → ℕ → Event → List Hold
begun x n (Opens s) = []
begun x n (Admits i o w) = []
begun x n (Starts k) = cond (n == k) (cond (is_done (past_at x k).answer) (piece (past_at x k)) []) []
begun x n (Ends k) = []
begun x n (Loses k) = []

-- what a place holds behind an event that does not end it
held-step : (x : State) (e : Event) → IsSound x → Needs x e → (n : ℕ) → ends_it n e ≡ false → held_at x n ++ begun x n e ≡ held_at (change x e) n
held-step x (Opens s) sound needs n none = append-nil (held_at x n)
held-step x (Admits i o w) sound needs n none =
    append-nil (held_at x n) ∙ kept-held x (Admits i o w) sound needs n (runs x n) refl (one-step x (Admits i o w) sound needs n)
held-step x (Starts k) sound may n none = by (eqb_tells n k)
  where
    e : Event
    e = Starts k

    by : (((n == k) ≡ true) × (n ≡ k)) ⊎ (((n == k) ≡ false) × (n ≡ k → ⊥)) → held_at x n ++ begun x n (Starts k) ≡ held_at (change x (Starts k)) n
    by (inl s) =
        let idle : runs x n ≡ false = ap (runs x) s.1 ∙ waits-idle (phase_at x k) may.waits in
        let now : runs (change x (Starts k)) n ≡ is_done (past_at x k).answer =
        one-step x (Starts k) sound may n ∙ ap (λ b. cond b (is_done (past_at x k).answer) (runs x n)) s.0 in
        let same : past_at (change x (Starts k)) n ≡ past_at x k = past-started x sound k may n ∙ ap (past_at x) s.1 in
        ap (λ b. cond b (piece (past_at x n)) [] ++ begun x n (Starts k)) idle
        ∙ ap (λ b. cond b (cond (is_done (past_at x k).answer) (piece (past_at x k)) []) []) s.0
        ∙ sym (ap (λ b. cond b (piece (past_at (change x (Starts k)) n)) []) now ∙ ap (λ q. cond (is_done (past_at x k).answer) (piece q) []) same)
    by (inr s) =
        ap (λ b. held_at x n ++ cond b (cond (is_done (past_at x k).answer) (piece (past_at x k)) []) []) s.0
        ∙ append-nil (held_at x n)
        ∙ kept-held x (Starts k) sound may n (runs x n) refl
        (one-step x (Starts k) sound may n ∙ ap (λ b. cond b (is_done (past_at x k).answer) (runs x n)) s.0)
held-step x (Ends k) sound running n none =
    append-nil (held_at x n)
    ∙ kept-held x (Ends k) sound running n (runs x n) refl (one-step x (Ends k) sound running n ∙ ap (λ b. cond b false (runs x n)) none)
held-step x (Loses k) sound needs n none =
    append-nil (held_at x n)
    ∙ kept-held x (Loses k) sound needs n (runs x n) refl (one-step x (Loses k) sound needs n ∙ ap (λ b. cond b false (runs x n)) none)

abbrev no_hold : List Hold
no_hold = []

neither : (b : Bool) → cond b no_hold no_hold ≡ no_hold
neither true = refl
neither false = refl

-- ---- what the items of one event tell

pub open-append : (p n : ℕ) (a b : List ReportItem) → open_of p n (a ++ b) ≡ open_of p n a ++ open_of p n b
open-append p n [] b = refl
open-append p n (item ∷ a) b =
    ap (λ l. opened_by p n item.event item.subject item.happening ++ l) (open-append p n a b)
    ∙ sym (append_assoc (opened_by p n item.event item.subject item.happening) (open_of p n a) (open_of p n b))

-- what an item tells that a place may hold
tells-choice : (b : Bool) (item : ReportItem) (p n : ℕ) (l : List ReportItem) → opened_by p n item.event item.subject item.happening ≡ [] → open_of p n l ≡ []
    → open_of p n (cond b (item ∷ []) [] ++ l) ≡ []
tells-choice true item p n l own e = ap (λ k. k ++ open_of p n l) own ∙ e
tells-choice false item p n l own e = e

module _ (p n : ℕ) (until : ℕ → Option ℕ) (since : ℕ → Access → Option ℕ) (x : State) (number : ℕ) where
  entering-none : (subject place : ℕ) (entries : List Entry) → open_of p n (entering until since x number subject place entries) ≡ []
  entering-none subject place [] = refl
  entering-none subject place (entry ∷ entries) = entering-none subject (suc place) entries

  altering-none : (k : ℕ) (past : Past) (accesses : List Access) → open_of p n (altering until since x number k past accesses) ≡ []
  altering-none k past [] = refl
  altering-none k past (access ∷ rest) =
      tells-choice (alters access.mode) _ p n (altering until since x number k past rest) refl (altering-none k past rest)

  denied-none : (k : ℕ) (past : Past) (clause : Clause) (o : Option Blame)
      → open_of p n (option_to_list (option_map (λ blame. item_of until since x number past.subject (Denied k clause blame)) o)) ≡ []
  denied-none k past clause None = refl
  denied-none k past clause (Some blame) = refl

  -- whether place k, begun with this event, is place n and holds after p events
  abbrev holds : ℕ → Bool
  holds k = (n == k) && is_within p number (until k)

  held-open : (k : ℕ) (past : Past) (b : Bool) → holds k ≡ b → (accesses : List Access)
      → open_of p n (map (λ access. item_of until since x number past.subject (Held k (judged_at until since x number past access) (until k))) accesses)
      ≡ cond b (map (λ (a : Access). record { subject = past.subject; doc = a.doc; mode = a.mode }) accesses) []
  held-open k past true e [] = refl
  held-open k past false e [] = refl
  held-open k past true e (a ∷ rest) =
      ap (λ c. cond c (record { subject = past.subject; doc = a.doc; mode = a.mode } ∷ []) [] ++ open_of p n (more rest)) e
      ∙ ap (λ l. record { subject = past.subject; doc = a.doc; mode = a.mode } ∷ l) (held-open k past true e rest)
    where
      more : List Access → List ReportItem
      more l = map (λ access. item_of until since x number past.subject (Held k (judged_at until since x number past access) (until k))) l
  held-open k past false e (a ∷ rest) =
      ap (λ c. cond c (record { subject = past.subject; doc = a.doc; mode = a.mode } ∷ []) [] ++ open_of p n (more rest)) e
      ∙ held-open k past false e rest
    where
      more : List Access → List ReportItem
      more l = map (λ access. item_of until since x number past.subject (Held k (judged_at until since x number past access) (until k))) l

  -- where the place holds nothing that begins with this event
  none-started : (k : ℕ) (past : Past) → holds k ≡ false → (a : Answer) (task : Task) → open_of p n (starting until since x number k past a task) ≡ []
  none-started k past none (answer.Done shown) task = held-open k past false none (accesses_of task)
  none-started k past none answer.RuleDone (Runs script index) = refl
  none-started k past none answer.RuleDone (Applies rule) = refl
  none-started k past none (answer.Denied denial) task = denied-none k past denial.clause _
  none-started k past none answer.Lost task = refl

  ending-none : (k : ℕ) → open_of p n (items_at until since x number (Ends k)) ≡ []
  ending-none k =
      open-append p n (altering until since x number k (past_at x k) (accesses_of (past_at x k).task)) _
      ∙ ap (λ l. l ++ open_of p n (entering until since x number (past_at x k).subject (length x.order) (children_at x k)))
      (altering-none k (past_at x k) (accesses_of (past_at x k).task))
      ∙ entering-none (past_at x k).subject (length x.order) (children_at x k)

  none-at : ((k : ℕ) → holds k ≡ false) → (e : Event) → open_of p n (items_at until since x number e) ≡ []
  none-at none (Opens s) = refl
  none-at none (Admits i o w) = refl
  none-at none (Starts k) = none-started k (past_at x k) (none k) (past_at x k).answer (past_at x k).task
  none-at none (Ends k) = ending-none k
  none-at none (Loses k) = refl

  -- where it holds what begins with this event
  some-started : (k : ℕ) (past : Past) → holds k ≡ (n == k) → (a : Answer) (task : Task) → past.task ≡ task
      → open_of p n (starting until since x number k past a task) ≡ cond (n == k) (cond (is_done a) (piece past) []) []
  some-started k past some (answer.Done shown) task is =
      held-open k past (n == k) some (accesses_of task)
      ∙ ap (λ t. cond (n == k) (map (λ (acc : Access). record { subject = past.subject; doc = acc.doc; mode = acc.mode }) (accesses_of t)) []) (sym is)
  some-started k past some answer.RuleDone (Runs script index) is = sym (neither (n == k))
  some-started k past some answer.RuleDone (Applies rule) is = sym (neither (n == k))
  some-started k past some (answer.Denied denial) task is = denied-none k past denial.clause _ ∙ sym (neither (n == k))
  some-started k past some answer.Lost task is = sym (neither (n == k))

  some-at : ((k : ℕ) → holds k ≡ (n == k)) → (e : Event) → open_of p n (items_at until since x number e) ≡ begun x n e
  some-at some (Opens s) = refl
  some-at some (Admits i o w) = refl
  some-at some (Starts k) = some-started k (past_at x k) (some k) (past_at x k).answer (past_at x k).task refl
  some-at some (Ends k) = ending-none k
  some-at some (Loses k) = refl

-- ---- where a place ends among the events

-- whether one of the events ends the place
abbrev pub is_ended : ℕ → List Event → Bool
is_ended n [] = false
is_ended n (e ∷ es) = ends_it n e || is_ended n es

before-later : (q c : ℕ) → q ≤ c → nat_lt q (suc c) ≡ true
before-later q c h = grind (arith, nat_tests)

not-before : (q c : ℕ) → c < q → nat_lt q (suc c) ≡ false
not-before q c h = grind (arith, nat_tests)

module _ (n : ℕ) where
  -- events behind q events end it later
  later : (q c : ℕ) → q ≤ c → (es : List Event) → is_before q (ended_at n c es) ≡ true
  later q c h [] = refl
  later q c h (e ∷ es) = by (ends_it n e) (later q (suc c) (omega (arith, h)) es)
    where
      by : (b : Bool) → is_before q (ended_at n (suc c) es) ≡ true → is_before q (cond b (Some (suc c)) (ended_at n (suc c) es)) ≡ true
      by true r = before-later q c h
      by false r = r

  still-open : (c k : ℕ) (es : List Event) → is_ended n (take k es) ≡ false → is_before (c + k) (ended_at n c es) ≡ true
  still-open c zero es none = later (c + zero) c (omega arith) es
  still-open c (suc k) [] none = refl
  still-open c (suc k) (e ∷ es) none = by (ends_it n e) none (still-open (suc c) k es)
    where
      by : (b : Bool) → (b || is_ended n (take k es)) ≡ false
          → (is_ended n (take k es) ≡ false → is_before (suc c + k) (ended_at n (suc c) es) ≡ true)
          → is_before (c + suc k) (cond b (Some (suc c)) (ended_at n (suc c) es)) ≡ true
      by true h behind = absurd (true≢false h)
      by false h behind =
          let same : c + suc k ≡ suc c + k = omega arith in
          ap (λ q. is_before q (ended_at n (suc c) es)) same ∙ behind h

  now-closed : (c k : ℕ) (es : List Event) → is_ended n (take k es) ≡ true → is_before (c + k) (ended_at n c es) ≡ false
  now-closed c zero es some = absurd (true≢false (sym some))
  now-closed c (suc k) [] some = absurd (true≢false (sym some))
  now-closed c (suc k) (e ∷ es) some = by (ends_it n e) some (now-closed (suc c) k es)
    where
      by : (b : Bool) → (b || is_ended n (take k es)) ≡ true
          → (is_ended n (take k es) ≡ true → is_before (suc c + k) (ended_at n (suc c) es) ≡ false)
          → is_before (c + suc k) (cond b (Some (suc c)) (ended_at n (suc c) es)) ≡ false
      by true h behind = not-before (c + suc k) c (omega arith)
      by false h behind =
          let same : c + suc k ≡ suc c + k = omega arith in
          ap (λ q. is_before q (ended_at n (suc c) es)) same ∙ behind h

  -- and what was ended does not run
  over-on : (x : State) (es : List Event) (k : ℕ) → IsSound x → IsTrail x es → has_ended x n ≡ true → runs (state_after x (take k es)) n ≡ false
  over-on x [] zero sound steps over = ended-idle x n over
  over-on x [] (suc k) sound steps over = ended-idle x n over
  over-on x (e ∷ es) zero sound steps over = ended-idle x n over
  over-on x (e ∷ es) (suc k) sound steps over =
      over-on (change x e) es k (sound-step x e sound steps.0) steps.1 (over-step x e sound steps.0 n over)

  ended-runs : (x : State) (es : List Event) (k : ℕ) → IsSound x → IsTrail x es → is_ended n (take k es) ≡ true → runs (state_after x (take k es)) n ≡ false
  ended-runs x [] zero sound steps some = absurd (true≢false (sym some))
  ended-runs x [] (suc k) sound steps some = absurd (true≢false (sym some))
  ended-runs x (e ∷ es) zero sound steps some = absurd (true≢false (sym some))
  ended-runs x (e ∷ es) (suc k) sound steps some =
      by (ends_it n e) refl some (ended-runs (change x e) es k (sound-step x e sound steps.0) steps.1)
    where
      by : (b : Bool) → ends_it n e ≡ b → (b || is_ended n (take k es)) ≡ true
          → (is_ended n (take k es) ≡ true → runs (state_after (change x e) (take k es)) n ≡ false)
          → runs (state_after (change x e) (take k es)) n ≡ false
      by true is h behind = over-on (change x e) es k (sound-step x e sound steps.0) steps.1 (over-now x e sound steps.0 n is)
      by false is h behind = behind h

-- ---- the items of a run

within-none : (p c : ℕ) (b : Bool) → p ≤ c → (nat_le (suc c) p && b) ≡ false
within-none p c b h = grind (arith, nat_tests)

within-some : (p c : ℕ) → suc c ≤ p → (nat_le (suc c) p && true) ≡ true
within-some p c h = grind (arith, nat_tests)

and-false : (b : Bool) → (b && false) ≡ false
and-false true = refl
and-false false = refl

and-true : (b : Bool) → (b && true) ≡ b
and-true true = refl
and-true false = refl

module _ (p n : ℕ) (until : ℕ → Option ℕ) where
  -- what begins behind p events is not open after p events
  behind-none : (h : Chronicle) (es : List Event) → p ≤ length h.trail → open_of p n (told until h es) ≡ []
  behind-none h [] within = refl
  behind-none h (e ∷ es) within =
      open-append p n (items_at until (right_since h) (state_now h) (suc (length h.trail)) e) (told until (with_event h e) es)
      ∙ ap (λ l. l ++ open_of p n (told until (with_event h e) es))
      (none-at p n until (right_since h) (state_now h) (suc (length h.trail))
      (λ k. ap (λ b. (n == k) && b) (within-none p (length h.trail) (is_before p (until k)) within) ∙ and-false (n == k)) e)
      ∙ behind-none (with_event h e) es (omega (arith, within, length-append h.trail (e ∷ [])))

  -- nothing is open of a place that has ended
  ended-none : is_before p (until n) ≡ false → (h : Chronicle) (es : List Event) → open_of p n (told until h es) ≡ []
  ended-none ended h [] = refl
  ended-none ended h (e ∷ es) =
      open-append p n (items_at until (right_since h) (state_now h) (suc (length h.trail)) e) (told until (with_event h e) es)
      ∙ ap (λ l. l ++ open_of p n (told until (with_event h e) es))
      (none-at p n until (right_since h) (state_now h) (suc (length h.trail)) (λ k. by k (eqb_tells n k)) e)
      ∙ ended-none ended (with_event h e) es
    where
      by : (k : ℕ) → (((n == k) ≡ true) × (n ≡ k)) ⊎ (((n == k) ≡ false) × (n ≡ k → ⊥)) → ((n == k) && is_within p (suc (length h.trail)) (until k)) ≡ false
      by k (inl s) =
          ap (λ b. b && is_within p (suc (length h.trail)) (until k)) s.0
          ∙ ap (λ j. nat_le (suc (length h.trail)) p && is_before p (until j)) (sym s.1)
          ∙ ap (λ b. nat_le (suc (length h.trail)) p && b) ended ∙ and-false (nat_le (suc (length h.trail)) p)
      by k (inr s) = ap (λ b. b && is_within p (suc (length h.trail)) (until k)) s.0

  -- and what began and has not ended is open
  grows : is_before p (until n) ≡ true → (h : Chronicle) (es : List Event) (k : ℕ) → IsSound (state_now h) → IsTrail (state_now h) es → k ≤ length es
      → p ≡ length h.trail + k → is_ended n (take k es) ≡ false
      → held_at (state_now h) n ++ open_of p n (told until h es) ≡ held_at (state_after (state_now h) (take k es)) n
  grows unended h es zero sound steps within is none =
      ap (λ l. held_at (state_now h) n ++ l) (behind-none h es (omega (arith, is))) ∙ append-nil (held_at (state_now h) n)
  grows unended h [] (suc k) sound steps within is none = absurd (omega (arith, within))
  grows unended h (e ∷ es) (suc k) sound steps within is none =
      both (ends_it n e) refl none
      (grows unended (with_event h e) es k
      (subst IsSound (sym (state-with h e)) (sound-step (state_now h) e sound steps.0))
      (subst (λ y. IsTrail y es) (sym (state-with h e)) steps.1)
      (omega (arith, within)) (omega (arith, is, length-append h.trail (e ∷ []))))
    where
      own : (k : ℕ) → ((n == k) && is_within p (suc (length h.trail)) (until k)) ≡ (n == k)
      own j = by (eqb_tells n j)
        where
          by : (((n == j) ≡ true) × (n ≡ j)) ⊎ (((n == j) ≡ false) × (n ≡ j → ⊥)) → ((n == j) && is_within p (suc (length h.trail)) (until j)) ≡ (n == j)
          by (inl s) =
              ap (λ b. b && is_within p (suc (length h.trail)) (until j)) s.0
              ∙ ap (λ i. nat_le (suc (length h.trail)) p && is_before p (until i)) (sym s.1)
              ∙ ap (λ b. nat_le (suc (length h.trail)) p && b) unended ∙ within-some p (length h.trail) (omega (arith, is)) ∙ sym s.0
          by (inr s) = ap (λ b. b && is_within p (suc (length h.trail)) (until j)) s.0 ∙ sym s.0

      both : (b : Bool) → ends_it n e ≡ b → (b || is_ended n (take k es)) ≡ false
          → (is_ended n (take k es) ≡ false
          → held_at (state_now (with_event h e)) n ++ open_of p n (told until (with_event h e) es) ≡ held_at (state_after (state_now (with_event h e)) (take k es)) n)
          → held_at (state_now h) n ++ open_of p n (told until h (e ∷ es)) ≡ held_at (state_after (state_now h) (take (suc k) (e ∷ es))) n
      both true at h2 behind = absurd (true≢false h2)
      both false at h2 behind =
          ap (λ l. held_at (state_now h) n ++ l)
          (open-append p n (items_at until (right_since h) (state_now h) (suc (length h.trail)) e) (told until (with_event h e) es)
          ∙ ap (λ l. l ++ open_of p n (told until (with_event h e) es)) (some-at p n until (right_since h) (state_now h) (suc (length h.trail)) own e))
          ∙ sym (append_assoc (held_at (state_now h) n) (begun (state_now h) n e) (open_of p n (told until (with_event h e) es)))
          ∙ ap (λ l. l ++ open_of p n (told until (with_event h e) es))
          (held-step (state_now h) e sound steps.0 n at ∙ ap (λ y. held_at y n) (sym (state-with h e)))
          ∙ behind h2
          ∙ ap (λ y. held_at (state_after y (take k es)) n) (state-with h e)

module _ (setup : Setup) (limit : ℕ) (events : List Event) (steps : IsTrail (start setup limit) events) (p : ℕ) (reach : p ≤ length events) where
  abbrev last : State
  last = state_after (start setup limit) (take p events)

  pub open-held : (n : ℕ) → open_of p n (report_items setup limit events) ≡ held_at (state_after (start setup limit) (take p events)) n
  open-held n = by (is_ended n (take p events)) refl
    where
      zero-plus : 0 + p ≡ p
      zero-plus = omega arith

      by : (b : Bool) → is_ended n (take p events) ≡ b → open_of p n (report_items setup limit events) ≡ held_at (state_after (start setup limit) (take p events)) n
      by true some =
          ended-none p n (λ k. ended_at k 0 events)
          (ap (λ q. is_before q (ended_at n 0 events)) (sym zero-plus) ∙ now-closed n 0 p events some) (unbegun setup limit) events
          ∙ sym (ap (λ b. cond b (piece (past_at (state_after (start setup limit) (take p events)) n)) [])
          (ended-runs n (start setup limit) events p (sound-start setup limit) steps some))
      by false none =
          grows p n (λ k. ended_at k 0 events)
          (ap (λ q. is_before q (ended_at n 0 events)) (sym zero-plus) ∙ still-open n 0 p events none) (unbegun setup limit) events p
          (sound-start setup limit) steps reach (sym zero-plus) none

  below : (m : ℕ) → open_below p m (report_items setup limit events) ≡ held_below (state_after (start setup limit) (take p events)) m
  below zero = refl
  below (suc m) =
      ap (λ l. l ++ open_of p m (report_items setup limit events)) (below m)
      ∙ ap (λ l. held_below (state_after (start setup limit) (take p events)) m ++ l) (open-held m)

  pub all-held : open_below p (length (state_after (start setup limit) (take p events)).order) (report_items setup limit events)
      ≡ held (state_after (start setup limit) (take p events))
  all-held = below (length (state_after (start setup limit) (take p events)).order)
