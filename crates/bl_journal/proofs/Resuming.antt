-- What a run is that goes on.
use Rattle.std.proofs.Common.{◌≡◌, ℕ, zero, suc, ◌<◌, ◌≤◌, Bool, true, false, List, [], ◌∷◌, ◌++◌, length, get_or, refl, sym, ◌∙◌, ap, subst, arith, append_assoc, append-nil, length-append, true≢false}
use Rattle.std.specs.Prelude.{IsTrue, Option, Some, None}
use Rattle.std.specs.List.{AllByRecursion}
use Rattle.bl_policy.specs.declared.denial.Denial.{Denial}
use Rattle.bl_setup.specs.Setup.{Setup, by_version}
use Rattle.bl_work.specs.declared.answer.Answer.TheVariants.{Lost}
use Rattle.bl_order.specs.AtHand.{IsAtHand, RestsOnEndedPlaces}
use Rattle.bl_order.specs.Headline.{IsReached}
use Rattle.bl_order.specs.Laws.{IsAnswered, KeepsPlaces, fault_at}
use Rattle.bl_order.specs.Machine.{State, Event, Opens, Admits, Starts, Ends, Loses, Phase, Waiting, IsTrail, Needs, change, children_at, has_ended, is_lost, is_over, past_at, session_at, start, state_after}
use Rattle.bl_order.specs.Order.{Entry, Line, Task, Runs, Applies}
use Rattle.bl_order.specs.Past.{deeds, granted, place}
use Rattle.bl_order.specs.TheHeadline.{IsTheHeadline, IsTheHeadlineThroughout}
use Rattle.bl_trail.specs.EventText.{event_text}
use Rattle.bl_trail.specs.TrueText.{HasNoLf, event_texts, head_lines, joined}
use Rattle.bl_trail.proofs.Following.{all-append, joined-append, setup-end}
use Rattle.bl_journal.specs.Journals.{IsHistory, Journal, first_state, last_state, lines_of_events}
use Rattle.bl_journal.specs.Resumed.{IsOneRun, MayFollow, SaysTheSame}

-- ---- events behind events

leads : (x : State) (es fs : List Event) → state_after x (es ++ fs) ≡ state_after (state_after x es) fs
leads x [] fs = refl
leads x (e ∷ es) fs = leads (change x e) es fs

steps-on : (x : State) (es fs : List Event) → IsTrail x es → IsTrail (state_after x es) fs → IsTrail x (es ++ fs)
steps-on x [] fs steps more = more
steps-on x (e ∷ es) fs steps more = (steps.0, steps-on (change x e) es fs steps.1 more)

texts-on : (x : State) (es fs : List Event) → event_texts x (es ++ fs) ≡ event_texts x es ++ event_texts (state_after x es) fs
texts-on x [] fs = refl
texts-on x (e ∷ es) fs = ap (λ l. event_text x e ∷ l) (texts-on (change x e) es fs)

-- ---- the order grows

grown-once : (x : State) (e : Event) → (entries : List Entry) × ((change x e).order ≡ x.order ++ entries)
grown-once x (Opens s) = ([], sym (append-nil x.order))
grown-once x (Admits i o w) = (Line i o (session_at x i).subject w ∷ [], refl)
grown-once x (Starts k) = ([], sym (append-nil x.order))
grown-once x (Ends k) = (children_at x k, refl)
grown-once x (Loses k) = ([], sym (append-nil x.order))

grown : (x : State) (es : List Event) → (entries : List Entry) × ((state_after x es).order ≡ x.order ++ entries)
grown x [] = ([], sym (append-nil x.order))
grown x (e ∷ es) =
    let one : (entries : List Entry) × ((change x e).order ≡ x.order ++ entries) = grown-once x e in
    let more : (entries : List Entry) × ((state_after (change x e) es).order ≡ (change x e).order ++ entries) = grown (change x e) es in
    (one.0 ++ more.0, more.1 ∙ ap (λ l. l ++ more.0) one.1 ∙ append_assoc x.order one.0 more.0)

longer : (x : State) (e : Event) → length x.order ≤ length (change x e).order
longer x e =
    let one : (entries : List Entry) × ((change x e).order ≡ x.order ++ entries) = grown-once x e in
    omega (arith, ap length one.1, length-append x.order one.0)

-- ---- what had ended

over-within : (phases : List Phase) (n : ℕ) → is_over (get_or phases n Waiting) ≡ true → n < length phases
over-within [] n h = absurd (true≢false (sym h))
over-within (p ∷ phases) zero h = omega arith
over-within (p ∷ phases) (suc n) h = let lt : n < length phases = over-within phases n h in omega arith

-- what nothing is held against is not lost
granted-not-lost : (task : Task) (contents : ℕ → List ℕ) → granted task (deeds task contents) ≡ Lost → ⊥
granted-not-lost (Runs script index) contents h = cc
granted-not-lost (Applies rule) contents h = cc

-- a place that is not lost does not answer so
not-lost : (setup : Setup) (lost : ℕ → Bool) (order : List Entry) (n : ℕ) → IsAnswered setup lost order n → lost n ≡ false
    → (place setup lost order n).answer ≡ Lost → ⊥
not-lost setup lost order n answered alive h = go (fault_at setup lost order n) refl
  where
    go : (fault : Option Denial) → fault_at setup lost order n ≡ fault → ⊥
    go (Some denial) e = let k = answered.refused denial alive e in cc
    go None e = granted-not-lost _ _ (sym (answered.let_run alive e) ∙ h)

module _ (next : (x : State) (e : Event) → IsReached x → Needs x e → IsReached (change x e))
    (headline : (x : State) → IsReached x → IsTheHeadline x)
    (answered : (setup : Setup) (lost : ℕ → Bool) (order : List Entry) (n : ℕ) → IsAnswered setup lost order n)
    (keeps : (setup : Setup) (lost : ℕ → Bool) (order more : List Entry) → KeepsPlaces setup lost order more)
    (as_many : (x : State) → IsReached x → length x.phases ≡ length x.order)
    (rests : (x : State) → IsReached x → RestsOnEndedPlaces x) where
  -- what has ended stays so, and so does what is said of it
  ended-kept : (x : State) (es : List Event) (n : ℕ) → IsReached x → IsTrail x es → n < length x.order → IsTrue (has_ended x n)
      → IsTrue (has_ended (state_after x es) n) × (past_at (state_after x es) n ≡ past_at x n)
  ended-kept x [] n reached steps lt over = (over, refl)
  ended-kept x (e ∷ es) n reached steps lt over =
      let t : IsTrue (has_ended (state_after (change x e) es) n) × (past_at (state_after (change x e) es) n ≡ past_at (change x e) n) =
      ended-kept (change x e) es n (next x e reached steps.0) steps.1 (omega (arith, lt, longer x e)) ((headline x reached).ended_stays e steps.0 n over) in
      (t.0, t.1 ∙ (headline x reached).said_stays e steps.0 n lt over)

  -- whether it is lost stays
  same-losses : (x : State) (es : List Event) → IsReached x → IsTrail x es → (k : ℕ) → IsTrue (has_ended x k) → is_lost x k ≡ is_lost (state_after x es) k
  same-losses x es reached steps k over = go (is_lost x k) refl (is_lost (state_after x es) k) refl
    where
      y : State
      y = state_after x es

      same : past_at (state_after x es) k ≡ past_at x k
      same = (ended-kept x es k reached steps (omega (arith, as_many x reached, over-within x.phases k over)) over).1

      go : (a : Bool) → is_lost x k ≡ a → (b : Bool) → is_lost (state_after x es) k ≡ b → is_lost x k ≡ is_lost (state_after x es) k
      go true p true q = p ∙ sym q
      go false p false q = p ∙ sym q
      go true p false q =
          absurd (not-lost (state_after x es).setup (is_lost (state_after x es)) (state_after x es).order k
          (answered (state_after x es).setup (is_lost (state_after x es)) (state_after x es).order k) q
          (ap (λ r. r.answer) same ∙ (answered x.setup (is_lost x) x.order k).gone p))
      go false p true q =
          absurd (not-lost x.setup (is_lost x) x.order k (answered x.setup (is_lost x) x.order k) p
          (sym (ap (λ r. r.answer) same) ∙ (answered (state_after x es).setup (is_lost (state_after x es)) (state_after x es).order k).gone q))

  at-hand : (x : State) (es : List Event) → IsReached x → IsTrail x es → (n : ℕ) → n < length x.order → IsAtHand x n
      → is_lost (state_after x es) n ≡ is_lost x n → past_at (state_after x es) n ≡ past_at x n
  at-hand x es reached steps n lt hand same =
      let more : (entries : List Entry) × ((state_after x es).order ≡ x.order ++ entries) = grown x es in
      ap (λ (s : Setup). place s (is_lost (state_after x es)) (state_after x es).order n) (sym (setup-end x es))
      ∙ ap (λ order. place x.setup (is_lost (state_after x es)) order n) more.1
      ∙ keeps x.setup (is_lost (state_after x es)) x.order more.0 n lt
      ∙ sym (rests x reached (is_lost (state_after x es)) (same-losses x es reached steps) n lt hand (sym same))

  pub says-the-same : (x : State) (es : List Event) → IsReached x → IsTrail x es → SaysTheSame x (state_after x es)
  says-the-same x es reached steps = record {
    ended = λ n lt over. (ended-kept x es n reached steps lt over).1;
    at_hand = at-hand x es reached steps;
  }

  -- where a trail leads is reached
  reached-on : (x : State) (es : List Event) → IsReached x → IsTrail x es → IsReached (state_after x es)
  reached-on x [] reached steps = reached
  reached-on x (e ∷ es) reached steps = reached-on (change x e) es (next x e reached steps.0) steps.1

  module _ (first : (setup : Setup) (limit : ℕ) → IsReached (start setup limit))
      (throughout : (setup : Setup) (limit : ℕ) (events : List Event) → IsTrail (start setup limit) events → IsTheHeadlineThroughout setup limit events) where
    pub one-run : (setup : Setup) (found : Journal) (more : List Event) → IsHistory setup found → MayFollow setup found more → IsOneRun setup found more
    one-run setup found more history follow =
        let x0 = first_state setup found in
        let whole : IsTrail (first_state setup found) (found.events ++ more) = steps-on x0 found.events more history.steps follow.steps in
        record {
          history = record {
            has_setup = history.has_setup;
            is_limit = history.is_limit;
            steps = whole;
            has_events = all-append _ found.events more history.has_events follow.has_events;
            plain = subst (AllByRecursion HasNoLf) (sym (texts-on x0 found.events more))
                (all-append HasNoLf (lines_of_events setup found) (event_texts (last_state setup found) more) history.plain follow.plain);
          };
          text = ap (λ l. joined (head_lines found.version found.limit ++ l)) (texts-on x0 found.events more)
              ∙ ap joined (sym (append_assoc (head_lines found.version found.limit) (lines_of_events setup found) (event_texts (last_state setup found) more)))
              ∙ joined-append (head_lines found.version found.limit ++ lines_of_events setup found) (event_texts (last_state setup found) more);
          leads = leads x0 found.events more;
          said = subst (SaysTheSame (last_state setup found)) (sym (leads x0 found.events more))
              (says-the-same (last_state setup found) more (reached-on x0 found.events (first (by_version found.version setup) found.limit) history.steps) follow.steps);
          headline = throughout (by_version found.version setup) found.limit (found.events ++ more) whole;
        }
