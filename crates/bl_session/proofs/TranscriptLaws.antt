-- What one worker writes is a transcript by its trail.
use Rattle.std.proofs.Common.{◌≡◌, ℕ, zero, suc, ◌+◌, ◌<◌, ◌≤◌, Bool, true, false, cond, ◌||◌, List, [], ◌∷◌, ◌++◌, length, refl, sym, ap, subst, ◌∙◌, arith, inr, slice_index_or, slice_set, nat_lt, nat_le, filter, length-append, sum_by, true≢false}
use Rattle.std.specs.Prelude.{All, ◌==◌}
use Rattle.std.proofs.Math.ListN.{get_or-append}
use Rattle.std.proofs.lemmas.Bool.Decides.{nat_tests}
use Rattle.std.proofs.lemmas.List.Elements.{All-head, All-tail, All-cons, All-nil}
use Rattle.std.proofs.lemmas.List.Sums.{sum_by-append}
use Rattle.bl_work.specs.declared.work.Work.{Work}
use Rattle.bl_setup.specs.Setup.{Setup}
use Rattle.bl_order.specs.Order.{Entry, Line}
use Rattle.bl_order.specs.Machine.{State, Event, Session, runs, has_ended, change, start, state_after, session_at, no_session, children_at, entry_weight, weight_of}
use Rattle.bl_order.specs.Machine as machine
use Rattle.bl_order.specs.Room.{admitted_weight}
use Rattle.bl_wire.specs.declared.turn.Turn.{Turn}
use Rattle.bl_wire.specs.declared.turn.Turn.TheVariants.{Skip, Wait, Greets, Bad, Ask}
use Rattle.bl_wire.specs.Replies.{line_text}
use Rattle.bl_wire.specs.Texts.{session_text}
use Rattle.bl_engine.specs.declared.request.Request.TheVariants.{Settles}
use Rattle.bl_engine.specs.Requests.{told_of}
use Rattle.bl_session.specs.One.{Fate, Kept, Starved, Unrun, events_by, place_events, run_from, settling, fits, events_of, one, one_state}
use Rattle.bl_session.specs.Transcript.{transcript}
use Rattle.bl_session.specs.Transcripts.{asked_after, admitted, has_ordinal, Talks, Answers, IsTranscript}
use Rattle.bl_session.proofs.RunLaws.{state_after-append}

-- ---- what events keep

-- a session stays, and speaks for its subject
pub record KeepsSession (x y : State) (i : ℕ) : Type 0 where
  pub there : i < length y.sessions
  pub subject : (session_at y i).subject ≡ (session_at x i).subject

set_subject : (l : List Session) (j i k : ℕ)
    → (slice_index_or (slice_set l j (record (slice_index_or l j no_session) { last = k })) i no_session).subject ≡ (slice_index_or l i no_session).subject
set_subject [] j i k = refl
set_subject (s ∷ l) zero zero k = refl
set_subject (s ∷ l) zero (suc i) k = refl
set_subject (s ∷ l) (suc j) zero k = refl
set_subject (s ∷ l) (suc j) (suc i) k = set_subject l j i k

pub length-set_session : (l : List Session) (j : ℕ) (s : Session) → length (slice_set l j s) ≡ length l
length-set_session [] j s = refl
length-set_session (t ∷ l) zero s = refl
length-set_session (t ∷ l) (suc j) s = ap suc (length-set_session l j s)

session_kept : (x : State) (e : Event) (i : ℕ) → i < length x.sessions → KeepsSession x (change x e) i
session_kept x (machine.Opens subject) i lt =
    let new : Session = record { subject = subject; last = 0 } in record {
      there = omega (arith, lt, length-append x.sessions (new ∷ []));
      subject = ap (λ (s : Session). s.subject) (get_or-append x.sessions (new ∷ []) no_session i lt);
    }
session_kept x (machine.Admits session ordinal work) i lt = record {
  there = omega (arith, lt, length-set_session x.sessions session (record (session_at x session) { last = ordinal }));
  subject = set_subject x.sessions session i ordinal;
}
session_kept x (machine.Starts n) i lt = record { there = lt; subject = refl }
session_kept x (machine.Ends n) i lt = record { there = lt; subject = refl }
session_kept x (machine.Loses n) i lt = record { there = lt; subject = refl }

pub sessions_kept : (x : State) (events : List Event) (i : ℕ) → i < length x.sessions → KeepsSession x (state_after x events) i
sessions_kept x [] i lt = record { there = lt; subject = refl }
sessions_kept x (e ∷ events) i lt =
    let one = session_kept x e i lt in
    let rest = sessions_kept (change x e) events i one.there in
    record { there = rest.there; subject = rest.subject ∙ one.subject }

-- the limit stays, and what was admitted weighs no less
pub record KeepsWeight (x y : State) : Type 0 where
  pub limit : y.limit ≡ x.limit
  pub weight : admitted_weight x ≤ admitted_weight y

more_weight : (order more : List Entry) → sum_by entry_weight order ≤ sum_by entry_weight (order ++ more)
more_weight order more = omega (arith, sum_by-append entry_weight order more)

weight_kept : (x : State) (e : Event) → KeepsWeight x (change x e)
weight_kept x (machine.Opens subject) = record { limit = refl; weight = omega arith }
weight_kept x (machine.Admits session ordinal work) =
    record { limit = refl; weight = more_weight x.order (Line session ordinal (session_at x session).subject work ∷ []) }
weight_kept x (machine.Starts n) = record { limit = refl; weight = omega arith }
weight_kept x (machine.Ends n) = record { limit = refl; weight = more_weight x.order (children_at x n) }
weight_kept x (machine.Loses n) = record { limit = refl; weight = omega arith }

pub weights_kept : (x : State) (events : List Event) → KeepsWeight x (state_after x events)
weights_kept x [] = record { limit = refl; weight = omega arith }
weights_kept x (e ∷ events) =
    let one = weight_kept x e in
    let rest = weights_kept (change x e) events in
    record { limit = rest.limit ∙ one.limit; weight = omega (arith, one.weight, rest.weight) }

-- ---- what a run admits

pub admitted-append : (i : ℕ) (a b : List Event) → admitted i (a ++ b) ≡ admitted i a ++ admitted i b
admitted-append i [] b = refl
admitted-append i (machine.Opens subject ∷ a) b = admitted-append i a b
admitted-append i (machine.Admits session ordinal work ∷ a) b = go (session == i) (admitted-append i a b)
  where
    go : (t : Bool) → admitted i (a ++ b) ≡ admitted i a ++ admitted i b
        → cond t ((ordinal, work) ∷ admitted i (a ++ b)) (admitted i (a ++ b)) ≡ cond t ((ordinal, work) ∷ admitted i a) (admitted i a) ++ admitted i b
    go true same = ap (λ l. (ordinal, work) ∷ l) same
    go false same = same
admitted-append i (machine.Starts n ∷ a) b = admitted-append i a b
admitted-append i (machine.Ends n ∷ a) b = admitted-append i a b
admitted-append i (machine.Loses n ∷ a) b = admitted-append i a b

place_admits_none : (f : Fate) (x : State) (n i : ℕ) → admitted i (place_events f x n) ≡ []
place_admits_none f x n i = go (has_ended x n)
  where
    started : (c : Bool) (e : Event) → admitted i (e ∷ []) ≡ [] → admitted i (cond c (machine.Starts n ∷ e ∷ []) (machine.Starts n ∷ [])) ≡ []
    started true e none = none
    started false e none = refl

    by : (f : Fate) → admitted i (events_by f x n) ≡ []
    by Kept = started (runs (change x (machine.Starts n)) n) (machine.Ends n) refl
    by Starved = refl
    by Unrun = started (runs (change x (machine.Starts n)) n) (machine.Loses n) refl

    go : (b : Bool) → admitted i (cond b [] (events_by f x n)) ≡ []
    go true = refl
    go false = by f

run_admits_none : (fate : ℕ → Fate) (most : ℕ) (x : State) (n i : ℕ) → admitted i (run_from fate most x n) ≡ []
run_admits_none fate zero x n i = refl
run_admits_none fate (suc most) x n i = go (nat_lt n (length x.order)) (run_admits_none fate most (state_after x (place_events (fate n) x n)) (suc n) i)
  where
    go : (b : Bool) → admitted i (run_from fate most (state_after x (place_events (fate n) x n)) (suc n)) ≡ []
        → admitted i (cond b (place_events (fate n) x n ++ run_from fate most (state_after x (place_events (fate n) x n)) (suc n)) []) ≡ []
    go true rest =
        admitted-append i (place_events (fate n) x n) (run_from fate most (state_after x (place_events (fate n) x n)) (suc n))
        ∙ ap (λ l. l ++ admitted i (run_from fate most (state_after x (place_events (fate n) x n)) (suc n))) (place_admits_none (fate n) x n i)
        ∙ rest
    go false rest = refl

-- ---- what is told

pub filter_same : (p q : ℕ × Work → Bool) (l : List (ℕ × Work)) → All (λ (a : ℕ × Work). p a ≡ q a) l → filter p l ≡ filter q l
filter_same p q [] same = refl
filter_same p q (a ∷ l) same =
    ap (λ b. cond b (a ∷ filter p l) (filter p l)) (All-head (λ (a : ℕ × Work). p a ≡ q a) a l same)
    ∙ ap (λ r. cond (q a) (a ∷ r) r) (filter_same p q l (All-tail (λ (a : ℕ × Work). p a ≡ q a) a l same))

abbrev IsAbove : ℕ → ℕ × Work → Type 0
IsAbove k a = k < a.0

all_other : (P Q : ℕ × Work → Type 0) (l : List (ℕ × Work)) → ((a : ℕ × Work) → P a → Q a) → All P l → All Q l
all_other P Q [] f all = All-nil Q
all_other P Q (a ∷ l) f all = All-cons Q a l (f a (All-head P a l all)) (all_other P Q l f (All-tail P a l all))

higher : (j k : ℕ) (l : List (ℕ × Work)) → k ≤ j → All (IsAbove j) l → All (IsAbove k) l
higher j k l le all = all_other (IsAbove j) (IsAbove k) l (λ a lt. omega (arith, lt, le)) all

asked_above : (turns : List Turn) (k : ℕ) → All (IsAbove k) (asked_after k turns)
asked_above [] k = All-nil (IsAbove k)
asked_above (Skip ∷ turns) k = asked_above turns k
asked_above (Wait ∷ turns) k = asked_above turns k
asked_above (Greets subject ∷ turns) k = higher (k + 1) k (asked_after (k + 1) turns) (omega arith) (asked_above turns (k + 1))
asked_above (Bad fault ∷ turns) k = higher (k + 1) k (asked_after (k + 1) turns) (omega arith) (asked_above turns (k + 1))
asked_above (Ask work ∷ turns) k =
    All-cons (IsAbove k) (k + 1, work) (asked_after (k + 1) turns) (omega arith)
    (higher (k + 1) k (asked_after (k + 1) turns) (omega arith) (asked_above turns (k + 1)))

-- none of what is above an ordinal has it
none_has : (k : ℕ) (l : List (ℕ × Work)) → All (IsAbove k) l → has_ordinal l k ≡ false
none_has k [] all = refl
none_has k (a ∷ l) all =
    let lt : k < a.0 = All-head (IsAbove k) a l all in
    let other : (a.0 == k) ≡ false = grind (arith, nat_tests) in
    ap (λ b. b || has_ordinal l k) other ∙ none_has k l (All-tail (IsAbove k) a l all)

-- what was admitted of the works that are asked after an ordinal, at a state after them all
record Tells (k : ℕ) (turns : List Turn) (limit : ℕ) (y : State) (works : List (ℕ × Work)) : Type 0 where
  above : All (IsAbove k) works
  lines : works ≡ filter (λ (asked : ℕ × Work). has_ordinal works asked.0) (asked_after k turns)
  full : All (λ (asked : ℕ × Work). has_ordinal works asked.0 ≡ false → limit < admitted_weight y + weight_of asked.1) (asked_after k turns)

pub equal_self : (k : ℕ) → (k == k) ≡ true
equal_self k = grind (arith, nat_tests)

-- a work that fits
tells_admitted : (k : ℕ) (work : Work) (turns : List Turn) (limit : ℕ) (y : State) (works : List (ℕ × Work)) → Tells (k + 1) turns limit y works
    → Tells k (Ask work ∷ turns) limit y ((k + 1, work) ∷ works)
tells_admitted k work turns limit y works t = record {
  above = All-cons (IsAbove k) (k + 1, work) works (omega arith) (higher (k + 1) k works (omega arith) t.above);
  lines =
      ap (λ l. (k + 1, work) ∷ l) (t.lines ∙ filter_same (λ (a : ℕ × Work). has_ordinal works a.0) (λ (a : ℕ × Work). (k + 1 == a.0) || has_ordinal works a.0) (asked_after (k + 1) turns)
      (all_other (IsAbove (k + 1)) (λ (a : ℕ × Work). has_ordinal works a.0 ≡ ((k + 1 == a.0) || has_ordinal works a.0)) (asked_after (k + 1) turns)
      (λ a lt. ap (λ b. b || has_ordinal works a.0) (sym (apart (k + 1) a.0 lt))) (asked_above turns (k + 1))))
      ∙ ap (λ b. cond (b || has_ordinal works (k + 1)) ((k + 1, work) ∷ rest) rest) (sym (equal_self (k + 1)));
  full = All-cons (λ (a : ℕ × Work). ((k + 1 == a.0) || has_ordinal works a.0) ≡ false → limit < admitted_weight y + weight_of a.1) (k + 1, work) (asked_after (k + 1) turns)
      (λ none. absurd (true≢false (ap (λ b. b || has_ordinal works (k + 1)) (sym (equal_self (k + 1))) ∙ none)))
      (all_other (λ (a : ℕ × Work). has_ordinal works a.0 ≡ false → limit < admitted_weight y + weight_of a.1)
      (λ (a : ℕ × Work). ((k + 1 == a.0) || has_ordinal works a.0) ≡ false → limit < admitted_weight y + weight_of a.1) (asked_after (k + 1) turns)
      (λ a over none. over (or_right (k + 1 == a.0) (has_ordinal works a.0) none)) t.full);
}
  where
    rest : List (ℕ × Work)
    rest = filter (λ (a : ℕ × Work). (k + 1 == a.0) || has_ordinal works a.0) (asked_after (k + 1) turns)

    apart : (m n : ℕ) → m < n → (m == n) ≡ false
    apart m n lt = grind (arith, nat_tests)

    or_right : (a b : Bool) → (a || b) ≡ false → b ≡ false
    or_right true b none = absurd (true≢false none)
    or_right false b none = none

-- a work that does not fit
tells_full : (k : ℕ) (work : Work) (turns : List Turn) (limit : ℕ) (y : State) (works : List (ℕ × Work)) → Tells (k + 1) turns limit y works → limit < admitted_weight y + weight_of work
    → Tells k (Ask work ∷ turns) limit y works
tells_full k work turns limit y works t over = record {
  above = higher (k + 1) k works (omega arith) t.above;
  lines = t.lines ∙ ap (λ b. cond b ((k + 1, work) ∷ rest) rest) (sym (none_has (k + 1) works t.above));
  full = All-cons (λ (a : ℕ × Work). has_ordinal works a.0 ≡ false → limit < admitted_weight y + weight_of a.1) (k + 1, work) (asked_after (k + 1) turns) (λ none. over) t.full;
}
  where
    rest : List (ℕ × Work)
    rest = filter (λ (a : ℕ × Work). has_ordinal works a.0) (asked_after (k + 1) turns)

-- a line that asks no work
tells_on : (k : ℕ) (turns : List Turn) (limit : ℕ) (y : State) (works : List (ℕ × Work)) (turn : Turn) → asked_after k (turn ∷ turns) ≡ asked_after (k + 1) turns
    → Tells (k + 1) turns limit y works → Tells k (turn ∷ turns) limit y works
tells_on k turns limit y works turn same t = record {
  above = higher (k + 1) k works (omega arith) t.above;
  lines = t.lines ∙ ap (filter (λ (a : ℕ × Work). has_ordinal works a.0)) (sym same);
  full = subst (All (λ (a : ℕ × Work). has_ordinal works a.0 ≡ false → limit < admitted_weight y + weight_of a.1)) (sym same) t.full;
}

-- where events that admit nothing come first
tells_after : (k : ℕ) (turns : List Turn) (x : State) (a b : List Event) → admitted 0 a ≡ []
    → Tells k turns (state_after x a).limit (state_after (state_after x a) b) (admitted 0 b) → Tells k turns x.limit (state_after x (a ++ b)) (admitted 0 (a ++ b))
tells_after k turns x a b none t =
    let same : admitted 0 b ≡ admitted 0 (a ++ b) = sym (admitted-append 0 a b ∙ ap (λ l. l ++ admitted 0 b) none) in
    subst (λ l. Tells k turns l (state_after x (a ++ b)) (admitted 0 (a ++ b))) (weights_kept x a).limit
    (subst (λ y. Tells k turns (state_after x a).limit y (admitted 0 (a ++ b))) (sym (state_after-append x a b))
    (subst (Tells k turns (state_after x a).limit (state_after (state_after x a) b)) same t))

told_tells : (fate : ℕ → Fate) (turns : List Turn) (k : ℕ) (x : State)
    → Tells k turns x.limit (state_after x (events_of 0 fate x (told_of k turns ++ Settles ∷ []))) (admitted 0 (events_of 0 fate x (told_of k turns ++ Settles ∷ [])))
told_tells fate [] k x =
    tells_after k [] x (settling fate x) [] (run_admits_none fate x.limit x 0 0)
    (record {
      above = All-nil (IsAbove k);
      lines = refl;
      full = All-nil (λ (a : ℕ × Work). has_ordinal [] a.0 ≡ false → (state_after x (settling fate x)).limit < admitted_weight (state_after x (settling fate x)) + weight_of a.1);
    })
told_tells fate (Skip ∷ turns) k x =
    let t = told_tells fate turns k x in record { above = t.above; lines = t.lines; full = t.full }
told_tells fate (Wait ∷ turns) k x =
    let t = told_tells fate turns k (state_after x (settling fate x)) in
    tells_after k (Wait ∷ turns) x (settling fate x) (events_of 0 fate (state_after x (settling fate x)) (told_of k turns ++ Settles ∷ [])) (run_admits_none fate x.limit x 0 0)
    (record { above = t.above; lines = t.lines; full = t.full })
told_tells fate (Greets subject ∷ turns) k x = tells_on k turns _ _ _ (Greets subject) refl (told_tells fate turns (k + 1) x)
told_tells fate (Bad fault ∷ turns) k x = tells_on k turns _ _ _ (Bad fault) refl (told_tells fate turns (k + 1) x)
told_tells fate (Ask work ∷ turns) k x = go (fits x work) refl (told_tells fate turns (k + 1))
  where
    over : (b : Bool) → fits x work ≡ b → b ≡ false → x.limit < sum_by entry_weight x.order + weight_of work
    over b is none = let full : nat_le (sum_by entry_weight x.order + weight_of work) x.limit ≡ false = is ∙ none in grind (arith, nat_tests)

    go : (b : Bool) → fits x work ≡ b
        → ((y : State) → Tells (k + 1) turns y.limit (state_after y (events_of 0 fate y (told_of (k + 1) turns ++ Settles ∷ []))) (admitted 0 (events_of 0 fate y (told_of (k + 1) turns ++ Settles ∷ []))))
        → Tells k (Ask work ∷ turns) x.limit
        (state_after x (cond b (machine.Admits 0 (k + 1) work ∷ events_of 0 fate (change x (machine.Admits 0 (k + 1) work)) (told_of (k + 1) turns ++ Settles ∷ [])) (events_of 0 fate x (told_of (k + 1) turns ++ Settles ∷ []))))
        (admitted 0 (cond b (machine.Admits 0 (k + 1) work ∷ events_of 0 fate (change x (machine.Admits 0 (k + 1) work)) (told_of (k + 1) turns ++ Settles ∷ [])) (events_of 0 fate x (told_of (k + 1) turns ++ Settles ∷ []))))
    go true is t = tells_admitted k work turns x.limit _ _ (t (change x (machine.Admits 0 (k + 1) work)))
    go false is t =
        let kept = weights_kept x (events_of 0 fate x (told_of (k + 1) turns ++ Settles ∷ [])) in
        tells_full k work turns x.limit _ _ (t x) (omega (arith, over false is refl, kept.weight))

-- ---- the whole

-- the first line that is not skipped opens the session, or is refused
answers : (setup : Setup) (limit : ℕ) (fate : ℕ → Fate) (turns : List Turn) (x : State) (trail : List Event) → x ≡ one_state setup limit fate turns → trail ≡ one setup limit fate turns
    → Answers x trail 0 turns (session_text (line_text x 0) turns)
answers setup limit fate [] x trail at is = refl
answers setup limit fate (Skip ∷ turns) x trail at is = answers setup limit fate turns x trail at is
answers setup limit fate (Wait ∷ turns) x trail at is = refl
answers setup limit fate (Bad fault ∷ turns) x trail at is = refl
answers setup limit fate (Ask work ∷ turns) x trail at is = refl
answers setup limit fate (Greets subject ∷ turns) x trail at is =
    let opened : State = change (start setup limit) (machine.Opens subject) in
    let told : List Event = events_of 0 fate opened (told_of 0 turns ++ Settles ∷ []) in
    let t : Tells 0 turns limit (state_after opened told) (admitted 0 told) = told_tells fate turns 0 opened in
    let kept : KeepsSession opened (state_after opened told) 0 = sessions_kept opened told 0 (omega arith) in
    inr
    (subst (λ y. Talks y trail 0 subject turns (session_text (line_text y 0) (Greets subject ∷ turns))) (sym at)
    (subst (λ events. Talks (state_after opened told) events 0 subject turns (session_text (line_text (state_after opened told) 0) (Greets subject ∷ turns))) (sym is)
    (record {
      there = kept.there;
      subject_is = kept.subject;
      lines = t.lines;
      full = subst (λ l. All (λ (a : ℕ × Work). has_ordinal (admitted 0 told) a.0 ≡ false → l < admitted_weight (state_after opened told) + weight_of a.1) (asked_after 0 turns)) (sym (weights_kept opened told).limit) t.full;
      text_is = refl;
    })))

pub is_transcript : (setup : Setup) (limit : ℕ) (fate : ℕ → Fate) (turns : List Turn) → IsTranscript setup limit (one setup limit fate turns) 0 turns (transcript setup limit fate turns)
is_transcript setup limit fate turns = answers setup limit fate turns (one_state setup limit fate turns) (one setup limit fate turns) refl refl
