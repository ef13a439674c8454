-- The text of a trail is no longer than what is counted as written.
use Rattle.std.proofs.Common.{◌≡◌, ◌≢◌, ℕ, zero, suc, ◌≤◌, ◌<◌, ◌+◌, ◌*◌, ◌^◌, true, cond, List, [], ◌∷◌, ◌++◌, length, get_or, refl, ap, sym, ◌∙◌, inl, inr, arith, true≢false, length-append, length-set, codes, decimal}
use Rattle.std.specs.Prelude.{All, sum_by, Option, Some, None}
use Rattle.std.specs.List.{flat_map, range_with_len}
use Rattle.std.proofs.Math.ListN.{get_or-append}
use Rattle.std.proofs.Math.Seq.{get_or-append_seam}
use Rattle.std.proofs.lemmas.Fmt.{length-decimal-le}
use Rattle.std.proofs.lemmas.List.Concat.{length-flat_map}
use Rattle.std.proofs.lemmas.List.Elements.{All-head, All-tail}
use Rattle.std.proofs.lemmas.List.Sums.{sum_by-cons}
use Rattle.bl_level.specs.Name.{IsName, IsWord}
use Rattle.bl_policy.specs.Denial.{word_of}
use Rattle.bl_policy.specs.declared.denial.Clause.{Clause}
use Rattle.bl_policy.specs.declared.denial.Clause.TheVariants.{Absent, Simple, Star, Discretionary, Carry, Admin, Trusted, Greatest, Present}
use Rattle.bl_policy.specs.declared.denial.Denial.{Denial}
use Rattle.bl_work.specs.Effects.{outputs}
use Rattle.bl_work.specs.Names.{KnownNames, AreNames}
use Rattle.bl_work.specs.declared.answer.Answer.{Answer}
use Rattle.bl_work.specs.declared.answer.Answer.TheVariants.{Done, RuleDone, Denied, Lost}
use Rattle.bl_work.specs.declared.asked.Line.TheVariants as asked
use Rattle.bl_work.specs.declared.work.Work.{Work}
use Rattle.bl_write.specs.CanonicalLine.{canonical_line}
use Rattle.bl_order.specs.Order.{Entry, Line}
use Rattle.bl_order.specs.Past.{Past, content_of, deeds, earlier, is_done, no_entry}
use Rattle.bl_order.specs.Machine.{State, Phase, Waiting, Running, Ended, Gone, is_gone, is_over, is_running, is_waiting, Event, Opens, Admits, Starts, Ends, Loses, MayStart, Needs, change, children_at, has_ended, most_sessions, past_at, phase_at, runs, session_at, is_lost, with_phase}
use Rattle.bl_order.proofs.Conflicts.{or_right}
use Rattle.bl_order.proofs.PlaceSums.{sum-less, sum-split}
use Rattle.bl_order.proofs.RoomProof.{IsRoomy, order-limited}
use Rattle.bl_order.proofs.Sound.{IsSound}
use Rattle.bl_order.proofs.Steps.{Moves, equal_self, other, running_is_not_over, waiting_is_not_over}
use Rattle.bl_order.proofs.PlaceLaws.{answered}
use Rattle.bl_order.proofs.Trails.{moves-end, moves-lost, moves-start, or_left, past-admitted, past-ended, past-started, phases-admitted, within}
use Rattle.bl_wire.specs.Replies.{answer_text, object_text, output_text}
use Rattle.bl_trail.specs.EventText.{event_text, start_words}
use Rattle.bl_sizes.specs.Sizes.{end_most, ended_size, entry_size, line_most, lost_most, open_most, run_most, shown_size, written_at}
use Rattle.bl_sizes.proofs.Short.{place-shows}
use Rattle.bl_sizes.proofs.Sums.{sum-moves}

-- ---- names and words

word-short : (bytes : List ℕ) → IsWord bytes → length bytes ≤ 32
word-short [] h = absurd h
word-short (b ∷ bytes) h = h.2

-- a name has at most 32 bytes, and where there is none there are none
name-short : (names : List (List ℕ)) → All IsName names → (i : ℕ) → length (get_or names i []) ≤ 32
name-short [] all i = omega arith
name-short (n ∷ names) all zero = word-short n (All-head IsName n names all).0
name-short (n ∷ names) all (suc i) = name-short names (All-tail IsName n names all) i

clause-short : (c : Clause) → length (word_of c) ≤ 13
clause-short Absent = omega arith
clause-short Simple = omega arith
clause-short Star = omega arith
clause-short Discretionary = omega arith
clause-short Carry = omega arith
clause-short Admin = omega arith
clause-short Trusted = omega arith
clause-short Greatest = omega arith
clause-short Present = omega arith

module _ (names : KnownNames) (are : AreNames names) where
  object-short : (o : Option ℕ) → length (object_text names o) ≤ 33
  object-short None = omega arith
  object-short (Some doc) = omega (arith, length-append (codes " ") (get_or names.documents doc []), name-short names.documents are.documents.proper doc)

  denied-short : (d : Denial) → length (answer_text names (Denied d)) ≤ 87
  denied-short d =
      omega (
        arith,
        length-append (codes " denied ") (word_of d.clause ++ (codes " " ++ (get_or names.subjects d.subject [] ++ object_text names d.object))),
        length-append (codes " ") (get_or names.subjects d.subject [] ++ object_text names d.object),
        length-append (word_of d.clause) (codes " " ++ (get_or names.subjects d.subject [] ++ object_text names d.object)),
        length-append (get_or names.subjects d.subject []) (object_text names d.object),
        clause-short d.clause,
        name-short names.subjects are.subjects.proper d.subject,
        object-short d.object,
      )

  -- what is shown
  shown-is : (outs : List (List ℕ)) → sum_by (λ text. length (output_text text)) outs ≡ sum_by shown_size outs
  shown-is [] = refl
  shown-is (text ∷ outs) =
      omega (
        arith,
        sum_by-cons (λ t. length (output_text t)) text outs,
        sum_by-cons shown_size text outs,
        length-append text (34 ∷ []),
        shown-is outs,
      )

  done-is : (outs : List (List ℕ)) → length (answer_text names (Done outs)) ≡ 5 + sum_by shown_size outs
  done-is outs = omega (arith, length-append (codes " done") (flat_map output_text outs), length-flat_map output_text outs, shown-is outs)

  -- ---- the text of each event

  open-short : (subject : ℕ) → length (codes "open " ++ get_or names.subjects subject []) + 1 ≤ open_most
  open-short subject = omega (arith, length-append (codes "open ") (get_or names.subjects subject []), name-short names.subjects are.subjects.proper subject)

  line-short : (session ordinal : ℕ) (text : List ℕ) → session < 1000 → ordinal < 2 ^ 32
      → length (codes "line " ++ (decimal session ++ (32 ∷ (decimal ordinal ++ (32 ∷ text))))) + 1 ≤ line_most + length text
  line-short session ordinal text few small =
      omega (
        arith,
        length-append (codes "line ") (decimal session ++ (32 ∷ (decimal ordinal ++ (32 ∷ text)))),
        length-append (decimal session) (32 ∷ (decimal ordinal ++ (32 ∷ text))),
        length-append (decimal ordinal) (32 ∷ text),
        length-decimal-le 3 session (omega arith) (omega (arith, few)) (omega (arith, few)),
        length-decimal-le 10 ordinal (omega arith) (omega (arith, small)) (omega (arith, small)),
      )

  number-short : (n : ℕ) → n < 100000 → length (decimal n) ≤ 5
  number-short n few = length-decimal-le 5 n (omega arith) (omega (arith, few)) (omega (arith, few))

  start-short : (n : ℕ) (a : Answer) → n < 100000 → length (codes "start " ++ (decimal n ++ start_words names a)) + 1 ≤ cond (is_done a) run_most (ended_size a)
  start-short n (Done outs) few = omega (arith, length-append (codes "start ") (decimal n ++ codes " run"), length-append (decimal n) (codes " run"), number-short n few)
  start-short n RuleDone few = omega (arith, length-append (codes "start ") (decimal n ++ codes " rule"), length-append (decimal n) (codes " rule"), number-short n few)
  start-short n (Denied d) few =
      omega (
        arith,
        length-append (codes "start ") (decimal n ++ answer_text names (Denied d)),
        length-append (decimal n) (answer_text names (Denied d)),
        number-short n few,
        denied-short d,
      )
  start-short n Lost few = omega (arith, length-append (codes "start ") (decimal n ++ codes " lost"), length-append (decimal n) (codes " lost"), number-short n few)

  end-short : (n : ℕ) (outs : List (List ℕ)) → n < 100000
      → length (codes "end " ++ (decimal n ++ answer_text names (Done outs))) + 1 ≤ end_most + sum_by shown_size outs
  end-short n outs few =
      omega (
        arith,
        length-append (codes "end ") (decimal n ++ answer_text names (Done outs)),
        length-append (decimal n) (answer_text names (Done outs)),
        number-short n few,
        done-is outs,
      )

  lost-short : (n : ℕ) → n < 100000 → length (codes "lost " ++ decimal n) + 1 ≤ lost_most
  lost-short n few = omega (arith, length-append (codes "lost ") (decimal n), number-short n few)

-- ---- what has come of each place

-- its start, its end or its loss, as far as they have come
abbrev pub begun_size : Phase → Answer → ℕ
begun_size Waiting a = 0
begun_size Running a = run_most
begun_size Ended a = ended_size a
begun_size Gone a = ended_size a

abbrev pub begun_at : State → ℕ → ℕ
begun_at x n = entry_size x.setup.names (get_or x.order n no_entry) + begun_size (phase_at x n) (past_at x n).answer

begun-less : (p : Phase) (a : Answer) → begun_size p a ≤ cond (is_over p) (ended_size a) run_most
begun-less Waiting a = omega arith
begun-less Running a = omega arith
begun-less Ended a = omega arith
begun-less Gone a = omega arith

-- it is within what counts as written
pub begun-within : (x : State) (n : ℕ) → begun_at x n ≤ written_at x n
begun-within x n = omega (arith, begun-less (phase_at x n) (past_at x n).answer)

-- what an answer adds counts only where the place is over
begun-same : (p : Phase) (a b : Answer) → (is_over p ≡ true → a ≡ b) → begun_size p a ≡ begun_size p b
begun-same Waiting a b same = refl
begun-same Running a b same = refl
begun-same Ended a b same = ap ended_size (same refl)
begun-same Gone a b same = ap ended_size (same refl)

same-less : (a b : ℕ) → a ≡ b → b ≤ a
same-less a b e = omega (arith, e)

-- a running place has its start, and a waiting one nothing
running-begun : (p : Phase) (a : Answer) → is_running p ≡ true → begun_size p a ≡ run_most
running-begun Waiting a h = absurd (true≢false (sym h))
running-begun Running a h = refl
running-begun Ended a h = absurd (true≢false (sym h))
running-begun Gone a h = absurd (true≢false (sym h))

waiting-begun : (p : Phase) (a : Answer) → is_waiting p ≡ true → begun_size p a ≡ 0
waiting-begun Waiting a h = refl
waiting-begun Running a h = absurd (true≢false (sym h))
waiting-begun Ended a h = absurd (true≢false (sym h))
waiting-begun Gone a h = absurd (true≢false (sym h))

started-begun : (a : Answer) → begun_size (cond (is_done a) Running Ended) a ≡ cond (is_done a) run_most (ended_size a)
started-begun (Done outs) = refl
started-begun RuleDone = refl
started-begun (Denied d) = refl
started-begun Lost = refl

-- all that has come of the places
abbrev pub begun : State → ℕ
begun x = sum_by (begun_at x) (range_with_len 0 (length x.order))

module _ (x : State) (sound : IsSound x) where
  module _ (y : State) (k : ℕ) (p : Phase) (moves : Moves x y k p) (setup : y.setup ≡ x.setup)
      (entries : (m : ℕ) → m < length x.order → get_or y.order m no_entry ≡ get_or x.order m no_entry) where
    others-begun : (m : ℕ) → m < length x.order → m ≢ k → begun_at y m ≡ begun_at x m
    others-begun m lt ne =
        (λ i. entry_size (setup i).names (entries m lt i) + begun_size (other x y k p sound moves m ne i) (past_at y m).answer)
        ∙ ap (λ v. entry_size x.setup.names (get_or x.order m no_entry) + v)
        (begun-same (phase_at x m) (past_at y m).answer (past_at x m).answer (λ e. ap (λ (q : Past). q.answer) (moves.pasts m lt ne (or_right (runs x m) (has_ended x m) e))))

    moved-begun : begun_at y k ≡ entry_size x.setup.names (get_or x.order k no_entry) + begun_size p (past_at y k).answer
    moved-begun =
        λ i. entry_size (setup i).names (entries k moves.within i) + begun_size ((moves.phases k ∙ ap (λ b. cond b p (phase_at x k)) (equal_self k)) i) (past_at y k).answer

    -- the places that stood have gained what the one that moved has
    begun-moved : sum_by (begun_at x) (range_with_len 0 (length x.order)) + begun_at y k ≤ sum_by (begun_at y) (range_with_len 0 (length x.order)) + begun_at x k
    begun-moved =
        sum-moves (begun_at y) (begun_at x) 0 (length x.order) k (omega arith) (omega (arith, moves.within))
        (λ m above below ne. same-less (begun_at y m) (begun_at x m) (others-begun m (omega (arith, below)) ne))

  module _ (are : AreNames x.setup.names) (few : length x.order ≤ 100000) where
    text-started : (k : ℕ) → MayStart x k → begun x + (length (event_text x (Starts k)) + 1) ≤ begun (change x (Starts k))
    text-started k may =
        omega (
          arith,
          start-short x.setup.names are k (past_at x k).answer (omega (arith, may.there, few)),
          begun-moved (change x (Starts k)) k (cond (is_done (past_at x k).answer) Running Ended) moves refl (λ m lt. refl),
          moved-begun (change x (Starts k)) k (cond (is_done (past_at x k).answer) Running Ended) moves refl (λ m lt. refl)
              ∙ ap (λ (q : Past). entry_size x.setup.names (get_or x.order k no_entry) + begun_size (cond (is_done (past_at x k).answer) Running Ended) q.answer) (past-started x sound k may k),
          started-begun (past_at x k).answer,
          waiting-begun (phase_at x k) (past_at x k).answer may.waits,
        )
      where
        moves : Moves x (change x (Starts k)) k (cond (is_done (past_at x k).answer) Running Ended)
        moves = moves-start x sound k may

    text-lost : (k : ℕ) → Moves x (with_phase x k Gone) k Gone → begun_size (phase_at x k) (past_at x k).answer ≤ run_most
        → begun x + (length (event_text x (Loses k)) + 1) ≤ begun (change x (Loses k))
    text-lost k moves less =
        omega (
          arith,
          less,
          lost-short x.setup.names are k (omega (arith, moves.within, few)),
          begun-moved (with_phase x k Gone) k Gone moves refl (λ m lt. refl),
          moved-begun (with_phase x k Gone) k Gone moves refl (λ m lt. refl),
          ap ended_size lost,
        )
      where
        lost : (past_at (with_phase x k Gone) k).answer ≡ Lost
        lost = (answered x.setup (is_lost (with_phase x k Gone)) x.order k).gone (ap is_gone (moves.phases k ∙ ap (λ b. cond b Gone (phase_at x k)) (equal_self k)))

    text-ended : (k : ℕ) (running : runs x k ≡ true) → begun x + (length (event_text x (Ends k)) + 1) ≤ begun (change x (Ends k))
    text-ended k running =
        omega (
          arith,
          split,
          begun-moved (change x (Ends k)) k Ended moves refl entries-stay,
          moved-begun (change x (Ends k)) k Ended moves refl entries-stay,
          ap (λ (q : Past). ended_size q.answer) (past-ended x sound k running k here),
          ap ended_size shows,
          ap (λ a. length (codes "end " ++ (decimal k ++ answer_text x.setup.names a))) shows,
          end-short x.setup.names are k (outputs (deeds (past_at x k).task (content_of x.setup (earlier x.setup (is_lost x) x.order k)))) (omega (arith, here, few)),
          running-begun (phase_at x k) (past_at x k).answer running,
        )
      where
        here : k < length x.order
        here = within x sound k running

        shows : (past_at x k).answer ≡ Done (outputs (deeds (past_at x k).task (content_of x.setup (earlier x.setup (is_lost x) x.order k))))
        shows = (place-shows x.setup (is_lost x) x.order k (sound.allowed k here running)).0

        moves : Moves x (change x (Ends k)) k Ended
        moves = moves-end x sound k running

        entries-stay : (m : ℕ) → m < length x.order → get_or (x.order ++ children_at x k) m no_entry ≡ get_or x.order m no_entry
        entries-stay m lt = get_or-append x.order (children_at x k) no_entry m lt

        split : sum_by (begun_at (change x (Ends k))) (range_with_len 0 (length (x.order ++ children_at x k)))
            ≡ sum_by (begun_at (change x (Ends k))) (range_with_len 0 (length x.order))
            + sum_by (begun_at (change x (Ends k))) (range_with_len (0 + length x.order) (length (children_at x k)))
        split = sum-split (begun_at (change x (Ends k))) 0 (length x.order) (length (children_at x k)) (length (x.order ++ children_at x k)) (length-append x.order (children_at x k))

    text-admitted : (i o : ℕ) (w : Work) → i < 1000 → o < 2 ^ 32
        → begun x + (length (event_text x (Admits i o w)) + 1) ≤ begun (change x (Admits i o w))
    text-admitted i o w session ordinal =
        omega (
          arith,
          split,
          sum-less (begun_at (change x (Admits i o w))) (begun_at x) 0 (length x.order)
              (λ m above below. same-less (begun_at (change x (Admits i o w)) m) (begun_at x m) (stays m (omega (arith, below)))),
          line-short x.setup.names are i o (canonical_line x.setup.names (asked.Work w)) session ordinal,
          ap (entry_size x.setup.names) last,
        )
      where
        line : Entry
        line = Line i o (session_at x i).subject w

        last : get_or (x.order ++ Line i o (session_at x i).subject w ∷ []) (length x.order) no_entry ≡ Line i o (session_at x i).subject w
        last = get_or-append_seam x.order (Line i o (session_at x i).subject w) [] no_entry

        longer : length (x.order ++ Line i o (session_at x i).subject w ∷ []) ≡ length x.order + 1
        longer = length-append x.order (Line i o (session_at x i).subject w ∷ [])

        stays : (m : ℕ) → m < length x.order → begun_at (change x (Admits i o w)) m ≡ begun_at x m
        stays m lt =
            λ j. entry_size x.setup.names (get_or-append x.order (Line i o (session_at x i).subject w ∷ []) no_entry m lt j)
            + begun_size (phases-admitted x sound i o w m j) (past-admitted x sound i o w m lt j).answer

        split : sum_by (begun_at (change x (Admits i o w))) (range_with_len 0 (length (x.order ++ Line i o (session_at x i).subject w ∷ [])))
            ≡ sum_by (begun_at (change x (Admits i o w))) (range_with_len 0 (length x.order)) + begun_at (change x (Admits i o w)) (length x.order)
        split = sum-split (begun_at (change x (Admits i o w))) 0 (length x.order) 1 (length (x.order ++ Line i o (session_at x i).subject w ∷ [])) longer
            ∙ ap (λ v. sum_by (begun_at (change x (Admits i o w))) (range_with_len 0 (length x.order)) + v) one
          where
            zero_plus : (a : ℕ) → 0 + a ≡ a
            zero_plus a = omega arith

            plus_zero : (a : ℕ) → a + 0 ≡ a
            plus_zero a = omega arith

            one : sum_by (begun_at (change x (Admits i o w))) (range_with_len (0 + length x.order) 1) ≡ begun_at (change x (Admits i o w)) (length x.order)
            one = ap (λ a. sum_by (begun_at (change x (Admits i o w))) (range_with_len a 1)) (zero_plus (length x.order))
                ∙ sum_by-cons (begun_at (change x (Admits i o w))) (length x.order) [] ∙ plus_zero (begun_at (change x (Admits i o w)) (length x.order))

-- ---- a whole trail

-- what has come of a state, with the openings of its sessions
abbrev pub told : State → ℕ
told x = open_most * length x.sessions + begun x

module _ (x : State) (sound : IsSound x) (roomy : IsRoomy x) (are : AreNames x.setup.names) (limited : x.limit ≤ 100000) (sessions : length x.sessions ≤ most_sessions) where
  few : length x.order ≤ 100000
  few = omega (arith, order-limited x roomy.room, limited)

  pub text-step : (e : Event) → Needs x e → told x + (length (event_text x e) + 1) ≤ told (change x e)
  text-step (Opens s) needs = omega (arith, open-short x.setup.names are s, length-append x.sessions (record { subject = s; last = 0 } ∷ []))
  text-step (Admits i o w) needs =
      omega (arith, text-admitted x sound are few i o w (omega (arith, needs.0, sessions)) needs.3, length-set x.sessions i (record (session_at x i) { last = o }))
  text-step (Starts k) may = omega (arith, text-started x sound are few k may)
  text-step (Ends k) running = omega (arith, text-ended x sound are few k running)
  text-step (Loses k) (inl running) =
      omega (
        arith,
        text-lost x sound are few k (moves-lost x sound k (within x sound k running) (running_is_not_over (phase_at x k) running) (inl (or_left x sound k running (runs x k) (has_ended x k) running)))
            (omega (arith, running-begun (phase_at x k) (past_at x k).answer running)),
      )
  text-step (Loses k) (inr may) =
      omega (
        arith,
        text-lost x sound are few k (moves-lost x sound k may.there (waiting_is_not_over (phase_at x k) may.waits) (inr may.clear))
            (omega (arith, waiting-begun (phase_at x k) (past_at x k).answer may.waits)),
      )

  pub sessions-step : (e : Event) → Needs x e → length (change x e).sessions ≤ most_sessions
  sessions-step (Opens s) needs = omega (arith, needs.1, length-append x.sessions (record { subject = s; last = 0 } ∷ []))
  sessions-step (Admits i o w) needs = omega (arith, sessions, length-set x.sessions i (record (session_at x i) { last = o }))
  sessions-step (Starts k) needs = sessions
  sessions-step (Ends k) needs = sessions
  sessions-step (Loses k) needs = sessions
