-- For each premise on a history alone, and on the version of two, two that meet all others and tell a low subject otherwise. Where no
-- version is named it is the second, in which no child comes down.
use Rattle.std.proofs.Common.{ℕ, zero, suc, arith, lit<, lit≤, sym, ap, true≢false, refl}
use Rattle.std.specs.Prelude.{◌≡◌, ◌<◌, true, false, List, [], ◌∷◌, slice_get, Some, codes}
use Rattle.bl_policy.specs.declared.access.Mode.TheVariants.{Append}
use Rattle.bl_work.specs.Statements.{Nothing, Show}
use Rattle.bl_work.specs.declared.work.Work.{Work}
use Rattle.bl_work.specs.declared.work.Work.TheVariants as work
use Rattle.bl_setup.specs.Setup.{Setup, by_version}
use Rattle.bl_setup.specs.declared.version.Version.{Version}
use Rattle.bl_setup.specs.declared.version.Version.TheVariants.{One, Two}
use Rattle.bl_order.specs.Headline.{IsReached}
use Rattle.bl_order.specs.Legal.{IsLegal}
use Rattle.bl_order.specs.Machine.{State, Event, IsTrail, Opens, Admits, Starts, Ends, start}
use Rattle.bl_order.specs.Order.{Line, Child}
use Rattle.bl_flow.specs.Flow.{TellTheSame}
use Rattle.bl_flow.specs.Low.{History, AgreeLow, history_of, is_low_place}
use Rattle.bl_flow.specs.Purge.{KeepTheSame, kept_entries}
use Rattle.bl_flow.specs.Sealed.{IsSealed, IsUntrusted, TrustedLetNothingDown, NoDocumentComesDown, NoChildComesDown}
use Rattle.bl_flow.proofs.Examples.{u, s, memo, ann, bob, policy, with_memo, memos-agree, shows_memo, shows_memo_is_readable, shows_note, shows_note_is_readable, copies_memo, copies_memo_is_readable, chooses, chooses_is_readable, shows_later, shows_later_is_readable, comes_to_u, comes_to_u_is_readable, declassifies_memo, declassifies_memo_is_readable, next_may_start, untrusted_by_test, after, reached, first_shown}

-- Two states that trails lead to and that differ only in what is not kept, and in contents of documents that are not low: and yet a
-- low place is told otherwise.
record Leak (x y : State) : Type 0 where
  pub first : IsReached x
  pub second : IsReached y
  pub agree : AgreeLow u x.setup y.setup
  pub alike : KeepTheSame u (history_of x) (history_of y)
  pub tells : TellTheSame u (history_of x) (history_of y) → ⊥

-- ---- a trusted subject whose current level is low looks at what is not

abbrev looks_up : List Event
looks_up = Opens bob ∷ Admits 0 1 shows_memo ∷ Starts 0 ∷ Ends 0 ∷ []

abbrev looked_up : List ℕ → State
looked_up words = after (with_memo (policy false true u) words) looks_up

looks_up-leaks : Leak (looked_up (codes "1")) (looked_up (codes "2"))
looks_up-leaks = record {
  first = reached (with_memo (policy false true u) (codes "1")) looks_up
      ((lit< tt, lit< tt), ((lit< tt, shows_memo_is_readable, lit< tt, lit< tt, lit≤ tt), (next_may_start _ 0 (lit< tt) refl refl, (refl, tt))));
  second = reached (with_memo (policy false true u) (codes "2")) looks_up
      ((lit< tt, lit< tt), ((lit< tt, shows_memo_is_readable, lit< tt, lit< tt, lit≤ tt), (next_may_start _ 0 (lit< tt) refl refl, (refl, tt))));
  agree = memos-agree Two false true u;
  alike = record { entries = refl; losses = refl };
  tells = λ t. absurd (omega (arith, ap (λ p. first_shown p.answer) (t.places 0 0 (lit< tt) (lit< tt) refl refl refl)));
}

looks_up-documents : (words : List ℕ) → NoDocumentComesDown u (history_of (looked_up words))
looks_up-documents words zero doc lt low = low
looks_up-documents words (suc n) doc lt low = absurd (omega (arith, lt))

-- ---- a trusted subject that is not low alters a low document

abbrev writes_down : List Event
writes_down = Opens ann ∷ Opens bob ∷ Admits 0 1 copies_memo ∷ Admits 1 1 shows_note ∷ Starts 0 ∷ Ends 0 ∷ Starts 1 ∷ Ends 1 ∷ []

abbrev wrote_down : List ℕ → State
wrote_down words = after (with_memo (policy true false u) words) writes_down

writes_down-trail : (words : List ℕ) → IsTrail (start (with_memo (policy true false u) words) 10000) writes_down
writes_down-trail words = (
  (lit< tt, lit< tt),
  (
    (lit< tt, lit< tt),
    (
      (lit< tt, copies_memo_is_readable, lit< tt, lit< tt, lit≤ tt),
      (
        (lit< tt, shows_note_is_readable, lit< tt, lit< tt, lit≤ tt),
        (next_may_start _ 0 (lit< tt) refl refl, (refl, (next_may_start _ 1 (lit< tt) refl refl, (refl, tt)))),
      ),
    ),
  ),
)

writes_down-leaks : Leak (wrote_down (codes "1")) (wrote_down (codes "2"))
writes_down-leaks = record {
  first = reached (with_memo (policy true false u) (codes "1")) writes_down (writes_down-trail (codes "1"));
  second = reached (with_memo (policy true false u) (codes "2")) writes_down (writes_down-trail (codes "2"));
  agree = memos-agree Two true false u;
  alike = record { entries = refl; losses = refl };
  tells = λ t. absurd (omega (arith, ap (λ p. first_shown p.answer) (t.places 1 1 (lit< tt) (lit< tt) refl refl refl)));
}

writes_down-documents : (words : List ℕ) → NoDocumentComesDown u (history_of (wrote_down words))
writes_down-documents words zero doc lt low = low
writes_down-documents words (suc zero) doc lt low = low
writes_down-documents words (suc (suc n)) doc lt low = absurd (omega (arith, lt))

-- ---- a rule brings a document down

abbrev declassifies : List Event
declassifies = Opens ann ∷ Opens bob ∷ Admits 0 1 declassifies_memo ∷ Admits 1 1 shows_memo ∷ Starts 0 ∷ Starts 1 ∷ Ends 1 ∷ []

abbrev declassified : List ℕ → State
declassified words = after (with_memo (policy true false u) words) declassifies

declassifies-trail : (words : List ℕ) → IsTrail (start (with_memo (policy true false u) words) 10000) declassifies
declassifies-trail words = (
  (lit< tt, lit< tt),
  (
    (lit< tt, lit< tt),
    (
      (lit< tt, declassifies_memo_is_readable, lit< tt, lit< tt, lit≤ tt),
      (
        (lit< tt, shows_memo_is_readable, lit< tt, lit< tt, lit≤ tt),
        (next_may_start _ 0 (lit< tt) refl refl, (next_may_start _ 1 (lit< tt) refl refl, (refl, tt))),
      ),
    ),
  ),
)

declassifies-leaks : Leak (declassified (codes "1")) (declassified (codes "2"))
declassifies-leaks = record {
  first = reached (with_memo (policy true false u) (codes "1")) declassifies (declassifies-trail (codes "1"));
  second = reached (with_memo (policy true false u) (codes "2")) declassifies (declassifies-trail (codes "2"));
  agree = memos-agree Two true false u;
  alike = record { entries = refl; losses = refl };
  tells = λ t. absurd (omega (arith, ap (λ p. first_shown p.answer) (t.places 1 1 (lit< tt) (lit< tt) refl refl refl)));
}

-- the trusted subject is granted no access, and the other is not trusted
declassifies-trusted : (words : List ℕ) → TrustedLetNothingDown u (history_of (declassified words))
declassifies-trusted words zero lt trusted done = absurd (true≢false (sym done))
declassifies-trusted words (suc zero) lt trusted done = absurd (true≢false (sym trusted))
declassifies-trusted words (suc (suc n)) lt trusted done = absurd (omega (arith, lt))

-- ---- in version 1 a subject comes down between a place and its child: which child it is rests on the memo

abbrev comes_down : List Event
comes_down = Opens bob ∷ Admits 0 1 chooses ∷ Admits 0 2 comes_to_u ∷ Starts 0 ∷ Ends 0 ∷ Starts 1 ∷ Starts 2 ∷ Ends 2 ∷ []

abbrev speaks_at_s : Version → List ℕ → Setup
speaks_at_s version words = by_version version (with_memo (policy false false s) words)

abbrev came_down : List ℕ → State
came_down words = after (speaks_at_s One words) comes_down

comes_down-order : kept_entries u (history_of (came_down (codes "1"))) ≡ Line 0 2 bob comes_to_u ∷ Child 0 1 ∷ []
comes_down-order = refl

comes_down-leaks : Leak (came_down (codes "1")) (came_down (codes "2"))
comes_down-leaks = record {
  first = reached (speaks_at_s One (codes "1")) comes_down (
    (lit< tt, lit< tt),
    (
      (lit< tt, chooses_is_readable, lit< tt, lit< tt, lit≤ tt),
      (
        (lit< tt, comes_to_u_is_readable, lit< tt, lit< tt, lit≤ tt),
        (next_may_start _ 0 (lit< tt) refl refl, (refl, (next_may_start _ 1 (lit< tt) refl refl, (next_may_start _ 2 (lit< tt) refl refl, (refl, tt))))),
      ),
    ),
  );
  second = reached (speaks_at_s One (codes "2")) comes_down (
    (lit< tt, lit< tt),
    (
      (lit< tt, chooses_is_readable, lit< tt, lit< tt, lit≤ tt),
      (
        (lit< tt, comes_to_u_is_readable, lit< tt, lit< tt, lit≤ tt),
        (next_may_start _ 0 (lit< tt) refl refl, (refl, (next_may_start _ 1 (lit< tt) refl refl, (next_may_start _ 2 (lit< tt) refl refl, (refl, tt))))),
      ),
    ),
  );
  agree = memos-agree One false false s;
  alike = record { entries = refl; losses = refl };
  tells = λ t. absurd (omega (arith, ap (λ p. first_shown p.answer) (t.places 2 2 (lit< tt) (lit< tt) refl refl refl)));
}

comes_down-trusted-one : TrustedLetNothingDown u (history_of (came_down (codes "1")))
comes_down-trusted-one zero lt trusted done = absurd (true≢false (sym trusted))
comes_down-trusted-one (suc zero) lt trusted done = absurd (true≢false (sym trusted))
comes_down-trusted-one (suc (suc zero)) lt trusted done = absurd (true≢false (sym trusted))
comes_down-trusted-one (suc (suc (suc n))) lt trusted done = absurd (omega (arith, lt))

comes_down-documents-one : NoDocumentComesDown u (history_of (came_down (codes "1")))
comes_down-documents-one zero doc lt low = low
comes_down-documents-one (suc zero) doc lt low = low
comes_down-documents-one (suc (suc zero)) doc lt low = low
comes_down-documents-one (suc (suc (suc n))) doc lt low = absurd (omega (arith, lt))

comes_down-trusted-two : TrustedLetNothingDown u (history_of (came_down (codes "2")))
comes_down-trusted-two zero lt trusted done = absurd (true≢false (sym trusted))
comes_down-trusted-two (suc zero) lt trusted done = absurd (true≢false (sym trusted))
comes_down-trusted-two (suc (suc zero)) lt trusted done = absurd (true≢false (sym trusted))
comes_down-trusted-two (suc (suc (suc n))) lt trusted done = absurd (omega (arith, lt))

comes_down-documents-two : NoDocumentComesDown u (history_of (came_down (codes "2")))
comes_down-documents-two zero doc lt low = low
comes_down-documents-two (suc zero) doc lt low = low
comes_down-documents-two (suc (suc zero)) doc lt low = low
comes_down-documents-two (suc (suc (suc n))) doc lt low = absurd (omega (arith, lt))

-- ---- the setups are judged by two versions: a child carries in the second alone, and is denied there

abbrev goes_on_below : List Event
goes_on_below = Opens bob ∷ Admits 0 1 shows_later ∷ Admits 0 2 comes_to_u ∷ Starts 0 ∷ Ends 0 ∷ Starts 1 ∷ Starts 2 ∷ []

abbrev went_on : Version → State
went_on version = after (speaks_at_s version (codes "1")) goes_on_below

went_on-one : IsReached (went_on One)
went_on-one = reached (speaks_at_s One (codes "1")) goes_on_below (
  (lit< tt, lit< tt),
  (
    (lit< tt, shows_later_is_readable, lit< tt, lit< tt, lit≤ tt),
    (
      (lit< tt, comes_to_u_is_readable, lit< tt, lit< tt, lit≤ tt),
      (next_may_start _ 0 (lit< tt) refl refl, (refl, (next_may_start _ 1 (lit< tt) refl refl, (next_may_start _ 2 (lit< tt) refl refl, tt)))),
    ),
  ),
)

went_on-two : IsReached (went_on Two)
went_on-two = reached (speaks_at_s Two (codes "1")) goes_on_below (
  (lit< tt, lit< tt),
  (
    (lit< tt, shows_later_is_readable, lit< tt, lit< tt, lit≤ tt),
    (
      (lit< tt, comes_to_u_is_readable, lit< tt, lit< tt, lit≤ tt),
      (next_may_start _ 0 (lit< tt) refl refl, (refl, (next_may_start _ 1 (lit< tt) refl refl, (next_may_start _ 2 (lit< tt) refl refl, tt)))),
    ),
  ),
)

-- at s, which dominates all, they are sealed, and the same is kept of both: all
went_on-sealed-one : IsSealed s (history_of (went_on One))
went_on-sealed-one = record { trusted = none_trusted; documents = none_moves; children = λ one. low_parent }
  where
    none_trusted : TrustedLetNothingDown s (history_of (went_on One))
    none_trusted zero lt trusted done = absurd (true≢false (sym trusted))
    none_trusted (suc zero) lt trusted done = absurd (true≢false (sym trusted))
    none_trusted (suc (suc zero)) lt trusted done = absurd (true≢false (sym trusted))
    none_trusted (suc (suc (suc n))) lt trusted done = absurd (omega (arith, lt))

    none_moves : NoDocumentComesDown s (history_of (went_on One))
    none_moves zero doc lt low = low
    none_moves (suc zero) doc lt low = low
    none_moves (suc (suc zero)) doc lt low = low
    none_moves (suc (suc (suc n))) doc lt low = absurd (omega (arith, lt))

    low_parent : NoChildComesDown s (history_of (went_on One))
    low_parent zero parent which is low = absurd (cc)
    low_parent (suc zero) parent which is low = absurd (cc)
    low_parent (suc (suc zero)) parent which is low = let same : parent ≡ 0 = cc in ap (is_low_place s (history_of (went_on One))) same
    low_parent (suc (suc (suc n))) parent which is low = absurd (cc)

went_on-untrusted-two : IsUntrusted (history_of (went_on Two))
went_on-untrusted-two = untrusted_by_test (history_of (went_on Two)) refl

went_on-alike : KeepTheSame s (history_of (went_on One)) (history_of (went_on Two))
went_on-alike = record { entries = refl; losses = refl }

-- but for the version they have one setup
went_on-setups : by_version Two (went_on One).setup ≡ (went_on Two).setup
went_on-setups = refl

went_on-tells : TellTheSame s (history_of (went_on One)) (history_of (went_on Two)) → ⊥
went_on-tells t = absurd (omega (arith, ap (λ p. first_shown p.answer) (t.places 2 2 (lit< tt) (lit< tt) refl refl refl)))

-- ---- a body that does not keep to its accesses shows what it only appends to

abbrev peeks : List ℕ → History
peeks words = record {
  setup = with_memo (policy false false u) words;
  lost = λ n. false;
  order = Line 0 1 bob (work.Behaviour (record { accesses = record { mode = Append; doc = memo } ∷ []; body = Show memo Nothing } ∷ [])) ∷ [];
}

peeks-legal : (words : List ℕ) → IsLegal (peeks words).setup (peeks words).lost (peeks words).order
peeks-legal words = record {
  rising = rising;
  placed = λ n parent which is. absurd (no_child n parent which is);
  once = λ m n parent which is stands. absurd (no_child m parent which is);
}
  where
    no_child : (n parent which : ℕ) → slice_get (peeks words).order n ≡ Some (Child parent which) → ⊥
    no_child zero parent which is = cc
    no_child (suc n) parent which is = cc

    rising : (m n session k l v w : ℕ) (x y : Work) → m < n → slice_get (peeks words).order m ≡ Some (Line session k v x) → slice_get (peeks words).order n ≡ Some (Line session l w y) → k < l
    rising m zero session k l v w x y lt is stands = absurd (omega arith)
    rising m (suc n) session k l v w x y lt is stands = absurd (cc)

peeks-sealed : (words : List ℕ) → IsSealed u (peeks words)
peeks-sealed words = record { trusted = none_trusted; documents = none_moves; children = λ one. absurd (cc) }
  where
    none_trusted : TrustedLetNothingDown u (peeks words)
    none_trusted zero lt trusted done = absurd (true≢false (sym trusted))
    none_trusted (suc n) lt trusted done = absurd (omega (arith, lt))

    none_moves : NoDocumentComesDown u (peeks words)
    none_moves zero doc lt low = low
    none_moves (suc n) doc lt low = absurd (omega (arith, lt))

peeks-alike : KeepTheSame u (peeks (codes "1")) (peeks (codes "2"))
peeks-alike = record { entries = refl; losses = refl }

peeks-tells : TellTheSame u (peeks (codes "1")) (peeks (codes "2")) → ⊥
peeks-tells t = absurd (omega (arith, ap (λ p. first_shown p.answer) (t.places 0 0 (lit< tt) (lit< tt) refl refl refl)))
