-- Plain histories: what is said in two of which the same is kept; and for each premise on the two, a pair that meets all others and
-- is told otherwise.
use Rattle.std.proofs.Common.{arith, lit<, lit≤, ap, inr, refl}
use Rattle.std.specs.Prelude.{◌≡◌, ℕ, false, List, [], ◌∷◌, Some, codes}
use Rattle.bl_policy.specs.Matrix.{triple}
use Rattle.bl_policy.specs.Policy.{without_triple}
use Rattle.bl_policy.specs.declared.access.Mode.TheVariants.{Read}
use Rattle.bl_policy.specs.declared.denial.Clause.TheVariants as failing
use Rattle.bl_policy.specs.declared.denial.Denial.{Denial}
use Rattle.bl_work.specs.declared.answer.Answer.TheVariants.{Done, Denied}
use Rattle.bl_setup.specs.Setup.{Setup}
use Rattle.bl_setup.specs.declared.version.Version.TheVariants.{Two}
use Rattle.bl_order.specs.Headline.{IsReached}
use Rattle.bl_order.specs.Machine.{State, Event, Opens, Admits, Starts, Ends, Loses, has_ended}
use Rattle.bl_order.specs.Order.{Line, Child}
use Rattle.bl_flow.specs.Flow.{TellTheSame}
use Rattle.bl_flow.specs.Low.{AgreeLow, history_of, place_in}
use Rattle.bl_flow.specs.Purge.{KeepTheSame, kept_entries, kept_unnamed, kept_losses}
use Rattle.bl_flow.specs.Sealed.{IsPlain, IsUntrusted}
use Rattle.bl_flow.proofs.Examples.{u, s, note, ann, bob, policy, with_texts, with_memo, memos-agree, shows_memo, shows_memo_is_readable, shows_note, shows_note_is_readable, sets_note, sets_note_is_readable, chooses, chooses_is_readable, comes_to_u, comes_to_u_is_readable, rescinds_note, rescinds_note_is_readable, next_may_start, untrusted_by_test, plain_by_tests, after, reached, first_shown}

-- a trail leads to the state, and its history is plain, so that it is sealed at every level
record IsReachedAndPlain (x : State) : Type 0 where
  pub by_trail : IsReached x
  pub plain : IsPlain (history_of x)

-- why bob may not show the note
abbrev kept_from_bob : Denial
kept_from_bob = record { clause = failing.Discretionary; subject = bob; object = Some note }

-- ---- more than bob's lines: ann reads the memo and spawns by it while bob shows the note twice; she says nothing; she opens no
-- session, so that bob's has another number

abbrev setup_one : Setup
setup_one = with_memo (policy false false u) (codes "1")

abbrev setup_two : Setup
setup_two = with_memo (policy false false u) (codes "2")

abbrev beside_ann : List Event
beside_ann =
    Opens ann ∷ Opens bob ∷ Admits 0 1 chooses ∷ Admits 1 1 shows_note ∷ Starts 0 ∷ Ends 0 ∷ Admits 1 2 shows_note
    ∷ Starts 1 ∷ Ends 1 ∷ Starts 2 ∷ Ends 2 ∷ Starts 3 ∷ Ends 3 ∷ []

abbrev beside_silent_ann : List Event
beside_silent_ann = Opens ann ∷ Opens bob ∷ Admits 1 1 shows_note ∷ Admits 1 2 shows_note ∷ Starts 0 ∷ Ends 0 ∷ Starts 1 ∷ Ends 1 ∷ []

abbrev without_ann : List Event
without_ann = Opens bob ∷ Admits 0 1 shows_note ∷ Admits 0 2 shows_note ∷ Starts 0 ∷ Ends 0 ∷ Starts 1 ∷ Ends 1 ∷ []

abbrev one : State
one = after setup_one beside_ann

abbrev two : State
two = after setup_two beside_silent_ann

abbrev three : State
three = after setup_two without_ann

one-order : one.order ≡ Line 0 1 ann chooses ∷ Line 1 1 bob shows_note ∷ Child 0 1 ∷ Line 1 2 bob shows_note ∷ []
one-order = refl

one-kept : kept_entries u (history_of one) ≡ Line 1 1 bob shows_note ∷ Line 1 2 bob shows_note ∷ []
one-kept = refl

three-kept : kept_entries u (history_of three) ≡ Line 0 1 bob shows_note ∷ Line 0 2 bob shows_note ∷ []
three-kept = refl

one-holds : IsReachedAndPlain one
one-holds = record {
  by_trail = reached setup_one beside_ann (
    (lit< tt, lit< tt),
    (
      (lit< tt, lit< tt),
      (
        (lit< tt, chooses_is_readable, lit< tt, lit< tt, lit≤ tt),
        (
          (lit< tt, shows_note_is_readable, lit< tt, lit< tt, lit≤ tt),
          (
            next_may_start _ 0 (lit< tt) refl refl,
            (
              refl,
              (
                (lit< tt, shows_note_is_readable, lit< tt, lit< tt, lit≤ tt),
                (next_may_start _ 1 (lit< tt) refl refl, (refl, (next_may_start _ 2 (lit< tt) refl refl, (refl, (next_may_start _ 3 (lit< tt) refl refl, (refl, tt)))))),
              ),
            ),
          ),
        ),
      ),
    ),
  );
  plain = plain_by_tests (history_of one) refl refl;
}

two-holds : IsReachedAndPlain two
two-holds = record {
  by_trail = reached setup_two beside_silent_ann (
    (lit< tt, lit< tt),
    (
      (lit< tt, lit< tt),
      (
        (lit< tt, shows_note_is_readable, lit< tt, lit< tt, lit≤ tt),
        (
          (lit< tt, shows_note_is_readable, lit< tt, lit< tt, lit≤ tt),
          (next_may_start _ 0 (lit< tt) refl refl, (refl, (next_may_start _ 1 (lit< tt) refl refl, (refl, tt)))),
        ),
      ),
    ),
  );
  plain = plain_by_tests (history_of two) refl refl;
}

three-holds : IsReachedAndPlain three
three-holds = record {
  by_trail = reached setup_two without_ann (
    (lit< tt, lit< tt),
    (
      (lit< tt, shows_note_is_readable, lit< tt, lit< tt, lit≤ tt),
      (
        (lit< tt, shows_note_is_readable, lit< tt, lit< tt, lit≤ tt),
        (next_may_start _ 0 (lit< tt) refl refl, (refl, (next_may_start _ 1 (lit< tt) refl refl, (refl, tt)))),
      ),
    ),
  );
  plain = plain_by_tests (history_of three) refl refl;
}

-- the setups agree on what is low, and the same is kept of all three: what the law on states supposes is met
one-two-agree : AgreeLow u one.setup two.setup
one-two-agree = memos-agree Two false false u

one-three-agree : AgreeLow u one.setup three.setup
one-three-agree = memos-agree Two false false u

one-two-alike : KeepTheSame u (history_of one) (history_of two)
one-two-alike = record { entries = refl; losses = refl }

one-three-alike : KeepTheSame u (history_of one) (history_of three)
one-three-alike = record { entries = refl; losses = refl }

-- and so it is said: bob shows the note twice, and each of his places has one record in all three
one-shown : (place_in (history_of one) 3).answer ≡ Done (codes "n" ∷ [])
one-shown = refl

one-two-first : place_in (history_of one) 1 ≡ place_in (history_of two) 0
one-two-first = refl

one-two-second : place_in (history_of one) 3 ≡ place_in (history_of two) 1
one-two-second = refl

one-three-first : place_in (history_of one) 1 ≡ place_in (history_of three) 0
one-three-first = refl

one-three-second : place_in (history_of one) 3 ≡ place_in (history_of three) 1
one-three-second = refl

-- ---- ann says one line more before a rule, so that the rule, which is kept, has another ordinal

abbrev rescinds_at_once : List Event
rescinds_at_once = Opens ann ∷ Opens bob ∷ Admits 0 1 rescinds_note ∷ Admits 1 1 shows_note ∷ Starts 0 ∷ Starts 1 ∷ []

abbrev rescinds_after_a_line : List Event
rescinds_after_a_line =
    Opens ann ∷ Opens bob ∷ Admits 0 1 shows_memo ∷ Admits 0 2 rescinds_note ∷ Admits 1 1 shows_note
    ∷ Starts 0 ∷ Ends 0 ∷ Starts 1 ∷ Starts 2 ∷ []

abbrev rescinded : State
rescinded = after setup_one rescinds_at_once

abbrev rescinded_later : State
rescinded_later = after setup_two rescinds_after_a_line

rescinded-kept : kept_entries u (history_of rescinded) ≡ Line 0 1 ann rescinds_note ∷ Line 1 1 bob shows_note ∷ []
rescinded-kept = refl

rescinded_later-kept : kept_entries u (history_of rescinded_later) ≡ Line 0 2 ann rescinds_note ∷ Line 1 1 bob shows_note ∷ []
rescinded_later-kept = refl

rescinded-holds : IsReachedAndPlain rescinded
rescinded-holds = record {
  by_trail = reached setup_one rescinds_at_once (
    (lit< tt, lit< tt),
    (
      (lit< tt, lit< tt),
      (
        (lit< tt, rescinds_note_is_readable, lit< tt, lit< tt, lit≤ tt),
        (
          (lit< tt, shows_note_is_readable, lit< tt, lit< tt, lit≤ tt),
          (next_may_start _ 0 (lit< tt) refl refl, (next_may_start _ 1 (lit< tt) refl refl, tt)),
        ),
      ),
    ),
  );
  plain = plain_by_tests (history_of rescinded) refl refl;
}

rescinded_later-holds : IsReachedAndPlain rescinded_later
rescinded_later-holds = record {
  by_trail = reached setup_two rescinds_after_a_line (
    (lit< tt, lit< tt),
    (
      (lit< tt, lit< tt),
      (
        (lit< tt, shows_memo_is_readable, lit< tt, lit< tt, lit≤ tt),
        (
          (lit< tt, rescinds_note_is_readable, lit< tt, lit< tt, lit≤ tt),
          (
            (lit< tt, shows_note_is_readable, lit< tt, lit< tt, lit≤ tt),
            (next_may_start _ 0 (lit< tt) refl refl, (refl, (next_may_start _ 1 (lit< tt) refl refl, (next_may_start _ 2 (lit< tt) refl refl, tt)))),
          ),
        ),
      ),
    ),
  );
  plain = plain_by_tests (history_of rescinded_later) refl refl;
}

rescinded-agree : AgreeLow u rescinded.setup rescinded_later.setup
rescinded-agree = memos-agree Two false false u

rescinded-alike : KeepTheSame u (history_of rescinded) (history_of rescinded_later)
rescinded-alike = record { entries = refl; losses = refl }

-- and so it is said: the rule and bob's line have one record in both, and bob is denied
rescinded-rule : place_in (history_of rescinded) 0 ≡ place_in (history_of rescinded_later) 1
rescinded-rule = refl

rescinded-line : place_in (history_of rescinded) 1 ≡ place_in (history_of rescinded_later) 2
rescinded-line = refl

rescinded-denied : (place_in (history_of rescinded) 1).answer ≡ Denied kept_from_bob
rescinded-denied = refl

-- ---- a rule is in one of them alone, ann's `rescind`: bob is told otherwise

abbrev shows_once : List Event
shows_once = Opens bob ∷ Admits 0 1 shows_note ∷ Starts 0 ∷ Ends 0 ∷ []

abbrev shown : State
shown = after setup_one shows_once

shown-holds : IsReachedAndPlain shown
shown-holds = record {
  by_trail = reached setup_one shows_once
      ((lit< tt, lit< tt), ((lit< tt, shows_note_is_readable, lit< tt, lit< tt, lit≤ tt), (next_may_start _ 0 (lit< tt) refl refl, (refl, tt))));
  plain = plain_by_tests (history_of shown) refl refl;
}

-- the rule is all that they differ in, of what is kept
with_rule-kept : kept_unnamed u (history_of rescinded) ≡ Line 0 0 ann rescinds_note ∷ kept_unnamed u (history_of shown)
with_rule-kept = refl

with_rule-losses : kept_losses u (history_of rescinded) ≡ false ∷ kept_losses u (history_of shown)
with_rule-losses = refl

-- bob's line is answered in the one, and denied in the other, as `rescinded-denied` has it
without_rule-shown : (place_in (history_of shown) 0).answer ≡ Done (codes "n" ∷ [])
without_rule-shown = refl

-- ---- a low line stands elsewhere among the low lines: bob's two sessions are told otherwise

abbrev sets_before : List Event
sets_before = Opens bob ∷ Opens bob ∷ Admits 0 1 sets_note ∷ Admits 1 1 shows_note ∷ Starts 0 ∷ Ends 0 ∷ Starts 1 ∷ Ends 1 ∷ []

abbrev sets_behind : List Event
sets_behind = Opens bob ∷ Opens bob ∷ Admits 1 1 shows_note ∷ Admits 0 1 sets_note ∷ Starts 0 ∷ Ends 0 ∷ Starts 1 ∷ Ends 1 ∷ []

abbrev set_before : State
set_before = after setup_one sets_before

abbrev set_behind : State
set_behind = after setup_one sets_behind

set_before-holds : IsReachedAndPlain set_before
set_before-holds = record {
  by_trail = reached setup_one sets_before (
    (lit< tt, lit< tt),
    (
      (lit< tt, lit< tt),
      (
        (lit< tt, sets_note_is_readable, lit< tt, lit< tt, lit≤ tt),
        (
          (lit< tt, shows_note_is_readable, lit< tt, lit< tt, lit≤ tt),
          (next_may_start _ 0 (lit< tt) refl refl, (refl, (next_may_start _ 1 (lit< tt) refl refl, (refl, tt)))),
        ),
      ),
    ),
  );
  plain = plain_by_tests (history_of set_before) refl refl;
}

set_behind-holds : IsReachedAndPlain set_behind
set_behind-holds = record {
  by_trail = reached setup_one sets_behind (
    (lit< tt, lit< tt),
    (
      (lit< tt, lit< tt),
      (
        (lit< tt, shows_note_is_readable, lit< tt, lit< tt, lit≤ tt),
        (
          (lit< tt, sets_note_is_readable, lit< tt, lit< tt, lit≤ tt),
          (next_may_start _ 0 (lit< tt) refl refl, (refl, (next_may_start _ 1 (lit< tt) refl refl, (refl, tt)))),
        ),
      ),
    ),
  );
  plain = plain_by_tests (history_of set_behind) refl refl;
}

-- each session says the same in both, in another order
set_before-kept : kept_entries u (history_of set_before) ≡ Line 0 1 bob sets_note ∷ Line 1 1 bob shows_note ∷ []
set_before-kept = refl

set_behind-kept : kept_entries u (history_of set_behind) ≡ Line 1 1 bob shows_note ∷ Line 0 1 bob sets_note ∷ []
set_behind-kept = refl

set_before-shown : (place_in (history_of set_before) 1).answer ≡ Done (codes "m" ∷ [])
set_before-shown = refl

set_behind-shown : (place_in (history_of set_behind) 0).answer ≡ Done (codes "n" ∷ [])
set_behind-shown = refl

-- ---- a low place is lost in one of them alone

abbrev loses_it : List Event
loses_it = Opens bob ∷ Admits 0 1 shows_note ∷ Loses 0 ∷ []

abbrev lost_it : State
lost_it = after setup_one loses_it

lost_it-holds : IsReachedAndPlain lost_it
lost_it-holds = record {
  by_trail = reached setup_one loses_it
      ((lit< tt, lit< tt), ((lit< tt, shows_note_is_readable, lit< tt, lit< tt, lit≤ tt), (inr (next_may_start _ 0 (lit< tt) refl refl), tt)));
  plain = plain_by_tests (history_of lost_it) refl refl;
}

-- from one setup the same entries are kept
lost_it-entries : kept_unnamed u (history_of shown) ≡ kept_unnamed u (history_of lost_it)
lost_it-entries = refl

lost_it-tells : TellTheSame u (history_of shown) (history_of lost_it) → ⊥
lost_it-tells t = absurd (omega (arith, ap (λ p. first_shown p.answer) (t.places 0 0 (lit< tt) (lit< tt) refl refl refl)))

-- ---- the policies are not the same: bob may not read the note in the second

abbrev barring_setup : Setup
barring_setup = with_memo (without_triple (policy false false u) (triple bob note Read)) (codes "1")

abbrev is_denied : List Event
is_denied = Opens bob ∷ Admits 0 1 shows_note ∷ Starts 0 ∷ []

abbrev barred : State
barred = after barring_setup is_denied

barred-holds : IsReachedAndPlain barred
barred-holds = record {
  by_trail = reached barring_setup is_denied
      ((lit< tt, lit< tt), ((lit< tt, shows_note_is_readable, lit< tt, lit< tt, lit≤ tt), (next_may_start _ 0 (lit< tt) refl refl, tt)));
  plain = plain_by_tests (history_of barred) refl refl;
}

-- each content is one in both
barred-contents : barred.setup.contents ≡ shown.setup.contents
barred-contents = refl

barred-alike : KeepTheSame u (history_of shown) (history_of barred)
barred-alike = record { entries = refl; losses = refl }

barred-tells : TellTheSame u (history_of shown) (history_of barred) → ⊥
barred-tells t = absurd (omega (arith, ap (λ p. first_shown p.answer) (t.places 0 0 (lit< tt) (lit< tt) refl refl refl)))

-- ---- a low document is not the same: the note has another text in the second

abbrev other_note : Setup
other_note = with_texts (policy false false u) (codes "1") (codes "m")

abbrev shown_other : State
shown_other = after other_note shows_once

shown_other-holds : IsReachedAndPlain shown_other
shown_other-holds = record {
  by_trail = reached other_note shows_once
      ((lit< tt, lit< tt), ((lit< tt, shows_note_is_readable, lit< tt, lit< tt, lit≤ tt), (next_may_start _ 0 (lit< tt) refl refl, (refl, tt))));
  plain = plain_by_tests (history_of shown_other) refl refl;
}

shown_other-policy : shown_other.setup.policy ≡ shown.setup.policy
shown_other-policy = refl

shown_other-alike : KeepTheSame u (history_of shown) (history_of shown_other)
shown_other-alike = record { entries = refl; losses = refl }

shown_other-tells : TellTheSame u (history_of shown) (history_of shown_other) → ⊥
shown_other-tells t = absurd (omega (arith, ap (λ p. first_shown p.answer) (t.places 0 0 (lit< tt) (lit< tt) refl refl refl)))

-- ---- a place that has not ended is compared by what it will answer: bob's line waits in the second

abbrev asks_only : List Event
asks_only = Opens bob ∷ Admits 0 1 shows_note ∷ []

abbrev waiting : State
waiting = after setup_two asks_only

waiting-holds : IsReachedAndPlain waiting
waiting-holds = record {
  by_trail = reached setup_two asks_only ((lit< tt, lit< tt), ((lit< tt, shows_note_is_readable, lit< tt, lit< tt, lit≤ tt), tt));
  plain = plain_by_tests (history_of waiting) refl refl;
}

waiting-not_ended : has_ended waiting 0 ≡ false
waiting-not_ended = refl

waiting-agree : AgreeLow u shown.setup waiting.setup
waiting-agree = memos-agree Two false false u

waiting-alike : KeepTheSame u (history_of shown) (history_of waiting)
waiting-alike = record { entries = refl; losses = refl }

waiting-line : place_in (history_of shown) 0 ≡ place_in (history_of waiting) 0
waiting-line = refl

-- ---- a subject comes down, in version 2: no trusted subject speaks, so that the histories are sealed, though a rule changes a level.
-- The child that the memo chose runs at u and carries s, so that it is not low; what bob says afterwards is.

abbrev comes_down_and_shows : List Event
comes_down_and_shows =
    Opens bob ∷ Admits 0 1 chooses ∷ Admits 0 2 comes_to_u ∷ Starts 0 ∷ Ends 0 ∷ Admits 0 3 shows_note
    ∷ Starts 1 ∷ Starts 2 ∷ Ends 2 ∷ Starts 3 ∷ Ends 3 ∷ []

abbrev came_down : List ℕ → State
came_down words = after (with_memo (policy false false s) words) comes_down_and_shows

came_down-one : IsReached (came_down (codes "1"))
came_down-one = reached (with_memo (policy false false s) (codes "1")) comes_down_and_shows (
  (lit< tt, lit< tt),
  (
    (lit< tt, chooses_is_readable, lit< tt, lit< tt, lit≤ tt),
    (
      (lit< tt, comes_to_u_is_readable, lit< tt, lit< tt, lit≤ tt),
      (
        next_may_start _ 0 (lit< tt) refl refl,
        (
          refl,
          (
            (lit< tt, shows_note_is_readable, lit< tt, lit< tt, lit≤ tt),
            (next_may_start _ 1 (lit< tt) refl refl, (next_may_start _ 2 (lit< tt) refl refl, (refl, (next_may_start _ 3 (lit< tt) refl refl, (refl, tt))))),
          ),
        ),
      ),
    ),
  ),
)

came_down-two : IsReached (came_down (codes "2"))
came_down-two = reached (with_memo (policy false false s) (codes "2")) comes_down_and_shows (
  (lit< tt, lit< tt),
  (
    (lit< tt, chooses_is_readable, lit< tt, lit< tt, lit≤ tt),
    (
      (lit< tt, comes_to_u_is_readable, lit< tt, lit< tt, lit≤ tt),
      (
        next_may_start _ 0 (lit< tt) refl refl,
        (
          refl,
          (
            (lit< tt, shows_note_is_readable, lit< tt, lit< tt, lit≤ tt),
            (next_may_start _ 1 (lit< tt) refl refl, (next_may_start _ 2 (lit< tt) refl refl, (refl, (next_may_start _ 3 (lit< tt) refl refl, (refl, tt))))),
          ),
        ),
      ),
    ),
  ),
)

came_down-untrusted-one : IsUntrusted (history_of (came_down (codes "1")))
came_down-untrusted-one = untrusted_by_test (history_of (came_down (codes "1"))) refl

came_down-untrusted-two : IsUntrusted (history_of (came_down (codes "2")))
came_down-untrusted-two = untrusted_by_test (history_of (came_down (codes "2"))) refl

came_down-order : (came_down (codes "1")).order ≡ Line 0 1 bob chooses ∷ Line 0 2 bob comes_to_u ∷ Child 0 1 ∷ Line 0 3 bob shows_note ∷ []
came_down-order = refl

came_down-level : (place_in (history_of (came_down (codes "1"))) 2).level ≡ u
came_down-level = refl

came_down-carried : (place_in (history_of (came_down (codes "1"))) 2).carried ≡ s
came_down-carried = refl

came_down-kept : kept_entries u (history_of (came_down (codes "1"))) ≡ Line 0 2 bob comes_to_u ∷ Line 0 3 bob shows_note ∷ []
came_down-kept = refl

came_down-agree : AgreeLow u (came_down (codes "1")).setup (came_down (codes "2")).setup
came_down-agree = memos-agree Two false false s

came_down-alike : KeepTheSame u (history_of (came_down (codes "1"))) (history_of (came_down (codes "2")))
came_down-alike = record { entries = refl; losses = refl }

-- and so it is said: the rule and the line have one record in both
came_down-rule : place_in (history_of (came_down (codes "1"))) 1 ≡ place_in (history_of (came_down (codes "2"))) 1
came_down-rule = refl

came_down-line : place_in (history_of (came_down (codes "1"))) 3 ≡ place_in (history_of (came_down (codes "2"))) 3
came_down-line = refl

came_down-shown : (place_in (history_of (came_down (codes "1"))) 3).answer ≡ Done (codes "n" ∷ [])
came_down-shown = refl
