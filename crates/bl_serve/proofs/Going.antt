-- How a course goes on with what its pass sees: while it only quiet, where a line of it is admitted or refused, and where it is answered.
use Rattle.std.proofs.Common.{◌≡◌, ℕ, ◌+◌, ◌<◌, ◌≤◌, ◌⊎◌, inl, inr, Bool, true, false, true≢false, cond, List, [], ◌∷◌, ◌++◌, length, map, refl, sym, ap, subst, ◌∙◌, arith, append-nil, append_assoc, length-append, Some, slice_index_or, drop}
use Rattle.std.specs.Prelude.{All, Contains, ◌==◌, slice_get}
use Rattle.std.proofs.Math.Seq.{get_or-append_seam}
use Rattle.std.proofs.lemmas.List.Elements.{All-nil, All-cons, All-weaker, Contains-append_left, Contains-push}
use Rattle.std.proofs.lemmas.Bool.Decides.{eqb_tells, nat_tests}
use Rattle.bl_work.specs.Names.{KnownNames}
use Rattle.bl_work.specs.declared.work.Work.{Work}
use Rattle.bl_order.specs.Labels.{tag, replies_to}
use Rattle.bl_order.specs.Machine.{State, Event, Opens, Admits, Starts, Ends, Loses, IsTrail, change, start, state_after, session_at, no_session, has_ended, weight_of}
use Rattle.bl_order.specs.Room.{admitted_weight}
use Rattle.bl_order.proofs.Sound.{IsSound}
use Rattle.bl_order.proofs.Trails.{sound-start}
use Rattle.bl_hall.specs.Chronicle.{Chronicle, HasTrail, state_now}
use Rattle.bl_hall.specs.Told.{AreAnswers, Waits, reply_of}
use Rattle.bl_hall.specs.declared.reply.Reply as owned
use Rattle.bl_gate.specs.Counts.{times}
use Rattle.bl_gate.specs.Gates.{PassView, Calls, Follows, hall_seen, hall_with, state_seen}
use Rattle.bl_gate.proofs.Following.{base_stays}
use Rattle.bl_gate.proofs.Totals.{times-append}
use Rattle.bl_gate.proofs.Trails.{begins_length, begins_more, get_later, get_sooner}
use Rattle.bl_gate.proofs.Passing.{after_parts, trail_front, trail_back}
use Rattle.bl_worker.proofs.Settling.{call_inside, call_there, one_place}
use Rattle.bl_gate.proofs.Halls.{sound_at}
use Rattle.bl_wire.specs.Replies.{line_or_full, line_text}
use Rattle.bl_engine.specs.declared.request.Request.TheVariants as request
use Rattle.bl_engine.specs.declared.request.Request.{Request}
use Rattle.bl_engine.specs.Requests.{SameUpTo}
use Rattle.bl_session.specs.Transcripts.{admitted}
use Rattle.bl_session.proofs.TranscriptLaws.{KeepsSession, KeepsWeight, admitted-append, sessions_kept, weights_kept}
use Rattle.bl_serve.specs.Told.{line_of}
use Rattle.bl_serve.specs.Courses.{AdmitsNoLineOf, AreAdmitted, HasNoSettles, HaveWorks, IsCovered, IsAnswered, IsOpenedAt, IsOverUpTo, IsCourse, StandAt, Course, asked_in}
use Rattle.bl_serve.proofs.Admitted.{admitted_none, admitted_later, admitted_upto, admitted_one, admitted_full, asked_more}
use Rattle.bl_serve.proofs.Alone.{either, get_inside, stood, none_came}
use Rattle.bl_serve.proofs.Owning.{more_times, once, times_after}
use Rattle.bl_serve.proofs.Opened.{AreBelow, all_below, line_open, none_unopened}
use Rattle.bl_serve.proofs.Staying.{IsBehind, Stays, answers_stay, over_stays, replies_other, stays}
use Rattle.bl_serve.proofs.Telling.{GoByLines, line_is}

-- ---- what was asked before the last settling

no_settles_more : (rest : List Request) (k : ℕ) (w : Work) → HasNoSettles rest → HasNoSettles (rest ++ request.Admits k w ∷ [])
no_settles_more [] k w none = tt
no_settles_more (request.Opens u ∷ rest) k w none = no_settles_more rest k w none
no_settles_more (request.Admits i v ∷ rest) k w none = no_settles_more rest k w none
no_settles_more (request.Settles ∷ rest) k w none = absurd none

covers_asked : (upto : ℕ) (told : List Request) (k : ℕ) (w : Work) → IsCovered upto told → IsCovered upto (told ++ request.Admits k w ∷ [])
covers_asked upto told k w c = record {
  done = c.done;
  rest = c.rest ++ request.Admits k w ∷ [];
  split = ap (λ l. l ++ request.Admits k w ∷ []) c.split ∙ append_assoc c.done c.rest (request.Admits k w ∷ []);
  unsettled = no_settles_more c.rest k w c.unsettled;
  low = c.low;
}

covers_settled : (upto last : ℕ) (told : List Request) → last ≤ upto → All (λ (a : ℕ × Work). a.0 ≤ last) (asked_in told) → IsCovered upto (told ++ request.Settles ∷ [])
covers_settled upto last told le low = record {
  done = told ++ request.Settles ∷ [];
  rest = [];
  split = sym (append-nil (told ++ request.Settles ∷ []));
  unsettled = tt;
  low = subst (All (λ (a : ℕ × Work). a.0 ≤ upto)) (sym (asked_more told (request.Settles ∷ []) ∙ append-nil (asked_in told)))
      (All-weaker (λ (a : ℕ × Work). a.0 ≤ last) (λ (a : ℕ × Work). a.0 ≤ upto) (λ a lo. omega (arith, lo, le)) (asked_in told) low);
}

-- ---- where the session was opened

pub opening_on : (p q : PassView) (g h : List ℕ) (session u : ℕ) → Follows p q → IsOpenedAt g p session u → IsOpenedAt (g ++ h) q session u
opening_on p q g h session u follows o = record {
  front = o.front;
  there = begins_more q.seen p.seen (o.front ++ Opens u ∷ []) follows.seen o.there;
  number = o.number ∙ ap (λ (b : Chronicle). length (state_now (hall_with b o.front)).sessions) (sym (base_stays p q follows));
  own = more_times (length o.front) g h o.own;
}

abbrev is_line : Event → Bool
is_line (Opens u) = false
is_line (Admits session k w) = true
is_line (Starts n) = false
is_line (Ends n) = false
is_line (Loses n) = false

pub no_line : (u session k : ℕ) (w : Work) → Some (Opens u) ≡ Some (Admits session k w) → ⊥
no_line u session k w e = let h : Opens u ≡ Admits session k w = cc in true≢false (sym (ap is_line h))

-- ---- from one moment of a pass to a later one

module _ (p q : PassView) (follows : Follows p q) (legal : HasTrail (hall_seen q)) where
  abbrev x : State
  x = state_seen p

  abbrev rest : List Event
  rest = follows.seen.0

  hall_is : hall_seen q ≡ hall_with p.gate.base (p.seen ++ rest)
  hall_is = λ i. hall_with (base_stays p q follows i) (follows.seen.1 i)

  pub state_is : state_seen q ≡ state_after (state_seen p) follows.seen.0
  state_is = ap state_now hall_is ∙ after_parts (start p.gate.base.setup p.gate.base.limit) p.seen rest

  whole : IsTrail (start p.gate.base.setup p.gate.base.limit) (p.seen ++ rest)
  whole = subst HasTrail hall_is legal

  trail_rest : IsTrail (state_seen p) follows.seen.0
  trail_rest = trail_back (start p.gate.base.setup p.gate.base.limit) p.seen rest whole

  sound : IsSound (state_seen p)
  sound = sound_at (hall_with p.gate.base p.seen) (trail_front (start p.gate.base.setup p.gate.base.limit) p.seen rest whole)

  kept_weight : KeepsWeight (state_seen p) (state_seen q)
  kept_weight = subst (KeepsWeight (state_seen p)) (sym state_is) (weights_kept (state_seen p) rest)

  pub kept_session : (session : ℕ) → session < length (state_seen p).sessions → KeepsSession (state_seen p) (state_seen q) session
  kept_session session lt = subst (λ y. KeepsSession (state_seen p) y session) (sym state_is) (sessions_kept (state_seen p) rest session lt)

  -- what was heard is heard still, with the lines that came
  heard_on : (session upto : ℕ) (works came : List (ℕ × Work)) (replies : ℕ → List ℕ) → IsAnswered p session upto works replies
      → admitted session follows.seen.0 ≡ came → All (IsBehind upto) came → IsAnswered q session upto (works ++ came) replies
  heard_on session upto works came replies h are above = record {
    lines = ap (admitted session) follows.seen.1 ∙ (admitted-append session p.seen rest ∙ (ap (λ l. l ++ admitted session rest) h.lines ∙ ap (λ l. works ++ l) are));
    over = over_stays (state_seen p) session upto (state_seen q) s;
    answers = λ k le. answers_stay (state_seen p) session upto (state_seen q) s k le ∙ h.answers k le;
  }
    where
      s : Stays (state_seen p) session upto (state_seen q)
      s = subst (Stays (state_seen p) session upto) (sym state_is)
          (stays (state_seen p) rest session upto sound trail_rest h.over (subst (All (IsBehind upto)) (sym are) above))

  -- the works of lines at positions that the pass had
  mine_on : (session : ℕ) (works : List (ℕ × Work)) (g : List ℕ) → HaveWorks g session p.seen works → ((i : ℕ) → 1 ≤ times i g → i < length p.seen)
      → (i k : ℕ) (w : Work) → 1 ≤ times i g → slice_get q.seen i ≡ Some (Admits session k w) → Contains works (k, w)
  mine_on session works g mine within i k w some at = mine i k w some (sym (get_sooner q.seen p.seen i follows.seen (within i some)) ∙ at)

  module _ (names : KnownNames) (first : PassView) (course : Course) (told : List Request) (t : IsCourse names first p course told) where
    names_then : names ≡ q.gate.base.setup.names → names ≡ p.gate.base.setup.names
    names_then e = e ∙ ap (λ (h : Chronicle). h.setup.names) (base_stays p q follows)

    length_on : length p.seen ≤ length q.seen
    length_on = begins_length q.seen p.seen follows.seen

    -- no line of it was admitted
    pub course_on : AdmitsNoLineOf course.session p q → IsCourse names first q course told
    course_on none = record {
      gained = t.gained ++ none.gained;
      own = none.own ∙ (ap (λ l. l ++ none.gained) t.own ∙ append_assoc first.own t.gained none.gained);
      within = λ i some. within i (either i t.gained none.gained some);
      trail = legal;
      there = (kept_session course.session t.there).there;
      subject = t.subject;
      more = t.more;
      opened = t.opened;
      opening = opening_on p q t.gained none.gained course.session t.subject follows t.opening;
      subject_is = (kept_session course.session t.there).subject ∙ t.subject_is;
      works = t.works;
      mine = λ i k w some at. mine i k w (either i t.gained none.gained some) at;
      admits = admitted_later (state_seen p) (state_seen q) course.last (asked_in told) t.works kept_weight.limit kept_weight.weight t.admits;
      covers = t.covers;
      answered = λ is alone.
          let a : StandAt (t.gained ++ none.gained) course.session (p.seen ++ rest) = subst (StandAt (t.gained ++ none.gained) course.session) follows.seen.1 alone in
          let n : (i k : ℕ) (w : Work) → slice_get (p.seen ++ rest) i ≡ Some (Admits course.session k w) → 1 ≤ times i none.gained → ⊥ =
          λ i k w at new. none.events i (Admits course.session k w) new (ap (λ (l : List Event). slice_get l i) follows.seen.1 ∙ at) refl in
          subst (λ l. IsAnswered q course.session course.upto l course.replies) (append-nil t.works)
          (heard_on course.session course.upto t.works [] course.replies (t.answered (names_then is) (stood course.session t.gained none.gained p.seen rest a n t.within))
          (none_came course.session t.gained none.gained p.seen rest a n t.within) (All-nil (IsBehind course.upto)));
    }
      where
        within : (i : ℕ) → (1 ≤ times i t.gained) ⊎ (1 ≤ times i none.gained) → i < length q.seen
        within i (inl old) = omega (arith, t.within i old, length_on)
        within i (inr new) = none.within i new

        mine : (i k : ℕ) (w : Work) → (1 ≤ times i t.gained) ⊎ (1 ≤ times i none.gained) → slice_get q.seen i ≡ Some (Admits course.session k w) → Contains t.works (k, w)
        mine i k w (inl old) at = mine_on course.session t.works t.gained t.mine t.within i k w old at
        mine i k w (inr new) at = absurd (none.events i (Admits course.session k w) new at refl)

    -- a line of it was admitted
    module _ (k : ℕ) (w : Work) (A : State → Type 0) (lt : course.last < k) (le : course.upto ≤ course.last) (call : Calls p (Admits course.session k w) A q) where
      abbrev others : List Event
      others = call.from.0

      abbrev event : Event
      event = Admits course.session k w

      seen_is : q.seen ≡ p.seen ++ (others ++ event ∷ [])
      seen_is = call.seen ∙ (ap (λ l. l ++ event ∷ []) call.from.1 ∙ append_assoc p.seen others (event ∷ []))

      abbrev one : List (ℕ × Work)
      one = (k, w) ∷ []

      alone_before : StandAt (t.gained ++ length call.trail ∷ []) course.session q.seen → StandAt (t.gained ++ length call.trail ∷ []) course.session (p.seen ++ others)
      alone_before alone i j v at =
          alone i j v (ap (λ (l : List Event). slice_get l i) call.seen ∙ get_later (call.trail ++ event ∷ []) call.trail i (Admits course.session j v) (event ∷ [], refl) (ap (λ (l : List Event). slice_get l i) call.from.1 ∙ at))

      not_new : (i j : ℕ) (v : Work) → slice_get (p.seen ++ others) i ≡ Some (Admits course.session j v) → 1 ≤ times i (length call.trail ∷ []) → ⊥
      not_new i j v at new =
          let here = get_inside (p.seen ++ others) i (Admits course.session j v) at in
          let same = one_place i (length call.trail) new in
          absurd (omega (arith, here, same, ap length call.from.1))

      came_is : admitted course.session (others ++ event ∷ []) ≡ admitted course.session others ++ one
      came_is = admitted-append course.session others (event ∷ []) ∙ ap (λ l. admitted course.session others ++ l) (own_line (eqb_tells course.session course.session))
        where
          own_line : (((course.session == course.session) ≡ true) × (course.session ≡ course.session)) ⊎ (((course.session == course.session) ≡ false) × (course.session ≡ course.session → ⊥)) → admitted course.session (event ∷ []) ≡ one
          own_line (inl e) = ap (λ (b : Bool). cond b one []) e.0
          own_line (inr e) = absurd (e.1 refl)

      pub course_asked : IsCourse names first q (record { session = course.session; last = k; upto = course.upto; replies = course.replies }) (told ++ request.Admits k w ∷ [])
      course_asked = record {
        gained = t.gained ++ length call.trail ∷ [];
        own = call.own ∙ (ap (λ l. l ++ length call.trail ∷ []) t.own ∙ append_assoc first.own t.gained (length call.trail ∷ []));
        within = λ i some. within i (either i t.gained (length call.trail ∷ []) some);
        trail = legal;
        there = (kept_session course.session t.there).there;
        subject = t.subject;
        more = t.more ++ request.Admits k w ∷ [];
        opened = ap (λ l. l ++ request.Admits k w ∷ []) t.opened;
        opening = opening_on p q t.gained (length call.trail ∷ []) course.session t.subject follows t.opening;
        subject_is = (kept_session course.session t.there).subject ∙ t.subject_is;
        works = t.works ++ one;
        mine = λ i j v some at. mine i j v (either i t.gained (length call.trail ∷ []) some) at;
        admits = subst (λ l. AreAdmitted (state_seen q) k l (t.works ++ one)) (sym (asked_more told (request.Admits k w ∷ [])))
            (admitted_one (state_seen p) (state_seen q) course.last (asked_in told) t.works kept_weight.limit kept_weight.weight t.admits k w lt);
        covers = covers_asked course.upto told k w t.covers;
        answered = λ is alone.
            let a = alone_before alone in
            let none : admitted course.session others ≡ [] = none_came course.session t.gained (length call.trail ∷ []) p.seen others a not_new t.within in
            let rests : rest ≡ others ++ event ∷ [] = same_rest p.seen rest (others ++ event ∷ []) (sym follows.seen.1 ∙ seen_is) in
            heard_on course.session course.upto t.works one course.replies (t.answered (names_then is) (stood course.session t.gained (length call.trail ∷ []) p.seen others a not_new t.within))
            (ap (admitted course.session) rests ∙ (came_is ∙ ap (λ l. l ++ one) none)) (All-cons (IsBehind course.upto) (k, w) [] (omega (arith, lt, le)) (All-nil (IsBehind course.upto)));
      }
        where
          within : (i : ℕ) → (1 ≤ times i t.gained) ⊎ (1 ≤ times i (length call.trail ∷ [])) → i < length q.seen
          within i (inl old) = omega (arith, t.within i old, length_on)
          within i (inr new) = let l = call_inside p q event A call in let e = one_place i (length call.trail) new in omega (arith, l, e)

          same_work : (j : ℕ) (v : Work) → Some event ≡ Some (Admits course.session j v) → ◌≡◌ {A = ℕ × Work} (k, w) (j, v)
          same_work j v same = let h : event ≡ Admits course.session j v = cc in let hk : k ≡ j = cc in let hw : w ≡ v = cc in λ i. (hk i, hw i)

          mine : (i j : ℕ) (v : Work) → (1 ≤ times i t.gained) ⊎ (1 ≤ times i (length call.trail ∷ [])) → slice_get q.seen i ≡ Some (Admits course.session j v) → Contains (t.works ++ one) (j, v)
          mine i j v (inl old) at = Contains-append_left t.works one (j, v) (mine_on course.session t.works t.gained t.mine t.within i j v old at)
          mine i j v (inr new) at =
              let same = same_work j v (sym (call_there p q event A call) ∙ (ap (slice_get q.seen) (sym (one_place i (length call.trail) new)) ∙ at)) in
              subst (λ (a : ℕ × Work). Contains (t.works ++ one) a) same (Contains-push t.works (k, w))

          same_rest : (xs a b : List Event) → xs ++ a ≡ xs ++ b → a ≡ b
          same_rest [] a b e = e
          same_rest (y ∷ xs) a b e = same_rest xs a b (ap (drop 1) e)

-- ---- at one moment of a pass

module _ (names : KnownNames) (first q : PassView) (course : Course) (told : List Request) (t : IsCourse names first q course told) where
  -- a line of it was refused, since there was no room
  pub course_full : (k : ℕ) (w : Work) → course.last < k → (state_seen q).limit < admitted_weight (state_seen q) + weight_of w
      → IsCourse names first q (record { session = course.session; last = k; upto = course.upto; replies = course.replies }) (told ++ request.Admits k w ∷ [])
  course_full k w lt over = record {
    gained = t.gained;
    own = t.own;
    within = t.within;
    trail = t.trail;
    there = t.there;
    subject = t.subject;
    more = t.more ++ request.Admits k w ∷ [];
    opened = ap (λ l. l ++ request.Admits k w ∷ []) t.opened;
    opening = t.opening;
    subject_is = t.subject_is;
    works = t.works;
    mine = t.mine;
    admits = subst (λ l. AreAdmitted (state_seen q) k l t.works) (sym (asked_more told (request.Admits k w ∷ [])))
        (admitted_full (state_seen q) (state_seen q) course.last (asked_in told) t.works refl (omega arith) t.admits k w lt over);
    covers = covers_asked course.upto told k w t.covers;
    answered = t.answered;
  }

  -- its lines up to an ordinal were answered
  pub course_settled : (ordinal : ℕ) (replies : ℕ → List ℕ) → course.last ≤ ordinal → ¬ Waits (state_seen q) course.session
      → (names ≡ q.gate.base.setup.names → (SameUpTo course.upto course.replies (line_text (state_seen q) course.session)) → SameUpTo ordinal replies (line_text (state_seen q) course.session))
      → IsCourse names first q (record { session = course.session; last = ordinal; upto = ordinal; replies = replies }) (told ++ request.Settles ∷ [])
  course_settled ordinal replies le none same = record {
    gained = t.gained;
    own = t.own;
    within = t.within;
    trail = t.trail;
    there = t.there;
    subject = t.subject;
    more = t.more ++ request.Settles ∷ [];
    opened = ap (λ l. l ++ request.Settles ∷ []) t.opened;
    opening = t.opening;
    subject_is = t.subject_is;
    works = t.works;
    mine = t.mine;
    admits = subst (λ l. AreAdmitted (state_seen q) ordinal l t.works) (sym (asked_more told (request.Settles ∷ []) ∙ append-nil (asked_in told)))
        (admitted_upto (state_seen q) (state_seen q) course.last (asked_in told) t.works refl (omega arith) t.admits ordinal le);
    covers = covers_settled ordinal course.last told le t.admits.asked_low;
    answered = λ is alone.
        let h = t.answered is alone in record {
          lines = h.lines;
          over = λ p lt own low. over p lt own (has_ended (state_seen q) p) refl;
          answers = same is h.answers;
        };
  }
    where
      over : (p : ℕ) → p < length (state_seen q).order → (tag (state_seen q).order p).session ≡ course.session → (b : Bool) → has_ended (state_seen q) p ≡ b → has_ended (state_seen q) p ≡ true
      over p lt own true is = is
      over p lt own false is = absurd (none (p, lt, own, is))

-- ---- the opening

-- where a pass has gained something since `first`, which stands within what it has seen
module _ (names : KnownNames) (first p q : PassView) (g : List ℕ) (since : p.own ≡ first.own ++ g) (inside : (i : ℕ) → 1 ≤ times i g → i < length p.seen)
    (session u : ℕ) (replies : ℕ → List ℕ) (legal : HasTrail (hall_seen q)) (base : q.gate.base ≡ p.gate.base)
    (call : Calls p (Opens u) (λ x. session ≡ length x.sessions) q) (from : ℕ) (quiet : (k : ℕ) → k ≤ from → replies k ≡ line_or_full names k []) where
  abbrev before : State
  before = state_now (hall_with p.gate.base call.trail)

  hall_then : hall_seen q ≡ hall_with p.gate.base (call.trail ++ Opens u ∷ [])
  hall_then = λ i. hall_with (base i) (call.seen i)

  state_then : state_seen q ≡ change before (Opens u)
  state_then = ap state_now hall_then ∙ after_parts (start p.gate.base.setup p.gate.base.limit) call.trail (Opens u ∷ [])

  trail_before : IsTrail (start p.gate.base.setup p.gate.base.limit) call.trail
  trail_before = trail_front (start p.gate.base.setup p.gate.base.limit) call.trail (Opens u ∷ []) (subst HasTrail hall_then legal)

  below : AreBelow (length before.sessions) before.order
  below = all_below (start p.gate.base.setup p.gate.base.limit) call.trail (sound-start p.gate.base.setup p.gate.base.limit) trail_before (λ p lt. absurd (omega (arith, lt)))

  not_mine : (p : ℕ) → p < length before.order → (tag before.order p).session ≡ session → ⊥
  not_mine p lt own = let b = below p lt in omega (arith, b, own, call.answered)

  no_replies : (k : ℕ) → replies_to (change before (Opens u)) session k (length before.order) ≡ []
  no_replies k =
      let e : 0 + length before.order ≡ length before.order = omega arith in
      ap (replies_to (change before (Opens u)) session k) (sym e)
      ∙ replies_other (change before (Opens u)) session k 0 (length before.order) (λ p low high own at. not_mine p (omega (arith, high)) own)

  pub course_opened_at : IsCourse names first q (record { session = session; last = from; upto = from; replies = replies }) (request.Opens u ∷ [])
  course_opened_at = record {
    gained = g ++ length call.trail ∷ [];
    own = call.own ∙ (ap (λ l. l ++ length call.trail ∷ []) since ∙ append_assoc first.own g (length call.trail ∷ []));
    within = λ i some. within i (either i g (length call.trail ∷ []) some);
    trail = legal;
    there = omega (arith, call.answered, ap (λ (y : State). length y.sessions) state_then, length-append before.sessions (record { subject = u; last = 0 } ∷ []));
    subject = u;
    more = [];
    opened = refl;
    opening = record {
      front = call.trail;
      there = ([], call.seen ∙ sym (append-nil (call.trail ++ Opens u ∷ [])));
      number = call.answered ∙ ap (λ (b : Chronicle). length (state_now (hall_with b call.trail)).sessions) (sym base);
      own = times_after (length call.trail) g (length call.trail ∷ []) (once (length call.trail));
    };
    subject_is =
        ap (λ (y : State). (session_at y session).subject) state_then
        ∙ (ap (λ n. (slice_index_or (before.sessions ++ record { subject = u; last = 0 } ∷ []) n no_session).subject) call.answered
        ∙ ap (λ s. s.subject) (get_or-append_seam before.sessions (record { subject = u; last = 0 }) [] no_session));
    works = [];
    mine = λ i k w some at. mine i k w (either i g (length call.trail ∷ []) some) at;
    admits = admitted_none (state_seen q) from;
    covers = record { done = []; rest = request.Opens u ∷ []; split = refl; unsettled = tt; low = All-nil (λ (a : ℕ × Work). a.0 ≤ from) };
    answered = λ is alone. record {
      lines = ap (admitted session) call.seen ∙ (admitted-append session call.trail (Opens u ∷ []) ∙ (append-nil (admitted session call.trail)
          ∙ none_unopened (start p.gate.base.setup p.gate.base.limit) call.trail session trail_before (omega (arith, call.answered))));
      over = subst (λ y. IsOverUpTo y session from) (sym state_then) (λ p lt own low. absurd (not_mine p lt own));
      answers = λ k le. none_yet k le;
    };
  }
    where
      longer_then : length p.seen ≤ length call.trail
      longer_then = begins_length call.trail p.seen call.from

      within : (i : ℕ) → (1 ≤ times i g) ⊎ (1 ≤ times i (length call.trail ∷ [])) → i < length q.seen
      within i (inl old) = let l = inside i old in let n = begins_length q.seen call.trail (Opens u ∷ [], call.seen) in omega (arith, l, longer_then, n)
      within i (inr new) = let l = call_inside p q (Opens u) (λ y. session ≡ length y.sessions) call in let e = one_place i (length call.trail) new in omega (arith, l, e)

      -- no line of it stood there before
      mine : (i k : ℕ) (w : Work) → (1 ≤ times i g) ⊎ (1 ≤ times i (length call.trail ∷ [])) → slice_get q.seen i ≡ Some (Admits session k w) → Contains {X = ℕ × Work} [] (k, w)
      mine i k w (inl old) at =
          let lt : i < length call.trail = (let l = inside i old in omega (arith, l, longer_then)) in
          let there = line_open (start p.gate.base.setup p.gate.base.limit) call.trail i session k w trail_before (sym (get_sooner q.seen call.trail i (Opens u ∷ [], call.seen) lt) ∙ at) in
          absurd (omega (arith, there, call.answered))
      mine i k w (inr new) at =
          absurd (no_line u session k w (sym (call_there p q (Opens u) (λ y. session ≡ length y.sessions) call) ∙ (ap (slice_get q.seen) (sym (one_place i (length call.trail) new)) ∙ at)))

      none_yet : (k : ℕ) → k ≤ from → line_text (state_seen q) session k ≡ replies k
      none_yet k le =
          ap (λ y. line_text y session k) state_then ∙ (ap (λ l. line_or_full before.setup.names k l) (no_replies k) ∙ sym (quiet k le))

-- a session that begins with its run
pub course_opened : (names : KnownNames) (first p q : PassView) (g : List ℕ) → p.own ≡ first.own ++ g → ((i : ℕ) → 1 ≤ times i g → i < length p.seen)
    → (session u : ℕ) (replies : ℕ → List ℕ) → HasTrail (hall_seen q) → q.gate.base ≡ p.gate.base
    → Calls p (Opens u) (λ x. session ≡ length x.sessions) q → replies 0 ≡ line_or_full names 0 []
    → IsCourse names first q (record { session = session; last = 0; upto = 0; replies = replies }) (request.Opens u ∷ [])
course_opened names first p q g since inside session u replies legal base call quiet =
    course_opened_at names first p q g since inside session u replies legal base call 0
    (λ k le. let e : k ≡ 0 = omega (arith, le) in ap replies e ∙ (quiet ∙ ap (λ j. line_or_full names j []) (sym e)))

-- ---- the replies of a block

module _ (by_lines : GoByLines) (x : State) (session : ℕ) where
  -- of a block that was answered above an ordinal, each line has its replies
  pub block_text : (told : List owned.Reply) (after k : ℕ) → after < k → AreAnswers x session after (map reply_of told) → line_or_full x.setup.names k (map reply_of (line_of k told)) ≡ line_text x session k
  block_text told after k lt are = ap (line_or_full x.setup.names k) (line_is by_lines x session told after k lt are.are)
