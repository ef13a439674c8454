-- Sessions that share a pass stay on course while one of them goes on, or another one comes.
use Rattle.std.proofs.Common.{◌≡◌, ◌≢◌, ℕ, ◌+◌, ◌<◌, ◌≤◌, ◌⊎◌, inl, inr, true, false, List, [], ◌∷◌, ◌++◌, length, get_or, set, drop, Some, refl, sym, ap, subst, ◌∙◌, arith, append-nil, append_assoc, length-set, get_or-set_same, get_or-set_other}
use Rattle.std.proofs.lemmas.List.{get_or_default}
use Rattle.std.specs.Prelude.{All, AllPairs, slice_get, ◌==◌}
use Rattle.std.proofs.lemmas.Bool.Decides.{eqb_tells}
use Rattle.std.proofs.lemmas.List.Elements.{All-from_get_or, All-get_or, All-push, All-weaker}
use Rattle.std.proofs.lemmas.List.Quantifiers.{all_pairs_push}
use Rattle.bl_work.specs.Names.{KnownNames}
use Rattle.bl_work.specs.declared.work.Work.{Work}
use Rattle.bl_order.specs.Machine.{State, Event, Opens, Admits, Starts, Ends, Loses, start, state_after}
use Rattle.bl_hall.specs.Chronicle.{HasTrail, state_now}
use Rattle.bl_gate.specs.Counts.{times}
use Rattle.bl_gate.specs.Gates.{PassView, Calls, Follows, hall_seen, hall_with, state_seen}
use Rattle.bl_gate.proofs.Following.{base_stays}
use Rattle.bl_gate.proofs.Passing.{after_parts}
use Rattle.bl_gate.proofs.Trails.{begins_length, get_sooner}
use Rattle.bl_worker.specs.Turns.{Adds, AdmitsNoLine, IsNoLine}
use Rattle.bl_worker.proofs.Adding.{adds_as, adds_call}
use Rattle.bl_engine.specs.declared.request.Request.{Request}
use Rattle.bl_serve.specs.Courses.{AdmitsNoLineOf, Course, IsCourse, IsNoLineOf, IsOpenedAt, SpeaksForItsOwn}
use Rattle.bl_serve.specs.Told.{told_text}
use Rattle.bl_serve.specs.Together.{AreOnCourse, GoesOnTo, IsNoLineBut, SpeaksForNoOther, Standing, just_opened}
use Rattle.bl_serve.proofs.Alone.{either}
use Rattle.bl_serve.proofs.Going.{course_on, course_opened, no_line, opening_on}
use Rattle.bl_serve.proofs.Opened.{sessions_grow}
use Rattle.bl_serve.proofs.Owning.{gained_since}

-- ---- one of them, while others go on

pub stays : (names : KnownNames) (first p q : PassView) (course : Course) (told : List Request) → GoesOnTo p q → AdmitsNoLineOf course.session p q
    → IsCourse names first p course told → IsCourse names first q course told
stays names first p q course told on none t = course_on p q on.follows on.trail names first course told t none

-- what another one does is no line of it
pub no_line_of : (session other : ℕ) (p q : PassView) → other ≢ session → SpeaksForNoOther other p q → AdmitsNoLineOf session p q
no_line_of session other p q apart adds = adds_as (λ _. IsNoLineBut other) (λ _. IsNoLineOf session) p q adds (λ i. by)
  where
    by : (e : Event) → IsNoLineBut other e → IsNoLineOf session e
    by (Opens u) h = tt
    by (Admits s k w) h = λ same. apart (sym h ∙ same)
    by (Starts n) h = tt
    by (Ends n) h = tt
    by (Loses n) h = tt

none_of : (session : ℕ) (p q : PassView) → AdmitsNoLine p q → AdmitsNoLineOf session p q
none_of session p q none = adds_as (λ _. IsNoLine) (λ _. IsNoLineOf session) p q none (λ i. by)
  where
    by : (e : Event) → IsNoLine e → IsNoLineOf session e
    by (Opens u) h = tt
    by (Admits s k w) h = absurd h
    by (Starts n) h = tt
    by (Ends n) h = tt
    by (Loses n) h = tt

-- ---- what the pass spoke for

-- it owns what it owned, and what it has gained since then
module _ (first p q : PassView) (Such : ℕ → Event → Type 0) (s : SpeaksForItsOwn first p) (follows : Follows p q) (more : Adds Such p q) where
  speaks_on : ((i session k : ℕ) (w : Work) → 1 ≤ times i more.gained → slice_get q.seen i ≡ Some (Admits session k w) → (u : ℕ) × IsOpenedAt (s.gained ++ more.gained) q session u)
      → SpeaksForItsOwn first q
  speaks_on new = record {
    gained = s.gained ++ more.gained;
    own = more.own ∙ (ap (λ (l : List ℕ). l ++ more.gained) s.own ∙ append_assoc first.own s.gained more.gained);
    within = λ i some. within i (either i s.gained more.gained some);
    lines = λ i session k w some at. lines i session k w (either i s.gained more.gained some) at;
  }
    where
      within : (i : ℕ) → (1 ≤ times i s.gained) ⊎ (1 ≤ times i more.gained) → i < length q.seen
      within i (inl old) = let l = s.within i old in let n = begins_length q.seen p.seen follows.seen in omega (arith, l, n)
      within i (inr now) = more.within i now

      lines : (i session k : ℕ) (w : Work) → (1 ≤ times i s.gained) ⊎ (1 ≤ times i more.gained) → slice_get q.seen i ≡ Some (Admits session k w)
          → (u : ℕ) × IsOpenedAt (s.gained ++ more.gained) q session u
      lines i session k w (inl old) at =
          let o = s.lines i session k w old (sym (get_sooner q.seen p.seen i follows.seen (s.within i old)) ∙ at) in
          (o.0, opening_on p q s.gained more.gained session o.0 follows o.1)
      lines i session k w (inr now) at = new i session k w now at

-- ---- all of them

module _ (names : KnownNames) (first p q : PassView) (sessions : List Standing) (a : AreOnCourse names first p sessions) (on : GoesOnTo p q) where
  abbrev On : PassView → Standing → Type 0
  On pass s = IsCourse names first pass s.course s.told

  -- turns, and what admits no line
  pub all_stay : AdmitsNoLine p q → AreOnCourse names first q sessions
  all_stay none = record {
    speaks = speaks_on first p q (λ _. IsNoLine) a.speaks on.follows none (λ i session k w now at. absurd (none.events i (Admits session k w) now at));
    each = All-weaker (On p) (On q) (λ s t. stays names first p q s.course s.told on (none_of s.course.session p q none) t) sessions a.each;
    differ = a.differ;
  }

  -- one of them goes on
  module _ (i : ℕ) (s : Standing) (lt : i < length sessions) (same : s.course.session ≡ (get_or sessions i s).course.session)
      (adds : SpeaksForNoOther s.course.session p q) (t : IsCourse names first q s.course s.told) where
    abbrev then : List Standing
    then = set sessions i s

    -- whose it is, place by place
    abbrev session_at : List Standing → ℕ → Standing → ℕ
    session_at l j d = (get_or l j d).course.session

    numbers : (j : ℕ) (d : Standing) → j < length sessions → session_at then j d ≡ session_at sessions j d
    numbers j d inside = go (eqb_tells j i)
      where
        go : (((j == i) ≡ true) × (j ≡ i)) ⊎ (((j == i) ≡ false) × (j ≡ i → ⊥)) → session_at then j d ≡ session_at sessions j d
        go (inl e) =
            ap (λ (n : ℕ). session_at then n d) e.1
            ∙ (ap (λ (x : Standing). x.course.session) (get_or-set_same sessions i s d lt)
            ∙ (same ∙ (ap (λ (x : Standing). x.course.session) (get_or_default sessions i s d lt) ∙ ap (λ (n : ℕ). session_at sessions n d) (sym e.1))))
        go (inr e) = ap (λ (x : Standing). x.course.session) (get_or-set_other sessions i j s d e.1)

    -- no other one has its number
    apart : (j : ℕ) → j < length sessions → (j ≡ i → ⊥) → s.course.session ≢ session_at sessions j s
    apart j inside other is = go (less_or i j)
      where
        less_or : (x y : ℕ) → (x ≡ y) ⊎ ((x < y) ⊎ (y < x))
        less_or x y = grind arith

        go : (i ≡ j) ⊎ ((i < j) ⊎ (j < i)) → ⊥
        go (inl e) = other (sym e)
        go (inr (inl low)) = a.differ i j s low inside (sym same ∙ is)
        go (inr (inr high)) = a.differ j i s high lt (sym is ∙ same)

    each_then : (j : ℕ) → j < length then → On q (get_or then j s)
    each_then j inside = go (eqb_tells j i)
      where
        here : j < length sessions
        here = omega (arith, inside, length-set sessions i s)

        go : (((j == i) ≡ true) × (j ≡ i)) ⊎ (((j == i) ≡ false) × (j ≡ i → ⊥)) → On q (get_or then j s)
        go (inl e) = subst (On q) (sym (ap (λ (n : ℕ). get_or then n s) e.1 ∙ get_or-set_same sessions i s s lt)) t
        go (inr e) =
            let old : On p (get_or sessions j s) = All-get_or (On p) sessions j s here a.each in
            subst (On q) (sym (get_or-set_other sessions i j s s e.1))
            (stays names first p q (get_or sessions j s).course (get_or sessions j s).told on
            (no_line_of (session_at sessions j s) s.course.session p q (apart j here e.1) adds) old)

    pub one_goes_on : AreOnCourse names first q (set sessions i s)
    one_goes_on = record {
      speaks = speaks_on first p q (λ _. IsNoLineBut s.course.session) a.speaks on.follows adds
          (λ j session k w now at. (
            t.subject,
            subst (λ (n : ℕ). IsOpenedAt (a.speaks.gained ++ adds.gained) q n t.subject) (sym (adds.events j (Admits session k w) now at))
                (subst (λ (l : List ℕ). IsOpenedAt l q s.course.session t.subject) gained_is t.opening),
          ));
      each = All-from_get_or (On q) (set sessions i s) s each_then;
      differ = λ j k d low inside is.
          (let count = length-set sessions i s in
          let k_in : k < length sessions = omega (arith, inside, count) in
          let j_in : j < length sessions = omega (arith, low, k_in) in
          a.differ j k d low k_in (sym (numbers j d j_in) ∙ (is ∙ numbers k d k_in)));
    }
      where
        gained_is : t.gained ≡ a.speaks.gained ++ adds.gained
        gained_is =
            sym (gained_since first.own q.own t.gained t.own)
            ∙ gained_since first.own q.own (a.speaks.gained ++ adds.gained) (adds.own ∙ (ap (λ (l : List ℕ). l ++ adds.gained) a.speaks.own ∙ append_assoc first.own a.speaks.gained adds.gained))

  -- another one is opened
  module _ (u session : ℕ) (call : Calls p (Opens u) (λ x. session ≡ length x.sessions) q) where
    none : AdmitsNoLine p q
    none = adds_call (λ _. IsNoLine) p q (Opens u) (λ x. session ≡ length x.sessions) call tt

    abbrev new : Standing
    new = just_opened names u session

    state_then : state_now (hall_with p.gate.base call.trail) ≡ state_after (state_seen p) call.from.0
    state_then = ap (λ (l : List Event). state_now (hall_with p.gate.base l)) call.from.1 ∙ after_parts (start p.gate.base.setup p.gate.base.limit) p.seen call.from.0

    -- those that are open have lower numbers
    lower : (course : Course) (told : List Request) → IsCourse names first p course told → course.session < session
    lower course told t =
        let grown = sessions_grow (state_seen p) call.from.0 in
        let now : session ≡ length (state_after (state_seen p) call.from.0).sessions = call.answered ∙ ap (λ (y : State). length y.sessions) state_then in
        let there = t.there in
        omega (arith, grown, now, there)

    pub one_comes : AreOnCourse names first q (sessions ++ just_opened names u session ∷ [])
    one_comes = record {
      speaks = (all_stay none).speaks;
      each = All-push (On q) sessions new (all_stay none).each
          (course_opened names first p q a.speaks.gained a.speaks.own a.speaks.within session u (told_text names []) on.trail (base_stays p q on.follows) call refl);
      differ = all_pairs_push (λ (s t : Standing). s.course.session ≢ t.course.session) sessions new a.differ
          (λ k d inside is. (let t = lower (get_or sessions k d).course (get_or sessions k d).told (All-get_or (On p) sessions k d inside a.each) in absurd (omega (arith, t, is))));
    }
