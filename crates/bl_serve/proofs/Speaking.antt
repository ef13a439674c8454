-- Who spoke for whom: each session was opened at one position, and whoever owns that owns its lines.
use Rattle.std.proofs.Common.{◌≡◌, ℕ, zero, suc, ◌+◌, ◌<◌, ◌≤◌, ◌⊎◌, inl, inr, true, false, List, [], ◌∷◌, ◌++◌, length, drop, Some, refl, sym, ap, subst, ◌∙◌, arith, length-append}
use Rattle.std.specs.Prelude.{slice_get, ◌==◌}
use Rattle.std.proofs.Math.Seq.{drop-append_seam}
use Rattle.std.proofs.lemmas.Bool.Decides.{eqb_tells}
use mathlib.Core.Option.{some, some-injective}
use lib.ListN.{get_elem?}
use Rattle.bl_work.specs.declared.work.Work.{Work}
use Rattle.bl_order.specs.Machine.{State, Event, Opens, Admits, IsTrail, change, start, state_after}
use Rattle.bl_hall.specs.Chronicle.{Chronicle, HasTrail, state_now}
use Rattle.bl_gate.specs.Counts.{StartsWith, times, total, within}
use Rattle.bl_gate.specs.Gates.{PassView, hall_seen, hall_with}
use Rattle.bl_gate.proofs.Totals.{one_of, two_of, within_in, within_le, within_some}
use Rattle.bl_gate.proofs.Trails.{begins_longer, begins_more, get_later, get_sooner}
use Rattle.bl_worker.specs.Turns.{AdmitsNoLine}
use Rattle.bl_gate.proofs.Passing.{after_parts, trail_front}
use Rattle.bl_session.proofs.TranscriptLaws.{sessions_kept}
use Rattle.bl_serve.specs.Courses.{HasOpened, IsOpenedAt, SpeaksAlone, SpeaksForItsOwn, StandAt}
use Rattle.bl_serve.specs.Speakers.{HasMet, IsShare, IsSharedOut}
use Rattle.bl_serve.proofs.Alone.{get_inside}
use Rattle.bl_serve.proofs.Going.{no_line}
use Rattle.bl_serve.proofs.Opened.{line_open}

-- ---- shares

-- where it was opened, as a pass sees it that has seen more
opened_later : (whole after : PassView) (positions : List ℕ) (session u : ℕ) → HasMet whole after → IsOpenedAt positions after session u → IsOpenedAt positions whole session u
opened_later whole after positions session u met o = record {
  front = o.front;
  there = begins_more whole.seen after.seen (o.front ++ Opens u ∷ []) met.seen o.there;
  number = o.number ∙ ap (λ (b : Chronicle). length (state_now (hall_with b o.front)).sessions) (sym met.base);
  own = o.own;
}

pub session_share : (whole before after : PassView) → HasMet whole after → SpeaksForItsOwn before after → IsShare whole (drop (length before.own) after.own)
session_share whole before after met s p session k w mine at =
    let is : drop (length before.own) after.own ≡ s.gained = ap (drop (length before.own)) s.own ∙ drop-append_seam before.own s.gained in
    let gained : 1 ≤ times p s.gained = subst (λ (l : List ℕ). 1 ≤ times p l) is mine in
    let o = s.lines p session k w gained (sym (get_sooner whole.seen after.seen p met.seen (s.within p gained)) ∙ at) in
    (o.0, opened_later whole after (drop (length before.own) after.own) session o.0 met (subst (λ (l : List ℕ). IsOpenedAt l after session o.0) (sym is) o.1))

pub turn_share : (whole before after : PassView) → HasMet whole after → AdmitsNoLine before after → IsShare whole (drop (length before.own) after.own)
turn_share whole before after met none p session k w mine at =
    let gained : 1 ≤ times p none.gained = subst (λ (l : List ℕ). 1 ≤ times p l) (ap (drop (length before.own)) none.own ∙ drop-append_seam before.own none.gained) mine in
    absurd (none.events p (Admits session k w) gained (sym (get_sooner whole.seen after.seen p met.seen (none.within p gained)) ∙ at))

-- ---- sessions

module _ (whole : PassView) (legal : HasTrail (hall_seen whole)) where
  abbrev first_state : State
  first_state = start whole.gate.base.setup whole.gate.base.limit

  -- so many sessions are open behind a first part
  abbrev open_behind : List Event → ℕ
  open_behind front = length (state_after first_state front).sessions

  front_legal : (front : List Event) → StartsWith whole.seen front → IsTrail first_state front
  front_legal front begins = trail_front first_state front begins.0 (subst (IsTrail first_state) begins.1 legal)

  front_of : (front : List Event) (u : ℕ) → StartsWith whole.seen (front ++ Opens u ∷ []) → StartsWith whole.seen front
  front_of front u begins = begins_more whole.seen (front ++ Opens u ∷ []) front begins (Opens u ∷ [], refl)

  one_more : (front : List Event) (u : ℕ) → open_behind (front ++ Opens u ∷ []) ≡ open_behind front + 1
  one_more front u =
      ap (λ (y : State). length y.sessions) (after_parts first_state front (Opens u ∷ []))
      ∙ length-append (state_after first_state front).sessions (record { subject = u; last = 0 } ∷ [])

  -- a session was opened before another position was, if that is behind it
  not_behind : (front other : List Event) (u v : ℕ) → StartsWith whole.seen (front ++ Opens u ∷ []) → StartsWith whole.seen (other ++ Opens v ∷ [])
      → length front < length other → open_behind front < open_behind other
  not_behind front other u v begins ends lt =
      let long : length (front ++ Opens u ∷ []) ≤ length other = omega (arith, lt, length-append front (Opens u ∷ [])) in
      let part : StartsWith other (front ++ Opens u ∷ []) = begins_longer whole.seen (front ++ Opens u ∷ []) other begins (front_of other v ends) long in
      let rest : List Event = part.0 in
      let kept = sessions_kept (state_after first_state (front ++ Opens u ∷ [])) rest (open_behind front) (omega (arith, one_more front u)) in
      subst (λ (l : List Event). open_behind front < open_behind l) (sym part.1)
      (subst (λ (y : State). open_behind front < length y.sessions) (sym (after_parts first_state (front ++ Opens u ∷ []) rest)) kept.there)

  -- a session was opened at one position
  same_place : (g h : List ℕ) (session u v : ℕ) (o : IsOpenedAt g whole session u) (n : IsOpenedAt h whole session v) → length o.front ≡ length n.front
  same_place g h session u v o n = go (less_or (length o.front) (length n.front))
    where
      less_or : (a b : ℕ) → (a ≡ b) ⊎ ((a < b) ⊎ (b < a))
      less_or a b = grind arith

      go : (length o.front ≡ length n.front) ⊎ ((length o.front < length n.front) ⊎ (length n.front < length o.front)) → length o.front ≡ length n.front
      go (inl same) = same
      go (inr (inl lt)) = let b = not_behind o.front n.front u v o.there n.there lt in absurd (omega (arith, b, o.number, n.number))
      go (inr (inr lt)) = let b = not_behind n.front o.front v u n.there o.there lt in absurd (omega (arith, b, o.number, n.number))

  -- and its lines stand behind that
  line_behind : (g : List ℕ) (session u p k : ℕ) (w : Work) (o : IsOpenedAt g whole session u) → slice_get whole.seen p ≡ Some (Admits session k w) → length o.front < p
  line_behind g session u p k w o at = go (less_or p (length o.front))
    where
      less_or : (a b : ℕ) → (a < b) ⊎ ((a ≡ b) ⊎ (b < a))
      less_or a b = grind arith

      opening : slice_get (o.front ++ Opens u ∷ []) (length o.front) ≡ Some (Opens u)
      opening = last o.front
        where
          last : (xs : List Event) → slice_get (xs ++ Opens u ∷ []) (length xs) ≡ Some (Opens u)
          last [] = refl
          last (x ∷ xs) = last xs

      go : (p < length o.front) ⊎ ((p ≡ length o.front) ⊎ (length o.front < p)) → length o.front < p
      go (inl lt) =
          let front = front_of o.front u o.there in
          let b = line_open first_state o.front p session k w (front_legal o.front front) (sym (get_sooner whole.seen o.front p front lt) ∙ at) in
          absurd (omega (arith, b, o.number))
      go (inr (inl is)) =
          absurd (no_line u session k w (sym (get_later whole.seen (o.front ++ Opens u ∷ []) (length o.front) (Opens u) o.there opening) ∙ (ap (slice_get whole.seen) (sym is) ∙ at)))
      go (inr (inr behind)) = behind

-- ---- who owns what

-- some share has the position
pub share_with : (p : ℕ) (shares : List (List ℕ)) → 1 ≤ total (times p) shares → (i : ℕ) × (positions : List ℕ) × (get_elem? shares i ≡ some positions) × (1 ≤ times p positions)
share_with p [] some_total = absurd (none some_total)
  where
    none : 1 ≤ 0 → ⊥
    none le = omega (arith, le)
share_with p (g ∷ shares) some_total = go (either (times p g) (total (times p) shares) some_total) (λ rest. share_with p shares rest)
  where
    either : (a b : ℕ) → 1 ≤ a + b → (1 ≤ a) ⊎ (1 ≤ b)
    either a b le = grind (arith, le)

    go : (1 ≤ times p g) ⊎ (1 ≤ total (times p) shares) → (1 ≤ total (times p) shares → (i : ℕ) × (positions : List ℕ) × (get_elem? shares i ≡ some positions) × (1 ≤ times p positions))
        → (i : ℕ) × (positions : List ℕ) × (get_elem? (g ∷ shares) i ≡ some positions) × (1 ≤ times p positions)
    go (inl here) later = (0, g, refl, here)
    go (inr rest) later = let found = later rest in (suc found.0, found.1, found.2, found.3)

module _ (whole : PassView) (shares : List (List ℕ)) (out : IsSharedOut whole shares) where
  -- no position is in two shares
  one_share : (p i j : ℕ) (g h : List ℕ) → get_elem? shares i ≡ some g → get_elem? shares j ≡ some h → 1 ≤ times p g → 1 ≤ times p h → i ≡ j
  one_share p i j g h at there mine other = go (eqb_tells i j)
    where
      go : (((i == j) ≡ true) × (i ≡ j)) ⊎ (((i == j) ≡ false) × (i ≡ j → ⊥)) → i ≡ j
      go (inl same) = same.1
      go (inr two) =
          let both = two_of (times p) shares i j g h two.1 at there in
          let most = within_le (length whole.gate.base.trail) (length whole.seen) p in
          absurd (omega (arith, both, mine, other, out.shared p, out.owned p, most))

  pub stand_alone : (i session u : ℕ) (positions : List ℕ) → get_elem? shares i ≡ some positions → IsOpenedAt positions whole session u → StandAt positions session whole.seen
  stand_alone i session u positions at o p k w there =
      let f : ℕ = length o.front in
      let behind : f < p = line_behind whole out.trail positions session u p k w o there in
      let in_shares = one_of (times f) shares i positions at in
      let f_owned : 1 ≤ within (length whole.gate.base.trail) (length whole.seen) f = omega (arith, in_shares, o.own, out.shared f, out.owned f) in
      let low = (within_some (length whole.gate.base.trail) (length whole.seen) f f_owned).0 in
      let inside = get_inside whole.seen p (Admits session k w) there in
      let p_owned : within (length whole.gate.base.trail) (length whole.seen) p ≡ 1 = within_in (length whole.gate.base.trail) (length whole.seen) p (omega (arith, low, behind)) inside in
      let found = share_with p shares (omega (arith, p_owned, out.shared p, out.owned p)) in
      let other = out.each found.0 found.1 found.2 p session k w found.3 there in
      let same : length other.1.front ≡ f = same_place whole out.trail found.1 positions session other.0 u other.1 o in
      let theirs : 1 ≤ times f found.1 = subst (λ (n : ℕ). 1 ≤ times n found.1) same other.1.own in
      let is : found.0 ≡ i = one_share f found.0 i found.1 positions found.2 at theirs o.own in
      let shares_are : found.1 ≡ positions = some-injective found.1 positions (sym found.2 ∙ (ap (get_elem? shares) is ∙ at)) in
      subst (λ (l : List ℕ). 1 ≤ times p l) shares_are found.3

  pub spoken : (before after : PassView) → HasMet whole after → (i session : ℕ) → get_elem? shares i ≡ some (drop (length before.own) after.own) → HasOpened before after session → SpeaksAlone before after session
  spoken before after met i session at o p k w there =
      stand_alone i session o.0 (drop (length before.own) after.own) at (opened_later whole after (drop (length before.own) after.own) session o.0 met o.1) p k w
      (get_later whole.seen after.seen p (Admits session k w) met.seen there)
