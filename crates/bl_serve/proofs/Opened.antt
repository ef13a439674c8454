-- What a trail says of its sessions: how many there are, whose each entry is, and the last ordinal of each.
use Rattle.std.proofs.Common.{◌≡◌, ℕ, zero, suc, ◌+◌, ◌<◌, ◌≤◌, ◌⊎◌, inl, inr, Bool, true, false, cond, List, [], ◌∷◌, ◌++◌, length, refl, sym, ap, subst, ◌∙◌, arith, append-nil, length-append, slice_index_or, slice_set, Some}
use Rattle.std.specs.Prelude.{All, ◌==◌, slice_get}
use Rattle.std.proofs.lemmas.Bool.Decides.{eqb_tells}
use Rattle.std.proofs.lemmas.List.Elements.{All-head, All-tail}
use Rattle.bl_work.specs.declared.work.Work.{Work}
use Rattle.bl_order.specs.Order.{Entry, Line, Child}
use Rattle.bl_order.specs.Labels.{Tag, tag}
use Rattle.bl_order.specs.Machine.{State, Event, Opens, Admits, Starts, Ends, Loses, Session, Needs, IsTrail, change, state_after, session_at, no_session, child_entries, most_sessions}
use Rattle.bl_order.proofs.Sound.{IsSound}
use Rattle.bl_order.proofs.Trails.{within, sound-step}
use Rattle.bl_session.specs.Transcripts.{admitted}
use Rattle.bl_session.proofs.OrderLaws.{tag-grown, tag-last, tag-child, longer, join}
use Rattle.bl_session.proofs.TranscriptLaws.{length-set_session, sessions_kept}

-- ---- how many there are

more_sessions : (x : State) (e : Event) → length x.sessions ≤ length (change x e).sessions
more_sessions x (Opens u) = omega (arith, length-append x.sessions (record { subject = u; last = 0 } ∷ []))
more_sessions x (Admits i k w) = omega (arith, length-set_session x.sessions i (record (session_at x i) { last = k }))
more_sessions x (Starts n) = omega arith
more_sessions x (Ends n) = omega arith
more_sessions x (Loses n) = omega arith

pub sessions_grow : (x : State) (events : List Event) → length x.sessions ≤ length (state_after x events).sessions
sessions_grow x [] = omega arith
sessions_grow x (e ∷ events) = omega (arith, more_sessions x e, sessions_grow (change x e) events)

pub sessions_within : (x : State) (events : List Event) → IsTrail x events → length x.sessions ≤ most_sessions → length (state_after x events).sessions ≤ most_sessions
sessions_within x [] trail le = le
sessions_within x (e ∷ events) trail le = sessions_within (change x e) events trail.1 (step e trail.0)
  where
    step : (e : Event) → Needs x e → length (change x e).sessions ≤ most_sessions
    step (Opens u) needs = omega (arith, length-append x.sessions (record { subject = u; last = 0 } ∷ []), needs.1)
    step (Admits i k w) needs = omega (arith, le, length-set_session x.sessions i (record (session_at x i) { last = k }))
    step (Starts n) needs = le
    step (Ends n) needs = le
    step (Loses n) needs = le

-- no line is admitted for a session that is not open
pub none_unopened : (x : State) (events : List Event) (session : ℕ) → IsTrail x events → length (state_after x events).sessions ≤ session → admitted session events ≡ []
none_unopened x [] session trail le = refl
none_unopened x (Opens u ∷ events) session trail le = none_unopened (change x (Opens u)) events session trail.1 le
none_unopened x (Admits i k w ∷ events) session trail le = go (none_unopened (change x (Admits i k w)) events session trail.1 le) (eqb_tells i session)
  where
    go : admitted session events ≡ [] → (((i == session) ≡ true) × (i ≡ session)) ⊎ (((i == session) ≡ false) × (i ≡ session → ⊥)) → cond (i == session) ((k, w) ∷ admitted session events) (admitted session events) ≡ []
    go rest (inl t) = absurd (omega (arith, t.1, trail.0.0, more_sessions x (Admits i k w), sessions_grow (change x (Admits i k w)) events, le))
    go rest (inr t) = ap (λ b. cond b ((k, w) ∷ admitted session events) (admitted session events)) t.0 ∙ rest
none_unopened x (Starts n ∷ events) session trail le = none_unopened (change x (Starts n)) events session trail.1 le
none_unopened x (Ends n ∷ events) session trail le = none_unopened (change x (Ends n)) events session trail.1 le
none_unopened x (Loses n ∷ events) session trail le = none_unopened (change x (Loses n)) events session trail.1 le

-- a line is of a session that is open
pub line_open : (x : State) (events : List Event) (p session k : ℕ) (w : Work) → IsTrail x events → slice_get events p ≡ Some (Admits session k w) → session < length (state_after x events).sessions
line_open x [] p session k w trail at = absurd (cc)
line_open x (e ∷ events) zero session k w trail at =
    let is : e ≡ Admits session k w = cc in
    let needs = (subst (λ (f : Event). IsTrail x (f ∷ events)) is trail).0 in
    subst (λ (f : Event). session < length (state_after x (f ∷ events)).sessions) (sym is) (sessions_kept x (Admits session k w ∷ events) session needs.0).there
line_open x (e ∷ events) (suc p) session k w trail at = line_open (change x e) events p session k w trail.1 at

-- ---- whose each entry is

-- each entry is of a session below this one
abbrev pub AreBelow : ℕ → List Entry → Type 0
AreBelow sessions order = (p : ℕ) → p < length order → (tag order p).session < sessions

pub last_or_before : (A : List Entry) (e : Entry) (p : ℕ) → p < length (A ++ e ∷ []) → (p ≡ length A) ⊎ (p < length A)
last_or_before A e p lt = grind (arith, longer A e)

below_more : (n : ℕ) (A : List Entry) (e : Entry) → AreBelow n A → (tag (A ++ e ∷ []) (length A)).session < n → AreBelow n (A ++ e ∷ [])
below_more n A e below new p lt = go (last_or_before A e p lt)
  where
    go : (p ≡ length A) ⊎ (p < length A) → (tag (A ++ e ∷ []) p).session < n
    go (inl at) = subst (λ (q : ℕ). (tag (A ++ e ∷ []) q).session < n) (sym at) new
    go (inr old) = subst (λ (t : Tag). t.session < n) (sym (tag-grown A (e ∷ []) p old)) (below p old)

below_children : (n parent : ℕ) (behaviours : List ℕ) (A : List Entry) (w : ℕ) → AreBelow n A → parent < length A → AreBelow n (A ++ child_entries parent w behaviours)
below_children n parent [] A w below lt = subst (AreBelow n) (sym (append-nil A)) below
below_children n parent (b ∷ behaviours) A w below lt =
    let B : List Entry = A ++ Child parent w ∷ [] in
    let new : (tag B (length A)).session < n = subst (λ (t : Tag). t.session < n) (sym (tag-child A parent w lt)) (below parent lt) in
    subst (AreBelow n) (join A (Child parent w ∷ []) (child_entries parent (w + 1) behaviours))
    (below_children n parent behaviours B (w + 1) (below_more n A (Child parent w) below new) (omega (arith, lt, longer A (Child parent w))))

below_wider : (m n : ℕ) (A : List Entry) → m ≤ n → AreBelow m A → AreBelow n A
below_wider m n A le below p lt = let b = below p lt in omega (arith, b, le)

below_step : (x : State) (e : Event) → IsSound x → Needs x e → AreBelow (length x.sessions) x.order → AreBelow (length (change x e).sessions) (change x e).order
below_step x (Opens u) sound needs below = below_wider (length x.sessions) _ x.order (more_sessions x (Opens u)) below
below_step x (Admits i k w) sound needs below =
    below_wider (length x.sessions) _ (x.order ++ Line i k (session_at x i).subject w ∷ []) (more_sessions x (Admits i k w))
    (below_more (length x.sessions) x.order (Line i k (session_at x i).subject w) below
    (subst (λ (t : Tag). t.session < length x.sessions) (sym (tag-last x.order (Line i k (session_at x i).subject w))) needs.0))
below_step x (Starts n) sound needs below = below
below_step x (Ends n) sound needs below = below_children (length x.sessions) n _ x.order 1 below (within x sound n needs)
below_step x (Loses n) sound needs below = below

pub all_below : (x : State) (events : List Event) → IsSound x → IsTrail x events → AreBelow (length x.sessions) x.order → AreBelow (length (state_after x events).sessions) (state_after x events).order
all_below x [] sound trail below = below
all_below x (e ∷ events) sound trail below = all_below (change x e) events (sound-step x e sound trail.0) trail.1 (below_step x e sound trail.0 below)

-- ---- the last ordinal of a session

-- the session's last ordinal is no greater than this one
abbrev LastLow : State → ℕ → ℕ → Type 0
LastLow x session n = (session_at x session).last ≤ n

set_session : (l : List Session) (j i : ℕ) (s : Session) → (j ≡ i → ⊥) → slice_index_or (slice_set l j s) i no_session ≡ slice_index_or l i no_session
set_session [] j i s other = refl
set_session (t ∷ l) zero zero s other = absurd (other refl)
set_session (t ∷ l) zero (suc i) s other = refl
set_session (t ∷ l) (suc j) zero s other = refl
set_session (t ∷ l) (suc j) (suc i) s other = set_session l j i s (λ e. other (ap suc e))

set_last : (l : List Session) (j k n : ℕ) → k ≤ n → (slice_index_or (slice_set l j (record (slice_index_or l j no_session) { last = k })) j no_session).last ≤ n
set_last [] j k n le = omega arith
set_last (t ∷ l) zero k n le = le
set_last (t ∷ l) (suc j) k n le = set_last l j k n le

new_last : (l : List Session) (i u n : ℕ) → (slice_index_or l i no_session).last ≤ n → (slice_index_or (l ++ record { subject = u; last = 0 } ∷ []) i no_session).last ≤ n
new_last [] zero u n le = omega arith
new_last [] (suc i) u n le = omega arith
new_last (t ∷ l) zero u n le = le
new_last (t ∷ l) (suc i) u n le = new_last l i u n le

-- what an event leaves of it, and what is then left to look at
low_step : (x : State) (e : Event) (events : List Event) (session n : ℕ) → LastLow x session n → All (λ (a : ℕ × Work). a.0 ≤ n) (admitted session (e ∷ events))
    → LastLow (change x e) session n × All (λ (a : ℕ × Work). a.0 ≤ n) (admitted session events)
low_step x (Opens u) events session n low all = (new_last x.sessions session u n low, all)
low_step x (Admits i k w) events session n low all = go (eqb_tells i session) all
  where
    Rest : Bool → Type 0
    Rest b = All (λ (a : ℕ × Work). a.0 ≤ n) (cond b ((k, w) ∷ admitted session events) (admitted session events))

    go : (((i == session) ≡ true) × (i ≡ session)) ⊎ (((i == session) ≡ false) × (i ≡ session → ⊥))
        → All (λ (a : ℕ × Work). a.0 ≤ n) (cond (i == session) ((k, w) ∷ admitted session events) (admitted session events))
        → LastLow (change x (Admits i k w)) session n × All (λ (a : ℕ × Work). a.0 ≤ n) (admitted session events)
    go (inl t) all =
        let mine : All (λ (a : ℕ × Work). a.0 ≤ n) ((k, w) ∷ admitted session events) = subst Rest t.0 all in (
          subst (λ (j : ℕ). LastLow (change x (Admits i k w)) j n) t.1 (set_last x.sessions i k n (All-head (λ (a : ℕ × Work). a.0 ≤ n) (k, w) (admitted session events) mine)),
          All-tail (λ (a : ℕ × Work). a.0 ≤ n) (k, w) (admitted session events) mine,
        )
    go (inr t) all = (
      subst (λ (s : Session). s.last ≤ n) (sym (set_session x.sessions i session (record (session_at x i) { last = k }) t.1)) low,
      subst Rest t.0 all,
    )
low_step x (Starts q) events session n low all = (low, all)
low_step x (Ends q) events session n low all = (low, all)
low_step x (Loses q) events session n low all = (low, all)

pub last_low : (x : State) (events : List Event) (session n : ℕ) → LastLow x session n → All (λ (a : ℕ × Work). a.0 ≤ n) (admitted session events) → LastLow (state_after x events) session n
last_low x [] session n low all = low
last_low x (e ∷ events) session n low all = let two = low_step x e events session n low all in last_low (change x e) events session n two.0 two.1
