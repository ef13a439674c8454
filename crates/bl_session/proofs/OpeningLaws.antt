-- How many sessions the events of a hall opened.
use Rattle.std.proofs.Common.{◌≡◌, ℕ, ◌≤◌, ◌+◌, cond, List, [], ◌∷◌, length, length-append, map, arith}
use Rattle.std.specs.Prelude.{count_by}
use Rattle.std.proofs.lemmas.List.Sums.{sum_by-cons}
use Rattle.bl_order.specs.Machine.{State, Event, Opens, Admits, Starts, Ends, Loses, IsTrail, change, start, state_after, most_sessions, session_at}
use Rattle.bl_hall.specs.Chronicle.{Chronicle, HasTrail, kept_of, state_now}
use Rattle.bl_hall.specs.declared.event.Event as kept
use Rattle.bl_session.specs.Openings.{is_opening}
use Rattle.bl_session.proofs.TranscriptLaws.{length-set_session}

abbrev opened : kept.Event → ℕ
opened event = cond (is_opening event) 1 0

counted : (x : State) (events : List Event) → length (state_after x events).sessions ≡ length x.sessions + count_by is_opening (map kept_of events)
counted x [] = omega arith
counted x (Opens u ∷ events) =
    let rest = counted (change x (Opens u)) events in
    let more : count_by is_opening (map kept_of (Opens u ∷ events)) ≡ 1 + count_by is_opening (map kept_of events) = sum_by-cons opened (kept_of (Opens u)) (map kept_of events) in
    omega (arith, rest, more, length-append x.sessions (record { subject = u; last = 0 } ∷ []))
counted x (Admits s o w ∷ events) =
    let rest = counted (change x (Admits s o w)) events in
    let more : count_by is_opening (map kept_of (Admits s o w ∷ events)) ≡ 0 + count_by is_opening (map kept_of events) = sum_by-cons opened (kept_of (Admits s o w)) (map kept_of events) in
    omega (arith, rest, more, length-set_session x.sessions s (record (session_at x s) { last = o }))
counted x (Starts n ∷ events) =
    let rest = counted (change x (Starts n)) events in
    let more : count_by is_opening (map kept_of (Starts n ∷ events)) ≡ 0 + count_by is_opening (map kept_of events) = sum_by-cons opened (kept_of (Starts n)) (map kept_of events) in
    omega (arith, rest, more)
counted x (Ends n ∷ events) =
    let rest = counted (change x (Ends n)) events in
    let more : count_by is_opening (map kept_of (Ends n ∷ events)) ≡ 0 + count_by is_opening (map kept_of events) = sum_by-cons opened (kept_of (Ends n)) (map kept_of events) in
    omega (arith, rest, more)
counted x (Loses n ∷ events) =
    let rest = counted (change x (Loses n)) events in
    let more : count_by is_opening (map kept_of (Loses n ∷ events)) ≡ 0 + count_by is_opening (map kept_of events) = sum_by-cons opened (kept_of (Loses n)) (map kept_of events) in
    omega (arith, rest, more)

-- as many as were opened
pub opened_in : (h : Chronicle) → count_by is_opening (map kept_of h.trail) ≡ length (state_now h).sessions
opened_in h = let all = counted (start h.setup h.limit) h.trail in omega (arith, all)

few : (x : State) (events : List Event) → IsTrail x events → length x.sessions ≤ most_sessions → length (state_after x events).sessions ≤ most_sessions
few x [] trail le = le
few x (Opens u ∷ events) trail le =
    few (change x (Opens u)) events trail.1 (omega (arith, trail.0.1, length-append x.sessions (record { subject = u; last = 0 } ∷ [])))
few x (Admits s o w ∷ events) trail le =
    few (change x (Admits s o w)) events trail.1 (omega (arith, le, length-set_session x.sessions s (record (session_at x s) { last = o })))
few x (Starts n ∷ events) trail le = few (change x (Starts n)) events trail.1 le
few x (Ends n ∷ events) trail le = few (change x (Ends n)) events trail.1 le
few x (Loses n ∷ events) trail le = few (change x (Loses n)) events trail.1 le

-- and that is not many
pub few_in : (h : Chronicle) → HasTrail h → length (state_now h).sessions ≤ most_sessions
few_in h trail = few (start h.setup h.limit) h.trail trail (omega arith)
