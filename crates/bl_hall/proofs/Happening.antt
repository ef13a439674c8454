-- How many events may have led to a state.
use Rattle.std.proofs.Common.{◌≡◌, ℕ, suc, ◌+◌, ◌*◌, ◌<◌, ◌≤◌, Bool, true, false, cond, List, [], ◌∷◌, length, get_or, set, replicate, refl, sym, arith, true≢false, inl, inr, length-append, length-set}
use Rattle.std.specs.Prelude.{sum_by}
use Rattle.std.proofs.lemmas.List.Sums.{sum_by-set, sum_by-append, sum_by-le}
use Rattle.bl_order.specs.Headline.{IsReached}
use Rattle.bl_order.specs.Machine.{State, Event, Session, Opens, Admits, Starts, Ends, Loses, Phase, Waiting, Running, Ended, Gone, Needs, change, children_at, is_waiting, is_running, most_sessions, phase_at, session_at}
use Rattle.bl_order.specs.Past.{is_done}
use Rattle.bl_order.specs.Machine.{past_at}
use Rattle.bl_order.proofs.Reached.{sound-reached}
use Rattle.bl_order.proofs.Trails.{within}
use Rattle.bl_hall.specs.Awaited.{had_events, most_events}
use Rattle.bl_hall.proofs.Ordered.{Each, each-all}

waiting-had : (p : Phase) → is_waiting p ≡ true → had_events p ≡ 1
waiting-had Waiting h = refl
waiting-had Running h = absurd (true≢false (sym h))
waiting-had Ended h = absurd (true≢false (sym h))
waiting-had Gone h = absurd (true≢false (sym h))

running-had : (p : Phase) → is_running p ≡ true → had_events p ≡ 2
running-had Waiting h = absurd (true≢false (sym h))
running-had Running h = refl
running-had Ended h = absurd (true≢false (sym h))
running-had Gone h = absurd (true≢false (sym h))

started-had : (b : Bool) → 2 ≤ had_events (cond b Running Ended)
started-had true = omega arith
started-had false = omega arith

most-had : (p : Phase) → had_events p ≤ 3
most-had Waiting = omega arith
most-had Running = omega arith
most-had Ended = omega arith
most-had Gone = omega arith

all-had : (ps : List Phase) → Each (λ p. had_events p ≤ 3) ps
all-had [] = tt
all-had (p ∷ ps) = (most-had p, all-had ps)

-- a phase is set
set-had : (ps : List Phase) (n : ℕ) (p : Phase) → n < length ps → had_events (get_or ps n Waiting) + 1 ≤ had_events p → suc (sum_by had_events ps) ≤ sum_by had_events (set ps n p)
set-had ps n p lt more = omega (arith, sum_by-set had_events ps n p Waiting lt, more)

-- each event makes room for itself
pub happened-next : (x : State) (e : Event) → IsReached x → Needs x e → suc (most_events x) ≤ most_events (change x e)
happened-next x (Opens u) r needs = omega (arith, length-append x.sessions (born ∷ []))
  where
    born : Session
    born = record { subject = u; last = 0 }
happened-next x (Admits s o w) r needs =
    let one : sum_by had_events (Waiting ∷ []) ≡ 1 = refl in
    omega (arith, length-set x.sessions s (record (session_at x s) { last = o }), sum_by-append had_events x.phases (Waiting ∷ []), one)
happened-next x (Starts n) r needs =
    let there : n < length x.phases = omega (arith, needs.there, (sound-reached x r).as_many) in
    omega (arith, set-had x.phases n (cond (is_done (past_at x n).answer) Running Ended) there (omega (arith, waiting-had (phase_at x n) needs.waits, started-had (is_done (past_at x n).answer))))
happened-next x (Ends n) r needs =
    let there : n < length x.phases = omega (arith, within x (sound-reached x r) n needs, (sound-reached x r).as_many) in
    omega (arith, set-had x.phases n Ended there (omega (arith, running-had (phase_at x n) needs)), sum_by-append had_events (set x.phases n Ended) (replicate (length (children_at x n)) Waiting))
happened-next x (Loses n) r (inl running) =
    let there : n < length x.phases = omega (arith, within x (sound-reached x r) n running, (sound-reached x r).as_many) in
    omega (arith, set-had x.phases n Gone there (omega (arith, running-had (phase_at x n) running)))
happened-next x (Loses n) r (inr may) =
    let there : n < length x.phases = omega (arith, may.there, (sound-reached x r).as_many) in
    omega (arith, set-had x.phases n Gone there (omega (arith, waiting-had (phase_at x n) may.waits)))

-- there are no more of them than the limit lets there be
pub most-happened : (x : State) (limit : ℕ) → IsReached x → length x.order ≤ limit → length x.sessions ≤ most_sessions → most_events x ≤ most_sessions + 3 * limit
most-happened x limit r few opened =
    omega (arith, sum_by-le had_events 3 x.phases (each-all (λ p. had_events p ≤ 3) x.phases (all-had x.phases)), (sound-reached x r).as_many, few, opened)
