-- Passes that have made no event but those of one session.
use Rattle.std.proofs.Common.{◌≡◌, ℕ, ◌+◌, ◌≤◌, List, [], ◌∷◌, ◌++◌, length, drop, refl, sym, ap, subst, ◌∙◌, arith, append-nil, append_assoc}
use Rattle.std.proofs.Math.Seq.{drop-append_seam}
use Rattle.std.proofs.lemmas.Bool.Decides.{nat_tests}
use Rattle.bl_work.specs.declared.work.Work.{Work}
use Rattle.bl_order.specs.Machine.{State, Event, Opens, Admits, Starts, Ends, Loses}
use Rattle.bl_hall.specs.Chronicle.{Chronicle, state_now}
use Rattle.bl_gate.specs.Counts.{times}
use Rattle.bl_gate.specs.Gates.{PassView, Calls, Follows, hall_with}
use Rattle.bl_gate.proofs.Following.{base_stays}
use Rattle.bl_gate.proofs.Totals.{times-append}
use Rattle.bl_gate.proofs.Trails.{begins_more}
use Rattle.bl_worker.specs.Turns.{Adds, AddsTurnsAlone, IsEventOf}
use Rattle.bl_worker.proofs.Adding.{adds_as, adds_call, adds_then}
use Rattle.bl_serve.specs.Courses.{AdmitsNoLineOf, IsNoLineOf, IsOfSession, IsOpenedAt, IsOwn, SpeaksForItsOwn}

pub once : (k : ℕ) → 1 ≤ times k (k ∷ [])
once k = grind (arith, nat_tests)

pub more_times : (i : ℕ) (g h : List ℕ) → 1 ≤ times i g → 1 ≤ times i (g ++ h)
more_times i g h some = omega (arith, times-append i g h, some)

pub times_after : (i : ℕ) (g h : List ℕ) → 1 ≤ times i h → 1 ≤ times i (g ++ h)
times_after i g h some = omega (arith, times-append i g h, some)

-- the positions that a pass has gained
pub gained_since : (before after gained : List ℕ) → after ≡ before ++ gained → drop (length before) after ≡ gained
gained_since before after gained is = ap (drop (length before)) is ∙ drop-append_seam before gained

-- the opening
pub own_opened : (first q : PassView) (session u : ℕ) → q.gate.base ≡ first.gate.base → Calls first (Opens u) (λ x. session ≡ length x.sessions) q → IsOwn first q session
own_opened first q session u base call = record {
  opened = (
    u,
    record {
      front = call.trail;
      there = ([], call.seen ∙ sym (append-nil (call.trail ++ Opens u ∷ [])));
      number = call.answered ∙ ap (λ (b : Chronicle). length (state_now (hall_with b call.trail)).sessions) (sym base);
      own = subst (λ (l : List ℕ). 1 ≤ times (length call.trail) l) (sym (gained_since first.own q.own (length call.trail ∷ []) call.own)) (once (length call.trail));
    },
  );
  mine = adds_call (IsOfSession session (length call.trail)) first q (Opens u) (λ x. session ≡ length x.sessions) call refl;
}

-- since a pass that owned as much
pub own_first : (first p q : PassView) (session : ℕ) → p.own ≡ first.own → IsOwn p q session → IsOwn first q session
own_first first p q session same o = record {
  opened = (
    o.opened.0,
    record {
      front = o.opened.1.front;
      there = o.opened.1.there;
      number = o.opened.1.number;
      own = subst (λ (l : List ℕ). 1 ≤ times (length o.opened.1.front) (drop (length l) q.own)) same o.opened.1.own;
    },
  );
  mine = record { gained = o.mine.gained; own = o.mine.own ∙ ap (λ (l : List ℕ). l ++ o.mine.gained) same; within = o.mine.within; events = o.mine.events };
}

-- further events of the session
pub own_then : (p q r : PassView) (session : ℕ) (o : IsOwn p q session) → Follows q r → Adds (IsOfSession session (length o.opened.1.front)) q r → IsOwn p r session
own_then p q r session o follows more = record {
  opened = (
    o.opened.0,
    record {
      front = o.opened.1.front;
      there = begins_more r.seen q.seen (o.opened.1.front ++ Opens o.opened.0 ∷ []) follows.seen o.opened.1.there;
      number = o.opened.1.number ∙ ap (λ (b : Chronicle). length (state_now (hall_with b o.opened.1.front)).sessions) (sym (base_stays q r follows));
      own = subst (λ (l : List ℕ). 1 ≤ times (length o.opened.1.front) l) (sym gained) there;
    },
  );
  mine = adds_then (IsOfSession session (length o.opened.1.front)) p q r o.mine more follows;
}
  where
    gained : drop (length p.own) r.own ≡ o.mine.gained ++ more.gained
    gained = gained_since p.own r.own (o.mine.gained ++ more.gained) (more.own ∙ (ap (λ (l : List ℕ). l ++ more.gained) o.mine.own ∙ append_assoc p.own o.mine.gained more.gained))

    there : 1 ≤ times (length o.opened.1.front) (o.mine.gained ++ more.gained)
    there = more_times (length o.opened.1.front) o.mine.gained more.gained
        (subst (λ (l : List ℕ). 1 ≤ times (length o.opened.1.front) l) (gained_since p.own q.own o.mine.gained o.mine.own) o.opened.1.own)

-- a line of it
pub own_line : (p q r : PassView) (session k : ℕ) (w : Work) (A : State → Type 0) → IsOwn p q session → Follows q r → Calls q (Admits session k w) A r → IsOwn p r session
own_line p q r session k w A o follows call =
    own_then p q r session o follows (adds_call (IsOfSession session (length o.opened.1.front)) q r (Admits session k w) A call refl)

-- turns with whatever entries
pub own_turns : (p q r : PassView) (session : ℕ) → IsOwn p q session → Follows q r → AddsTurnsAlone q r → IsOwn p r session
own_turns p q r session o follows turns =
    own_then p q r session o follows (adds_as (λ _. IsEventOf (λ n. Unit {0})) (IsOfSession session (length o.opened.1.front)) q r turns of_turn)
  where
    of_turn : (i : ℕ) (e : Event) → IsEventOf (λ n. Unit {0}) e → IsOfSession session (length o.opened.1.front) i e
    of_turn i (Opens u) h = absurd h
    of_turn i (Admits s k w) h = absurd h
    of_turn i (Starts n) h = tt
    of_turn i (Ends n) h = tt
    of_turn i (Loses n) h = tt

-- turns are no lines, whosever
pub turns_no_line_of : (session : ℕ) (p q : PassView) → AddsTurnsAlone p q → AdmitsNoLineOf session p q
turns_no_line_of session p q turns = adds_as (λ _. IsEventOf (λ n. Unit {0})) (λ _. IsNoLineOf session) p q turns (λ i. no_line)
  where
    no_line : (e : Event) → IsEventOf (λ n. Unit {0}) e → IsNoLineOf session e
    no_line (Opens u) h = tt
    no_line (Admits s k w) h = absurd h
    no_line (Starts n) h = tt
    no_line (Ends n) h = tt
    no_line (Loses n) h = tt

-- so it spoke for no other session
pub own_speaks : (first q : PassView) (session : ℕ) → IsOwn first q session → SpeaksForItsOwn first q
own_speaks first q session o = record {
  gained = o.mine.gained;
  own = o.mine.own;
  within = o.mine.within;
  lines = λ i other k w some at. (
    o.opened.0,
    subst (λ (n : ℕ). IsOpenedAt o.mine.gained q n o.opened.0) (sym (o.mine.events i (Admits other k w) some at))
        (subst (λ (l : List ℕ). IsOpenedAt l q session o.opened.0) (gained_since first.own q.own o.mine.gained o.mine.own) o.opened.1),
  );
}

-- a pass that gained nothing
pub speaks_for_none : (first q : PassView) → q.own ≡ first.own → SpeaksForItsOwn first q
speaks_for_none first q same = record {
  gained = [];
  own = same ∙ sym (append-nil first.own);
  within = λ i some. absurd (omega (arith, some));
  lines = λ i session k w some at. absurd (omega (arith, some));
}
