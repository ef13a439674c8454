-- A hall goes on event by event, and comes nearer to its end.
use Rattle.std.proofs.Common.{◌≡◌, ℕ, suc, ◌+◌, ◌*◌, ◌≤◌, Bool, true, false, List, [], ◌∷◌, ◌++◌, length, refl, sym, ◌∙◌, ap, subst, arith, append_assoc, append-nil, length-append, length-set, inl, inr, ◌⊎◌}
use Rattle.std.specs.List.{AllByRecursion}
use Rattle.std.specs.Prelude.{IsTrue}
use Rattle.bl_audit.proofs.Trails.{limit-now}
use Rattle.bl_hall.proofs.Happening.{happened-next, most-happened}
use Rattle.bl_hall.proofs.Trails.{reached-now, state-next}
use Rattle.bl_hall.specs.Awaited.{most_events}
use Rattle.bl_hall.specs.Chronicle.{Chronicle, HasTrail, state_now, with_event}
use Rattle.bl_order.specs.Headline.{Holds, IsReached}
use Rattle.bl_order.specs.Machine.{State, Event, Opens, Admits, Starts, Ends, Loses, IsTrail, MayStart, Needs, Session, change, has_ended, most_sessions, runs, session_at, start, state_after}
use Rattle.bl_order.specs.Standing.{HaveAllEnded}
use Rattle.bl_record.specs.Ending.{HasGoneOn, IsOfRun}
use Rattle.bl_record.specs.Nearing.{IsIdle, IsNearer}

-- nothing has happened
pub none-more : (a : Chronicle) → HasTrail a → HasGoneOn a a
none-more a trail = record {
  grown = record { setup = refl; limit = refl; more = []; trail = sym (append-nil a.trail) };
  only = tt;
  trail = trail;
}

all-both : (a b : List Event) → AllByRecursion IsOfRun a → AllByRecursion IsOfRun b → AllByRecursion IsOfRun (a ++ b)
all-both [] b first second = second
all-both (e ∷ a) b first second = (first.0, all-both a b first.1 second)

pub one-more : (a b : Chronicle) (e : Event) → b ≡ with_event a e → HasTrail b → IsOfRun e → HasGoneOn a b
one-more a b e is trail runs = record {
  grown = record {
    setup = ap (λ (h : Chronicle). h.setup) is;
    limit = ap (λ (h : Chronicle). h.limit) is;
    more = e ∷ [];
    trail = ap (λ (h : Chronicle). h.trail) is;
  };
  only = (runs, tt);
  trail = trail;
}

pub and-on : (a b c : Chronicle) → HasGoneOn a b → HasGoneOn b c → HasGoneOn a c
and-on a b c first second = record {
  grown = record {
    setup = second.grown.setup ∙ first.grown.setup;
    limit = second.grown.limit ∙ first.grown.limit;
    more = first.grown.more ++ second.grown.more;
    trail = second.grown.trail ∙ ap (λ l. l ++ second.grown.more) first.grown.trail ∙ append_assoc a.trail first.grown.more second.grown.more;
  };
  only = all-both first.grown.more second.grown.more first.only second.only;
  trail = second.trail;
}

pub state-on : (a b : Chronicle) (e : Event) → b ≡ with_event a e → state_now b ≡ change (state_now a) e
state-on a b e is = ap state_now is ∙ state-next a e

few : (x : State) (es : List Event) → IsTrail x es → length x.sessions ≤ most_sessions → length (state_after x es).sessions ≤ most_sessions
few x [] steps le = le
few x (Opens u ∷ es) steps le = few (change x (Opens u)) es steps.1 (omega (arith, steps.0.1, length-append x.sessions (born ∷ [])))
  where
    born : Session
    born = record { subject = u; last = 0 }
few x (Admits s o w ∷ es) steps le =
    few (change x (Admits s o w)) es steps.1 (omega (arith, le, length-set x.sessions s (record (session_at x s) { last = o })))
few x (Starts n ∷ es) steps le = few (change x (Starts n)) es steps.1 le
few x (Ends n ∷ es) steps le = few (change x (Ends n)) es steps.1 le
few x (Loses n ∷ es) steps le = few (change x (Loses n)) es steps.1 le

module _ (room : (x : State) → IsReached x → length x.order ≤ x.limit) where
  most : (h : Chronicle) → HasTrail h → most_events (state_now h) ≤ most_sessions + 3 * h.limit
  most h trail =
      most-happened (state_now h) h.limit (reached-now h trail)
      (subst (λ l. length (state_now h).order ≤ l) (limit-now h) (room (state_now h) (reached-now h trail)))
      (few (start h.setup h.limit) h.trail trail (omega arith))

  -- an event more leaves room for fewer
  pub nearer : (a b : Chronicle) (e : Event) → HasTrail a → HasTrail b → b ≡ with_event a e → Needs (state_now a) e → IsNearer a b
  nearer a b e before after is needs =
      let grows : suc (most_events (state_now a)) ≤ most_events (change (state_now a) e) = happened-next (state_now a) e (reached-now a before) needs in
      let same : most_events (state_now b) ≡ most_events (change (state_now a) e) = ap most_events (state-on a b e is) in
      let limit : b.limit ≡ a.limit = ap (λ (h : Chronicle). h.limit) is in
      omega (arith, grows, same, limit, most b after)

pub nearer-still : (a b c : Chronicle) → IsNearer a b → IsNearer b c → IsNearer a c
nearer-still a b c first second = omega (arith, first, second)

-- where nothing runs and nothing may start, all have ended
pub all-over : (x : State) → Holds x → IsIdle x → ((n : ℕ) → MayStart x n → ⊥) → HaveAllEnded x
all-over x holds idle none n lt = go (has_ended x n) refl
  where
    runs-not : (m : ℕ) → runs x m ≡ true → ⊥
    runs-not m h = absurd (apart (sym h ∙ idle m))
      where
        apart : true ≡ false → ⊥
        apart q = cc

    go : (b : Bool) → has_ended x n ≡ b → IsTrue (has_ended x n)
    go true e = e
    go false e = at (holds.not_stuck n lt e)
      where
        at : (m : ℕ) × (m ≤ n) × (IsTrue (runs x m) ⊎ MayStart x m) → IsTrue (has_ended x n)
        at (m, le, inl running) = absurd (runs-not m running)
        at (m, le, inr may) = absurd (none m may)
