-- What a pass is after a call in a turn at the gate, and after the turn is begun.
use Rattle.std.proofs.Common.{◌≡◌, ℕ, ◌+◌, ◌<◌, ◌≤◌, ◌⊎◌, inl, inr, List, [], ◌∷◌, ◌++◌, length, refl, sym, ap, ◌∙◌, subst, arith, append_assoc, append-nil, length-append}
use mathlib.Core.Logic.{dite}
use native.Mathlib.Decide.{ℕ_discrete}
use Rattle.std.specs.Prelude.{Some, slice_get}
use Rattle.atomic_table.specs.Seated.{TableId}
use Rattle.bl_order.specs.Machine.{State, Event, Starts}
use Rattle.bl_hall.specs.Chronicle.{Chronicle, Continues, HasTrail, state_now, with_event}
use Rattle.bl_gate.specs.Counts.{StartsWith, gained, times}
use Rattle.bl_gate.specs.Gates.{PassView, Calls, Follows, OwnsAllSince, hall_seen, hall_with}
use Rattle.bl_gate.specs.Views.{View, drew, entered, went}
use Rattle.bl_gate.specs.Seats.{pass_of}
use Rattle.bl_gate.specs.Turns.{EndsAt, EndsItsOwn, HasGoneOn}
use Rattle.bl_gate.proofs.Totals.{gained_none, gained_one, gained_then, times-append, times-gained, within_out}
use Rattle.bl_gate.proofs.Trails.{begins_itself, begins_length, begins_more, get_sooner}
use Rattle.bl_gate.proofs.Parts.{end_within, ends_at_sooner}

-- ---- what a call adds to a hall

-- this trail is the one before, or has one event more
abbrev IsNext : List Event → List Event → Type 0
IsNext before after = (after ≡ before) ⊎ ((event : Event) × (after ≡ before ++ event ∷ []))

continues_trail : (a b : Chronicle) → Continues a b → IsNext a.trail b.trail
continues_trail a b c = by c.by_one_at_most
  where
    by : (b ≡ a) ⊎ ((event : Event) × (b ≡ with_event a event)) → IsNext a.trail b.trail
    by (inl e) = inl (ap (λ (h : Chronicle). h.trail) e)
    by (inr e) = inr (e.0, ap (λ (h : Chronicle). h.trail) e.1)

continues_base : (a b : Chronicle) → Continues a b → b ≡ hall_with a b.trail
continues_base a b c = by c.by_one_at_most
  where
    by : (b ≡ a) ⊎ ((event : Event) × (b ≡ with_event a event)) → b ≡ hall_with a b.trail
    by (inl e) = e ∙ ap (λ (h : Chronicle). hall_with a h.trail) (sym e)
    by (inr e) = e.1 ∙ ap (λ (h : Chronicle). hall_with a h.trail) (sym e.1)

next_starts : (before after : List Event) → IsNext before after → StartsWith after before
next_starts before after (inl e) = ([], e ∙ sym (append-nil before))
next_starts before after (inr e) = (e.0 ∷ [], e.1)

next_length : (before after : List Event) → IsNext before after → length after ≤ length before + 1
next_length before after (inl e) = let l : length after ≡ length before = ap length e in omega arith
next_length before after (inr e) = let l : length after ≡ length (before ++ e.0 ∷ []) = ap length e.1 in omega (arith, length-append before (e.0 ∷ []))

-- ---- the hall of a turn goes on

-- where the next event ends an entry whose start was seen, that start is owned
abbrev pub NextEndsItsOwn : List Event → List Event → List ℕ → Type 0
NextEndsItsOwn s t own = (n q : ℕ) → EndsAt t (length s) n → slice_get s q ≡ Some (Starts n) → 1 ≤ times q own

ends_next : (own : List ℕ) (s t : List Event) → IsNext s t → EndsItsOwn s own → NextEndsItsOwn s t own → EndsItsOwn t (own ++ gained (length s) (length t))
ends_next own s t next old starts n p q o at before there =
    let more = next_starts s t next in
    let l = begins_length t s more in
    let one = next_length s t next in
    let inside = end_within t p n at in
    let a = times-append p own (gained (length s) (length t)) in
    let b = times-append q own (gained (length s) (length t)) in
    let sooner : slice_get s q ≡ Some (Starts n) = sym (get_sooner t s q more (omega arith)) ∙ there in
    dite (ℕ_discrete p (length s))
    (λ is. let h : 1 ≤ times q own = starts n q (subst (λ (k : ℕ). EndsAt t k n) is at) sooner in omega arith)
    (λ no. let lt : p < length s = omega arith in
    let g = times-gained (length s) (length t) p l in
    let z = within_out (length s) (length t) p (inl lt) in
    let h : 1 ≤ times q own = old n p q (omega arith) (ends_at_sooner s t p n more lt at) before sooner in omega arith)

-- the own positions of a seat whose hall has this trail
abbrev pub owned_in : View → List Event → List ℕ
owned_in v trail = (went v trail).own

owned_then : (v : View) (s t : List Event) → StartsWith s v.seen → StartsWith t s → owned_in v t ≡ owned_in v s ++ gained (length s) (length t)
owned_then v s t first more =
    ap (λ (l : List ℕ). v.own ++ l) (gained_then (length v.seen) (length s) (length t) (begins_length s v.seen first) (begins_length t s more))
    ∙ sym (append_assoc v.own (gained (length v.seen) (length s)) (gained (length s) (length t)))

-- by an event or by none
pub goes_on : (v : View) (taken lent put : Chronicle) → HasGoneOn v taken → lent ≡ taken → Continues lent put → NextEndsItsOwn taken.trail put.trail (owned_in v taken.trail) → HasGoneOn v put
goes_on v taken lent put on same continues starts =
    let next : Continues taken put = subst (λ (h : Chronicle). Continues h put) same continues in
    let trails = continues_trail taken put next in
    let more = next_starts taken.trail put.trail trails in
    record {
      of_hall = continues_base taken put next ∙ ap (λ (h : Chronicle). hall_with h put.trail) on.of_hall;
      legal = next.trail;
      seen = begins_more put.trail taken.trail v.seen more on.seen;
      ends = subst (EndsItsOwn put.trail) (sym (owned_then v taken.trail put.trail on.seen more)) (ends_next (owned_in v taken.trail) taken.trail put.trail trails on.ends starts);
    }

-- ---- a call in a turn

-- A call in a turn: the hall was what the pass had seen, and went on; and the pass has seen that, and owns it.
pub record Turned (before : PassView) (taken put : Chronicle) (after : PassView) : Type 0 where
  pub taken_is : taken ≡ hall_seen before
  pub continues : Continues taken put
  pub after_is : after ≡ record before { seen = put.trail; own = before.own ++ gained (length before.seen) (length put.trail) }

-- what is lent of the hall is the hall
pub turned : (p : PassView) (z : TableId) (v : View) (parts : ℕ) (taken lent put : Chronicle) → pass_of z (went v taken.trail) parts ≡ p → HasGoneOn v taken → lent ≡ taken → Continues lent put
    → Turned p lent put (pass_of z (went v put.trail) parts)
turned p z v parts taken lent put is on same continues =
    subst (λ (h : Chronicle). Turned p h put (pass_of z (went v put.trail) parts)) (sym same)
    (subst (λ (q : PassView). Turned q taken put (pass_of z (went v put.trail) parts)) is (
    let next : Continues taken put = subst (λ (h : Chronicle). Continues h put) same continues in record {
      taken_is = on.of_hall;
      continues = next;
      after_is = ap (λ (l : List ℕ). record (pass_of z (went v put.trail) parts) { own = l }) (owned_then v taken.trail put.trail on.seen (next_starts taken.trail put.trail (continues_trail taken put next)));
    }))

module _ (p : PassView) (taken put : Chronicle) (q : PassView) (turn : Turned p taken put q) where
  pub turned_starts : StartsWith put.trail p.seen
  turned_starts = subst (λ (h : Chronicle). StartsWith put.trail h.trail) turn.taken_is (next_starts taken.trail put.trail (continues_trail taken put turn.continues))

  pub turned_follows : Follows p q
  turned_follows = record {
    gate = ap (λ (x : PassView). x.gate) turn.after_is;
    parts = ap (λ (x : PassView). x.parts) turn.after_is;
    seen = subst (λ (x : PassView). StartsWith x.seen p.seen) (sym turn.after_is) turned_starts;
  }

  put_is : put ≡ hall_seen q
  put_is =
      continues_base taken put turn.continues
      ∙ (ap (λ (h : Chronicle). hall_with h put.trail) turn.taken_is
      ∙ ap hall_seen (sym turn.after_is))

  pub turned_legal : HasTrail (hall_seen q)
  turned_legal = subst HasTrail put_is turn.continues.trail

  pub turned_own : OwnsAllSince p q
  turned_own = subst (λ (x : PassView). OwnsAllSince p x) (sym turn.after_is) refl

  -- nothing has happened
  pub turned_same : put ≡ taken → q ≡ p
  turned_same e =
      let same : put.trail ≡ p.seen = ap (λ (h : Chronicle). h.trail) (e ∙ turn.taken_is) in
      turn.after_is
      ∙ ((λ i. record p { seen = same i; own = p.own ++ gained (length p.seen) (length (same i)) })
      ∙ ap (λ (l : List ℕ). record p { own = l }) (ap (λ (l : List ℕ). p.own ++ l) (gained_none (length p.seen)) ∙ append-nil p.own))

  -- and so what was asked of the hall is so where the pass is
  pub turned_seen : put ≡ taken → taken ≡ hall_seen q
  turned_seen e = sym e ∙ put_is

  -- the event has happened
  pub turned_calls : (event : Event) (Answered : State → Type 0) → put ≡ with_event taken event → Answered (state_now taken) → Calls p event Answered q
  turned_calls event Answered e answered = record {
    trail = p.seen;
    from = begins_itself p.seen;
    seen = ap (λ (x : PassView). x.seen) turn.after_is ∙ trail_is;
    own =
        ap (λ (x : PassView). x.own) turn.after_is
        ∙ ap (λ (l : List ℕ). p.own ++ l) (gained_one (length p.seen) (length put.trail) (ap length trail_is ∙ length-append p.seen (event ∷ [])));
    answered = subst (λ (h : Chronicle). Answered (state_now h)) turn.taken_is answered;
  }
    where
      trail_is : put.trail ≡ p.seen ++ event ∷ []
      trail_is = ap (λ (h : Chronicle). h.trail) e ∙ ap (λ (h : Chronicle). h.trail ++ event ∷ []) turn.taken_is

-- ---- a turn begins

-- the hall as it was taken
pub gone_on_none : (v v' : View) (t : ℕ) (h : Chronicle) → v' ≡ entered (drew v t) h.trail → h ≡ hall_with v.base h.trail → HasTrail h → EndsItsOwn h.trail v.own → HasGoneOn v' h
gone_on_none v v' t h came of_hall legal ends =
    subst (λ (u : View). HasGoneOn u h) (sym came) (record {
      of_hall = of_hall;
      legal = legal;
      seen = begins_itself h.trail;
      ends = subst (EndsItsOwn h.trail) (sym (ap (λ (l : List ℕ). v.own ++ l) (gained_none (length h.trail)) ∙ append-nil v.own)) ends;
    })

-- the pass has seen its trail, and gained nothing
pub begun : (p : PassView) (z z' : TableId) (v v' : View) (parts t : ℕ) (h : Chronicle) → pass_of z v parts ≡ p → z' ≡ z → v' ≡ entered (drew v t) h.trail
    → pass_of z' (went v' h.trail) parts ≡ record p { seen = h.trail }
begun p z z' v v' parts t h is gate came =
    (λ i. pass_of (gate i) (went (came i) h.trail) parts)
    ∙ (ap (λ (l : List ℕ). record (pass_of z v parts) { seen = h.trail; own = l }) (ap (λ (l : List ℕ). v.own ++ l) (gained_none (length h.trail)) ∙ append-nil v.own)
    ∙ ap (λ (q : PassView). record q { seen = h.trail }) is)
