-- What a change of one view does to the parts of the rule.
use Rattle.std.proofs.Common.{◌≡◌, ◌≢◌, ℕ, zero, suc, ◌+◌, ◌<◌, ◌≤◌, inl, inr, ⊎_elim, List, [], ◌∷◌, length, eqb, set, Option, Some, true, false, true≢false, refl, sym, ap, ◌∙◌, subst, arith}
use mathlib.Core.Logic.{dite}
use Rattle.std.proofs.lemmas.Bool.Decides.{nat_tests}
use mathlib.Core.Option.{some, none, some-injective, some-ne-none}
use mathlib.Core.Option as Found
use native.Mathlib.Decide.{ℕ_discrete}
use lib.ListN.{get_elem?}
use Rattle.atomic_table.proofs.Lists.{at_set, set_else}
use Rattle.std.specs.Prelude.{slice_get}
use Rattle.bl_order.specs.Machine.{Event, Starts, Ends, Loses}
use Rattle.bl_hall.specs.Chronicle.{Chronicle, HasTrail}
use Rattle.bl_gate.specs.Counts.{one_if, within, times, total, StartsWith}
use Rattle.bl_gate.specs.Gates.{hall_with}
use Rattle.bl_gate.specs.Views.{View, nobody, brings}
use Rattle.bl_gate.specs.Turns.{has_ticket, Queue, NoneInsideBut, Slot, Trails, AreTold, EndsAt, EndsItsOwn, NoEndBehind}
use Rattle.bl_gate.proofs.Totals.{total_set, one_of, two_of, some_of, within_in, within_le, within_some}
use Rattle.bl_gate.proofs.Trails.{begins_more, begins_length, get_sooner, got_within}

pub at_here : (l : List View) (i : ℕ) (v w : View) → get_elem? l i ≡ some v → get_elem? (set l i w) i ≡ some w
at_here [] i v w e = absurd (some-ne-none v (sym e))
at_here (x ∷ xs) zero v w e = refl
at_here (x ∷ xs) (suc i) v w e = at_here xs i v w e

pub set_all : (P : ℕ → View → Type 0) (vs : List View) (id : ℕ) (w : View) → P id w → ((j : ℕ) (u : View) → j ≢ id → get_elem? vs j ≡ some u → P j u) → (j : ℕ) (u : View) → get_elem? (set vs id w) j ≡ some u → P j u
set_all P vs id w mine others j u e =
    ⊎_elim
    (λ (x : (j ≡ id) × (w ≡ u)). subst (λ (y : ℕ × View). P y.0 y.1) (λ i. (sym x.0 i, x.1 i)) mine)
    (λ (x : (j ≢ id) × (get_elem? vs j ≡ some u)). others j u x.0 x.1)
    (at_set vs id j w u e)

pub same_view : (vs : List View) (i j : ℕ) (v w : View) → i ≡ j → get_elem? vs i ≡ some v → get_elem? vs j ≡ some w → v ≡ w
same_view vs i j v w e p q = some-injective v w (sym p ∙ (ap (λ (k : ℕ). get_elem? vs k) e ∙ q))

off : false ≡ true → ⊥
off e = true≢false (sym e)

pub queue_set : (d s d' s' : ℕ) (vs : List View) (id : ℕ) (v w : View) → get_elem? vs id ≡ some v → Queue d s vs → d' < 18446744073709551616 → s' ≤ d'
    → ((t : ℕ) → within s' d' t + has_ticket t v.ticket ≡ within s d t + has_ticket t w.ticket) → w.parts ≡ v.parts → 0 < v.parts → Queue d' s' (set vs id w)
queue_set d s d' s' vs id v w at q small order moves parts some_part = record {
  small = small;
  order = order;
  tickets = λ t. let h = total_set (λ (u : View). has_ticket t u.ticket) vs id v w at in let k = q.tickets t in let m = moves t in omega arith;
  parts = (let h = total_set (λ (u : View). u.parts) vs id v w at in let k = q.parts in omega arith);
  spent = set_all (λ j u. u.parts ≡ 0 → u ≡ nobody) vs id w (λ z. absurd (omega arith)) (λ j u _ e. q.spent j u e);
}

pub queue_same : (d s : ℕ) (vs : List View) (id : ℕ) (v w : View) → get_elem? vs id ≡ some v → Queue d s vs → w.ticket ≡ v.ticket → w.parts ≡ v.parts → 0 < v.parts → Queue d s (set vs id w)
queue_same d s vs id v w at q ticket parts some_part =
    queue_set d s d s vs id v w at q q.small q.order (λ t. ap (λ (x : Option ℕ). within s d t + has_ticket t x) (sym ticket)) parts some_part

has_own : (t : ℕ) (v : View) → v.ticket ≡ Some t → has_ticket t v.ticket ≡ 1
has_own t v e = let h : one_if (eqb t t) ≡ 1 = grind (arith, nat_tests) in ap (has_ticket t) e ∙ h

-- the ticket that is served lies below those drawn
pub served_below : (d s : ℕ) (vs : List View) (id : ℕ) (v : View) → get_elem? vs id ≡ some v → Queue d s vs → v.ticket ≡ Some s → s < d
served_below d s vs id v at q mine =
    let h = one_of (λ (u : View). has_ticket s u.ticket) vs id v at in
    let a = has_own s v mine in
    let k = q.tickets s in
    (within_some s d s (omega arith)).1

-- a change of a view that is not inside, and stays so
pub slot_idle : (s : ℕ) (hall : Chronicle) (homes : List (Found.Option (Option Chronicle))) (vs : List View) (id : ℕ) (v w : View) → get_elem? vs id ≡ some v → v.inside ≡ false → w.inside ≡ false
    → Slot s hall homes vs → Slot s hall homes (set vs id w)
slot_idle s hall homes vs id v w at was is (inl h) = inl (h.0, set_all (λ j u. u.inside ≡ false) vs id w is (λ j u _ e. h.1 j u e))
slot_idle s hall homes vs id v w at was is (inr h) =
    let o = h.1 in
    let apart : o.seat ≢ id = λ e. true≢false (sym o.is_in ∙ (ap (λ (u : View). u.inside) (same_view vs o.seat id o.view v e o.there at) ∙ was)) in
    inr (
      h.0,
      record {
        seat = o.seat;
        view = o.view;
        there = set_else vs id o.seat w apart ∙ o.there;
        is_in = o.is_in;
        turn = o.turn;
        knows = o.knows;
        others = λ j u n e. set_all (λ i x. i ≢ o.seat → x.inside ≡ false) vs id w (λ _. is) (λ i x _ p m. o.others i x m p) j u e n;
      },
    )

-- whose ticket is served, and who is not inside yet, finds the hall
pub slot_home : (d s : ℕ) (hall : Chronicle) (homes : List (Found.Option (Option Chronicle))) (vs : List View) (id : ℕ) (v : View) → get_elem? vs id ≡ some v → v.inside ≡ false → v.ticket ≡ Some s
    → Queue d s vs → Slot s hall homes vs → (homes ≡ some (Some hall) ∷ []) × ((j : ℕ) (w : View) → get_elem? vs j ≡ some w → w.inside ≡ false)
slot_home d s hall homes vs id v at was mine q (inl h) = h
slot_home d s hall homes vs id v at was mine q (inr h) =
    let o = h.1 in
    let apart : o.seat ≢ id = λ e. true≢false (sym o.is_in ∙ (ap (λ (u : View). u.inside) (same_view vs o.seat id o.view v e o.there at) ∙ was)) in
    let two = two_of (λ (u : View). has_ticket s u.ticket) vs o.seat id o.view v apart o.there at in
    let a = has_own s o.view o.turn in
    let b = has_own s v mine in
    let k = q.tickets s in
    let l = within_le s d s in
    absurd (omega arith)

pub record Holder (s : ℕ) (trail : List Event) (homes : List (Found.Option (Option Chronicle))) (vs : List View) (id : ℕ) (v : View) : Type 0 where
  pub out : homes ≡ none ∷ []
  pub turn : v.ticket ≡ Some s
  pub knows : v.seen ≡ trail
  pub others : NoneInsideBut id vs

-- who is inside has the hall
pub slot_out : (s : ℕ) (hall : Chronicle) (homes : List (Found.Option (Option Chronicle))) (vs : List View) (id : ℕ) (v : View) → get_elem? vs id ≡ some v → v.inside ≡ true
    → Slot s hall homes vs → Holder s hall.trail homes vs id v
slot_out s hall homes vs id v at is (inl h) = absurd (true≢false (sym is ∙ h.1 id v at))
slot_out s hall homes vs id v at is (inr h) =
    let o = h.1 in dite (ℕ_discrete id o.seat)
    (λ e. let same : o.view ≡ v = sym (same_view vs id o.seat v o.view e at o.there) in record {
      out = h.0;
      turn = ap (λ (u : View). u.ticket) (sym same) ∙ o.turn;
      knows = ap (λ (u : View). u.seen) (sym same) ∙ o.knows;
      others = subst (λ (i : ℕ). NoneInsideBut i vs) (sym e) o.others;
    })
    (λ n. absurd (true≢false (sym is ∙ o.others id v n at)))

-- some view has seen the whole trail
abbrev pub Whole : List Event → List View → Type 0
Whole t vs = (i : ℕ) × (v : View) × (get_elem? vs i ≡ some v) × (v.seen ≡ t)

pub whole_same : (t : List Event) (vs : List View) (id : ℕ) (v w : View) → get_elem? vs id ≡ some v → w.seen ≡ v.seen → Whole t vs → Whole t (set vs id w)
whole_same t vs id v w at e h = dite (ℕ_discrete h.0 id)
    (λ is. (id, w, at_here vs id v w at, e ∙ (ap (λ (u : View). u.seen) (same_view vs id h.0 v h.1 (sym is) at h.2) ∙ h.3)))
    (λ no. (h.0, h.1, set_else vs id h.0 w no ∙ h.2, h.3))

-- an end that stands in a longer trail, inside the shorter, stands in that
pub ends_at_sooner : (t t' : List Event) (p n : ℕ) → StartsWith t' t → p < length t → EndsAt t' p n → EndsAt t p n
ends_at_sooner t t' p n more lt (inl e) = inl (sym (get_sooner t' t p more lt) ∙ e)
ends_at_sooner t t' p n more lt (inr e) = inr (sym (get_sooner t' t p more lt) ∙ e)

pub end_within : (t : List Event) (p n : ℕ) → EndsAt t p n → p < length t
end_within t p n (inl e) = got_within t p (Ends n) e
end_within t p n (inr e) = got_within t p (Loses n) e

-- whoever ends its own in a trail does so in a longer one
pub ends_later : (t t' : List Event) (own : List ℕ) → StartsWith t' t → ((p : ℕ) → 1 ≤ times p own → p < length t) → EndsItsOwn t own → EndsItsOwn t' own
ends_later t t' own more inside h n p q o at before there =
    let lt = inside p o in h n p q o (ends_at_sooner t t' p n more lt at) before (sym (get_sooner t' t q more (omega arith)) ∙ there)

-- nobody else has ended what a view has started
pub no_end : (base : Chronicle) (trail : List Event) (vs : List View) (id : ℕ) (v : View) → get_elem? vs id ≡ some v → Trails base trail vs → NoEndBehind (brings v) trail
no_end base trail vs id v at r n q s o there le e =
    let inside : q < length v.seen = r.mine id v at q o in
    let l : s < length trail = end_within trail s n e in
    let h = one_of (λ (u : View). times q u.own) vs id v at in
    let k = r.owned q in
    let first = within_some (length base.trail) (length trail) q (omega arith) in
    let one : total (λ (u : View). times s u.own) vs ≡ 1 = r.owned s ∙ within_in (length base.trail) (length trail) s (let f = first.0 in omega arith) l in
    let who = some_of (λ (u : View). times s u.own) vs (omega arith) in
    let b = begins_length trail v.seen (r.seen id v at) in
    let starts : slice_get trail q ≡ Some (Starts n) = get_sooner trail v.seen q (r.seen id v at) inside ∙ there in
    let also : 1 ≤ times q (who.1).own = r.starters who.0 who.1 who.2 n s q who.3 e (omega arith) starts in
    dite (ℕ_discrete who.0 id)
    (λ is. let same : who.1 ≡ v = same_view vs who.0 id who.1 v is who.2 at in
    let mine : 1 ≤ times s v.own = subst (λ (u : View). 1 ≤ times s u.own) same who.3 in
    let m = r.mine id v at s mine in omega arith)
    (λ no. let two = two_of (λ (u : View). times q u.own) vs who.0 id who.1 v no who.2 at in
    let w = within_le (length base.trail) (length trail) q in omega arith)

pub trails_set : (base : Chronicle) (t t' : List Event) (vs : List View) (id : ℕ) (v w : View) → get_elem? vs id ≡ some v → Trails base t vs → StartsWith t' t → StartsWith t' w.seen → AreTold w.base w.seen w.met → w.base ≡ base
    → Whole t' (set vs id w) → HasTrail (hall_with base t') → ((p : ℕ) → 1 ≤ times p w.own → p < length w.seen)
    → ((p : ℕ) → times p w.own + within (length base.trail) (length t) p ≡ times p v.own + within (length base.trail) (length t') p) → EndsItsOwn t' w.own → Trails base t' (set vs id w)
trails_set base t t' vs id v w at r more seen told based whole legal mine own ends = record {
  begins = begins_more t' t base.trail more r.begins;
  legal = legal;
  seen = set_all (λ j u. StartsWith t' u.seen) vs id w seen (λ j u _ e. begins_more t' t u.seen more (r.seen j u e));
  told = set_all (λ j u. AreTold u.base u.seen u.met) vs id w told (λ j u _ e. r.told j u e);
  based = set_all (λ j u. 0 < u.parts → u.base ≡ base) vs id w (λ _. based) (λ j u _ e. r.based j u e);
  whole = whole;
  mine = set_all (λ j u. (p : ℕ) → 1 ≤ times p u.own → p < length u.seen) vs id w mine (λ j u _ e. r.mine j u e);
  owned = λ p. let h = total_set (λ (u : View). times p u.own) vs id v w at in let k = r.owned p in let o = own p in omega arith;
  starters = set_all (λ j u. EndsItsOwn t' u.own) vs id w ends
      (λ j u _ e. ends_later t t' u.own more (λ p o. let l = r.mine j u e p o in let b = begins_length t u.seen (r.seen j u e) in omega arith) (r.starters j u e));
}
