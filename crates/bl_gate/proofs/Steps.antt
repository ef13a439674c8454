-- Each step of a gate keeps the rule.
use Rattle.std.proofs.Common.{◌≡◌, ◌≢◌, ℕ, zero, suc, ◌+◌, ◌%◌, ◌^◌, ◌<◌, ◌≤◌, inl, inr, ⊎_elim, List, [], ◌∷◌, ◌++◌, length, eqb, set, get_or, Option, Some, true, false, true≢false, refl, sym, ap, ◌∙◌, subst, arith}
use mathlib.Core.Logic.{dite}
use Rattle.std.proofs.Math.Nat.{mod-eq_of_lt}
use mathlib.Core.Option.{some, none, some-injective, some-ne-none}
use mathlib.Core.Option as Found
use native.Mathlib.Decide.{ℕ_discrete}
use lib.ListN.{get_elem?}
use prog.Atomic.{either}
use Rattle.atomic_table.specs.Table.{State, Act, step, keeps, takes, gives, Valid, homes_after, carried_after, Allows, Splits, Joins, opening, Final, Seen}
use Rattle.atomic_table.proofs.Lists.{at_longer, at_snoc, set_else, set_again, exchanged}
use Rattle.bl_order.specs.Machine.{Event, Ends, Loses}
use Rattle.bl_hall.specs.Chronicle.{Chronicle, HasTrail}
use Rattle.bl_gate.specs.Counts.{one_if, within, times, gained, total, StartsWith}
use Rattle.bl_gate.specs.Gates.{hall_with}
use Rattle.bl_gate.specs.Views.{View, Brought, opener, nobody, brings, drew, entered, went, joined, heard, stays, branch, IsIdle}
use Rattle.bl_gate.specs.Turns.{EndsItsOwn, HasGoneOn, NoEndBehind, AreTold, has_ticket, Queue, Slot, Trails, Kept, Sat, Draws, Looks, Passes, Hears, in_hand}
use Rattle.bl_gate.proofs.Totals.{total_set, total_snoc, one_of, two_of, within_le, within_some, within_more, within_less, within_none, within_then, times-append, times-gained}
use Rattle.bl_gate.proofs.Trails.{get_later, begins_itself, begins_any, begins_whole, begins_length, ranked}
use Rattle.bl_gate.proofs.Halls.{legal_front}
use Rattle.bl_gate.proofs.Parts.{at_here, set_all, same_view, queue_set, queue_same, served_below, slot_idle, slot_home, slot_out, Whole, whole_same, trails_set, no_end}

abbrev S : Type 0
S = State (Option Chronicle) View

abbrev A : Type 0
A = Act (Option Chronicle)

abbrev Homes : Type 0
Homes = List (Found.Option (Option Chronicle))

abbrev at_words : List ℕ → Homes → List View → S
at_words ws hs vs = record { words = ws; homes = hs; views = vs }

-- a draw of a ticket by a compare-exchange
pub draws : (base : Chronicle) (slots id old : ℕ) (m : Sat) → IsIdle m.0 → old + 1 < 18446744073709551616
    → Allows (Kept base) slots id m 0 (λ n. either (eqb n old) (old + 1) n) (Draws (step slots 0 old (old + 1) none) m)
draws base slots id old m idle room s k wide at small =
    let f : ℕ → ℕ = λ n. either (eqb n old) (old + 1) n in
    let P : List ℕ → Type 0 = λ ws. (w : View) × (a : A) × Valid s.homes m.1 a
    × Kept base (at_words (set ws 0 (f (get_or ws 0 0))) (homes_after s.homes m.1 a) (set s.views id w))
    × Draws (step slots 0 old (old + 1) none) m (get_or ws 0 0) (w, carried_after m.1 a) in
    let F : ℕ → Type 0 = λ n. (w : View) × (a : A) × Valid s.homes m.1 a
    × Kept base (at_words (n ∷ k.served ∷ []) (homes_after s.homes m.1 a) (set s.views id w))
    × Draws (step slots 0 old (old + 1) none) m k.drawn (w, carried_after m.1 a) in
    let r = k.trails in
    let q = k.queue in
    let v : View = m.0 in
    let done : F (f k.drawn) = exchanged k.drawn old (old + 1) F
    (λ hit. let w : View = drew v k.drawn in (
      w,
      keeps,
      tt,
      record {
        drawn = old + 1;
        served = k.served;
        trail = k.trail;
        words = refl;
        queue = queue_set k.drawn k.served (old + 1) k.served s.views id v w at q room (let o = q.order in omega arith)
            (λ t. let o = q.order in let h = within_more k.served k.drawn t o in let z : has_ticket t v.ticket ≡ 0 = ap (has_ticket t) idle.0 in
            let y : within k.served (old + 1) t ≡ within k.served (k.drawn + 1) t = ap (λ (n : ℕ). within k.served (n + 1) t) (sym hit) in omega arith)
            refl idle.3;
        slot = slot_idle k.served (hall_with base k.trail) s.homes s.views id v w at idle.1 idle.1 k.slot;
        trails = trails_set base k.trail k.trail s.views id v w at r (begins_itself k.trail) (r.seen id v at) (r.told id v at) (r.based id v at idle.3)
            (whole_same k.trail s.views id v w at refl r.whole) r.legal (r.mine id v at) (λ p. refl) (r.starters id v at);
      },
      (refl, (λ _. refl), (λ no. absurd (no hit))),
    ))
    (λ miss. (
      v,
      keeps,
      tt,
      record {
        drawn = k.drawn;
        served = k.served;
        trail = k.trail;
        words = refl;
        queue = subst (Queue k.drawn k.served) (sym (set_again s.views id v at)) q;
        slot = subst (Slot k.served (hall_with base k.trail) s.homes) (sym (set_again s.views id v at)) k.slot;
        trails = subst (Trails base k.trail) (sym (set_again s.views id v at)) r;
      },
      (refl, (λ hit. absurd (miss hit)), (λ _. refl)),
    )) in
    subst P (sym k.words) done

-- a look at the tickets served, by who has the ticket t
pub looks : (base : Chronicle) (slots id t : ℕ) (m : Sat) → m.0.ticket ≡ Some t → m.0.inside ≡ false → 0 < m.0.parts → m.1 ≡ []
    → Allows (Kept base) slots id m 1 (λ n. n) (Looks (step slots 1 0 0 none) m)
looks base slots id t m mine out some_part empty s k wide at small =
    let P : List ℕ → Type 0 = λ ws. (w : View) × (a : A) × Valid s.homes m.1 a
    × Kept base (at_words (set ws 1 (get_or ws 1 0)) (homes_after s.homes m.1 a) (set s.views id w))
    × Looks (step slots 1 0 0 none) m (get_or ws 1 0) (w, carried_after m.1 a) in
    let r = k.trails in
    let q = k.queue in
    let v : View = m.0 in
    let done : P (k.drawn ∷ k.served ∷ []) = dite (ℕ_discrete k.served t)
    (λ hit. let w : View = entered v k.trail in
    let hall : Chronicle = hall_with base k.trail in
    let turn : v.ticket ≡ Some k.served = mine ∙ ap Some (sym hit) in
    let home = slot_home k.drawn k.served hall s.homes s.views id v at out turn q k.slot in
    let is_base : v.base ≡ base = r.based id v at some_part in
    let back : base ≡ v.base = sym is_base in (
      w,
      takes 0 (Some hall),
      subst (λ (h : Homes). get_elem? h 0 ≡ some (some (Some hall))) (sym home.0) refl,
      record {
        drawn = k.drawn;
        served = k.served;
        trail = k.trail;
        words = refl;
        queue = queue_same k.drawn k.served s.views id v w at q refl refl some_part;
        slot = inr (
          ap (λ (h : Homes). set h 0 none) home.0,
          record {
            seat = id;
            view = w;
            there = at_here s.views id v w at;
            is_in = refl;
            turn = turn;
            knows = refl;
            others = λ j u n e. home.1 j u (sym (set_else s.views id j w n) ∙ e);
          },
        );
        trails = trails_set base k.trail k.trail s.views id v w at r (begins_itself k.trail) (begins_itself k.trail) tt is_base
            (id, w, at_here s.views id v w at, refl) r.legal
            (λ p o. let l = r.mine id v at p o in let b = begins_length k.trail v.seen (r.seen id v at) in omega arith) (λ p. refl) (r.starters id v at);
      },
      (
        (λ _.
            (k.trail, r.seen id v at, subst (λ (b : Chronicle). HasTrail (hall_with b k.trail)) back r.legal, refl, (λ i. (0, Some (hall_with (back i) k.trail)) ∷ empty i), no_end base k.trail s.views id v at r, r.starters id v at)),
        (λ no. absurd (no turn)),
      ),
    ))
    (λ miss. (
      v,
      keeps,
      tt,
      record {
        drawn = k.drawn;
        served = k.served;
        trail = k.trail;
        words = refl;
        queue = subst (Queue k.drawn k.served) (sym (set_again s.views id v at)) q;
        slot = subst (Slot k.served (hall_with base k.trail) s.homes) (sym (set_again s.views id v at)) k.slot;
        trails = subst (Trails base k.trail) (sym (set_again s.views id v at)) r;
      },
      ((λ hit. let e : Some k.served ≡ Some t = sym hit ∙ mine in absurd (miss (cc))), (λ _. refl)),
    )) in
    subst P (sym k.words) done

-- positions that are owned lie in the trail, those that were gained too
mine_gained : (own : List ℕ) (n m p : ℕ) → n ≤ m → ((p : ℕ) → 1 ≤ times p own → p < n) → 1 ≤ times p (own ++ gained n m) → p < m
mine_gained own n m p l mine o =
    let a = times-append p own (gained n m) in
    let b = times-gained n m p l in
    dite (ℕ_discrete (times p own) 0)
    (λ z. (within_some n m p (omega arith)).1)
    (λ some. let i = mine p (omega arith) in omega arith)

-- who is inside puts the hall back as it went on, and the next ticket is served
pub passes : (base : Chronicle) (slots id : ℕ) (m : Sat) (hall : Chronicle) → m.1 ≡ (0, Some hall) ∷ [] → m.0.inside ≡ true → 0 < m.0.parts → m.0.met ≡ [] → HasGoneOn m.0 hall
    → Allows (Kept base) slots id m 1 (λ n. (n + 1) % 2 ^ 64) (Passes (step slots 1 1 0 none) m)
passes base slots id m hall hand is some_part untold on s k wide at small =
    let f : ℕ → ℕ = λ n. (n + 1) % 2 ^ 64 in
    let P : List ℕ → Type 0 = λ ws. (w : View) × (a : A) × Valid s.homes m.1 a
    × Kept base (at_words (set ws 1 (f (get_or ws 1 0))) (homes_after s.homes m.1 a) (set s.views id w))
    × Passes (step slots 1 1 0 none) m (get_or ws 1 0) (w, carried_after m.1 a) in
    let r = k.trails in
    let q = k.queue in
    let v : View = m.0 in
    let hold = slot_out k.served (hall_with base k.trail) s.homes s.views id v at is k.slot in
    let t : List Event = hall.trail in
    let w : View = went v t in
    let below = served_below k.drawn k.served s.views id v at q hold.turn in
    let no_wrap : (k.served + 1) % 2 ^ 64 ≡ k.served + 1 = (let b = q.small in mod-eq_of_lt (omega arith)) in
    let is_base : v.base ≡ base = r.based id v at some_part in
    let whole : hall ≡ hall_with base t = on.of_hall ∙ ap (λ (b : Chronicle). hall_with b t) is_base in
    let trail_is : k.trail ≡ v.seen = sym hold.knows in
    let more : StartsWith t k.trail = subst (StartsWith t) (sym trail_is) on.seen in
    let longer : length v.seen ≤ length t = begins_length t v.seen on.seen in
    let first : length base.trail ≤ length v.seen = (let h = begins_length k.trail base.trail r.begins in let e : length k.trail ≡ length v.seen = ap length trail_is in omega arith) in
    let put : homes_after s.homes m.1 gives ≡ some (Some (hall_with base t)) ∷ [] = (λ i. homes_after (hold.out i) (hand i) gives) ∙ ap (λ (h : Chronicle). some (Some h) ∷ []) whole in
    let done : P (k.drawn ∷ k.served ∷ []) = (
      w,
      gives,
      tt,
      record {
        drawn = k.drawn;
        served = k.served + 1;
        trail = t;
        words = ap (λ (n : ℕ). k.drawn ∷ n ∷ []) no_wrap;
        queue = queue_set k.drawn k.served k.drawn (k.served + 1) s.views id v w at q q.small (omega arith)
            (λ x. let z : has_ticket x v.ticket ≡ one_if (eqb k.served x) = ap (has_ticket x) hold.turn in let h = within_less k.served k.drawn x below in omega arith)
            refl some_part;
        slot = inl (put, set_all (λ j u. u.inside ≡ false) s.views id w refl (λ j u n e. hold.others j u n e));
        trails = trails_set base k.trail t s.views id v w at r more (begins_itself t) (subst (AreTold v.base t) (sym untold) tt) is_base
            (id, w, at_here s.views id v w at, refl) (subst HasTrail whole on.legal)
            (λ p o. mine_gained v.own (length v.seen) (length t) p longer (r.mine id v at) o)
            (λ p. let a = times-append p v.own (gained (length v.seen) (length t)) in
            let b = times-gained (length v.seen) (length t) p longer in
            let c = within_then (length base.trail) (length v.seen) (length t) p first longer in
            let e : within (length base.trail) (length k.trail) p ≡ within (length base.trail) (length v.seen) p = ap (λ (l : List Event). within (length base.trail) (length l) p) trail_is in omega arith)
            on.ends;
      },
      (ap (λ (c : List (ℕ × Option Chronicle)). went v (hand_of c)) (sym hand), refl),
    ) in
    subst P (sym k.words) done
  where
    hand_of : List (ℕ × Option Chronicle) → List Event
    hand_of c = in_hand (m.0, c)

-- a look by a pass that took another in
pub hears : (base : Chronicle) (slots id : ℕ) (m : Sat) → m.0.inside ≡ false → 0 < m.0.parts → Allows (Kept base) slots id m 1 (λ n. n) (Hears (step slots 1 0 0 none) m)
hears base slots id m out some_part s k wide at small =
    let P : List ℕ → Type 0 = λ ws. (w : View) × (a : A) × Valid s.homes m.1 a
    × Kept base (at_words (set ws 1 (get_or ws 1 0)) (homes_after s.homes m.1 a) (set s.views id w))
    × Hears (step slots 1 0 0 none) m (get_or ws 1 0) (w, carried_after m.1 a) in
    let r = k.trails in
    let q = k.queue in
    let v : View = m.0 in
    let w : View = heard v in
    let done : P (k.drawn ∷ k.served ∷ []) = (
      w,
      keeps,
      tt,
      record {
        drawn = k.drawn;
        served = k.served;
        trail = k.trail;
        words = refl;
        queue = queue_same k.drawn k.served s.views id v w at q refl refl some_part;
        slot = slot_idle k.served (hall_with base k.trail) s.homes s.views id v w at out out k.slot;
        trails = trails_set base k.trail k.trail s.views id v w at r (begins_itself k.trail) (r.seen id v at) tt (r.based id v at some_part)
            (whole_same k.trail s.views id v w at refl r.whole) r.legal (r.mine id v at) (λ p. refl) (r.starters id v at);
      },
      (
        refl,
        r.told id v at,
        (λ p. let h = one_of (λ (u : View). times p u.own) s.views id v at in let e = r.owned p in let l = within_le (length base.trail) (length k.trail) p in omega arith),
        (let h = one_of (λ (u : View). u.parts) s.views id v at in let e = q.parts in omega arith),
        legal_front v.base k.trail v.seen (r.seen id v at) (subst (λ (b : Chronicle). HasTrail (hall_with b k.trail)) (sym (r.based id v at some_part)) r.legal),
      ),
    ) in
    subst P (sym k.words) done

-- one part goes to a new pass, which has seen the same
pub splits : (base : Chronicle) (id : ℕ) (v : View) → IsIdle v → 1 < v.parts → Splits (Kept base) id v (stays v) (branch v)
splits base id v idle parts s k at =
    let r = k.trails in
    let q = k.queue in
    let w : View = stays v in
    let u : View = branch v in
    let vs : List View = set s.views id w in
    let o : ℕ = length base.trail in
    let is_base : v.base ≡ base = r.based id v at idle.3 in
    let near = slot_idle k.served (hall_with base k.trail) s.homes s.views id v w at idle.1 idle.1 k.slot in
    let whole = whole_same k.trail s.views id v w at refl r.whole in
    record {
      drawn = k.drawn;
      served = k.served;
      trail = k.trail;
      words = k.words;
      queue = record {
        small = q.small;
        order = q.order;
        tickets = λ t. let h = total_set (λ (x : View). has_ticket t x.ticket) s.views id v w at in let j = total_snoc (λ (x : View). has_ticket t x.ticket) vs u in let e = q.tickets t in omega arith;
        parts = (let h = total_set (λ (x : View). x.parts) s.views id v w at in let j = total_snoc (λ (x : View). x.parts) vs u in let e = q.parts in omega arith);
        spent = grown (λ j x. x.parts ≡ 0 → x ≡ nobody) vs u (set_all (λ j x. x.parts ≡ 0 → x ≡ nobody) s.views id w (λ z. absurd (omega arith)) (λ j x _ e. q.spent j x e)) (λ j z. absurd (omega arith));
      };
      slot = slot_grown k.served (hall_with base k.trail) s.homes vs u refl near;
      trails = record {
        begins = r.begins;
        seen = grown (λ j x. StartsWith k.trail x.seen) vs u (set_all (λ j x. StartsWith k.trail x.seen) s.views id w (r.seen id v at) (λ j x _ e. r.seen j x e)) (λ j. r.seen id v at);
        told = grown (λ j x. AreTold x.base x.seen x.met) vs u (set_all (λ j x. AreTold x.base x.seen x.met) s.views id w (r.told id v at) (λ j x _ e. r.told j x e)) (λ j. tt);
        based = grown (λ j x. 0 < x.parts → x.base ≡ base) vs u (set_all (λ j x. 0 < x.parts → x.base ≡ base) s.views id w (λ _. is_base) (λ j x _ e. r.based j x e)) (λ j _. is_base);
        legal = r.legal;
        mine = grown (λ j x. (p : ℕ) → 1 ≤ times p x.own → p < length x.seen) vs u (set_all (λ j x. (p : ℕ) → 1 ≤ times p x.own → p < length x.seen) s.views id w (r.mine id v at) (λ j x _ e. r.mine j x e)) (λ j p o. absurd (omega arith));
        whole = (whole.0, whole.1, at_longer vs (u ∷ []) whole.0 whole.1 whole.2, whole.3);
        owned = λ p. let h = total_set (λ (x : View). times p x.own) s.views id v w at in let j = total_snoc (λ (x : View). times p x.own) vs u in let e = r.owned p in omega arith;
        starters = grown (λ j x. EndsItsOwn k.trail x.own) vs u (set_all (λ j x. EndsItsOwn k.trail x.own) s.views id w (r.starters id v at) (λ j x _ e. r.starters j x e)) (λ j n p q z. absurd (omega arith));
      };
    }
  where
    grown : (P : ℕ → View → Type 0) (vs : List View) (u : View) → ((j : ℕ) (x : View) → get_elem? vs j ≡ some x → P j x) → ((j : ℕ) → P j u) → (j : ℕ) (x : View) → get_elem? (vs ++ u ∷ []) j ≡ some x → P j x
    grown P vs u old new j x e = ⊎_elim (λ h. old j x h) (λ (h : u ≡ x). subst (P j) h (new j)) (at_snoc vs u x j e)

    slot_grown : (n : ℕ) (hall : Chronicle) (homes : Homes) (vs : List View) (u : View) → u.inside ≡ false → Slot n hall homes vs → Slot n hall homes (vs ++ u ∷ [])
    slot_grown n hall homes vs u out (inl h) = inl (h.0, grown (λ j x. x.inside ≡ false) vs u h.1 (λ j. out))
    slot_grown n hall homes vs u out (inr h) = let i = h.1 in inr (
      h.0,
      record {
        seat = i.seat;
        view = i.view;
        there = at_longer vs (u ∷ []) i.seat i.view i.there;
        is_in = i.is_in;
        turn = i.turn;
        knows = i.knows;
        others = λ j x n e. grown (λ y z. y ≢ i.seat → z.inside ≡ false) vs u (λ y z p m. i.others y z m p) (λ y _. out) j x e n;
      },
    )

-- what does not end behind what was seen in a trail does not end there in a beginning of it
no_end_sooner : (t s : List Event) (b : Brought) → StartsWith t s → NoEndBehind b t → NoEndBehind b s
no_end_sooner t s b more ends n q r o there le (inl e) = ends n q r o there le (inl (get_later t s r (Ends n) more e))
no_end_sooner t s b more ends n q r o there le (inr e) = ends n q r o there le (inr (get_later t s r (Loses n) more e))

-- a pass takes in another
pub joins : (base : Chronicle) (id : ℕ) (v : View) (other : ℕ) (u : View) → IsIdle v → IsIdle u → Joins (Kept base) id v other u (joined v u) nobody
joins base id v other u idle idle' s k at apart there =
    let r = k.trails in
    let q = k.queue in
    let w : View = joined v u in
    let vs : List View = set s.views id w in
    let was : get_elem? s.views other ≡ some u = sym (set_else s.views id other w apart) ∙ there in
    let rank = ranked k.trail v.seen u.seen (r.seen id v at) (r.seen other u was) in
    let is_base : v.base ≡ base = r.based id v at idle.3 in
    let near = slot_idle k.served (hall_with base k.trail) s.homes s.views id v w at idle.1 refl k.slot in
    let both : (P : ℕ → View → Type 0) → P id w → P other nobody → ((j : ℕ) (x : View) → get_elem? s.views j ≡ some x → P j x) → (j : ℕ) (x : View) → get_elem? (set vs other nobody) j ≡ some x → P j x
    = λ P mine theirs old. set_all P vs other nobody theirs (λ j x _ e. set_all P s.views id w mine (λ i y _ d. old i y d) j x e) in
    record {
      drawn = k.drawn;
      served = k.served;
      trail = k.trail;
      words = k.words;
      queue = record {
        small = q.small;
        order = q.order;
        tickets = λ t. let h = total_set (λ (x : View). has_ticket t x.ticket) s.views id v w at in let j = total_set (λ (x : View). has_ticket t x.ticket) vs other u nobody there in let e = q.tickets t in
            let a : has_ticket t v.ticket ≡ 0 = ap (has_ticket t) idle.0 in let b : has_ticket t u.ticket ≡ 0 = ap (has_ticket t) idle'.0 in omega arith;
        parts = (let h = total_set (λ (x : View). x.parts) s.views id v w at in let j = total_set (λ (x : View). x.parts) vs other u nobody there in let e = q.parts in omega arith);
        spent = both (λ j x. x.parts ≡ 0 → x ≡ nobody) (λ z. let p = idle.3 in absurd (omega arith)) (λ _. refl) q.spent;
      };
      slot = slot_idle k.served (hall_with base k.trail) s.homes vs other u nobody there idle'.1 refl near;
      trails = record {
        begins = r.begins;
        seen = both (λ j x. StartsWith k.trail x.seen) rank.greater (begins_any k.trail) r.seen;
        told = both (λ j x. AreTold x.base x.seen x.met) (
          record { of_hall = refl; seen = rank.first; no_end = no_end_sooner k.trail w.seen (brings v) rank.greater (no_end base k.trail s.views id v at r) },
          (
            record { of_hall = r.based other u was idle'.3 ∙ sym is_base; seen = rank.second; no_end = no_end_sooner k.trail w.seen (brings u) rank.greater (no_end base k.trail s.views other u was r) },
            tt,
          ),
        )
            tt r.told;
        based = both (λ j x. 0 < x.parts → x.base ≡ base) (λ _. is_base) (λ z. absurd (omega arith)) r.based;
        legal = r.legal;
        mine = both (λ j x. (p : ℕ) → 1 ≤ times p x.own → p < length x.seen)
            (λ p o. let a = times-append p v.own u.own in let f = begins_length w.seen v.seen rank.first in let g = begins_length w.seen u.seen rank.second in
            dite (ℕ_discrete (times p v.own) 0) (λ z. let l = r.mine other u was p (omega arith) in omega arith) (λ no. let l = r.mine id v at p (omega arith) in omega arith))
            (λ p o. absurd (omega arith)) r.mine;
        whole = whole_joined s.views id other v u w k.trail at was apart rank.greater rank.first rank.second r.whole;
        owned = λ p. let h = total_set (λ (x : View). times p x.own) s.views id v w at in let j = total_set (λ (x : View). times p x.own) vs other u nobody there in let e = r.owned p in
            let a = times-append p v.own u.own in omega arith;
        starters = both (λ j x. EndsItsOwn k.trail x.own)
            (λ n p q z e before there. let a = times-append p v.own u.own in let b = times-append q v.own u.own in
            dite (ℕ_discrete (times p v.own) 0)
            (λ no_own. let h = r.starters other u was n p q (omega arith) e before there in omega arith)
            (λ own_it. let h = r.starters id v at n p q (omega arith) e before there in omega arith))
            (λ n p q z. absurd (omega arith)) r.starters;
      };
    }
  where
    -- a beginning of the trail that begins with the whole trail is the whole trail
    all_of : (t xs ys : List Event) → StartsWith t xs → StartsWith xs ys → ys ≡ t → xs ≡ t
    all_of t xs ys p q e = let l = begins_length xs ys q in let m : length ys ≡ length t = ap length e in sym (begins_whole t xs p (omega arith))

    whole_joined : (vs : List View) (id other : ℕ) (v u w : View) (t : List Event) → get_elem? vs id ≡ some v → get_elem? vs other ≡ some u → other ≢ id → StartsWith t w.seen → StartsWith w.seen v.seen → StartsWith w.seen u.seen
        → Whole t vs → Whole t (set (set vs id w) other nobody)
    whole_joined vs id other v u w t at was apart p q q' h =
        let mine : get_elem? (set (set vs id w) other nobody) id ≡ some w = set_else (set vs id w) other id nobody (λ e. apart (sym e)) ∙ at_here vs id v w at in
        dite (ℕ_discrete h.0 id)
        (λ is. (id, w, mine, all_of t w.seen v.seen p q (ap (λ (x : View). x.seen) (same_view vs id h.0 v h.1 (sym is) at h.2) ∙ h.3)))
        (λ no. dite (ℕ_discrete h.0 other)
        (λ is. (id, w, mine, all_of t w.seen u.seen p q' (ap (λ (x : View). x.seen) (same_view vs other h.0 u h.1 (sym is) was h.2) ∙ h.3)))
        (λ not. (h.0, h.1, set_else (set vs id w) other h.0 nobody not ∙ (set_else vs id h.0 w no ∙ h.2), h.3)))

-- the table at the start: the hall is in its slot, and the first pass has seen its trail
pub opens : (base : Chronicle) → HasTrail base → Kept base (opening (0 ∷ 0 ∷ []) (Some base ∷ []) (opener base))
opens base legal = record {
  drawn = 0;
  served = 0;
  trail = base.trail;
  words = refl;
  queue = record {
    small = omega arith;
    order = omega arith;
    tickets = λ t. let h = within_none 0 t in omega arith;
    parts = refl;
    spent = λ i v e z. absurd (let h : opener base ≡ v = alone i v e in let p : 64 ≡ v.parts = ap (λ (x : View). x.parts) h in omega arith);
  };
  slot = inl (refl, λ j v e. sym (ap (λ (x : View). x.inside) (alone j v e)));
  trails = record {
    begins = begins_itself base.trail;
    seen = λ i v e. subst (λ (x : View). StartsWith base.trail x.seen) (alone i v e) (begins_itself base.trail);
    told = λ i v e. subst (λ (x : View). AreTold x.base x.seen x.met) (alone i v e) tt;
    based = λ i v e _. sym (ap (λ (x : View). x.base) (alone i v e));
    legal = legal;
    mine = λ i v e p o. absurd (let h = ap (λ (x : View). times p x.own) (alone i v e) in omega arith);
    whole = (0, opener base, refl, refl);
    owned = λ p. let h = within_none (length base.trail) p in omega arith;
    starters = λ i v e n p q o. absurd (let h = ap (λ (x : View). times p x.own) (alone i v e) in omega arith);
  };
}
  where
    alone : (i : ℕ) (v : View) → get_elem? (opener base ∷ []) i ≡ some v → opener base ≡ v
    alone zero v e = some-injective (opener base) v e
    alone (suc i) v e = absurd (some-ne-none v (sym e))

-- what who has every part finds when the table is closed
pub record Closing (base : Chronicle) (v : View) (slots : List (Option Chronicle)) : Type 0 where
  pub hall : get_elem? slots 0 ≡ some (Some (hall_with base v.seen))
  pub begins : StartsWith v.seen base.trail
  pub legal : HasTrail (hall_with base v.seen)
  pub owned : (p : ℕ) → times p v.own ≡ within (length base.trail) (length v.seen) p

pub closes : (base : Chronicle) (id : ℕ) (v : View) (words : List ℕ) (slots : List (Option Chronicle)) → IsIdle v → v.parts ≡ 64 → Final (Seen (Kept base) id v) words slots → Closing v.base v slots
closes base id v words slots idle all (s, (k, at), same, wide, home) = subst (λ (b : Chronicle). Closing b v slots) (sym (k.trails.based id v at idle.3)) (
    let r = k.trails in
    let q = k.queue in
    let others : (j : ℕ) (u : View) → j ≢ id → get_elem? s.views j ≡ some u → u ≡ nobody
    = λ j u n e. q.spent j u e (let h = two_of (λ (x : View). x.parts) s.views j id u v n e at in let p = q.parts in omega arith) in
    let known : v.seen ≡ k.trail = knows s.views id v k.trail at others (r.seen id v at) r.whole in
    let there = slot_in k.served (hall_with base k.trail) s.homes s.views id v at idle.1 others k.slot in
    record {
      hall = home 0 (Some (hall_with base v.seen)) (ap (λ (h : Homes). get_elem? h 0) there ∙ ap (λ (t : List Event). some (some (Some (hall_with base t)))) (sym known));
      begins = subst (λ (t : List Event). StartsWith t base.trail) (sym known) r.begins;
      legal = subst (λ (t : List Event). HasTrail (hall_with base t)) (sym known) r.legal;
      owned = λ p. sole p s.views id v at others ∙ (r.owned p ∙ ap (λ (t : List Event). within (length base.trail) (length t) p) (sym known));
    })
  where
    knows : (vs : List View) (id : ℕ) (v : View) (t : List Event) → get_elem? vs id ≡ some v → ((j : ℕ) (u : View) → j ≢ id → get_elem? vs j ≡ some u → u ≡ nobody) → StartsWith t v.seen → Whole t vs → v.seen ≡ t
    knows vs id v t at others p h = dite (ℕ_discrete h.0 id)
        (λ is. ap (λ (x : View). x.seen) (same_view vs id h.0 v h.1 (sym is) at h.2) ∙ h.3)
        (λ no. let e : [] ≡ t = sym (ap (λ (x : View). x.seen) (others h.0 h.1 no h.2)) ∙ h.3 in
        let z : 0 ≡ length t = ap length e in sym (begins_whole t v.seen p (omega arith)))

    slot_in : (n : ℕ) (hall : Chronicle) (homes : Homes) (vs : List View) (id : ℕ) (v : View) → get_elem? vs id ≡ some v → v.inside ≡ false → ((j : ℕ) (u : View) → j ≢ id → get_elem? vs j ≡ some u → u ≡ nobody) → Slot n hall homes vs
        → homes ≡ some (Some hall) ∷ []
    slot_in n hall homes vs id v at out others (inl h) = h.0
    slot_in n hall homes vs id v at out others (inr h) = let i = h.1 in dite (ℕ_discrete i.seat id)
        (λ is. absurd (true≢false (sym i.is_in ∙ (ap (λ (x : View). x.inside) (same_view vs i.seat id i.view v is i.there at) ∙ out))))
        (λ no. absurd (true≢false (sym i.is_in ∙ ap (λ (x : View). x.inside) (others i.seat i.view no i.there))))

    -- where the others own nothing, the positions are one's own
    none_own : (p : ℕ) (vs : List View) → ((j : ℕ) (u : View) → get_elem? vs j ≡ some u → u ≡ nobody) → total (λ (x : View). times p x.own) vs ≡ 0
    none_own p [] others = refl
    none_own p (x ∷ xs) others = let h : times p x.own ≡ 0 = ap (λ (u : View). times p u.own) (others 0 x refl) in let j = none_own p xs (λ i u e. others (suc i) u e) in omega arith

    sole : (p : ℕ) (vs : List View) (id : ℕ) (v : View) → get_elem? vs id ≡ some v → ((j : ℕ) (u : View) → j ≢ id → get_elem? vs j ≡ some u → u ≡ nobody) → times p v.own ≡ total (λ (x : View). times p x.own) vs
    sole p [] id v at others = absurd (some-ne-none v (sym at))
    sole p (x ∷ xs) zero v at others = let h = ap (λ (u : View). times p u.own) (some-injective x v at) in let j = none_own p xs (λ i u e. others (suc i) u (λ z. absurd (omega arith)) e) in omega arith
    sole p (x ∷ xs) (suc id) v at others =
        let h : times p x.own ≡ 0 = ap (λ (u : View). times p u.own) (others 0 x (λ z. absurd (omega arith)) refl) in
        let j = sole p xs id v at (λ i u n e. others (suc i) u (λ z. n (omega arith)) e) in omega arith

pub closing_hall : (base : Chronicle) (v : View) (slots : List (Option Chronicle)) (x : Option Chronicle) → Closing base v slots → get_elem? slots 0 ≡ some x → x ≡ Some (hall_with base v.seen)
closing_hall base v slots x c e = some-injective x (Some (hall_with base v.seen)) (sym e ∙ c.hall)
