-- A claim is over.
use Rattle.std.proofs.Common.{◌≡◌, ◌≢◌, ℕ, ◌+◌, ◌-◌, ◌<◌, ◌≤◌, Bool, true, List, length, set, inl, inr, refl, sym, subst, ap, ◌∙◌, arith, length-set, get_or-set_same, get_or-set_other}
use Rattle.std.proofs.lemmas.Bool.{cases_eq, both_ways}
use Rattle.bl_queue.specs.declared.cown.Held.{Held}
use Rattle.bl_queue.specs.declared.cown.Cown.{Cown}
use Rattle.bl_queue.specs.Holders.{Holders, count_below, holds, waits_for, held_at, over_at, cown_at, place_of, no_cown, IsCown, IsSettled, AreHeld, AreSettled, AreSettledBut, left_at}
use Rattle.bl_queue.proofs.Count.{count-same, count-more}
use Rattle.bl_queue.proofs.Places.{each-set, field-set}
use Rattle.bl_queue.proofs.Tests.{Holds, holds_tells, holds_from, not_holding, holds-same, waits-same}

-- another claim is over exactly where it was
others : (over : List Bool) (p q : ℕ) → q ≢ p → over_at (set over p true) q ≡ over_at over q
others over p q ne = get_or-set_other over p q true true ne

pub left-cown : (claims : List Held) (over : List Bool) (c : Cown) (k p : ℕ) → length over ≡ length claims → p < length claims
    → Holds claims over k (place_of c.first) p → IsCown claims over k c → IsCown claims (set over p true) k (record c { holders = c.holders - 1 })
left-cown claims over c k p sizes lt h is =
    let p_over : over_at (set over p true) p ≡ true = get_or-set_same over p true true (omega (arith, lt, sizes)) in
    let fewer : (q : ℕ) → Holds claims (set over p true) k (place_of c.first) q → Holds claims over k (place_of c.first) q =
    λ q x. elim (cases_eq q p) [
      | inl e ↦ subst (λ (i : ℕ). Holds claims over k (place_of c.first) i) (sym e) h
      | inr ne ↦ record { cown = x.cown; before = x.before; stays = sym (others over p q ne) ∙ x.stays }
    ] in
    let count : count_below (holds claims over k (place_of c.first)) (length claims) ≡ count_below (holds claims (set over p true) k (place_of c.first)) (length claims) + 1 =
    count-more (holds claims over k (place_of c.first)) (holds claims (set over p true) k (place_of c.first)) (length claims) p lt
    (holds_from claims over k (place_of c.first) p h)
    (not_holding claims (set over p true) k (place_of c.first) p (λ x. both_ways _ x.stays p_over))
    (λ q below ne. holds-same claims claims over (set over p true) k k (place_of c.first) (place_of c.first) q
    (λ x. record { cown = x.cown; before = x.before; stays = others over p q ne ∙ x.stays }) (fewer q)) in
    record {
      held = omega (arith, count, is.held);
      alike = λ q below t. is.alike q below (holds_from claims over k (place_of c.first) q (fewer q (holds_tells claims (set over p true) k (place_of c.first) q t)));
      alone = λ e. omega (arith, is.alone e);
      first = is.first;
      over_before = λ q below on t. elim (cases_eq q p) [
        | inl e ↦ (let before : p < place_of c.first = h.before in omega (arith, before, e))
        | inr ne ↦ is.over_before q below on (sym (others over p q ne) ∙ t)
      ];
      last_on = is.last_on;
      last = is.last;
    }

-- another cown
pub left-other : (claims : List Held) (over : List Bool) (c : Cown) (j p : ℕ) → (held_at claims p).cown ≢ j
    → IsCown claims over j c → IsCown claims (set over p true) j c
left-other claims over c j p off is =
    let apart : (q : ℕ) → (held_at claims q).cown ≡ j → q ≢ p = λ q on e. off (subst (λ (i : ℕ). (held_at claims i).cown ≡ j) e on) in
    let to : (q : ℕ) → Holds claims over j (place_of c.first) q → Holds claims (set over p true) j (place_of c.first) q =
    λ q x. record { cown = x.cown; before = x.before; stays = others over p q (apart q x.cown) ∙ x.stays } in
    let from : (q : ℕ) → Holds claims (set over p true) j (place_of c.first) q → Holds claims over j (place_of c.first) q =
    λ q x. record { cown = x.cown; before = x.before; stays = sym (others over p q (apart q x.cown)) ∙ x.stays } in
    record {
      held = is.held ∙ count-same (holds claims over j (place_of c.first)) (holds claims (set over p true) j (place_of c.first)) (length claims)
          (λ q below. holds-same claims claims over (set over p true) j j (place_of c.first) (place_of c.first) q (to q) (from q));
      alike = λ q below t. is.alike q below (holds_from claims over j (place_of c.first) q (from q (holds_tells claims (set over p true) j (place_of c.first) q t)));
      alone = is.alone;
      first = is.first;
      over_before = λ q below on t. is.over_before q below on (sym (others over p q (apart q on)) ∙ t);
      last_on = is.last_on;
      last = is.last;
    }

-- the first claims that wait stay the same
firsts : (cowns : List Cown) (k j : ℕ) (c : Cown) → c.first ≡ (cown_at cowns k).first → (cown_at (set cowns k c) j).first ≡ (cown_at cowns j).first
firsts cowns k j c e = field-set (λ (x : Cown). x.first) cowns k j c no_cown e

-- so as many claims wait as before
waits_as_before : (claims : List Held) (cowns : List Cown) (k n : ℕ) (c : Cown) (m : ℕ) → c.first ≡ (cown_at cowns k).first
    → count_below (waits_for claims cowns n) m ≡ count_below (waits_for claims (set cowns k c) n) m
waits_as_before claims cowns k n c m e =
    count-same (waits_for claims cowns n) (waits_for claims (set cowns k c) n) m (λ p lt.
    let same : place_of (cown_at (set cowns k c) (held_at claims p).cown).first ≡ place_of (cown_at cowns (held_at claims p).cown).first =
    ap place_of (firsts cowns k (held_at claims p).cown c e) in
    waits-same claims claims cowns (set cowns k c) n n p
    (λ w. record { entry = w.entry; behind = (let b : place_of (cown_at cowns (held_at claims p).cown).first ≤ p = w.behind in omega (arith, b, same)) })
    (λ w. record { entry = w.entry; behind = (let b : place_of (cown_at (set cowns k c) (held_at claims p).cown).first ≤ p = w.behind in omega (arith, b, same)) }))

pub left-held : (s : Holders) (m p : ℕ) → AreHeld s m → p < length s.claims
    → Holds s.claims s.over (held_at s.claims p).cown (place_of (cown_at s.cowns (held_at s.claims p).cown).first) p → AreHeld (left_at s p) m
left-held s m p are lt h =
    let k : ℕ = (held_at s.claims p).cown in
    let c : Cown = cown_at s.cowns k in
    let c' : Cown = record c { holders = c.holders - 1 } in
    let known : k < length s.cowns = are.cown_known p lt in
    record {
      over = length-set s.over p true ∙ are.over;
      next = are.next;
      small = are.small;
      cown_known = λ q below. subst (λ (n : ℕ). (held_at s.claims q).cown < n) (sym (length-set s.cowns k c')) (are.cown_known q below);
      entry_known = are.entry_known;
      links = are.links;
      cowns = each-set (λ (j : ℕ) (x : Cown). IsCown s.claims (set s.over p true) j x) s.cowns k c' no_cown known
          (left-cown s.claims s.over c k p are.over lt h (are.cowns k known))
          (λ j below ne. left-other s.claims s.over (cown_at s.cowns j) j p (λ e. ne (sym e)) (are.cowns j below));
      waits = λ n below. are.waits n below ∙ waits_as_before s.claims s.cowns k n c' (length s.claims) refl;
      free = are.free;
    }

pub left-settled : (s : Holders) (p : ℕ) → AreSettled s → AreSettledBut (left_at s p) (held_at s.claims p).cown
left-settled s p settled j below ne =
    let k : ℕ = (held_at s.claims p).cown in
    let c : Cown = cown_at s.cowns k in
    let c' : Cown = record c { holders = c.holders - 1 } in
    let within : j < length s.cowns = subst (λ (n : ℕ). j < n) (length-set s.cowns k c') below in
    subst (λ (x : Cown). IsSettled s.claims x) (sym (get_or-set_other s.cowns k j c' no_cown ne)) (settled j within)
