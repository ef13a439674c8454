-- One claim more.
use Rattle.std.proofs.Common.{◌≡◌, ◌≢◌, ℕ, ◌+◌, ◌<◌, ◌≤◌, ◌⊎◌, ◌++◌, ◌∷◌, [], ◌&&◌, if◌then◌else◌, unwrap_or, Bool, true, false, Option, Some, None, is_none, List, length, set, inl, inr, refl, sym, subst, ap, ◌∙◌, arith, length-set, get_or-set_same, get_or-set_other, add-zero}
use Rattle.std.proofs.lemmas.Bool.{cases_eq, both_ways}
use Rattle.std.proofs.lemmas.List.{length_push, get_or_push, get_or_append_left}
use Rattle.bl_queue.specs.declared.cown.Held.{Held}
use Rattle.bl_queue.specs.declared.cown.Cown.{Cown}
use Rattle.bl_queue.specs.Holders.{Holders, count_below, holds, waits_for, held_at, over_at, cown_at, next_at, place_of, nowhere, no_held, no_cown, may_hold, is_held_at_once, joined_cown, linked, IsCown, IsSettled, AreLinks, AreHeld, AreSettled, joined}
use Rattle.bl_queue.proofs.Count.{count-some, count-push, count-push_not}
use Rattle.bl_queue.proofs.Places.{each-set, each-push, push_cases}
use Rattle.bl_queue.proofs.Tests.{Holds, holds_tells, holds_from, not_holding, holds-same, waits-same, waits_from, not_waiting, may_hold_tells}

-- the cown, where the claim holds it at once, waits as the first, or waits behind others
pub joined-cases : (c : Cown) (shared : Bool) (place : ℕ) (P : Cown → Type 0)
    → (c.first ≡ None → may_hold c shared ≡ true → P (record { holders = c.holders + 1; shared = shared; first = None; last = Some place }))
    → (c.first ≡ None → may_hold c shared ≡ false → P (record { holders = c.holders; shared = c.shared; first = Some place; last = Some place }))
    → ((h : ℕ) → c.first ≡ Some h → P (record { holders = c.holders; shared = c.shared; first = Some h; last = Some place }))
    → P (joined_cown c shared place)
joined-cases c shared place P at_once first behind = by c.first (may_hold c shared) refl refl
  where
    by : (o : Option ℕ) (m : Bool) → c.first ≡ o → may_hold c shared ≡ m
        → P (if is_none o && m
        then record { holders = c.holders + 1; shared = shared; first = None; last = Some place }
        else record { holders = c.holders; shared = c.shared; first = Some (unwrap_or o place); last = Some place })
    by None true e t = at_once e t
    by None false e t = first e t
    by (Some h) true e t = behind h e
    by (Some h) false e t = behind h e

held_old : (claims : List Held) (b : Held) (p : ℕ) → p < length claims → held_at (claims ++ b ∷ []) p ≡ held_at claims p
held_old claims b p lt = get_or_append_left claims (b ∷ []) no_held p lt

held_new : (claims : List Held) (b : Held) → held_at (claims ++ b ∷ []) (length claims) ≡ b
held_new claims b = get_or_push claims b no_held (length claims) refl

over_old : (over : List Bool) (p : ℕ) → p < length over → over_at (over ++ false ∷ []) p ≡ over_at over p
over_old over p lt = get_or_append_left over (false ∷ []) true p lt

over_new : (over : List Bool) (n : ℕ) → length over ≡ n → over_at (over ++ false ∷ []) n ≡ false
over_new over n e = get_or_push over false true n e

-- an old claim holds a cown as before, if it stands before the first that waits as before
to_more : (claims : List Held) (over : List Bool) (b : Held) (k f f' p : ℕ) → length over ≡ length claims → p < length claims → (p < f → p < f')
    → Holds claims over k f p → Holds (claims ++ b ∷ []) (over ++ false ∷ []) k f' p
to_more claims over b k f f' p size lt side h = record {
  cown = ap (λ (x : Held). x.cown) (held_old claims b p lt) ∙ h.cown;
  before = side h.before;
  stays = over_old over p (omega (arith, size, lt)) ∙ h.stays;
}

from_more : (claims : List Held) (over : List Bool) (b : Held) (k f f' p : ℕ) → length over ≡ length claims → p < length claims → (p < f' → p < f)
    → Holds (claims ++ b ∷ []) (over ++ false ∷ []) k f' p → Holds claims over k f p
from_more claims over b k f f' p size lt side h = record {
  cown = ap (λ (x : Held). x.cown) (sym (held_old claims b p lt)) ∙ h.cown;
  before = side h.before;
  stays = sym (over_old over p (omega (arith, size, lt))) ∙ h.stays;
}

holds-more : (claims : List Held) (over : List Bool) (b : Held) (k f f' p : ℕ) → length over ≡ length claims → p < length claims → (p < f → p < f') → (p < f' → p < f)
    → holds (claims ++ b ∷ []) (over ++ false ∷ []) k f' p ≡ holds claims over k f p
holds-more claims over b k f f' p size lt to from =
    holds-same (claims ++ b ∷ []) claims (over ++ false ∷ []) over k k f' f p
    (from_more claims over b k f f' p size lt from) (to_more claims over b k f f' p size lt to)

-- another cown is as it was
joined-other : (claims : List Held) (over : List Bool) (b : Held) (j : ℕ) (c : Cown) → length over ≡ length claims → b.cown ≢ j
    → IsCown claims over j c → IsCown (claims ++ b ∷ []) (over ++ false ∷ []) j c
joined-other claims over b j c size off is =
    let n : ℕ = length claims in
    let more : length (claims ++ b ∷ []) ≡ n + 1 = length_push claims b in
    let off_new : (held_at (claims ++ b ∷ []) n).cown ≢ j = λ e. off (ap (λ (x : Held). x.cown) (sym (held_new claims b)) ∙ e) in
    let off_at : (p : ℕ) → p ≡ n → (held_at (claims ++ b ∷ []) p).cown ≢ j = λ p e on. off_new (ap (λ (i : ℕ). (held_at (claims ++ b ∷ []) i).cown) (sym e) ∙ on) in
    record {
      held = is.held ∙ sym (count-push_not (holds (claims ++ b ∷ []) (over ++ false ∷ []) j (place_of c.first)) (holds claims over j (place_of c.first)) n
          (length (claims ++ b ∷ [])) more (not_holding (claims ++ b ∷ []) (over ++ false ∷ []) j (place_of c.first) n (λ x. off_new x.cown))
          (λ p lt. holds-more claims over b j (place_of c.first) (place_of c.first) p size lt (λ x. x) (λ x. x)));
      alike = λ p lt t. elim (push_cases claims b p lt) [
        | inl below ↦ ap (λ (x : Held). x.shared) (held_old claims b p below)
            ∙ is.alike p below (sym (holds-more claims over b j (place_of c.first) (place_of c.first) p size below (λ x. x) (λ x. x)) ∙ t)
        | inr e ↦ (let x : Holds (claims ++ b ∷ []) (over ++ false ∷ []) j (place_of c.first) p =
            holds_tells (claims ++ b ∷ []) (over ++ false ∷ []) j (place_of c.first) p t in absurd (off_at p e x.cown))
      ];
      alone = is.alone;
      first = λ h e.
          (let lt : h < n = (is.first h e).0 in
          (omega (arith, lt, more), ap (λ (x : Held). x.cown) (held_old claims b h lt) ∙ (is.first h e).1));
      over_before = λ p lt on t. elim (push_cases claims b p lt) [
        | inl below ↦ is.over_before p below (ap (λ (x : Held). x.cown) (sym (held_old claims b p below)) ∙ on) (sym (over_old over p (omega (arith, size, below))) ∙ t)
        | inr e ↦ absurd (off_at p e on)
      ];
      last_on = λ l e.
          (let lt : l < n = (is.last_on l e).0 in
          (omega (arith, lt, more), ap (λ (x : Held). x.cown) (held_old claims b l lt) ∙ (is.last_on l e).1));
      last = λ p lt on. elim (push_cases claims b p lt) [
        | inl below ↦ is.last p below (ap (λ (x : Held). x.cown) (sym (held_old claims b p below)) ∙ on)
        | inr e ↦ absurd (off_at p e on)
      ];
    }

some-injective : (a b : ℕ) → Some a ≡ Some b → a ≡ b
some-injective a b e = cc

pub none-some : (a : ℕ) → None ≡ Some a → ⊥
none-some a e = cc

-- the cown of the new claim: what is known of it whether the claim waits or not
record IsJoinedCown (claims : List Held) (over : List Bool) (b : Held) (c : Cown) : Type 0 where
  size : length over ≡ length claims
  small : length claims + 1 < nowhere
  is : IsCown claims over b.cown c

last_joined : (claims : List Held) (b : Held) (l : ℕ) → Some (length claims) ≡ Some l → (l < length (claims ++ b ∷ [])) × ((held_at (claims ++ b ∷ []) l).cown ≡ b.cown)
last_joined claims b l e =
    let more : length (claims ++ b ∷ []) ≡ length claims + 1 = length_push claims b in
    let at : length claims ≡ l = some-injective (length claims) l e in
    (omega (arith, more, at), ap (λ (i : ℕ). (held_at (claims ++ b ∷ []) i).cown) (sym at) ∙ ap (λ (x : Held). x.cown) (held_new claims b))

last_of_joined : (claims : List Held) (b : Held) (q : ℕ) → q < length (claims ++ b ∷ []) → (l : ℕ) × (Some (length claims) ≡ Some l) × (q ≤ l)
last_of_joined claims b q lt =
    let more : length (claims ++ b ∷ []) ≡ length claims + 1 = length_push claims b in
    (length claims, refl, omega (arith, more, lt))

cown_at_once : (claims : List Held) (over : List Bool) (b : Held) (c : Cown) → IsJoinedCown claims over b c → c.first ≡ None → may_hold c b.shared ≡ true
    → IsCown (claims ++ b ∷ []) (over ++ false ∷ []) b.cown (record { holders = c.holders + 1; shared = b.shared; first = None; last = Some (length claims) })
cown_at_once claims over b c j none may =
    let n : ℕ = length claims in
    let size : length over ≡ n = j.size in
    let small : n + 1 < nowhere = j.small in
    let is : IsCown claims over b.cown c = j.is in
    let more : length (claims ++ b ∷ []) ≡ n + 1 = length_push claims b in
    let first : place_of c.first ≡ nowhere = ap place_of none in
    let same : (p : ℕ) → p < n → holds (claims ++ b ∷ []) (over ++ false ∷ []) b.cown nowhere p ≡ holds claims over b.cown (place_of c.first) p =
    λ p lt. holds-more claims over b b.cown (place_of c.first) nowhere p size lt (λ x. omega (arith, x, first)) (λ x. omega (arith, x, first)) in
    let count : count_below (holds (claims ++ b ∷ []) (over ++ false ∷ []) b.cown nowhere) (length (claims ++ b ∷ []))
    ≡ count_below (holds claims over b.cown (place_of c.first)) n + 1 =
    count-push (holds (claims ++ b ∷ []) (over ++ false ∷ []) b.cown nowhere) (holds claims over b.cown (place_of c.first)) n (length (claims ++ b ∷ [])) more
    (holds_from (claims ++ b ∷ []) (over ++ false ∷ []) b.cown nowhere n
    (record { cown = ap (λ (x : Held). x.cown) (held_new claims b); before = omega (arith, small); stays = over_new over n size }))
    same in
    record {
      held = (let held : c.holders ≡ count_below (holds claims over b.cown (place_of c.first)) n = is.held in omega (arith, held, count));
      alike = λ p lt t. elim (push_cases claims b p lt) [
        | inl below ↦
            (let t' : holds claims over b.cown (place_of c.first) p ≡ true = sym (same p below) ∙ t in
            elim (may_hold_tells c b.shared may) [
              | inl free ↦
                  (let held : c.holders ≡ count_below (holds claims over b.cown (place_of c.first)) n = is.held in
                  let some : 0 < count_below (holds claims over b.cown (place_of c.first)) n = count-some (holds claims over b.cown (place_of c.first)) n p below t' in
                  absurd (omega (arith, held, some, free)))
              | inr both ↦ ap (λ (x : Held). x.shared) (held_old claims b p below) ∙ is.alike p below t' ∙ both.1 ∙ sym both.0
            ])
        | inr e ↦ ap (λ (i : ℕ). (held_at (claims ++ b ∷ []) i).shared) e ∙ ap (λ (x : Held). x.shared) (held_new claims b)
      ];
      alone = λ e. elim (may_hold_tells c b.shared may) [
        | inl free ↦ omega (arith, free)
        | inr both ↦ absurd (both_ways _ e both.0)
      ];
      first = λ h e. absurd (none-some h e);
      over_before = λ p lt on t. omega (arith, lt, more, small);
      last_on = last_joined claims b;
      last = λ q lt on. last_of_joined claims b q lt;
    }

-- the claim waits: the first that waits is at f now, which is no earlier place than before
cown_waiting : (claims : List Held) (over : List Bool) (b : Held) (c : Cown) (f : ℕ) → IsJoinedCown claims over b c
    → ((p : ℕ) → p < length claims → p < place_of c.first → p < f) → ((p : ℕ) → p < length claims → p < f → p < place_of c.first)
    → f ≤ length claims → (held_at (claims ++ b ∷ []) f).cown ≡ b.cown
    → IsCown (claims ++ b ∷ []) (over ++ false ∷ []) b.cown (record { holders = c.holders; shared = c.shared; first = Some f; last = Some (length claims) })
cown_waiting claims over b c f j to from within on_cown =
    let n : ℕ = length claims in
    let size : length over ≡ n = j.size in
    let is : IsCown claims over b.cown c = j.is in
    let more : length (claims ++ b ∷ []) ≡ n + 1 = length_push claims b in
    let same : (p : ℕ) → p < n → holds (claims ++ b ∷ []) (over ++ false ∷ []) b.cown f p ≡ holds claims over b.cown (place_of c.first) p =
    λ p lt. holds-more claims over b b.cown (place_of c.first) f p size lt (to p lt) (from p lt) in
    let not_new : (p : ℕ) → p ≡ n → ¬ Holds (claims ++ b ∷ []) (over ++ false ∷ []) b.cown f p =
    λ p e x. (let before : p < f = x.before in omega (arith, e, before, within)) in
    record {
      held = is.held ∙ sym (count-push_not (holds (claims ++ b ∷ []) (over ++ false ∷ []) b.cown f) (holds claims over b.cown (place_of c.first)) n
          (length (claims ++ b ∷ [])) more (not_holding (claims ++ b ∷ []) (over ++ false ∷ []) b.cown f n (not_new n refl)) same);
      alike = λ p lt t. elim (push_cases claims b p lt) [
        | inl below ↦ ap (λ (x : Held). x.shared) (held_old claims b p below) ∙ is.alike p below (sym (same p below) ∙ t)
        | inr e ↦ absurd (not_new p e (holds_tells (claims ++ b ∷ []) (over ++ false ∷ []) b.cown f p t))
      ];
      alone = is.alone;
      first = λ h e.
          (let at : f ≡ h = some-injective f h e in
          (omega (arith, at, within, more), ap (λ (i : ℕ). (held_at (claims ++ b ∷ []) i).cown) (sym at) ∙ on_cown));
      over_before = λ p lt on t. elim (push_cases claims b p lt) [
        | inl below ↦ to p below (is.over_before p below (ap (λ (x : Held). x.cown) (sym (held_old claims b p below)) ∙ on) (sym (over_old over p (omega (arith, size, below))) ∙ t))
        | inr e ↦ absurd (both_ways _ (over_new over p (size ∙ sym e)) t)
      ];
      last_on = last_joined claims b;
      last = λ q lt on. last_of_joined claims b q lt;
    }

joined-cown : (claims : List Held) (over : List Bool) (b : Held) (c : Cown) → IsJoinedCown claims over b c
    → IsCown (claims ++ b ∷ []) (over ++ false ∷ []) b.cown (joined_cown c b.shared (length claims))
joined-cown claims over b c j =
    let is : IsCown claims over b.cown c = j.is in
    let small : length claims + 1 < nowhere = j.small in
    joined-cases c b.shared (length claims) (λ (x : Cown). IsCown (claims ++ b ∷ []) (over ++ false ∷ []) b.cown x)
    (cown_at_once claims over b c j)
    (λ none denied.
    let first : place_of c.first ≡ nowhere = ap place_of none in
    cown_waiting claims over b c (length claims) j (λ p lt x. lt) (λ p lt x. omega (arith, lt, first, small)) (omega arith)
    (ap (λ (x : Held). x.cown) (held_new claims b)))
    (λ h e.
    let first : place_of c.first ≡ h = ap place_of e in
    let lt : h < length claims = (is.first h e).0 in
    cown_waiting claims over b c h j (λ p below x. omega (arith, x, first)) (λ p below x. omega (arith, x, first)) (omega (arith, lt))
    (ap (λ (x : Held). x.cown) (held_old claims b h lt) ∙ (is.first h e).1))

-- what may be added: the claim of a known cown, by the entry that enters
pub record IsJoinable (s : Holders) (b : Held) : Type 0 where
  pub kept : AreHeld s (length s.waits + 1)
  pub cown : b.cown < length s.cowns
  pub entry : b.entry ≡ length s.waits
  pub small : length s.claims + 2 < nowhere

of_joinable : (s : Holders) (b : Held) → IsJoinable s b → IsJoinedCown s.claims s.over b (cown_at s.cowns b.cown)
of_joinable s b g = let kept : AreHeld s (length s.waits + 1) = g.kept in record { size = kept.over; small = (let small : length s.claims + 2 < nowhere = g.small in omega (arith, small)); is = kept.cowns b.cown g.cown }

linked-length : (next : List (Option ℕ)) (o : Option ℕ) (n : ℕ) → length (linked next o n) ≡ length next
linked-length next None n = refl
linked-length next (Some l) n = length-set next l (Some n)

-- the next ones of the claims before
linked_last : (next : List (Option ℕ)) (o : Option ℕ) (n l : ℕ) → o ≡ Some l → l < length next → next_at (linked next o n) l ≡ Some n
linked_last next None n l e lt = absurd (none-some l e)
linked_last next (Some k) n l e lt =
    let at : k ≡ l = some-injective k l e in
    subst (λ (i : ℕ). next_at (set next i (Some n)) l ≡ Some n) (sym at) (get_or-set_same next l (Some n) None lt)

linked_other : (next : List (Option ℕ)) (o : Option ℕ) (n p : ℕ) → ¬ (o ≡ Some p) → next_at (linked next o n) p ≡ next_at next p
linked_other next None n p ne = refl
linked_other next (Some l) n p ne = get_or-set_other next l p (Some n) None (λ e. ne (ap (λ (i : ℕ). Some i) (sym e)))

next_old : (next : List (Option ℕ)) (o : Option ℕ) (n p : ℕ) → p < length next → next_at (linked next o n ++ None ∷ []) p ≡ next_at (linked next o n) p
next_old next o n p lt =
    let e : length (linked next o n) ≡ length next = linked-length next o n in
    get_or_append_left (linked next o n) (None ∷ []) None p (omega (arith, lt, e))

is_last : (o : Option ℕ) (p : ℕ) → (o ≡ Some p) ⊎ (¬ (o ≡ Some p))
is_last None p = inr (λ e. none-some p e)
is_last (Some l) p = elim (cases_eq l p) [ inl e ↦ inl (ap (λ (i : ℕ). Some i) e) | inr ne ↦ inr (λ e. ne (some-injective l p e)) ]

joined-links : (s : Holders) (b : Held) → IsJoinable s b → AreLinks (s.claims ++ b ∷ []) (linked s.next (cown_at s.cowns b.cown).last (length s.claims) ++ None ∷ [])
joined-links s b g =
    let kept : AreHeld s (length s.waits + 1) = g.kept in
    let links : AreLinks s.claims s.next = kept.links in
    let c : Cown = cown_at s.cowns b.cown in
    let is : IsCown s.claims s.over b.cown c = kept.cowns b.cown g.cown in
    let n : ℕ = length s.claims in
    let size : length s.next ≡ n = kept.next in
    let more : length (s.claims ++ b ∷ []) ≡ n + 1 = length_push s.claims b in
    let next : List (Option ℕ) = linked s.next c.last n ++ None ∷ [] in
    let last_size : length (linked s.next c.last n) ≡ n = linked-length s.next c.last n ∙ size in
    let old : (p : ℕ) → p < n → next_at next p ≡ next_at (linked s.next c.last n) p = λ p lt. next_old s.next c.last n p (omega (arith, lt, size)) in
    let cown_old : (p : ℕ) → p < n → (held_at (s.claims ++ b ∷ []) p).cown ≡ (held_at s.claims p).cown = λ p lt. ap (λ (x : Held). x.cown) (held_old s.claims b p lt) in
    let cown_new : (p : ℕ) → p ≡ n → (held_at (s.claims ++ b ∷ []) p).cown ≡ b.cown =
    λ p e. ap (λ (i : ℕ). (held_at (s.claims ++ b ∷ []) i).cown) e ∙ ap (λ (x : Held). x.cown) (held_new s.claims b) in
    record {
      on = λ p q lt e. elim (push_cases s.claims b p lt) [
        | inl below ↦ elim (is_last c.last p) [
          | inl last ↦
              (let at : n ≡ q = some-injective n q (sym (old p below ∙ linked_last s.next c.last n p last (omega (arith, below, size))) ∙ e) in
              (omega (arith, at, below), omega (arith, at, more), cown_new q (sym at) ∙ sym (is.last_on p last).1 ∙ sym (cown_old p below)))
          | inr other ↦
              (let e' : next_at s.next p ≡ Some q = sym (old p below ∙ linked_other s.next c.last n p other) ∙ e in
              let r = links.on p q below e' in
              let q_below : q < n = r.1 in
              (r.0, omega (arith, q_below, more), cown_old q q_below ∙ r.2 ∙ sym (cown_old p below)))
        ]
        | inr new ↦
            (let none : next_at next p ≡ None = get_or_push (linked s.next c.last n) None None p (last_size ∙ sym new) in
            absurd (none-some q (sym none ∙ e)))
      ];
      least = λ p q lt below on.
          (let p_below : p < n = omega (arith, lt, below, more) in
          elim (push_cases s.claims b q below) [
            | inl q_below ↦
                (let on' : (held_at s.claims q).cown ≡ (held_at s.claims p).cown = sym (cown_old q q_below) ∙ on ∙ cown_old p p_below in
                let le : place_of (next_at s.next p) ≤ q = links.least p q lt q_below on' in
                elim (is_last c.last p) [
                  | inl last ↦
                      (let l = is.last q q_below (on' ∙ (is.last_on p last).1) in
                      let at : p ≡ l.0 = some-injective p l.0 (sym last ∙ l.1) in
                      let q_le : q ≤ l.0 = l.2 in
                      absurd (omega (arith, at, q_le, lt)))
                  | inr other ↦
                      (let same : place_of (next_at next p) ≡ place_of (next_at s.next p) = ap place_of (old p p_below ∙ linked_other s.next c.last n p other) in
                      omega (arith, same, le))
                ])
            | inr new ↦
                (let on' : (held_at s.claims p).cown ≡ b.cown = sym (cown_old p p_below) ∙ sym on ∙ cown_new q new in
                let l = is.last p p_below on' in
                elim (is_last c.last p) [
                  | inl last ↦
                      (let at : place_of (next_at next p) ≡ n = ap place_of (old p p_below ∙ linked_last s.next c.last n p last (omega (arith, p_below, size))) in
                      omega (arith, at, new))
                  | inr other ↦
                      (let p_le : p ≤ l.0 = l.2 in
                      let l_below : l.0 < n = (is.last_on l.0 l.1).0 in
                      let off : p ≢ l.0 = λ e. other (l.1 ∙ ap (λ (i : ℕ). Some i) (sym e)) in
                      let le : place_of (next_at s.next p) ≤ l.0 = links.least p l.0 (omega (arith, p_le, off)) l_below ((is.last_on l.0 l.1).1 ∙ sym on') in
                      let same : place_of (next_at next p) ≡ place_of (next_at s.next p) = ap place_of (old p p_below ∙ linked_other s.next c.last n p other) in
                      omega (arith, same, le, l_below, new))
                ])
          ]);
    }

-- an old claim waits as before
first_joined : (c : Cown) (shared : Bool) (n p : ℕ) → n < nowhere → p < n → ((h : ℕ) → c.first ≡ Some h → h < n)
    → (place_of (joined_cown c shared n).first ≤ p → place_of c.first ≤ p) × (place_of c.first ≤ p → place_of (joined_cown c shared n).first ≤ p)
first_joined c shared n p small lt known =
    joined-cases c shared n (λ (x : Cown). (place_of x.first ≤ p → place_of c.first ≤ p) × (place_of c.first ≤ p → place_of x.first ≤ p))
    (λ none may. (let first : place_of c.first ≡ nowhere = ap place_of none in (λ x. omega (arith, x, first), λ x. omega (arith, x, first))))
    (λ none denied. (let first : place_of c.first ≡ nowhere = ap place_of none in (λ x. omega (arith, x, lt), λ x. omega (arith, x, first, lt, small))))
    (λ h e. (let first : place_of c.first ≡ h = ap place_of e in (λ x. omega (arith, x, first), λ x. omega (arith, x, first))))

abbrev cown_after : Holders → Held → Cown
cown_after s b = joined_cown (cown_at s.cowns b.cown) b.shared (length s.claims)

abbrev cowns_after : Holders → Held → List Cown
cowns_after s b = set s.cowns b.cown (cown_after s b)

first_side : (s : Holders) (b : Held) (j p : ℕ) → IsJoinable s b → p < length s.claims
    → (place_of (cown_at (cowns_after s b) j).first ≤ p → place_of (cown_at s.cowns j).first ≤ p)
    × (place_of (cown_at s.cowns j).first ≤ p → place_of (cown_at (cowns_after s b) j).first ≤ p)
first_side s b j p g lt =
    let kept : AreHeld s (length s.waits + 1) = g.kept in
    let is : IsCown s.claims s.over b.cown (cown_at s.cowns b.cown) = kept.cowns b.cown g.cown in
    elim (cases_eq j b.cown) [
      | inl on ↦
          (let same : cown_at (cowns_after s b) j ≡ joined_cown (cown_at s.cowns b.cown) b.shared (length s.claims) =
          ap (λ (i : ℕ). cown_at (cowns_after s b) i) on ∙ get_or-set_same s.cowns b.cown (cown_after s b) no_cown g.cown in
          let now : place_of (cown_at (cowns_after s b) j).first ≡ place_of (joined_cown (cown_at s.cowns b.cown) b.shared (length s.claims)).first = ap (λ (c : Cown). place_of c.first) same in
          let was : place_of (cown_at s.cowns j).first ≡ place_of (cown_at s.cowns b.cown).first = ap (λ (i : ℕ). place_of (cown_at s.cowns i).first) on in
          let sides = first_joined (cown_at s.cowns b.cown) b.shared (length s.claims) p (let small : length s.claims + 1 < nowhere = kept.small in omega (arith, small)) lt (λ h e. (is.first h e).0) in (
            λ x. (let r : place_of (cown_at s.cowns b.cown).first ≤ p = sides.0 (omega (arith, x, now)) in omega (arith, r, was)),
            λ x. (let r : place_of (joined_cown (cown_at s.cowns b.cown) b.shared (length s.claims)).first ≤ p = sides.1 (omega (arith, x, was)) in omega (arith, r, now)),
          ))
      | inr off ↦
          (let same : place_of (cown_at (cowns_after s b) j).first ≡ place_of (cown_at s.cowns j).first =
          ap (λ (c : Cown). place_of c.first) (get_or-set_other s.cowns b.cown j (cown_after s b) no_cown off) in
          (λ x. omega (arith, x, same), λ x. omega (arith, x, same)))
    ]

waits-more : (s : Holders) (b : Held) (n p : ℕ) → IsJoinable s b → p < length s.claims
    → waits_for (s.claims ++ b ∷ []) (cowns_after s b) n p ≡ waits_for s.claims s.cowns n p
waits-more s b n p g lt =
    let same : held_at (s.claims ++ b ∷ []) p ≡ held_at s.claims p = held_old s.claims b p lt in
    let cown : (held_at (s.claims ++ b ∷ []) p).cown ≡ (held_at s.claims p).cown = ap (λ (x : Held). x.cown) same in
    let entry : (held_at (s.claims ++ b ∷ []) p).entry ≡ (held_at s.claims p).entry = ap (λ (x : Held). x.entry) same in
    let sides = first_side s b (held_at s.claims p).cown p g lt in
    waits-same (s.claims ++ b ∷ []) s.claims (cowns_after s b) s.cowns n n p
    (λ w. record {
      entry = sym entry ∙ w.entry;
      behind = sides.0 (subst (λ (j : ℕ). place_of (cown_at (cowns_after s b) j).first ≤ p) cown w.behind);
    })
    (λ w. record {
      entry = entry ∙ w.entry;
      behind = subst (λ (j : ℕ). place_of (cown_at (cowns_after s b) j).first ≤ p) (sym cown) (sides.1 w.behind);
    })

pub joined-held : (s : Holders) (b : Held) → IsJoinable s b → AreHeld (joined s b) (length s.waits + 1)
joined-held s b g =
    let kept : AreHeld s (length s.waits + 1) = g.kept in
    let c : Cown = cown_at s.cowns b.cown in
    let c' : Cown = joined_cown c b.shared (length s.claims) in
    let n : ℕ = length s.claims in
    let more : length (s.claims ++ b ∷ []) ≡ n + 1 = length_push s.claims b in
    let small : n + 2 < nowhere = g.small in
    let size : length (set s.cowns b.cown c') ≡ length s.cowns = length-set s.cowns b.cown c' in
    let entry : b.entry ≡ length s.waits = g.entry in
    let on : b.cown < length s.cowns = g.cown in
    record {
      over = length_push s.over false ∙ ap (λ (i : ℕ). i + 1) kept.over ∙ sym more;
      next = length_push (linked s.next c.last n) None ∙ ap (λ (i : ℕ). i + 1) (linked-length s.next c.last n ∙ kept.next) ∙ sym more;
      small = omega (arith, more, small);
      cown_known = each-push (λ (p : ℕ) (x : Held). x.cown < length (set s.cowns b.cown c')) s.claims b no_held
          (λ p lt. (let was : (held_at s.claims p).cown < length s.cowns = kept.cown_known p lt in omega (arith, was, size))) (omega (arith, on, size));
      entry_known = each-push (λ (p : ℕ) (x : Held). x.entry < length s.waits + 1) s.claims b no_held kept.entry_known (omega (arith, entry));
      links = joined-links s b g;
      cowns = each-set (λ (j : ℕ) (x : Cown). IsCown (s.claims ++ b ∷ []) (s.over ++ false ∷ []) j x) s.cowns b.cown c' no_cown on
          (joined-cown s.claims s.over b c (of_joinable s b g))
          (λ j lt ne. joined-other s.claims s.over b j (cown_at s.cowns j) kept.over (λ e. ne (sym e)) (kept.cowns j lt));
      waits = λ i lt. kept.waits i lt ∙ sym (count-push_not (waits_for (s.claims ++ b ∷ []) (cowns_after s b) i) (waits_for s.claims s.cowns i) n
          (length (s.claims ++ b ∷ [])) more
          (not_waiting (s.claims ++ b ∷ []) (cowns_after s b) i n (λ w.
          (let e : b.entry ≡ i = ap (λ (x : Held). x.entry) (sym (held_new s.claims b)) ∙ w.entry in omega (arith, e, entry, lt))))
          (λ p below. waits-more s b i p g below));
      free = kept.free;
    }

unwrap-le : (o : Option ℕ) (n : ℕ) → ((h : ℕ) → o ≡ Some h → h < n) → unwrap_or o n ≤ n
unwrap-le None n known = omega arith
unwrap-le (Some h) n known = let lt : h < n = known h refl in omega (arith, lt)

-- where the new claim holds its cown at once, it does not wait, and where not it does
new_waits : (s : Holders) (b : Held) → IsJoinable s b
    → waits_for (s.claims ++ b ∷ []) (cowns_after s b) b.entry (length s.claims) ≡ (if is_held_at_once (cown_at s.cowns b.cown) b.shared then false else true)
new_waits s b g = by (is_held_at_once (cown_at s.cowns b.cown) b.shared) refl
  where
    at : held_at (s.claims ++ b ∷ []) (length s.claims) ≡ b
    at = held_new s.claims b

    cown : cown_at (cowns_after s b) (held_at (s.claims ++ b ∷ []) (length s.claims)).cown ≡ joined_cown (cown_at s.cowns b.cown) b.shared (length s.claims)
    cown = ap (λ (x : Held). cown_at (cowns_after s b) x.cown) at ∙ get_or-set_same s.cowns b.cown (cown_after s b) no_cown g.cown

    first : place_of (cown_at (cowns_after s b) (held_at (s.claims ++ b ∷ []) (length s.claims)).cown).first
        ≡ place_of (joined_cown (cown_at s.cowns b.cown) b.shared (length s.claims)).first
    first = ap (λ (x : Cown). place_of x.first) cown

    by : (t : Bool) → is_held_at_once (cown_at s.cowns b.cown) b.shared ≡ t
        → waits_for (s.claims ++ b ∷ []) (cowns_after s b) b.entry (length s.claims) ≡ (if t then false else true)
    by true t =
        let small : length s.claims + 2 < nowhere = g.small in
        let now : place_of (joined_cown (cown_at s.cowns b.cown) b.shared (length s.claims)).first ≡ nowhere = rw t in
        not_waiting (s.claims ++ b ∷ []) (cowns_after s b) b.entry (length s.claims) (λ w.
        (let behind : place_of (cown_at (cowns_after s b) (held_at (s.claims ++ b ∷ []) (length s.claims)).cown).first ≤ length s.claims = w.behind in
        omega (arith, behind, first, now, small)))
    by false t =
        let kept : AreHeld s (length s.waits + 1) = g.kept in
        let is : IsCown s.claims s.over b.cown (cown_at s.cowns b.cown) = kept.cowns b.cown g.cown in
        let now : place_of (joined_cown (cown_at s.cowns b.cown) b.shared (length s.claims)).first ≡ unwrap_or (cown_at s.cowns b.cown).first (length s.claims) = rw t in
        let le : unwrap_or (cown_at s.cowns b.cown).first (length s.claims) ≤ length s.claims =
        unwrap-le (cown_at s.cowns b.cown).first (length s.claims) (λ h e. (is.first h e).0) in
        waits_from (s.claims ++ b ∷ []) (cowns_after s b) b.entry (length s.claims)
        (record { entry = ap (λ (x : Held). x.entry) at; behind = omega (arith, first, now, le) })

-- the entry that enters has one waiting claim more, if this one waits
pub joined-waits : (s : Holders) (b : Held) → IsJoinable s b
    → count_below (waits_for (joined s b).claims (joined s b).cowns b.entry) (length (joined s b).claims)
    ≡ count_below (waits_for s.claims s.cowns b.entry) (length s.claims) + (if is_held_at_once (cown_at s.cowns b.cown) b.shared then 0 else 1)
joined-waits s b g = by (is_held_at_once (cown_at s.cowns b.cown) b.shared) (new_waits s b g)
  where
    more : length (s.claims ++ b ∷ []) ≡ length s.claims + 1
    more = length_push s.claims b

    by : (t : Bool) → waits_for (s.claims ++ b ∷ []) (cowns_after s b) b.entry (length s.claims) ≡ (if t then false else true)
        → count_below (waits_for (s.claims ++ b ∷ []) (cowns_after s b) b.entry) (length (s.claims ++ b ∷ []))
        ≡ count_below (waits_for s.claims s.cowns b.entry) (length s.claims) + (if t then 0 else 1)
    by true fails =
        count-push_not (waits_for (s.claims ++ b ∷ []) (cowns_after s b) b.entry) (waits_for s.claims s.cowns b.entry) (length s.claims) (length (s.claims ++ b ∷ [])) more fails
        (λ p lt. waits-more s b b.entry p g lt) ∙ sym (add-zero _)
    by false passes =
        count-push (waits_for (s.claims ++ b ∷ []) (cowns_after s b) b.entry) (waits_for s.claims s.cowns b.entry) (length s.claims) (length (s.claims ++ b ∷ [])) more passes
        (λ p lt. waits-more s b b.entry p g lt)

-- no cown has a first claim that waits and may hold it, after a claim more
pub joined-settled : (s : Holders) (b : Held) → IsJoinable s b → AreSettled s → AreSettled (joined s b)
joined-settled s b g settled =
    let kept : AreHeld s (length s.waits + 1) = g.kept in
    let c : Cown = cown_at s.cowns b.cown in
    let is : IsCown s.claims s.over b.cown c = kept.cowns b.cown g.cown in
    let old : (j h : ℕ) → j < length s.cowns → (cown_at s.cowns j).first ≡ Some h → (held_at (s.claims ++ b ∷ []) h).shared ≡ (held_at s.claims h).shared =
    λ j h lt e. (let i : IsCown s.claims s.over j (cown_at s.cowns j) = kept.cowns j lt in ap (λ (x : Held). x.shared) (held_old s.claims b h (i.first h e).0)) in
    each-set (λ (j : ℕ) (x : Cown). IsSettled (s.claims ++ b ∷ []) x) s.cowns b.cown (joined_cown c b.shared (length s.claims)) no_cown g.cown
    (joined-cases c b.shared (length s.claims) (λ (x : Cown). IsSettled (s.claims ++ b ∷ []) x)
    (λ none may h e. absurd (none-some h e))
    (λ none denied h e.
    (let at : length s.claims ≡ h = some-injective (length s.claims) h e in
    let same : (held_at (s.claims ++ b ∷ []) h).shared ≡ b.shared = ap (λ (i : ℕ). (held_at (s.claims ++ b ∷ []) i).shared) (sym at) ∙ ap (λ (x : Held). x.shared) (held_new s.claims b) in
    ap (λ (t : Bool). may_hold c t) same ∙ denied))
    (λ f was h e.
    (let at : f ≡ h = some-injective f h e in
    let first : c.first ≡ Some h = was ∙ e in
    ap (λ (t : Bool). may_hold c t) (old b.cown h g.cown first) ∙ settled b.cown g.cown h first)))
    (λ j lt ne h e. ap (λ (t : Bool). may_hold (cown_at s.cowns j) t) (old j h lt e) ∙ settled j lt h e)
