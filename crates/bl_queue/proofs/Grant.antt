-- The first claim that waits for its cown holds it.
use Rattle.std.proofs.Common.{◌≡◌, ◌≢◌, ℕ, ◌+◌, ◌-◌, ◌<◌, ◌≤◌, ◌++◌, ◌∷◌, [], ◌==◌, if◌then◌else◌, Bool, true, false, Option, Some, None, List, length, set, slice_index, Contains, inl, inr, refl, sym, subst, ap, ◌∙◌, arith, length-set, get_or-set_same, get_or-set_other, eqb-true, eq-eqb, ne_eqb}
use Rattle.std.proofs.lemmas.Bool.{cases_eq, cases_lt, false_from_ne_true, both_ways, eqb-false}
use Rattle.std.proofs.lemmas.List.{length_push}
use Rattle.bl_queue.specs.declared.cown.Held.{Held}
use Rattle.bl_queue.specs.declared.cown.Cown.{Cown}
use Rattle.bl_queue.specs.Holders.{Holders, count_below, holds, waits_for, held_at, over_at, cown_at, next_at, place_of, nowhere, no_cown, taken, freed, IsCown, IsSettled, AreLinks, AreFree, AreHeld, AreSettledBut, IsGrantable, granted}
use Rattle.bl_queue.proofs.Count.{count-same, count-more, count-some}
use Rattle.bl_queue.proofs.Places.{each-set, each-push, contains_more, contains_last}
use Rattle.bl_queue.proofs.Tests.{Holds, holds_tells, holds_from, not_holding, holds-same, waits-same, waits_from, not_waiting, Waits, may_hold_tells}

-- the next claim of a cown stands behind this one
pub next-behind : (claims : List Held) (next : List (Option ℕ)) (h : ℕ) (o : Option ℕ) → AreLinks claims next → length claims < nowhere → h < length claims
    → next_at next h ≡ o → h < place_of o
next-behind claims next h None links small lt e = omega (arith, small, lt)
next-behind claims next h (Some q) links small lt e = (links.on h q lt e).0

-- the cown's place of the first claim that waits
here : (s : Holders) (m h : ℕ) → IsGrantable s m h → place_of (cown_at s.cowns (held_at s.claims h).cown).first ≡ h
here s m h g = ap place_of g.first

known : (s : Holders) (m h : ℕ) → IsGrantable s m h → (held_at s.claims h).cown < length s.cowns
known s m h g = let kept : AreHeld s m = g.kept in kept.cown_known h g.within

own : (s : Holders) (m h : ℕ) → IsGrantable s m h → IsCown s.claims s.over (held_at s.claims h).cown (cown_at s.cowns (held_at s.claims h).cown)
own s m h g = let kept : AreHeld s m = g.kept in kept.cowns (held_at s.claims h).cown (known s m h g)

behind : (s : Holders) (m h : ℕ) → IsGrantable s m h → h < place_of (next_at s.next h)
behind s m h g = let kept : AreHeld s m = g.kept in next-behind s.claims s.next h (next_at s.next h) kept.links (let small : length s.claims + 1 < nowhere = kept.small in omega (arith, small)) g.within refl

least : (s : Holders) (m h p : ℕ) → IsGrantable s m h → h < p → p < length s.claims → (held_at s.claims p).cown ≡ (held_at s.claims h).cown
    → place_of (next_at s.next h) ≤ p
least s m h p g lt below on = let kept : AreHeld s m = g.kept in let links : AreLinks s.claims s.next = kept.links in links.least h p lt below on

-- it is not over
stays : (s : Holders) (m h : ℕ) → IsGrantable s m h → over_at s.over h ≡ false
stays s m h g =
    false_from_ne_true _ (λ t.
    let before : h < place_of (cown_at s.cowns (held_at s.claims h).cown).first = (own s m h g).over_before h g.within refl t in
    let at : place_of (cown_at s.cowns (held_at s.claims h).cown).first ≡ h = here s m h g in
    omega (arith, before, at))

abbrev OldHolds : Holders → ℕ → ℕ → Type 0
OldHolds s h p = Holds s.claims s.over (held_at s.claims h).cown (place_of (cown_at s.cowns (held_at s.claims h).cown).first) p

abbrev NewHolds : Holders → ℕ → ℕ → Type 0
NewHolds s h p = Holds s.claims s.over (held_at s.claims h).cown (place_of (next_at s.next h)) p

-- those that hold the cown now held it before, but for the first
held_before : (s : Holders) (m h p : ℕ) → IsGrantable s m h → p < length s.claims → p ≢ h → NewHolds s h p → OldHolds s h p
held_before s m h p g below ne x =
    let at : place_of (cown_at s.cowns (held_at s.claims h).cown).first ≡ h = here s m h g in
    let p_before : p < place_of (next_at s.next h) = x.before in
    let not_behind : ¬ (h < p) = λ lt. (let le : place_of (next_at s.next h) ≤ p = least s m h p g lt below x.cown in omega (arith, le, p_before)) in
    let lt : p < h = elim (cases_lt p h) [ inl a ↦ a | inr b ↦ absurd (not_behind (omega (arith, b, ne))) ] in
    record { cown = x.cown; before = omega (arith, at, lt); stays = x.stays }

held_still : (s : Holders) (m h p : ℕ) → IsGrantable s m h → OldHolds s h p → NewHolds s h p
held_still s m h p g x =
    let at : place_of (cown_at s.cowns (held_at s.claims h).cown).first ≡ h = here s m h g in
    let p_before : p < place_of (cown_at s.cowns (held_at s.claims h).cown).first = x.before in
    let next : h < place_of (next_at s.next h) = behind s m h g in
    record { cown = x.cown; before = omega (arith, at, p_before, next); stays = x.stays }

first_holds : (s : Holders) (m h : ℕ) → IsGrantable s m h → NewHolds s h h
first_holds s m h g = record { cown = refl; before = behind s m h g; stays = stays s m h g }

-- the cown, with one holder more
granted-cown : (s : Holders) (m h : ℕ) → IsGrantable s m h
    → IsCown s.claims s.over (held_at s.claims h).cown (taken (cown_at s.cowns (held_at s.claims h).cown) (held_at s.claims h).shared (next_at s.next h))
granted-cown s m h g =
    let k : ℕ = (held_at s.claims h).cown in
    let c : Cown = cown_at s.cowns k in
    let n : ℕ = length s.claims in
    let old : ℕ → Bool = holds s.claims s.over k (place_of c.first) in
    let new : ℕ → Bool = holds s.claims s.over k (place_of (next_at s.next h)) in
    let is : IsCown s.claims s.over k c = own s m h g in
    let kept : AreHeld s m = g.kept in
    let links : AreLinks s.claims s.next = kept.links in
    let at : place_of c.first ≡ h = here s m h g in
    let count : count_below new n ≡ count_below old n + 1 =
    count-more new old n h g.within (holds_from s.claims s.over k (place_of (next_at s.next h)) h (first_holds s m h g))
    (not_holding s.claims s.over k (place_of c.first) h (λ x. (let b : h < place_of c.first = x.before in omega (arith, b, at))))
    (λ p below ne. holds-same s.claims s.claims s.over s.over k k (place_of (next_at s.next h)) (place_of c.first) p
    (held_before s m h p g below ne) (held_still s m h p g)) in
    let shared_alike : (p : ℕ) → p < n → p ≢ h → new p ≡ true → (held_at s.claims p).shared ≡ (held_at s.claims h).shared =
    λ p below ne t.
    (let before : OldHolds s h p = held_before s m h p g below ne (holds_tells s.claims s.over k (place_of (next_at s.next h)) p t) in
    let t' : old p ≡ true = holds_from s.claims s.over k (place_of c.first) p before in
    elim (may_hold_tells c (held_at s.claims h).shared g.may) [
      | inl none ↦ (let some : 0 < count_below old n = count-some old n p below t' in absurd (omega (arith, some, none, is.held)))
      | inr both ↦ is.alike p below t' ∙ both.1 ∙ sym both.0
    ]) in
    record {
      held = (let held : c.holders ≡ count_below old n = is.held in omega (arith, held, count));
      alike = λ p below t. elim (cases_eq p h) [
        | inl e ↦ ap (λ (i : ℕ). (held_at s.claims i).shared) e
        | inr ne ↦ shared_alike p below ne t
      ];
      alone = λ e. elim (may_hold_tells c (held_at s.claims h).shared g.may) [
        | inl none ↦ omega (arith, none)
        | inr both ↦ absurd (both_ways _ e both.0)
      ];
      first = λ q e. ((links.on h q g.within e).1, (links.on h q g.within e).2);
      over_before = λ p below on t.
          (let before : p < place_of c.first = is.over_before p below on t in
          let next : h < place_of (next_at s.next h) = behind s m h g in
          omega (arith, before, next, at));
      last_on = is.last_on;
      last = is.last;
    }

abbrev cown_after : Holders → ℕ → Cown
cown_after s h = taken (cown_at s.cowns (held_at s.claims h).cown) (held_at s.claims h).shared (next_at s.next h)

abbrev cowns_after : Holders → ℕ → List Cown
cowns_after s h = set s.cowns (held_at s.claims h).cown (cown_after s h)

first_after : (s : Holders) (m h : ℕ) → IsGrantable s m h → (cown_at (cowns_after s h) (held_at s.claims h).cown).first ≡ next_at s.next h
first_after s m h g = ap (λ (c : Cown). c.first) (get_or-set_same s.cowns (held_at s.claims h).cown (cown_after s h) no_cown (known s m h g))

first_other : (s : Holders) (m h j : ℕ) → j ≢ (held_at s.claims h).cown → (cown_at (cowns_after s h) j).first ≡ (cown_at s.cowns j).first
first_other s m h j ne = ap (λ (c : Cown). c.first) (get_or-set_other s.cowns (held_at s.claims h).cown j (cown_after s h) no_cown ne)

-- of the claims that waited all but the first wait still
waits_still : (s : Holders) (m h n p : ℕ) → IsGrantable s m h → p < length s.claims → p ≢ h → Waits s.claims s.cowns n p → Waits s.claims (cowns_after s h) n p
waits_still s m h n p g below ne w =
    let was : place_of (cown_at s.cowns (held_at s.claims p).cown).first ≤ p = w.behind in
    elim (cases_eq (held_at s.claims p).cown (held_at s.claims h).cown) [
      | inl on ↦
          let at : place_of (cown_at s.cowns (held_at s.claims p).cown).first ≡ h = ap (λ (j : ℕ). place_of (cown_at s.cowns j).first) on ∙ here s m h g in
          let le : place_of (next_at s.next h) ≤ p = least s m h p g (omega (arith, at, was, ne)) below on in
          let now : place_of (cown_at (cowns_after s h) (held_at s.claims p).cown).first ≡ place_of (next_at s.next h) =
          ap (λ (j : ℕ). place_of (cown_at (cowns_after s h) j).first) on ∙ ap place_of (first_after s m h g) in
          record { entry = w.entry; behind = omega (arith, now, le) }
      | inr off ↦
          let now : place_of (cown_at (cowns_after s h) (held_at s.claims p).cown).first ≡ place_of (cown_at s.cowns (held_at s.claims p).cown).first =
          ap place_of (first_other s m h (held_at s.claims p).cown off) in
          record { entry = w.entry; behind = omega (arith, now, was) }
    ]

waited : (s : Holders) (m h n p : ℕ) → IsGrantable s m h → Waits s.claims (cowns_after s h) n p → Waits s.claims s.cowns n p
waited s m h n p g w =
    let is : place_of (cown_at (cowns_after s h) (held_at s.claims p).cown).first ≤ p = w.behind in
    elim (cases_eq (held_at s.claims p).cown (held_at s.claims h).cown) [
      | inl on ↦
          let at : place_of (cown_at s.cowns (held_at s.claims p).cown).first ≡ h = ap (λ (j : ℕ). place_of (cown_at s.cowns j).first) on ∙ here s m h g in
          let now : place_of (cown_at (cowns_after s h) (held_at s.claims p).cown).first ≡ place_of (next_at s.next h) =
          ap (λ (j : ℕ). place_of (cown_at (cowns_after s h) j).first) on ∙ ap place_of (first_after s m h g) in
          let next : h < place_of (next_at s.next h) = behind s m h g in
          record { entry = w.entry; behind = omega (arith, now, at, is, next) }
      | inr off ↦
          let now : place_of (cown_at (cowns_after s h) (held_at s.claims p).cown).first ≡ place_of (cown_at s.cowns (held_at s.claims p).cown).first =
          ap place_of (first_other s m h (held_at s.claims p).cown off) in
          record { entry = w.entry; behind = omega (arith, now, is) }
    ]

-- the first one waited, and does not now
first_waited : (s : Holders) (m h : ℕ) → IsGrantable s m h → Waits s.claims s.cowns (held_at s.claims h).entry h
first_waited s m h g = let at : place_of (cown_at s.cowns (held_at s.claims h).cown).first ≡ h = here s m h g in record { entry = refl; behind = omega (arith, at) }

first_waits_no_more : (s : Holders) (m h n : ℕ) → IsGrantable s m h → ¬ Waits s.claims (cowns_after s h) n h
first_waits_no_more s m h n g w =
    let is : place_of (cown_at (cowns_after s h) (held_at s.claims h).cown).first ≤ h = w.behind in
    let now : place_of (cown_at (cowns_after s h) (held_at s.claims h).cown).first ≡ place_of (next_at s.next h) = ap place_of (first_after s m h g) in
    let next : h < place_of (next_at s.next h) = behind s m h g in
    omega (arith, is, now, next)

-- so its entry has one waiting claim fewer
pub one_fewer : (s : Holders) (m h : ℕ) → IsGrantable s m h
    → count_below (waits_for s.claims s.cowns (held_at s.claims h).entry) (length s.claims)
    ≡ count_below (waits_for s.claims (cowns_after s h) (held_at s.claims h).entry) (length s.claims) + 1
one_fewer s m h g =
    let e : ℕ = (held_at s.claims h).entry in
    count-more (waits_for s.claims s.cowns e) (waits_for s.claims (cowns_after s h) e) (length s.claims) h g.within
    (waits_from s.claims s.cowns e h (first_waited s m h g))
    (not_waiting s.claims (cowns_after s h) e h (first_waits_no_more s m h e g))
    (λ p below ne. waits-same s.claims s.claims s.cowns (cowns_after s h) e e p (waits_still s m h e p g below ne) (waited s m h e p g))

-- and another as many as before
as_many : (s : Holders) (m h n : ℕ) → IsGrantable s m h → n ≢ (held_at s.claims h).entry
    → count_below (waits_for s.claims s.cowns n) (length s.claims) ≡ count_below (waits_for s.claims (cowns_after s h) n) (length s.claims)
as_many s m h n g off =
    count-same (waits_for s.claims s.cowns n) (waits_for s.claims (cowns_after s h) n) (length s.claims)
    (λ p below. waits-same s.claims s.claims s.cowns (cowns_after s h) n n p
    (λ w. waits_still s m h n p g below (λ e. off (sym w.entry ∙ ap (λ (i : ℕ). (held_at s.claims i).entry) e)) w)
    (waited s m h n p g))

-- the entries that are free where one has a waiting claim fewer, and waits still
freed-not : (waits free : List ℕ) (e w : ℕ) → AreFree waits free → e < length waits → 0 < slice_index waits e → w ≢ 0 → AreFree (set waits e w) free
freed-not waits free e w are lt some ne =
    let n : ℕ = length waits in
    let size : length (set waits e w) ≡ n = length-set waits e w in
    let at : slice_index (set waits e w) e ≡ w = get_or-set_same waits e w 0 lt in
    let count : count_below (λ (i : ℕ). slice_index waits i == 0) n ≡ count_below (λ (i : ℕ). slice_index (set waits e w) i == 0) n =
    count-same (λ (i : ℕ). slice_index waits i == 0) (λ (i : ℕ). slice_index (set waits e w) i == 0) n
    (λ i below. elim (cases_eq i e) [
      | inl is ↦
          ne_eqb (slice_index waits i) 0 (λ z. (let z' : slice_index waits e ≡ 0 = ap (λ (j : ℕ). slice_index waits j) (sym is) ∙ z in omega (arith, z', some)))
          ∙ sym (ne_eqb (slice_index (set waits e w) i) 0 (λ z. ne (sym at ∙ ap (λ (j : ℕ). slice_index (set waits e w) j) (sym is) ∙ z)))
      | inr off ↦ ap (λ (x : ℕ). x == 0) (sym (get_or-set_other waits e i w 0 off))
    ]) in
    record {
      listed = λ i below z. elim (cases_eq i e) [
        | inl is ↦ absurd (ne (sym at ∙ ap (λ (j : ℕ). slice_index (set waits e w) j) (sym is) ∙ z))
        | inr off ↦ are.listed i (omega (arith, below, size)) (sym (get_or-set_other waits e i w 0 off) ∙ z)
      ];
      right = λ i below.
          (let r : slice_index free i < n = (are.right i below).0 in
          let z : slice_index waits (slice_index free i) ≡ 0 = (are.right i below).1 in
          let off : slice_index free i ≢ e = λ is. (let z' : slice_index waits e ≡ 0 = ap (λ (j : ℕ). slice_index waits j) (sym is) ∙ z in omega (arith, z', some)) in
          (omega (arith, r, size), get_or-set_other waits e (slice_index free i) w 0 off ∙ z));
      count = are.count ∙ count ∙ ap (λ (m : ℕ). count_below (λ (i : ℕ). slice_index (set waits e w) i == 0) m) (sym size);
    }

-- .. and none now
freed-now : (waits free : List ℕ) (e : ℕ) → AreFree waits free → e < length waits → 0 < slice_index waits e → AreFree (set waits e 0) (free ++ e ∷ [])
freed-now waits free e are lt some =
    let n : ℕ = length waits in
    let size : length (set waits e 0) ≡ n = length-set waits e 0 in
    let at : slice_index (set waits e 0) e ≡ 0 = get_or-set_same waits e 0 0 lt in
    let count : count_below (λ (i : ℕ). slice_index (set waits e 0) i == 0) n ≡ count_below (λ (i : ℕ). slice_index waits i == 0) n + 1 =
    count-more (λ (i : ℕ). slice_index (set waits e 0) i == 0) (λ (i : ℕ). slice_index waits i == 0) n e lt
    (eq-eqb _ _ at) (ne_eqb (slice_index waits e) 0 (λ z. omega (arith, z, some)))
    (λ i below off. ap (λ (x : ℕ). x == 0) (get_or-set_other waits e i 0 0 off)) in
    record {
      listed = λ i below z. elim (cases_eq i e) [
        | inl is ↦ subst (λ (j : ℕ). Contains (free ++ e ∷ []) j) (sym is) (contains_last free e)
        | inr off ↦ contains_more free e i (are.listed i (omega (arith, below, size)) (sym (get_or-set_other waits e i 0 0 off) ∙ z))
      ];
      right = each-push (λ (i x : ℕ). (x < length (set waits e 0)) × (slice_index (set waits e 0) x ≡ 0)) free e 0
          (λ i below.
          (let r : slice_index free i < n = (are.right i below).0 in
          let z : slice_index waits (slice_index free i) ≡ 0 = (are.right i below).1 in
          let off : slice_index free i ≢ e = λ is. (let z' : slice_index waits e ≡ 0 = ap (λ (j : ℕ). slice_index waits j) (sym is) ∙ z in omega (arith, z', some)) in
          (omega (arith, r, size), get_or-set_other waits e (slice_index free i) 0 0 off ∙ z)))
          (omega (arith, lt, size), at);
      count = length_push free e ∙ ap (λ (m : ℕ). m + 1) are.count ∙ sym count ∙ ap (λ (m : ℕ). count_below (λ (i : ℕ). slice_index (set waits e 0) i == 0) m) (sym size);
    }

freed_by : (waits free : List ℕ) (e w : ℕ) (b : Bool) → (w == 0) ≡ b → AreFree waits free → e < length waits → 0 < slice_index waits e
    → AreFree (set waits e w) (if b then free ++ e ∷ [] else free)
freed_by waits free e w true t are lt some =
    subst (λ (x : ℕ). AreFree (set waits e x) (free ++ e ∷ [])) (sym (eqb-true w 0 t)) (freed-now waits free e are lt some)
freed_by waits free e w false t are lt some = freed-not waits free e w are lt some (eqb-false w 0 t)

-- the entries that are free after one has a waiting claim fewer
pub freed-free : (waits free : List ℕ) (e w : ℕ) → AreFree waits free → e < length waits → 0 < slice_index waits e → AreFree (set waits e w) (freed free e w)
freed-free waits free e w are lt some = freed_by waits free e w (w == 0) refl are lt some

-- the entry of the first claim has a claim that waits
pub waits_some : (s : Holders) (m h : ℕ) → IsGrantable s m h → 0 < slice_index s.waits (held_at s.claims h).entry
waits_some s m h g =
    let kept : AreHeld s m = g.kept in
    let e : ℕ = (held_at s.claims h).entry in
    let of_m : e < m = kept.entry_known h g.within in
    let le : m ≤ length s.waits = g.entries in
    let lt : e < length s.waits = omega (arith, of_m, le) in
    let is : slice_index s.waits e ≡ count_below (waits_for s.claims s.cowns e) (length s.claims) = kept.waits e lt in
    let some : 0 < count_below (waits_for s.claims s.cowns e) (length s.claims) =
    count-some (waits_for s.claims s.cowns e) (length s.claims) h g.within (waits_from s.claims s.cowns e h (first_waited s m h g)) in
    omega (arith, is, some)

pub granted-held : (s : Holders) (m h : ℕ) → IsGrantable s m h → AreHeld (granted s h) m
granted-held s m h g =
    let kept : AreHeld s m = g.kept in
    let k : ℕ = (held_at s.claims h).cown in
    let e : ℕ = (held_at s.claims h).entry in
    let w : ℕ = slice_index s.waits e - 1 in
    let n : ℕ = length s.claims in
    let c' : Cown = taken (cown_at s.cowns k) (held_at s.claims h).shared (next_at s.next h) in
    let of_m : e < m = kept.entry_known h g.within in
    let le : m ≤ length s.waits = g.entries in
    let lt : e < length s.waits = omega (arith, of_m, le) in
    let some : 0 < slice_index s.waits e = waits_some s m h g in
    let was : slice_index s.waits e ≡ count_below (waits_for s.claims s.cowns e) n = kept.waits e lt in
    let fewer : count_below (waits_for s.claims s.cowns e) n ≡ count_below (waits_for s.claims (cowns_after s h) e) n + 1 = one_fewer s m h g in
    record {
      over = kept.over;
      next = kept.next;
      small = kept.small;
      cown_known = λ q below. subst (λ (x : ℕ). (held_at s.claims q).cown < x) (sym (length-set s.cowns k c')) (kept.cown_known q below);
      entry_known = kept.entry_known;
      links = kept.links;
      cowns = each-set (λ (j : ℕ) (x : Cown). IsCown s.claims s.over j x) s.cowns k c' no_cown (known s m h g)
          (granted-cown s m h g) (λ j below ne. kept.cowns j below);
      waits = each-set (λ (j x : ℕ). x ≡ count_below (waits_for s.claims (cowns_after s h) j) n) s.waits e w 0 lt
          (omega (arith, was, fewer)) (λ j below ne. kept.waits j below ∙ as_many s m h j g ne);
      free = freed-free s.waits s.free e w kept.free lt some;
    }

pub granted-settled : (s : Holders) (h k : ℕ) → (held_at s.claims h).cown ≡ k → AreSettledBut s k → AreSettledBut (granted s h) k
granted-settled s h k on settled j below ne =
    let b : ℕ = (held_at s.claims h).cown in
    let c' : Cown = taken (cown_at s.cowns b) (held_at s.claims h).shared (next_at s.next h) in
    let within : j < length s.cowns = subst (λ (n : ℕ). j < n) (length-set s.cowns b c') below in
    subst (λ (x : Cown). IsSettled s.claims x) (sym (get_or-set_other s.cowns b j c' no_cown (λ e. ne (e ∙ on)))) (settled j within ne)
