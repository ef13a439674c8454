-- An entry that waits may start exactly where none of its claims waits.
use Rattle.std.proofs.Common.{◌≡◌, ◌≢◌, ℕ, ◌+◌, ◌-◌, ◌<◌, ◌≤◌, ◌⊎◌, ◌&&◌, ◌==◌, not, true, false, Option, Some, None, List, length, get_or, slice_index, AllPairs, inl, inr, refl, sym, subst, ap, ◌∙◌, arith, eqb-true, eq-eqb}
use Rattle.std.specs.List.{list_any}
use Rattle.std.proofs.lemmas.Bool.{cases_eq, cases_lt, cases_Bool, cases_order, both_ways, and_parts, and_from, and_cases, and_left, and_right, not-true, not_from_false, or_parts, false_from_ne_true, eqb-false}
use Rattle.std.proofs.lemmas.List.{get_or_default}
use Rattle.std.proofs.lemmas.List.Folds.{Any-from_list_any, list_any_at}
use Rattle.bl_queue.specs.declared.claim.Claim.{Claim}
use Rattle.bl_queue.specs.declared.cown.Held.{Held}
use Rattle.bl_queue.specs.declared.cown.Cown.{Cown}
use Rattle.bl_queue.specs.declared.entry.Stand.{Stand}
use Rattle.bl_queue.specs.declared.entry.Stand.TheVariants.{Waiting, Started, Ended}
use Rattle.bl_queue.specs.Claims.{excludes, conflict}
use Rattle.bl_queue.specs.Entries.{Entry, entry_at, is_waiting, is_ended, IsClear}
use Rattle.bl_queue.specs.Holders.{Holders, count_below, holds, waits_for, held_at, held_of, over_at, cown_at, place_of, nowhere, IsCown, AreHeld, AreSettled}
use Rattle.bl_queue.specs.Queued.{no_claim, claims_at, ArePlaced, AreQueued}
use Rattle.bl_queue.proofs.Count.{count-some, count-two, counted}
use Rattle.bl_queue.proofs.Tests.{Holds, holds_tells, holds_from, Waits, waits_tells, waits_from}

abbrev claim_at : List Claim → ℕ → Claim
claim_at cs i = get_or cs i no_claim

excludes_tells : (a b : Claim) → excludes a b ≡ true → (a.cown ≡ b.cown) × ((a.shared ≡ false) ⊎ (b.shared ≡ false))
excludes_tells a b t =
    let parts = and_parts (a.cown == b.cown) (not (a.shared && b.shared)) t in
    (eqb-true a.cown b.cown parts.0, and_cases a.shared b.shared (not-true (a.shared && b.shared) parts.1))

excludes_from : (a b : Claim) → a.cown ≡ b.cown → (a.shared ≡ false) ⊎ (b.shared ≡ false) → excludes a b ≡ true
excludes_from a b on one =
    and_from (a.cown == b.cown) (not (a.shared && b.shared)) (eq-eqb a.cown b.cown on)
    (not_from_false (a.shared && b.shared) (elim one [ inl e ↦ and_left a.shared b.shared e | inr e ↦ and_right a.shared b.shared e ]))

-- the claims by which two entries conflict
record Conflict (xs ys : List Claim) (i j : ℕ) : Type 0 where
  first : i < length xs
  second : j < length ys
  excluded : excludes (claim_at xs i) (claim_at ys j) ≡ true

conflict_tells : (xs ys : List Claim) → conflict xs ys ≡ true → (i : ℕ) × (j : ℕ) × Conflict xs ys i j
conflict_tells xs ys t =
    let a = Any-from_list_any (λ (x : Claim). list_any (λ (y : Claim). excludes x y) ys) xs t in
    let b = Any-from_list_any (λ (y : Claim). excludes a.1 y) ys a.4 in
    let x : claim_at xs a.0 ≡ a.1 = get_or_default xs a.0 no_claim a.1 a.2 ∙ a.3 in
    let y : claim_at ys b.0 ≡ b.1 = get_or_default ys b.0 no_claim b.1 b.2 ∙ b.3 in (
      a.0,
      b.0,
      record {
        first = a.2;
        second = b.2;
        excluded = ap (λ (z : Claim). excludes z (claim_at ys b.0)) x ∙ ap (λ (z : Claim). excludes a.1 z) y ∙ b.4;
      },
    )

conflict_from : (xs ys : List Claim) (i j : ℕ) → Conflict xs ys i j → conflict xs ys ≡ true
conflict_from xs ys i j c =
    list_any_at (λ (x : Claim). list_any (λ (y : Claim). excludes x y) ys) xs i no_claim c.first
    (list_any_at (λ (y : Claim). excludes (claim_at xs i) y) ys j no_claim c.second c.excluded)

-- a claim of the queues, as a claim of its entry
record IsAt (entries : List Entry) (places : List ℕ) (claims : List Held) (p j : ℕ) : Type 0 where
  within : j < length (claims_at entries (held_at claims p).entry)
  at : slice_index places (held_at claims p).entry + j ≡ p
  is : held_at claims p ≡ held_of (held_at claims p).entry (claim_at (claims_at entries (held_at claims p).entry) j)

place_in_entry : (entries : List Entry) (places : List ℕ) (claims : List Held) (p : ℕ) → ArePlaced entries places claims → p < length claims
    → (j : ℕ) × IsAt entries places claims p j
place_in_entry entries places claims p are lt =
    let n : ℕ = (held_at claims p).entry in
    let start : ℕ = slice_index places n in
    let le : start ≤ p = are.behind p lt in
    let below : p < start + length (claims_at entries n) = are.before p lt in
    let within : p - start < length (claims_at entries n) = omega (arith, le, below) in
    let at : start + (p - start) ≡ p = omega (arith, le) in (
      p - start,
      record {
        within = within;
        at = at;
        is = ap (λ (i : ℕ). held_at claims i) (sym at) ∙ are.held n (p - start) (are.known p lt) within;
      },
    )

pub not_ended : (s : Stand) → is_waiting s ≡ true → is_ended s ≡ false
not_ended Waiting e = refl
not_ended Started e = refl
not_ended Ended e = absurd (both_ways false refl e)

-- of two claims of one cown that are not both shared, one of which stands before the other, the first is over where the second
-- does not wait and is not over
pub over_where_free : (s : Holders) (m p q : ℕ) → AreHeld s m → p < q → q < length s.claims → (held_at s.claims p).cown ≡ (held_at s.claims q).cown
    → ((held_at s.claims p).shared ≡ false) ⊎ ((held_at s.claims q).shared ≡ false)
    → q < place_of (cown_at s.cowns (held_at s.claims q).cown).first → over_at s.over q ≡ false → over_at s.over p ≡ true
over_where_free s m p q are lt below on one before stays =
    let k : ℕ = (held_at s.claims q).cown in
    let c : Cown = cown_at s.cowns k in
    let is : IsCown s.claims s.over k c = are.cowns k (are.cown_known q below) in
    let p_below : p < length s.claims = omega (arith, lt, below) in
    elim (cases_Bool (over_at s.over p)) [
      | inl t ↦ t
      | inr f ↦
          let p_holds : holds s.claims s.over k (place_of c.first) p ≡ true =
          holds_from s.claims s.over k (place_of c.first) p (record { cown = on; before = omega (arith, lt, before); stays = f }) in
          let q_holds : holds s.claims s.over k (place_of c.first) q ≡ true =
          holds_from s.claims s.over k (place_of c.first) q (record { cown = refl; before = before; stays = stays }) in
          let held : c.holders ≡ count_below (holds s.claims s.over k (place_of c.first)) (length s.claims) = is.held in
          let two : 1 < count_below (holds s.claims s.over k (place_of c.first)) (length s.claims) =
          count-two (holds s.claims s.over k (place_of c.first)) (length s.claims) p q lt below p_holds q_holds in
          let alone : c.shared ≡ false = elim one [
            | inl e ↦ sym (is.alike p p_below p_holds) ∙ e
            | inr e ↦ sym (is.alike q below q_holds) ∙ e
          ] in
          let few : c.holders ≤ 1 = is.alone alone in
          absurd (omega (arith, held, two, few))
    ]

-- no claim of an entry waits, where none is counted
pub goes_first : (s : Holders) (m q : ℕ) → AreHeld s m → (held_at s.claims q).entry < length s.waits → q < length s.claims → slice_index s.waits (held_at s.claims q).entry ≡ 0
    → q < place_of (cown_at s.cowns (held_at s.claims q).cown).first
goes_first s m q are known lt none =
    let n : ℕ = (held_at s.claims q).entry in
    elim (cases_lt q (place_of (cown_at s.cowns (held_at s.claims q).cown).first)) [
      | inl before ↦ before
      | inr behind ↦
          let some : 0 < count_below (waits_for s.claims s.cowns n) (length s.claims) =
          count-some (waits_for s.claims s.cowns n) (length s.claims) q lt (waits_from s.claims s.cowns n q (record { entry = refl; behind = behind })) in
          let is : slice_index s.waits n ≡ count_below (waits_for s.claims s.cowns n) (length s.claims) = are.waits n known in
          absurd (omega (arith, some, is, none))
    ]

pub is_clear : (entries : List Entry) (places : List ℕ) (s : Holders) (front n : ℕ) → AreQueued entries places s front → n < length entries
    → is_waiting (entry_at entries n).stand ≡ true → slice_index s.waits n ≡ 0 → IsClear entries n (claims_at entries n)
is_clear entries places s front n q lt waiting none m below t =
    let placed : ArePlaced entries places s.claims = q.placed in
    let c = conflict_tells (claims_at entries m) (claims_at entries n) t in
    let conflict : Conflict (claims_at entries m) (claims_at entries n) c.0 c.1 = c.2 in
    let a : Claim = claim_at (claims_at entries m) c.0 in
    let b : Claim = claim_at (claims_at entries n) c.1 in
    let i : ℕ = slice_index places m + c.0 in
    let j : ℕ = slice_index places n + c.1 in
    let m_lt : m < length entries = omega (arith, below, lt) in
    let i_is : held_at s.claims i ≡ held_of m a = placed.held m c.0 m_lt conflict.first in
    let j_is : held_at s.claims j ≡ held_of n b = placed.held n c.1 lt conflict.second in
    let i_entry : (held_at s.claims i).entry ≡ m = ap (λ (x : Held). x.entry) i_is in
    let j_entry : (held_at s.claims j).entry ≡ n = ap (λ (x : Held). x.entry) j_is in
    let j_within : slice_index places n + length (claims_at entries n) ≤ length s.claims = placed.within n lt in
    let i_within : slice_index places m + length (claims_at entries m) ≤ length s.claims = placed.within m m_lt in
    let first : c.0 < length (claims_at entries m) = conflict.first in
    let second : c.1 < length (claims_at entries n) = conflict.second in
    let j_lt : j < length s.claims = omega (arith, j_within, second) in
    let i_lt : i < length s.claims = omega (arith, i_within, first) in
    let order : i < j = elim (cases_order i j) [
      | inl same ↦ (let e : m ≡ n = sym i_entry ∙ ap (λ (x : ℕ). (held_at s.claims x).entry) same ∙ j_entry in absurd (omega (arith, e, below)))
      | inr other ↦ elim other [
        | inl before ↦ before
        | inr after ↦ (let le : (held_at s.claims j).entry ≤ (held_at s.claims i).entry = placed.order j i after i_lt in absurd (omega (arith, le, i_entry, j_entry, below)))
      ]
    ] in
    let tells = excludes_tells a b conflict.excluded in
    let on : (held_at s.claims i).cown ≡ (held_at s.claims j).cown = ap (λ (x : Held). x.cown) i_is ∙ tells.0 ∙ sym (ap (λ (x : Held). x.cown) j_is) in
    let one : ((held_at s.claims i).shared ≡ false) ⊎ ((held_at s.claims j).shared ≡ false) = elim tells.1 [
      | inl e ↦ inl (ap (λ (x : Held). x.shared) i_is ∙ e)
      | inr e ↦ inr (ap (λ (x : Held). x.shared) j_is ∙ e)
    ] in
    let kept : AreHeld s (length s.waits) = q.kept in
    let sizes : length s.waits ≡ length entries = q.sizes in
    let before : j < place_of (cown_at s.cowns (held_at s.claims j).cown).first =
    goes_first s (length s.waits) j kept (omega (arith, j_entry, sizes, lt)) j_lt (ap (λ (x : ℕ). slice_index s.waits x) j_entry ∙ none) in
    let stays : over_at s.over j ≡ false =
    q.over j j_lt ∙ ap (λ (x : ℕ). is_ended (entry_at entries x).stand) j_entry ∙ not_ended (entry_at entries n).stand waiting in
    let over : over_at s.over i ≡ true = over_where_free s (length s.waits) i j kept order j_lt on one before stays in
    ap (λ (x : ℕ). is_ended (entry_at entries x).stand) (sym i_entry) ∙ sym (q.over i i_lt) ∙ over

-- no claim before a claim of a clear entry excludes it, if it is not over
blocked : (entries : List Entry) (places : List ℕ) (s : Holders) (front n x q : ℕ) → AreQueued entries places s front → AllPairs (λ (a b : Claim). a.cown ≢ b.cown) (claims_at entries n)
    → IsClear entries n (claims_at entries n) → (held_at s.claims q).entry ≡ n → q < length s.claims → x < q → (held_at s.claims x).cown ≡ (held_at s.claims q).cown
    → ((held_at s.claims x).shared ≡ false) ⊎ ((held_at s.claims q).shared ≡ false) → over_at s.over x ≡ false → ⊥
blocked entries places s front n x q are apart clear of_n q_lt lt on one stays =
    let placed : ArePlaced entries places s.claims = are.placed in
    let x_lt : x < length s.claims = omega (arith, lt, q_lt) in
    let m : ℕ = (held_at s.claims x).entry in
    let i = place_in_entry entries places s.claims x placed x_lt in
    let j = place_in_entry entries places s.claims q placed q_lt in
    let i_at : IsAt entries places s.claims x i.0 = i.1 in
    let j_at : IsAt entries places s.claims q j.0 = j.1 in
    let j_within : j.0 < length (claims_at entries n) = subst (λ (e : ℕ). j.0 < length (claims_at entries e)) of_n j_at.within in
    let a : Claim = claim_at (claims_at entries m) i.0 in
    let b : Claim = claim_at (claims_at entries n) j.0 in
    let x_is : held_at s.claims x ≡ held_of m a = i_at.is in
    let q_is : held_at s.claims q ≡ held_of n b = subst (λ (e : ℕ). held_at s.claims q ≡ held_of e (claim_at (claims_at entries e) j.0)) of_n j_at.is in
    let cowns : a.cown ≡ b.cown = sym (ap (λ (h : Held). h.cown) x_is) ∙ on ∙ ap (λ (h : Held). h.cown) q_is in
    let le : m ≤ (held_at s.claims q).entry = placed.order x q lt q_lt in
    elim (cases_eq m n) [
      | inl same ↦
          let x_at : slice_index places m + i.0 ≡ x = i_at.at in
          let q_at : slice_index places (held_at s.claims q).entry + j.0 ≡ q = j_at.at in
          let starts : slice_index places m ≡ slice_index places (held_at s.claims q).entry = ap (λ (e : ℕ). slice_index places e) (same ∙ sym of_n) in
          let before : i.0 < j.0 = omega (arith, x_at, q_at, starts, lt) in
          let a_is : claim_at (claims_at entries n) i.0 ≡ a = ap (λ (e : ℕ). claim_at (claims_at entries e) i.0) (sym same) in
          apart i.0 j.0 no_claim before j_within (ap (λ (z : Claim). z.cown) a_is ∙ cowns)
      | inr other ↦
          let below : m < n = omega (arith, le, of_n, other) in
          let shared : (a.shared ≡ false) ⊎ (b.shared ≡ false) = elim one [
            | inl e ↦ inl (sym (ap (λ (h : Held). h.shared) x_is) ∙ e)
            | inr e ↦ inr (sym (ap (λ (h : Held). h.shared) q_is) ∙ e)
          ] in
          let conflicts : conflict (claims_at entries m) (claims_at entries n) ≡ true =
          conflict_from (claims_at entries m) (claims_at entries n) i.0 j.0
          (record { first = i_at.within; second = j_within; excluded = excludes_from a b cowns shared }) in
          both_ways (over_at s.over x) stays (are.over x x_lt ∙ clear m below conflicts)
    ]

-- a claim of a clear entry does not wait: the first one that waits, or one that holds the cown, would block it
no_wait_behind : (entries : List Entry) (places : List ℕ) (s : Holders) (front n q h : ℕ) → AreQueued entries places s front
    → AllPairs (λ (a b : Claim). a.cown ≢ b.cown) (claims_at entries n)
    → IsClear entries n (claims_at entries n) → q < length s.claims → (held_at s.claims q).entry ≡ n → h ≤ q
    → (cown_at s.cowns (held_at s.claims q).cown).first ≡ Some h → ⊥
no_wait_behind entries places s front n q h are apart clear q_lt of_n le first =
    let kept : AreHeld s (length s.waits) = are.kept in
    let settled : AreSettled s = are.settled in
    let k : ℕ = (held_at s.claims q).cown in
    let c : Cown = cown_at s.cowns k in
    let known : k < length s.cowns = kept.cown_known q q_lt in
    let is : IsCown s.claims s.over k c = kept.cowns k known in
    let at : place_of c.first ≡ h = ap place_of first in
    let h_lt : h < length s.claims = (is.first h first).0 in
    let h_on : (held_at s.claims h).cown ≡ k = (is.first h first).1 in
    let parts = or_parts (c.holders == 0) ((held_at s.claims h).shared && c.shared) (settled k known h first) in
    let some : c.holders ≢ 0 = eqb-false c.holders 0 parts.0 in
    let held : c.holders ≡ count_below (holds s.claims s.over k (place_of c.first)) (length s.claims) = is.held in
    let p = counted (holds s.claims s.over k (place_of c.first)) (length s.claims) (omega (arith, held, some)) in
    let p_holds : Holds s.claims s.over k (place_of c.first) p.0 = holds_tells s.claims s.over k (place_of c.first) p.0 p.2 in
    let p_before : p.0 < place_of c.first = p_holds.before in
    let p_lt : p.0 < q = omega (arith, p_before, at, le) in
    let blocks = blocked entries places s front n in
    elim (cases_Bool (held_at s.claims q).shared) [
      | inr alone ↦ blocks p.0 q are apart clear of_n q_lt p_lt p_holds.cown (inr alone) p_holds.stays
      | inl shared ↦ elim (cases_Bool (held_at s.claims h).shared) [
        | inr alone ↦
            let ne : h ≢ q = λ e. both_ways (held_at s.claims h).shared alone (ap (λ (i : ℕ). (held_at s.claims i).shared) e ∙ shared) in
            let stays : over_at s.over h ≡ false = false_from_ne_true (over_at s.over h) (λ t.
            (let before : h < place_of c.first = is.over_before h h_lt h_on t in omega (arith, before, at))) in
            blocks h q are apart clear of_n q_lt (omega (arith, le, ne)) h_on (inl alone) stays
        | inl also ↦
            let alone : c.shared ≡ false = elim (and_cases (held_at s.claims h).shared c.shared parts.1) [
              | inl e ↦ absurd (both_ways (held_at s.claims h).shared e also)
              | inr e ↦ e
            ] in
            blocks p.0 q are apart clear of_n q_lt p_lt p_holds.cown (inl (is.alike p.0 p.1 p.2 ∙ alone)) p_holds.stays
      ]
    ]

no_wait_at : (entries : List Entry) (places : List ℕ) (s : Holders) (front n q : ℕ) (o : Option ℕ) → AreQueued entries places s front
    → AllPairs (λ (a b : Claim). a.cown ≢ b.cown) (claims_at entries n)
    → IsClear entries n (claims_at entries n) → q < length s.claims → (held_at s.claims q).entry ≡ n → place_of o ≤ q
    → (cown_at s.cowns (held_at s.claims q).cown).first ≡ o → ⊥
no_wait_at entries places s front n q None are apart clear q_lt of_n le first =
    let kept : AreHeld s (length s.waits) = are.kept in
    let small : length s.claims + 1 < nowhere = kept.small in
    omega (arith, small, le, q_lt)
no_wait_at entries places s front n q (Some h) are apart clear q_lt of_n le first =
    no_wait_behind entries places s front n q h are apart clear q_lt of_n le first

pub is_free : (entries : List Entry) (places : List ℕ) (s : Holders) (front n : ℕ) → AreQueued entries places s front → n < length entries
    → AllPairs (λ (a b : Claim). a.cown ≢ b.cown) (claims_at entries n) → IsClear entries n (claims_at entries n) → slice_index s.waits n ≡ 0
is_free entries places s front n are lt apart clear =
    let kept : AreHeld s (length s.waits) = are.kept in
    let sizes : length s.waits ≡ length entries = are.sizes in
    let is : slice_index s.waits n ≡ count_below (waits_for s.claims s.cowns n) (length s.claims) = kept.waits n (omega (arith, sizes, lt)) in
    elim (cases_eq (slice_index s.waits n) 0) [
      | inl none ↦ none
      | inr some ↦
          let q = counted (waits_for s.claims s.cowns n) (length s.claims) (omega (arith, is, some)) in
          let w : Waits s.claims s.cowns n q.0 = waits_tells s.claims s.cowns n q.0 q.2 in
          absurd (no_wait_at entries places s front n q.0 (cown_at s.cowns (held_at s.claims q.0).cown).first are apart clear q.1 w.entry w.behind refl)
    ]
