-- The stored counts are the numbers of claims that earlier ones block.
use Rattle.std.proofs.Common.{◌≡◌, ◌≢◌, ℕ, zero, suc, ◌<◌, ◌≤◌, ◌⊎◌, ◌&&◌, ◌||◌, ◌==◌, not, Bool, true, false, Option, Some, None, List, length, get_or, slice_index, AllPairs, inl, inr, refl, subst, ap, ◌∙◌, arith, eqb-true, eq-eqb}
use Rattle.std.specs.Prelude.{Contains, ◌+◌}
use Rattle.std.proofs.lemmas.List.{get_or_default}
use Rattle.std.proofs.lemmas.Bool.{cases_eq, cases_lt, cases_Bool, both_ways, and_parts, and_from, and_cases, and_left, and_right, not-true, not_from_false, or_cases, or_parts, false_from_ne_true, eqb-false}
use Rattle.bl_queue.specs.declared.claim.Claim.{Claim}
use Rattle.bl_queue.specs.declared.cown.Held.{Held}
use Rattle.bl_queue.specs.declared.cown.Cown.{Cown}
use Rattle.bl_queue.specs.Counts.{blocks, is_blocked_below, is_kept_back, CountsTell}
use Rattle.bl_queue.specs.Entries.{Entry, no_entry, entry_at, is_waiting, is_ended, MayStart}
use Rattle.bl_queue.specs.Holders.{Holders, count_below, holds, waits_for, held_at, over_at, cown_at, place_of, nowhere, IsCown, AreFree, AreHeld, AreSettled}
use Rattle.bl_queue.specs.Queued.{claims_at, waits_at, AreQueued, IsKept, Roster}
use Rattle.bl_queue.proofs.Count.{same_bool, count-same, counted}
use Rattle.bl_queue.proofs.Ready.{is_clear, is_free, over_where_free}
use Rattle.bl_queue.proofs.Tests.{Holds, holds_tells, Waits, waits_tells, waits_from}

record Blocks (claims : List Held) (over : List Bool) (q p : ℕ) : Type 0 where
  cown : (held_at claims q).cown ≡ (held_at claims p).cown
  alone : ((held_at claims q).shared ≡ false) ⊎ ((held_at claims p).shared ≡ false)
  stays : over_at over q ≡ false

blocks_tells : (claims : List Held) (over : List Bool) (q p : ℕ) → blocks claims over q p ≡ true → Blocks claims over q p
blocks_tells claims over q p t =
    let a = and_parts ((held_at claims q).cown == (held_at claims p).cown) (not ((held_at claims q).shared && (held_at claims p).shared) && not (over_at over q)) t in
    let b = and_parts (not ((held_at claims q).shared && (held_at claims p).shared)) (not (over_at over q)) a.1 in
    record {
      cown = eqb-true (held_at claims q).cown (held_at claims p).cown a.0;
      alone = and_cases (held_at claims q).shared (held_at claims p).shared (not-true ((held_at claims q).shared && (held_at claims p).shared) b.0);
      stays = not-true (over_at over q) b.1;
    }

blocks_from : (claims : List Held) (over : List Bool) (q p : ℕ) → Blocks claims over q p → blocks claims over q p ≡ true
blocks_from claims over q p h =
    and_from ((held_at claims q).cown == (held_at claims p).cown) (not ((held_at claims q).shared && (held_at claims p).shared) && not (over_at over q))
    (eq-eqb (held_at claims q).cown (held_at claims p).cown h.cown)
    (and_from (not ((held_at claims q).shared && (held_at claims p).shared)) (not (over_at over q))
    (not_from_false ((held_at claims q).shared && (held_at claims p).shared)
    (elim h.alone [ inl e ↦ and_left (held_at claims q).shared (held_at claims p).shared e | inr e ↦ and_right (held_at claims q).shared (held_at claims p).shared e ]))
    (not_from_false (over_at over q) h.stays))

or_first : (a b : Bool) → a ≡ true → (a || b) ≡ true
or_first true b h = refl
or_first false b h = absurd (both_ways false refl h)

or_second : (a b : Bool) → b ≡ true → (a || b) ≡ true
or_second true b h = refl
or_second false b h = h

blocked_from : (claims : List Held) (over : List Bool) (p m q : ℕ) → q < m → Blocks claims over q p → is_blocked_below claims over p m ≡ true
blocked_from claims over p zero q lt h = absurd (omega (arith, lt))
blocked_from claims over p (suc m) q lt h =
    elim (cases_eq q m) [
      | inl is ↦ or_first (blocks claims over m p) (is_blocked_below claims over p m) (blocks_from claims over m p (subst (λ (i : ℕ). Blocks claims over i p) is h))
      | inr ne ↦ or_second (blocks claims over m p) (is_blocked_below claims over p m) (blocked_from claims over p m q (omega (arith, lt, ne)) h)
    ]

record Blocker (claims : List Held) (over : List Bool) (p m : ℕ) : Type 0 where
  place : ℕ
  below : place < m
  does : Blocks claims over place p

blocked_tells : (claims : List Held) (over : List Bool) (p m : ℕ) → is_blocked_below claims over p m ≡ true → Blocker claims over p m
blocked_tells claims over p zero t = absurd (both_ways false refl t)
blocked_tells claims over p (suc m) t =
    elim (or_cases (blocks claims over m p) (is_blocked_below claims over p m) t) [
      | inl e ↦ record { place = m; below = omega arith; does = blocks_tells claims over m p e }
      | inr e ↦
          let b : Blocker claims over p m = blocked_tells claims over p m e in
          record { place = b.place; below = (let below : b.place < m = b.below in omega (arith, below)); does = b.does }
    ]

-- a claim at or behind the first one that waits for its cown is blocked: by that one, or by one that holds the cown
behind_first : (s : Holders) (m p h : ℕ) → AreHeld s m → AreSettled s → p < length s.claims → h ≤ p → (cown_at s.cowns (held_at s.claims p).cown).first ≡ Some h
    → Blocker s.claims s.over p p
behind_first s m p h kept settled p_lt le first =
    let k : ℕ = (held_at s.claims p).cown in
    let c : Cown = cown_at s.cowns k in
    let known : k < length s.cowns = kept.cown_known p p_lt in
    let is : IsCown s.claims s.over k c = kept.cowns k known in
    let at : place_of c.first ≡ h = ap place_of first in
    let h_lt : h < length s.claims = (is.first h first).0 in
    let h_on : (held_at s.claims h).cown ≡ k = (is.first h first).1 in
    let parts = or_parts (c.holders == 0) ((held_at s.claims h).shared && c.shared) (settled k known h first) in
    let some : c.holders ≢ 0 = eqb-false c.holders 0 parts.0 in
    let held : c.holders ≡ count_below (holds s.claims s.over k (place_of c.first)) (length s.claims) = is.held in
    let q = counted (holds s.claims s.over k (place_of c.first)) (length s.claims) (omega (arith, held, some)) in
    let q_holds : Holds s.claims s.over k (place_of c.first) q.0 = holds_tells s.claims s.over k (place_of c.first) q.0 q.2 in
    let q_before : q.0 < place_of c.first = q_holds.before in
    let q_lt : q.0 < p = omega (arith, q_before, at, le) in
    elim (cases_Bool (held_at s.claims p).shared) [
      | inr alone ↦ record { place = q.0; below = q_lt; does = record { cown = q_holds.cown; alone = inr alone; stays = q_holds.stays } }
      | inl shared ↦ elim (cases_Bool (held_at s.claims h).shared) [
        | inr alone ↦
            let ne : h ≢ p = λ e. both_ways (held_at s.claims h).shared alone (ap (λ (i : ℕ). (held_at s.claims i).shared) e ∙ shared) in
            let stays : over_at s.over h ≡ false = false_from_ne_true (over_at s.over h) (λ t.
            (let before : h < place_of c.first = is.over_before h h_lt h_on t in omega (arith, before, at))) in
            record { place = h; below = omega (arith, le, ne); does = record { cown = h_on; alone = inl alone; stays = stays } }
        | inl also ↦
            let alone : c.shared ≡ false = elim (and_cases (held_at s.claims h).shared c.shared parts.1) [
              | inl e ↦ absurd (both_ways (held_at s.claims h).shared e also)
              | inr e ↦ e
            ] in
            record { place = q.0; below = q_lt; does = record { cown = q_holds.cown; alone = inl (is.alike q.0 q.1 q.2 ∙ alone); stays = q_holds.stays } }
      ]
    ]

behind_some : (s : Holders) (m p : ℕ) (o : Option ℕ) → AreHeld s m → AreSettled s → p < length s.claims → place_of o ≤ p
    → (cown_at s.cowns (held_at s.claims p).cown).first ≡ o → Blocker s.claims s.over p p
behind_some s m p None kept settled p_lt le first = let small : length s.claims + 1 < nowhere = kept.small in absurd (omega (arith, small, le, p_lt))
behind_some s m p (Some h) kept settled p_lt le first = behind_first s m p h kept settled p_lt le first

module _ (entries : List Entry) (places : List ℕ) (s : Holders) (front : ℕ) (are : AreQueued entries places s front) where
  -- a claim of an entry that has not ended waits exactly where an earlier one blocks it
  waits-blocked : (n p : ℕ) → is_ended (entry_at entries n).stand ≡ false → p < length s.claims → waits_for s.claims s.cowns n p ≡ is_kept_back s.claims s.over n p
  waits-blocked n p unended lt = same_bool (waits_for s.claims s.cowns n p) (is_kept_back s.claims s.over n p) to from
    where
      to : waits_for s.claims s.cowns n p ≡ true → is_kept_back s.claims s.over n p ≡ true
      to t =
          let w : Waits s.claims s.cowns n p = waits_tells s.claims s.cowns n p t in
          let b : Blocker s.claims s.over p p = behind_some s (length s.waits) p (cown_at s.cowns (held_at s.claims p).cown).first are.kept are.settled lt w.behind refl in
          and_from ((held_at s.claims p).entry == n) (is_blocked_below s.claims s.over p p) (eq-eqb (held_at s.claims p).entry n w.entry)
          (blocked_from s.claims s.over p p b.place b.below b.does)

      from : is_kept_back s.claims s.over n p ≡ true → waits_for s.claims s.cowns n p ≡ true
      from t =
          let parts = and_parts ((held_at s.claims p).entry == n) (is_blocked_below s.claims s.over p p) t in
          let entry : (held_at s.claims p).entry ≡ n = eqb-true (held_at s.claims p).entry n parts.0 in
          let b : Blocker s.claims s.over p p = blocked_tells s.claims s.over p p parts.1 in
          let stays : over_at s.over p ≡ false = are.over p lt ∙ ap (λ (x : ℕ). is_ended (entry_at entries x).stand) entry ∙ unended in
          elim (cases_lt p (place_of (cown_at s.cowns (held_at s.claims p).cown).first)) [
            | inl before ↦ absurd (both_ways (over_at s.over b.place) b.does.stays
                (over_where_free s (length s.waits) b.place p are.kept b.below lt b.does.cown b.does.alone before stays))
            | inr behind ↦ waits_from s.claims s.cowns n p (record { entry = entry; behind = behind })
          ]

  counts-tell : (n : ℕ) → n < length entries → is_ended (entry_at entries n).stand ≡ false → slice_index s.waits n ≡ count_below (is_kept_back s.claims s.over n) (length s.claims)
  counts-tell n lt unended =
      let sizes : length s.waits ≡ length entries = are.sizes in
      are.kept.waits n (omega (arith, sizes, lt))
      ∙ count-same (waits_for s.claims s.cowns n) (is_kept_back s.claims s.over n) (length s.claims) (λ p below. waits-blocked n p unended below)

  -- what waits and is listed stands at the front or behind it
  listed-behind : (i : ℕ) → waits_at entries s.free i ≡ true → front ≤ i
  listed-behind i t = elim (cases_lt i front) [
    | inl before ↦ absurd (both_ways (waits_at entries s.free i) (are.passed i before) t)
    | inr behind ↦ behind
  ]

  ready-listed : (n : ℕ) → AllPairs (λ (a b : Claim). a.cown ≢ b.cown) (claims_at entries n) → MayStart entries n
      → (i : ℕ) × (front ≤ i) × (i < length s.free) × (slice_index s.free i ≡ n)
  ready-listed n apart may =
      let sizes : length s.waits ≡ length entries = are.sizes in
      let there : n < length entries = may.there in
      let free : AreFree s.waits s.free = are.kept.free in
      let on : Contains s.free n = free.listed n (omega (arith, sizes, there)) (is_free entries places s front n are may.there apart may.clear) in
      let here : slice_index s.free on.0 ≡ n = in_range s.free on.0 n on.1 ∙ on.2 in
      (on.0, listed-behind on.0 (ap (λ (m : ℕ). is_waiting (entry_at entries m).stand) here ∙ may.waits), on.1, here)
    where
      in_range : (xs : List ℕ) (i d : ℕ) → i < length xs → get_or xs i 0 ≡ get_or xs i d
      in_range xs i d lt = get_or_default xs i 0 d lt

  listed-ready : (i : ℕ) → i < length s.free → waits_at entries s.free i ≡ true → (front ≤ i) × MayStart entries (slice_index s.free i)
  listed-ready i lt t =
      let right = are.kept.free.right i lt in
      let sizes : length s.waits ≡ length entries = are.sizes in
      let known : slice_index s.free i < length s.waits = right.0 in
      let there : slice_index s.free i < length entries = omega (arith, sizes, known) in (
        listed-behind i t,
        record { there = there; waits = t; clear = is_clear entries places s front (slice_index s.free i) are there t right.1 },
      )

pub counts-kept : (cowns limit : ℕ) (r : Roster) → IsKept cowns limit r → CountsTell r.entries r.holders r.front
counts-kept cowns limit r k = record {
  counts = counts-tell r.entries r.places r.holders r.front k.queued;
  listed = λ n may. ready-listed r.entries r.places r.holders r.front k.queued n (k.right.each n no_entry may.there).apart may;
  ready = listed-ready r.entries r.places r.holders r.front k.queued;
}
