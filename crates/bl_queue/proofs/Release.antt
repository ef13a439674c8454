-- A claim that holds its cown is over, and those that waited for it are granted it one after another.
use Rattle.std.proofs.Common.{◌≡◌, ℕ, ◌+◌, ◌-◌, ◌<◌, ◌≤◌, ◌^◌, ◌++◌, ◌∷◌, ◌==◌, if◌then◌else◌, [], Bool, true, false, Option, Some, None, List, length, set, slice_index, inl, inr, refl, sym, subst, ap, ◌∙◌, arith, length-set, get_or-set_same, append-nil, append_assoc, ne_eqb}
use Rattle.std.proofs.lemmas.Bool.{cases_eq}
use Rattle.bl_queue.specs.declared.cown.Held.{Held}
use Rattle.bl_queue.specs.declared.cown.Cown.{Cown}
use Rattle.bl_queue.specs.Holders.{Holders, count_below, holds, held_at, cown_at, next_at, place_of, nowhere, no_cown, may_hold, freed, taken, IsCown, IsSettled, AreFree, AreHeld, AreSettled, AreSettledBut, IsGrantable, IsAfter, is_holding, left_at, granted}
use Rattle.bl_queue.proofs.Count.{count-some, count-le, count-lt}
use Rattle.bl_queue.proofs.Tests.{holds_tells}
use Rattle.bl_queue.proofs.Leave.{left-held, left-settled}
use Rattle.bl_queue.proofs.Grant.{granted-held, granted-settled, waits_some, next-behind}

-- what is kept while claims are granted
pub record IsReleasing (start : Holders) (p k : ℕ) (now : Holders) : Type 0 where
  pub kept : AreHeld now (length now.waits)
  pub but : AreSettledBut now k
  pub known : k < length now.cowns
  pub room : length now.waits ≤ now.limit
  pub after : IsAfter (left_at start p) now

-- fewer hold a cown than there are claims
pub few_holders : (s : Holders) (m k : ℕ) → AreHeld s m → k < length s.cowns → (cown_at s.cowns k).holders ≤ length s.claims
few_holders s m k are lt =
    let is : IsCown s.claims s.over k (cown_at s.cowns k) = are.cowns k lt in
    let held : (cown_at s.cowns k).holders ≡ count_below (holds s.claims s.over k (place_of (cown_at s.cowns k).first)) (length s.claims) = is.held in
    let le : count_below (holds s.claims s.over k (place_of (cown_at s.cowns k).first)) (length s.claims) ≤ length s.claims =
    count-le (holds s.claims s.over k (place_of (cown_at s.cowns k).first)) (length s.claims) in
    omega (arith, held, le)

-- where a claim holds a cown, some do
pub some_holders : (s : Holders) (m p : ℕ) → AreHeld s m → p < length s.claims → is_holding s p ≡ true → 0 < (cown_at s.cowns (held_at s.claims p).cown).holders
some_holders s m p are lt t =
    let k : ℕ = (held_at s.claims p).cown in
    let is : IsCown s.claims s.over k (cown_at s.cowns k) = are.cowns k (are.cown_known p lt) in
    let held : (cown_at s.cowns k).holders ≡ count_below (holds s.claims s.over k (place_of (cown_at s.cowns k).first)) (length s.claims) = is.held in
    let some : 0 < count_below (holds s.claims s.over k (place_of (cown_at s.cowns k).first)) (length s.claims) =
    count-some (holds s.claims s.over k (place_of (cown_at s.cowns k).first)) (length s.claims) p lt t in
    omega (arith, held, some)

-- fewer entries are free than there are, where a claim of one waits
pub few_free : (waits free : List ℕ) (e : ℕ) → AreFree waits free → e < length waits → 0 < slice_index waits e → length free < length waits
few_free waits free e are lt some =
    let count : length free ≡ count_below (λ (n : ℕ). slice_index waits n == 0) (length waits) = are.count in
    let less : count_below (λ (n : ℕ). slice_index waits n == 0) (length waits) < length waits =
    count-lt (λ (n : ℕ). slice_index waits n == 0) (length waits) e lt (ne_eqb (slice_index waits e) 0 (λ z. omega (arith, z, some))) in
    omega (arith, count, less)

pub no_more_free : (waits free : List ℕ) → AreFree waits free → length free ≤ length waits
no_more_free waits free are =
    let count : length free ≡ count_below (λ (n : ℕ). slice_index waits n == 0) (length waits) = are.count in
    let le : count_below (λ (n : ℕ). slice_index waits n == 0) (length waits) ≤ length waits = count-le (λ (n : ℕ). slice_index waits n == 0) (length waits) in
    omega (arith, count, le)

pub releasing_start : (s : Holders) (p : ℕ) → AreHeld s (length s.waits) → AreSettled s → length s.waits ≤ s.limit → p < length s.claims → is_holding s p ≡ true
    → IsReleasing s p (held_at s.claims p).cown (left_at s p)
releasing_start s p are settled room lt t =
    let k : ℕ = (held_at s.claims p).cown in
    let known : k < length s.cowns = are.cown_known p lt in
    let c' : Cown = record (cown_at s.cowns k) { holders = (cown_at s.cowns k).holders - 1 } in
    let size : length (set s.cowns k c') ≡ length s.cowns = length-set s.cowns k c' in
    record {
      kept = left-held s (length s.waits) p are lt (holds_tells s.claims s.over k (place_of (cown_at s.cowns k).first) p t);
      but = left-settled s p settled;
      known = omega (arith, known, size);
      room = room;
      after = record { claims = refl; over = refl; limit = refl; cowns = refl; waits = refl; free = ([], sym (append-nil s.free)) };
    }

-- the free entries only grow
pub freed-more : (free : List ℕ) (n w : ℕ) → (more : List ℕ) × (freed free n w ≡ free ++ more)
freed-more free n w = by (w == 0)
  where
    by : (b : Bool) → (more : List ℕ) × ((if b then free ++ n ∷ [] else free) ≡ free ++ more)
    by true = (n ∷ [], refl)
    by false = ([], sym (append-nil free))

pub releasing_step : (s now : Holders) (p k h : ℕ) → IsReleasing s p k now → IsGrantable now (length now.waits) h → (held_at now.claims h).cown ≡ k
    → IsReleasing s p k (granted now h)
releasing_step s now p k h r g on =
    let b : Held = held_at now.claims h in
    let c' : Cown = taken (cown_at now.cowns b.cown) b.shared (next_at now.next h) in
    let w : ℕ = slice_index now.waits b.entry - 1 in
    let size : length (set now.cowns b.cown c') ≡ length now.cowns = length-set now.cowns b.cown c' in
    let waits : length (set now.waits b.entry w) ≡ length now.waits = length-set now.waits b.entry w in
    let known : k < length now.cowns = r.known in
    let room : length now.waits ≤ now.limit = r.room in
    let after : IsAfter (left_at s p) now = r.after in
    let free = after.free in
    let more = freed-more now.free b.entry w in
    record {
      kept = subst (λ (m : ℕ). AreHeld (granted now h) m) (sym waits) (granted-held now (length now.waits) h g);
      but = granted-settled now h k on r.but;
      known = omega (arith, known, size);
      room = omega (arith, room, waits);
      after = record {
        claims = after.claims;
        over = after.over;
        limit = after.limit;
        cowns = size ∙ after.cowns;
        waits = waits ∙ after.waits;
        free = (free.0 ++ more.0, more.1 ∙ ap (λ (l : List ℕ). l ++ more.0) free.1 ∙ append_assoc s.free free.0 more.0);
      };
    }

pub releasing_done : (s now : Holders) (p k : ℕ) → IsReleasing s p k now → IsSettled now.claims (cown_at now.cowns k) → AreSettled now
releasing_done s now p k r settled j lt =
    elim (cases_eq j k) [
      | inl is ↦ subst (λ (i : ℕ). IsSettled now.claims (cown_at now.cowns i)) (sym is) settled
      | inr ne ↦ r.but j lt ne
    ]

-- the first claim that waits stands later, after one was granted
pub first_later : (now : Holders) (m k h : ℕ) → IsGrantable now m h → (held_at now.claims h).cown ≡ k
    → place_of (cown_at now.cowns k).first < place_of (cown_at (granted now h).cowns k).first
first_later now m k h g on =
    let b : Held = held_at now.claims h in
    let kept : AreHeld now m = g.kept in
    let small : length now.claims + 1 < nowhere = kept.small in
    let before : place_of (cown_at now.cowns b.cown).first ≡ h = ap place_of g.first in
    let at : (cown_at (granted now h).cowns b.cown).first ≡ next_at now.next h =
    ap (λ (c : Cown). c.first) (get_or-set_same now.cowns b.cown (taken (cown_at now.cowns b.cown) b.shared (next_at now.next h)) no_cown (kept.cown_known h g.within)) in
    let at' : place_of (cown_at (granted now h).cowns b.cown).first ≡ place_of (next_at now.next h) = ap place_of at in
    let later : h < place_of (next_at now.next h) = next-behind now.claims now.next h (next_at now.next h) kept.links (omega (arith, small)) g.within refl in
    subst (λ (i : ℕ). place_of (cown_at now.cowns i).first < place_of (cown_at (granted now h).cowns i).first) on (omega (arith, before, at', later))

-- a place is found, or none: no more than one past all
pub place_le : (s : Holders) (m k : ℕ) → AreHeld s m → k < length s.cowns → place_of (cown_at s.cowns k).first ≤ nowhere
place_le s m k are lt = by (cown_at s.cowns k).first refl
  where
    by : (o : Option ℕ) → (cown_at s.cowns k).first ≡ o → place_of o ≤ nowhere
    by None e = omega arith
    by (Some h) e =
        let is : IsCown s.claims s.over k (cown_at s.cowns k) = are.cowns k lt in
        let small : length s.claims + 1 < nowhere = are.small in
        let below : h < length s.claims = (is.first h e).0 in
        omega (arith, small, below)

-- what the first claim that waits for a cown tells
pub first_within : (s : Holders) (m k h : ℕ) → AreHeld s m → k < length s.cowns → (cown_at s.cowns k).first ≡ Some h → h < length s.claims
first_within s m k h are lt e = let is : IsCown s.claims s.over k (cown_at s.cowns k) = are.cowns k lt in (is.first h e).0

pub is_grantable : (s : Holders) (k h : ℕ) → AreHeld s (length s.waits) → k < length s.cowns → (cown_at s.cowns k).first ≡ Some h
    → may_hold (cown_at s.cowns k) (held_at s.claims h).shared ≡ true → IsGrantable s (length s.waits) h × ((held_at s.claims h).cown ≡ k)
is_grantable s k h are lt e may =
    let is : IsCown s.claims s.over k (cown_at s.cowns k) = are.cowns k lt in
    let on : (held_at s.claims h).cown ≡ k = (is.first h e).1 in (
      record {
        kept = are;
        within = (is.first h e).0;
        first = ap (λ (i : ℕ). (cown_at s.cowns i).first) on ∙ e;
        may = ap (λ (i : ℕ). may_hold (cown_at s.cowns i) (held_at s.claims h).shared) on ∙ may;
        entries = omega arith;
      },
      on,
    )

-- what a grant needs
pub record CanGrant (s : Holders) (h : ℕ) : Type 0 where
  pub place : h < length s.claims
  pub next : length s.next ≡ length s.claims
  pub cown : (held_at s.claims h).cown < length s.cowns
  pub held : (cown_at s.cowns (held_at s.claims h).cown).holders + 1 < 2 ^ 32
  pub entry : (held_at s.claims h).entry < length s.waits
  pub waits : 0 < slice_index s.waits (held_at s.claims h).entry
  pub free : length s.free < s.limit

pub can_grant : (s : Holders) (h : ℕ) → IsGrantable s (length s.waits) h → length s.waits ≤ s.limit → CanGrant s h
can_grant s h g room =
    let kept : AreHeld s (length s.waits) = g.kept in
    let small : length s.claims + 1 < nowhere = kept.small in
    let cown : (held_at s.claims h).cown < length s.cowns = kept.cown_known h g.within in
    let few : (cown_at s.cowns (held_at s.claims h).cown).holders ≤ length s.claims = few_holders s (length s.waits) (held_at s.claims h).cown kept cown in
    let entry : (held_at s.claims h).entry < length s.waits = kept.entry_known h g.within in
    let waits : 0 < slice_index s.waits (held_at s.claims h).entry = waits_some s (length s.waits) h g in
    let free : length s.free < length s.waits = few_free s.waits s.free (held_at s.claims h).entry kept.free entry waits in
    record {
      place = g.within;
      next = kept.next;
      cown = cown;
      held = omega (arith, few, small);
      entry = entry;
      waits = waits;
      free = omega (arith, free, room);
    }

-- the measure falls
pub falls_later : (s now : Holders) (p k h : ℕ) → IsReleasing s p k now → IsGrantable now (length now.waits) h → (held_at now.claims h).cown ≡ k
    → nowhere - place_of (cown_at (granted now h).cowns k).first < nowhere - place_of (cown_at now.cowns k).first
falls_later s now p k h r g on =
    let moved : IsReleasing s p k (granted now h) = releasing_step s now p k h r g on in
    let later : place_of (cown_at now.cowns k).first < place_of (cown_at (granted now h).cowns k).first = first_later now (length now.waits) k h g on in
    let le : place_of (cown_at (granted now h).cowns k).first ≤ nowhere = place_le (granted now h) (length (granted now h).waits) k moved.kept moved.known in
    omega (arith, later, le)
