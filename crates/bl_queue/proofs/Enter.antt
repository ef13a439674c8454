-- An entry enters with its claims, one after another.
use Rattle.std.proofs.Common.{◌≡◌, ℕ, ◌+◌, ◌<◌, ◌≤◌, ◌*◌, ◌^◌, ◌++◌, ◌∷◌, ◌==◌, [], if◌then◌else◌, IfSome, Bool, true, false, Option, Some, None, List, length, get_or, take, map, replicate, slice_index, Contains, inl, inr, refl, sym, subst, ap, ◌∙◌, arith, length-set, append-nil, append_assoc, eqb-true}
use Rattle.std.proofs.lemmas.Bool.{eqb-false}
use Rattle.std.proofs.lemmas.List.{length_push, length-append, length-map, length-take-le, take_more, map_push, replicate_more, get_or_push, get_or_append_left, take_all}
use Rattle.bl_queue.specs.declared.claim.Claim.{Claim}
use Rattle.bl_queue.specs.declared.cown.Held.{Held}
use Rattle.bl_queue.specs.Holders.{Holders, count_below, waits_for, held_at, cown_at, nowhere, freed, held_of, is_held_at_once, joined_cown, IsCown, AreFree, AreHeld, AreSettled, HasEntered, joined, listed}
use Rattle.bl_queue.proofs.Count.{count-none, count-push, count-push_not}
use Rattle.bl_queue.proofs.Places.{each-push, push_cases, contains_more, contains_last}
use Rattle.bl_queue.proofs.Tests.{not_waiting}
use Rattle.bl_queue.specs.Claims.{most_claims, AreClaims}
use Rattle.bl_queue.specs.Queues.{most_entries}
use Rattle.bl_queue.proofs.Release.{few_holders, freed-more}
use Rattle.bl_queue.proofs.Join.{IsJoinable, joined-held, joined-waits, joined-settled}

-- what is kept while the claims of an entry come
pub record IsEntering (start : Holders) (given : List Claim) (i waiting : ℕ) (now : Holders) : Type 0 where
  pub kept : AreHeld now (length start.waits + 1)
  pub settled : AreSettled now
  pub claims : now.claims ≡ start.claims ++ map (held_of (length start.waits)) (take i given)
  pub over : now.over ≡ start.over ++ replicate i false
  pub limit : now.limit ≡ start.limit
  pub cowns : length now.cowns ≡ length start.cowns
  pub waits : now.waits ≡ start.waits
  pub free : now.free ≡ start.free
  pub count : waiting ≡ count_below (waits_for now.claims now.cowns (length start.waits)) (length now.claims)

wider : (s : Holders) (m : ℕ) → AreHeld s m → AreHeld s (m + 1)
wider s m are = record {
  over = are.over;
  next = are.next;
  small = are.small;
  cown_known = are.cown_known;
  entry_known = λ p lt. (let e : (held_at s.claims p).entry < m = are.entry_known p lt in omega (arith, e));
  links = are.links;
  cowns = are.cowns;
  waits = are.waits;
  free = are.free;
}

pub entering_start : (s : Holders) (claims : List Claim) → AreHeld s (length s.waits) → AreSettled s → IsEntering s claims 0 0 s
entering_start s claims are settled = record {
  kept = wider s (length s.waits) are;
  settled = settled;
  claims = sym (append-nil s.claims);
  over = sym (append-nil s.over);
  limit = refl;
  cowns = refl;
  waits = refl;
  free = refl;
  count = sym (count-none (waits_for s.claims s.cowns (length s.waits)) (length s.claims)
      (λ p lt. not_waiting s.claims s.cowns (length s.waits) p (λ w.
      (let e : (held_at s.claims p).entry < length s.waits = are.entry_known p lt in
      let is : (held_at s.claims p).entry ≡ length s.waits = w.entry in
      omega (arith, e, is)))));
}

pub entering_step : (s now : Holders) (claims : List Claim) (i waits waits' : ℕ) (c : Claim) → IsEntering s claims i waits now
    → i < length claims → c ≡ get_or claims i c → c.cown < length now.cowns → length now.claims + 2 < nowhere
    → waits' ≡ waits + (if is_held_at_once (cown_at now.cowns c.cown) c.shared then 0 else 1)
    → IsEntering s claims (i + 1) waits' (joined now (held_of (length s.waits) c))
entering_step s now claims i waits waits' c e lt is known small count =
    let b : Held = held_of (length s.waits) c in
    let entry : length s.waits ≡ length now.waits = ap length (sym e.waits) in
    let kept : AreHeld now (length s.waits + 1) = e.kept in
    let g : IsJoinable now b = record {
      kept = subst (λ (m : ℕ). AreHeld now (m + 1)) entry kept;
      cown = known;
      entry = entry;
      small = small;
    } in
    let more : map (held_of (length s.waits)) (take (i + 1) claims) ≡ map (held_of (length s.waits)) (take i claims) ++ b ∷ [] =
    ap (map (held_of (length s.waits))) (take_more claims i c lt) ∙ map_push (held_of (length s.waits)) (take i claims) (get_or claims i c)
    ∙ ap (λ (x : Claim). map (held_of (length s.waits)) (take i claims) ++ held_of (length s.waits) x ∷ []) (sym is) in
    record {
      kept = subst (λ (m : ℕ). AreHeld (joined now b) (m + 1)) (sym entry) (joined-held now b g);
      settled = joined-settled now b g e.settled;
      claims = ap (λ (l : List Held). l ++ b ∷ []) e.claims ∙ append_assoc s.claims (map (held_of (length s.waits)) (take i claims)) (b ∷ []) ∙ ap (λ (l : List Held). s.claims ++ l) (sym more);
      over = ap (λ (l : List Bool). l ++ false ∷ []) e.over ∙ append_assoc s.over (replicate i false) (false ∷ []) ∙ ap (λ (l : List Bool). s.over ++ l) (replicate_more i false);
      limit = e.limit;
      cowns = length-set now.cowns b.cown (joined_cown (cown_at now.cowns b.cown) b.shared (length now.claims)) ∙ e.cowns;
      waits = e.waits;
      free = e.free;
      count = count ∙ ap (λ (x : ℕ). x + (if is_held_at_once (cown_at now.cowns c.cown) c.shared then 0 else 1)) e.count ∙ sym (joined-waits now b g);
    }

listed-free : (waits free : List ℕ) (w : ℕ) → AreFree waits free → AreFree (waits ++ w ∷ []) (freed free (length waits) w)
listed-free waits free w are = by (w == 0) refl
  where
    size : length (waits ++ w ∷ []) ≡ length waits + 1
    size = length_push waits w

    at : slice_index (waits ++ w ∷ []) (length waits) ≡ w
    at = get_or_push waits w 0 (length waits) refl

    old : (i : ℕ) → i < length waits → slice_index (waits ++ w ∷ []) i ≡ slice_index waits i
    old i lt = get_or_append_left waits (w ∷ []) 0 i lt

    was : (i : ℕ) → i < length free → (slice_index free i < length (waits ++ w ∷ [])) × (slice_index (waits ++ w ∷ []) (slice_index free i) ≡ 0)
    was i lt =
        let r : slice_index free i < length waits = (are.right i lt).0 in
        (omega (arith, r, size), old (slice_index free i) r ∙ (are.right i lt).1)

    tests : (i : ℕ) → i < length waits → (slice_index (waits ++ w ∷ []) i == 0) ≡ (slice_index waits i == 0)
    tests i lt = ap (λ (x : ℕ). x == 0) (old i lt)

    by : (b : Bool) → (w == 0) ≡ b → AreFree (waits ++ w ∷ []) (if b then free ++ length waits ∷ [] else free)
    by true t = record {
      listed = λ i lt z. elim (push_cases waits w i lt) [
        | inl below ↦ contains_more free (length waits) i (are.listed i below (sym (old i below) ∙ z))
        | inr is ↦ subst (λ (j : ℕ). Contains (free ++ length waits ∷ []) j) (sym is) (contains_last free (length waits))
      ];
      right = each-push (λ (i x : ℕ). (x < length (waits ++ w ∷ [])) × (slice_index (waits ++ w ∷ []) x ≡ 0)) free (length waits) 0 was
          (omega (arith, size), at ∙ eqb-true w 0 t);
      count = length_push free (length waits) ∙ ap (λ (x : ℕ). x + 1) are.count
          ∙ sym (count-push (λ (i : ℕ). slice_index (waits ++ w ∷ []) i == 0) (λ (i : ℕ). slice_index waits i == 0) (length waits) (length (waits ++ w ∷ [])) size
          (ap (λ (x : ℕ). x == 0) at ∙ t) tests);
    }
    by false t = record {
      listed = λ i lt z. elim (push_cases waits w i lt) [
        | inl below ↦ are.listed i below (sym (old i below) ∙ z)
        | inr is ↦ absurd (eqb-false w 0 t (sym at ∙ ap (λ (j : ℕ). slice_index (waits ++ w ∷ []) j) (sym is) ∙ z))
      ];
      right = was;
      count = are.count
          ∙ sym (count-push_not (λ (i : ℕ). slice_index (waits ++ w ∷ []) i == 0) (λ (i : ℕ). slice_index waits i == 0) (length waits) (length (waits ++ w ∷ [])) size
          (ap (λ (x : ℕ). x == 0) at ∙ t) tests);
    }

pub listed_held : (s : Holders) (w : ℕ) → AreHeld s (length s.waits + 1) → w ≡ count_below (waits_for s.claims s.cowns (length s.waits)) (length s.claims)
    → AreHeld (listed s w) (length (listed s w).waits)
listed_held s w are count =
    let size : length (s.waits ++ w ∷ []) ≡ length s.waits + 1 = length_push s.waits w in
    record {
      over = are.over;
      next = are.next;
      small = are.small;
      cown_known = are.cown_known;
      entry_known = λ p lt. (let e : (held_at s.claims p).entry < length s.waits + 1 = are.entry_known p lt in omega (arith, e, size));
      links = are.links;
      cowns = are.cowns;
      waits = each-push (λ (n x : ℕ). x ≡ count_below (waits_for s.claims s.cowns n) (length s.claims)) s.waits w 0 are.waits count;
      free = listed-free s.waits s.free w are.free;
    }

pub entered_held : (s now : Holders) (claims : List Claim) (i waits : ℕ) → IsEntering s claims i waits now → AreHeld (listed now waits) (length (listed now waits).waits)
entered_held s now claims i waits e =
    let entry : length s.waits ≡ length now.waits = ap length (sym e.waits) in
    listed_held now waits (subst (λ (m : ℕ). AreHeld now (m + 1)) entry e.kept)
    (e.count ∙ ap (λ (m : ℕ). count_below (waits_for now.claims now.cowns m) (length now.claims)) entry)

pub has_entered : (s now : Holders) (claims : List Claim) (i waits : ℕ) → IsEntering s claims i waits now → i ≡ length claims → HasEntered s (listed now waits) claims
has_entered s now claims i waits e all =
    let entry : length now.waits ≡ length s.waits = ap length e.waits in
    let more = freed-more now.free (length now.waits) waits in
    record {
      claims = e.claims ∙ ap (λ (l : List Claim). s.claims ++ map (held_of (length s.waits)) l) (take_all i claims (omega (arith, all)));
      over = e.over ∙ ap (λ (n : ℕ). s.over ++ replicate n false) all;
      limit = e.limit;
      cowns = e.cowns;
      waits = length_push now.waits waits ∙ ap (λ (n : ℕ). n + 1) entry;
      free = (more.0, more.1 ∙ ap (λ (l : List ℕ). l ++ more.0) e.free);
    }

-- what a further claim needs
pub record CanJoin (s : Holders) (b : Held) : Type 0 where
  pub over : length s.over ≡ length s.claims
  pub next : length s.next ≡ length s.claims
  pub cown : b.cown < length s.cowns
  pub held : (cown_at s.cowns b.cown).holders + 1 < 2 ^ 32
  pub last : IfSome (cown_at s.cowns b.cown).last (λ l. l < length s.claims)
  pub room : length s.claims < most_claims * s.limit
  pub small : length s.claims + 2 < nowhere

pub can_join : (s now : Holders) (given : List Claim) (i waiting : ℕ) (c : Claim) → IsEntering s given i waiting now → AreClaims (length s.cowns) given
    → i < length given → c ≡ get_or given i c → length s.waits < s.limit → length s.claims ≤ most_claims * length s.waits → s.limit ≤ most_entries
    → CanJoin now (held_of (length s.waits) c)
can_join s now given i waiting c e right lt is room places most =
    let kept : AreHeld now (length s.waits + 1) = e.kept in
    let cowns : length now.cowns ≡ length s.cowns = e.cowns in
    let limit : now.limit ≡ s.limit = e.limit in
    let few : length given ≤ most_claims = right.few in
    let count : length now.claims ≡ length s.claims + i =
    ap length e.claims ∙ length-append s.claims (map (held_of (length s.waits)) (take i given))
    ∙ ap (λ (n : ℕ). length s.claims + n) (length-map (take i given) (held_of (length s.waits)) ∙ length-take-le i given (omega (arith, lt))) in
    let known : c.cown < length s.cowns = subst (λ (x : Claim). x.cown < length s.cowns) (sym is) (right.known i c lt) in
    let known_now : c.cown < length now.cowns = omega (arith, known, cowns) in
    let holders : (cown_at now.cowns c.cown).holders ≤ length now.claims = few_holders now (length s.waits + 1) c.cown kept known_now in
    record {
      over = kept.over;
      next = kept.next;
      cown = known_now;
      held = omega (arith, holders, count, few, lt, places, room, most);
      last = last_in (cown_at now.cowns c.cown).last
          (λ l at. (let own : IsCown now.claims now.over c.cown (cown_at now.cowns c.cown) = kept.cowns c.cown known_now in (own.last_on l at).0));
      room = omega (arith, count, few, lt, places, room, limit);
      small = omega (arith, count, few, lt, places, room, most);
    }
  where
    last_in : (o : Option ℕ) → ((l : ℕ) → o ≡ Some l → l < length now.claims) → IfSome o (λ l. l < length now.claims)
    last_in None at = tt
    last_in (Some l) at = at l refl
