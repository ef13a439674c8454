-- An entry enters, starts and ends: the claims stay those of the entries.
use Rattle.std.proofs.Common.{◌≡◌, ◌≢◌, ℕ, ◌+◌, ◌-◌, ◌*◌, ◌<◌, ◌≤◌, ◌⊎◌, ◌++◌, ◌∷◌, [], Bool, true, false, List, length, set, map, replicate, slice_index, slice_index_or, AllPairs, inl, inr, refl, sym, subst, ap, ◌∙◌, arith, length-set, length-append, get_or-set_same, get_or-set_other, get_or-append-add, append-nil, append_assoc}
use Rattle.std.proofs.lemmas.Bool.{cases_eq, cases_lt, both_ways}
use Rattle.std.proofs.lemmas.List.{length_push, length-map, get_or_push, get_or_append_left, get_or_default, get_or-map, get_or-replicate}
use Rattle.bl_queue.specs.declared.claim.Claim.{Claim}
use Rattle.bl_queue.specs.declared.cown.Held.{Held}
use Rattle.bl_queue.specs.declared.cown.Cown.{Cown}
use Rattle.bl_queue.specs.declared.entry.Stand.{Stand}
use Rattle.bl_queue.specs.declared.entry.Stand.TheVariants.{Started, Ended}
use Rattle.bl_queue.specs.Claims.{most_claims}
use Rattle.bl_queue.specs.Entries.{Entry, entry_at, no_entry, is_waiting, is_ended, entered, standing, MayStart}
use Rattle.bl_queue.specs.Holders.{Holders, held_at, held_of, over_at, cown_at, place_of, no_held, is_holding, left_at, AreFree, AreHeld, AreSettled, IsAfter, IsEnding, HasEntered}
use Rattle.bl_queue.specs.Queued.{no_claim, claims_at, waits_at, moved, longer, ArePlaced, AreQueued, IsFront}
use Rattle.bl_queue.proofs.Places.{field-set, push_cases}
use Rattle.bl_queue.proofs.Tests.{holds_from}
use Rattle.bl_queue.proofs.Ready.{not_ended, goes_first, is_free}

all_passed : (entries : List Entry) (free : List ℕ) (from front : ℕ) → IsFront entries free from front → ((i : ℕ) → i < from → waits_at entries free i ≡ false)
    → (i : ℕ) → i < front → waits_at entries free i ≡ false
all_passed entries free from front is before i lt =
    elim (cases_lt i from) [ inl less ↦ before i less | inr more ↦ is.passed i more lt ]

claims_moved : (entries : List Entry) (n m : ℕ) (stand : Stand) → claims_at (moved entries n stand) m ≡ claims_at entries m
claims_moved entries n m stand = field-set (λ (e : Entry). e.claims) entries n m (standing (entry_at entries n) stand) no_entry refl

stand_here : (entries : List Entry) (n m : ℕ) (stand : Stand) → n < length entries → m ≡ n → (entry_at (moved entries n stand) m).stand ≡ stand
stand_here entries n m stand lt is =
    ap (λ (i : ℕ). (entry_at (moved entries n stand) i).stand) is
    ∙ ap (λ (e : Entry). e.stand) (get_or-set_same entries n (standing (entry_at entries n) stand) no_entry lt)

stand_other : (entries : List Entry) (n m : ℕ) (stand : Stand) → m ≢ n → (entry_at (moved entries n stand) m).stand ≡ (entry_at entries m).stand
stand_other entries n m stand ne = ap (λ (e : Entry). e.stand) (get_or-set_other entries n m (standing (entry_at entries n) stand) no_entry ne)

placed_moved : (entries : List Entry) (places : List ℕ) (claims : List Held) (n : ℕ) (stand : Stand) → ArePlaced entries places claims → ArePlaced (moved entries n stand) places claims
placed_moved entries places claims n stand are =
    let size : length (moved entries n stand) ≡ length entries = length-set entries n (standing (entry_at entries n) stand) in
    let same : (m : ℕ) → claims_at entries m ≡ claims_at (moved entries n stand) m = λ m. sym (claims_moved entries n m stand) in
    record {
      sizes = are.sizes ∙ sym size;
      few = subst (λ (k : ℕ). length claims ≤ most_claims * k) (sym size) are.few;
      within = λ m lt. subst (λ (cs : List Claim). slice_index places m + length cs ≤ length claims) (same m) (are.within m (omega (arith, lt, size)));
      held = λ m j lt below.
          subst (λ (cs : List Claim). held_at claims (slice_index places m + j) ≡ held_of m (slice_index_or cs j no_claim)) (same m)
          (are.held m j (omega (arith, lt, size)) (subst (λ (cs : List Claim). j < length cs) (sym (same m)) below));
      known = λ p lt. (let k : (held_at claims p).entry < length entries = are.known p lt in omega (arith, k, size));
      behind = are.behind;
      before = λ p lt. subst (λ (cs : List Claim). p < slice_index places (held_at claims p).entry + length cs) (same (held_at claims p).entry) (are.before p lt);
      order = are.order;
    }

-- an entry that does not wait any more
passed_moved : (entries : List Entry) (free : List ℕ) (n i : ℕ) (stand : Stand) → n < length entries → is_waiting stand ≡ false
    → waits_at entries free i ≡ false → waits_at (moved entries n stand) free i ≡ false
passed_moved entries free n i stand lt gone was =
    elim (cases_eq (slice_index free i) n) [
      | inl is ↦ ap is_waiting (stand_here entries n (slice_index free i) stand lt is) ∙ gone
      | inr ne ↦ ap is_waiting (stand_other entries n (slice_index free i) stand ne) ∙ was
    ]

pub started_queued : (entries : List Entry) (places : List ℕ) (s : Holders) (front front' n : ℕ) → AreQueued entries places s front
    → AllPairs (λ (a b : Claim). a.cown ≢ b.cown) (claims_at entries n) → MayStart entries n → IsFront (moved entries n Started) s.free front front'
    → AreQueued (moved entries n Started) places s front'
started_queued entries places s front front' n q apart may found =
    let lt : n < length entries = may.there in
    let size : length (moved entries n Started) ≡ length entries = length-set entries n (standing (entry_at entries n) Started) in
    record {
      kept = q.kept;
      settled = q.settled;
      sizes = q.sizes ∙ sym size;
      placed = placed_moved entries places s.claims n Started q.placed;
      over = λ p below. elim (cases_eq (held_at s.claims p).entry n) [
        | inl is ↦
            q.over p below ∙ ap (λ (m : ℕ). is_ended (entry_at entries m).stand) is ∙ not_ended (entry_at entries n).stand may.waits
            ∙ sym (ap is_ended (stand_here entries n (held_at s.claims p).entry Started lt is))
        | inr ne ↦ q.over p below ∙ sym (ap is_ended (stand_other entries n (held_at s.claims p).entry Started ne))
      ];
      begun = λ m below gone. elim (cases_eq m n) [
        | inl is ↦ ap (λ (i : ℕ). slice_index s.waits i) is ∙ is_free entries places s front n q lt apart may.clear
        | inr ne ↦ q.begun m (omega (arith, below, size)) (sym (ap is_waiting (stand_other entries n m Started ne)) ∙ gone)
      ];
      bounded = found.most;
      passed = all_passed (moved entries n Started) s.free front front' found (λ i below. passed_moved entries s.free n i Started lt refl (q.passed i below));
      next = found.next;
    }

pub ending_start : (s : Holders) (first : ℕ) → AreHeld s (length s.waits) → AreSettled s → IsEnding s first first s
ending_start s first are settled = record {
  kept = are;
  settled = settled;
  claims = refl;
  limit = refl;
  cowns = refl;
  waits = refl;
  inside = λ p le lt. absurd (omega (arith, le, lt));
  outside = λ p e. refl;
  free = ([], sym (append-nil s.free));
}

pub ending_step : (s now over_now : Holders) (first place : ℕ) → IsEnding s first place now → first ≤ place → place < length s.claims
    → AreHeld over_now (length over_now.waits) → AreSettled over_now → IsAfter (left_at now place) over_now → IsEnding s first (place + 1) over_now
ending_step s now over_now first place e le lt are settled after =
    let kept : AreHeld now (length now.waits) = e.kept in
    let size : length now.over ≡ length now.claims = kept.over in
    let same : length now.claims ≡ length s.claims = ap length e.claims in
    let at : over_at (set now.over place true) place ≡ true = get_or-set_same now.over place true true (omega (arith, size, same, lt)) in
    let over : (p : ℕ) → over_at over_now.over p ≡ over_at (set now.over place true) p = λ p. ap (λ (o : List Bool). over_at o p) after.over in
    let left : Cown = record (cown_at now.cowns (held_at now.claims place).cown) { holders = (cown_at now.cowns (held_at now.claims place).cown).holders - 1 } in
    let free = e.free in
    let more = after.free in
    record {
      kept = are;
      settled = settled;
      claims = after.claims ∙ e.claims;
      limit = after.limit ∙ e.limit;
      cowns = after.cowns ∙ length-set now.cowns (held_at now.claims place).cown left ∙ e.cowns;
      waits = after.waits ∙ e.waits;
      inside = λ p from below. elim (cases_eq p place) [
        | inl is ↦ over p ∙ ap (λ (i : ℕ). over_at (set now.over place true) i) is ∙ at
        | inr ne ↦ over p ∙ get_or-set_other now.over place p true true ne ∙ e.inside p from (omega (arith, below, ne))
      ];
      outside = λ p side.
          (let ne : p ≢ place = λ is. elim side [ inl before ↦ omega (arith, is, before, le) | inr behind ↦ omega (arith, is, behind) ] in
          over p ∙ get_or-set_other now.over place p true true ne ∙ e.outside p (elim side [ inl before ↦ inl before | inr behind ↦ inr (omega (arith, behind)) ]));
      free = (free.0 ++ more.0, more.1 ∙ ap (λ (l : List ℕ). l ++ more.0) free.1 ∙ append_assoc s.free free.0 more.0);
    }

-- what was free stays so
still_free : (s now : Holders) (n : ℕ) (more : List ℕ) → AreFree s.waits s.free → AreFree now.waits now.free → now.free ≡ s.free ++ more
    → n < length s.waits → slice_index s.waits n ≡ 0 → slice_index now.waits n ≡ 0
still_free s now n more was is e lt none =
    let c = was.listed n lt none in
    let i_lt : c.0 < length s.free = c.1 in
    let at : slice_index s.free c.0 ≡ n = get_or_default s.free c.0 0 n i_lt ∙ c.2 in
    let at' : slice_index now.free c.0 ≡ n = ap (λ (l : List ℕ). slice_index l c.0) e ∙ get_or_append_left s.free more 0 c.0 i_lt ∙ at in
    let size : length now.free ≡ length s.free + length more = ap length e ∙ length-append s.free more in
    let r = is.right c.0 (omega (arith, size, i_lt)) in
    ap (λ (k : ℕ). slice_index now.waits k) (sym at') ∙ r.1

-- a claim of a free entry that is not over holds its cown
pub can_release : (s now : Holders) (first place : ℕ) → AreHeld s (length s.waits) → IsEnding s first place now → place < length s.claims
    → slice_index s.waits (held_at s.claims place).entry ≡ 0 → over_at s.over place ≡ false → is_holding now place ≡ true
can_release s now first place was e lt none unended =
    let kept : AreHeld now (length now.waits) = e.kept in
    let count : length now.claims ≡ length s.claims = ap length e.claims in
    let same : (held_at now.claims place).entry ≡ (held_at s.claims place).entry = ap (λ (l : List Held). (held_at l place).entry) e.claims in
    let waits : length now.waits ≡ length s.waits = e.waits in
    let known : (held_at s.claims place).entry < length s.waits = was.entry_known place lt in
    let free = e.free in
    let none_now : slice_index now.waits (held_at s.claims place).entry ≡ 0 =
    still_free s now (held_at s.claims place).entry free.0 was.free kept.free free.1 known none in
    let before : place < place_of (cown_at now.cowns (held_at now.claims place).cown).first =
    goes_first now (length now.waits) place kept (omega (arith, same, waits, known)) (omega (arith, count, lt))
    (ap (λ (i : ℕ). slice_index now.waits i) same ∙ none_now) in
    let stays : over_at now.over place ≡ false = e.outside place (inr (omega arith)) ∙ unended in
    holds_from now.claims now.over (held_at now.claims place).cown (place_of (cown_at now.cowns (held_at now.claims place).cown).first) place
    (record { cown = refl; before = before; stays = stays })

-- the claims of an entry that has not ended are not over, and of a free entry none waits
pub can_end : (entries : List Entry) (places : List ℕ) (s : Holders) (front n p : ℕ) → AreQueued entries places s front → n < length entries
    → slice_index s.waits n ≡ 0 → is_ended (entry_at entries n).stand ≡ false → slice_index places n ≤ p → p < slice_index places n + length (claims_at entries n)
    → (slice_index s.waits (held_at s.claims p).entry ≡ 0) × (over_at s.over p ≡ false)
can_end entries places s front n p q lt none unended le below =
    let placed : ArePlaced entries places s.claims = q.placed in
    let first : ℕ = slice_index places n in
    let j_lt : p - first < length (claims_at entries n) = omega (arith, le, below) in
    let at : first + (p - first) ≡ p = omega (arith, le) in
    let is : held_at s.claims p ≡ held_of n (slice_index_or (claims_at entries n) (p - first) no_claim) =
    ap (λ (i : ℕ). held_at s.claims i) (sym at) ∙ placed.held n (p - first) lt j_lt in
    let of_n : (held_at s.claims p).entry ≡ n = ap (λ (h : Held). h.entry) is in
    let within : first + length (claims_at entries n) ≤ length s.claims = placed.within n lt in
    let p_lt : p < length s.claims = omega (arith, within, below) in
    (ap (λ (i : ℕ). slice_index s.waits i) of_n ∙ none, q.over p p_lt ∙ ap (λ (m : ℕ). is_ended (entry_at entries m).stand) of_n ∙ unended)

pub ended_queued : (entries : List Entry) (places : List ℕ) (s now : Holders) (front front' n : ℕ) → AreQueued entries places s front → n < length entries
    → slice_index s.waits n ≡ 0 → IsEnding s (slice_index places n) (slice_index places n + length (claims_at entries n)) now
    → IsFront (moved entries n Ended) now.free front front' → AreQueued (moved entries n Ended) places now front'
ended_queued entries places s now front front' n q lt none e found =
    let placed : ArePlaced entries places s.claims = q.placed in
    let was : AreHeld s (length s.waits) = q.kept in
    let kept : AreHeld now (length now.waits) = e.kept in
    let first : ℕ = slice_index places n in
    let size : length (moved entries n Ended) ≡ length entries = length-set entries n (standing (entry_at entries n) Ended) in
    let count : length now.claims ≡ length s.claims = ap length e.claims in
    let sizes : length s.waits ≡ length entries = q.sizes in
    let free = e.free in
    let entry : (p : ℕ) → (held_at now.claims p).entry ≡ (held_at s.claims p).entry = λ p. ap (λ (l : List Held). (held_at l p).entry) e.claims in
    record {
      kept = kept;
      settled = e.settled;
      sizes = e.waits ∙ sizes ∙ sym size;
      placed = subst (λ (l : List Held). ArePlaced (moved entries n Ended) places l) (sym e.claims) (placed_moved entries places s.claims n Ended placed);
      over = λ p below.
          (let p_lt : p < length s.claims = omega (arith, count, below) in
          let stand : is_ended (entry_at (moved entries n Ended) (held_at now.claims p).entry).stand ≡ is_ended (entry_at (moved entries n Ended) (held_at s.claims p).entry).stand =
          ap (λ (m : ℕ). is_ended (entry_at (moved entries n Ended) m).stand) (entry p) in
          elim (cases_eq (held_at s.claims p).entry n) [
            | inl is ↦
                (let le : slice_index places (held_at s.claims p).entry ≤ p = placed.behind p p_lt in
                let less : p < slice_index places (held_at s.claims p).entry + length (claims_at entries (held_at s.claims p).entry) = placed.before p p_lt in
                let le' : first ≤ p = subst (λ (m : ℕ). slice_index places m ≤ p) is le in
                let less' : p < first + length (claims_at entries n) = subst (λ (m : ℕ). p < slice_index places m + length (claims_at entries m)) is less in
                e.inside p le' less' ∙ sym (ap is_ended (stand_here entries n (held_at s.claims p).entry Ended lt is)) ∙ sym stand)
            | inr ne ↦
                (let side : (p < first) ⊎ (first + length (claims_at entries n) ≤ p) = elim (cases_lt p first) [
                  | inl before ↦ inl before
                  | inr behind ↦ elim (cases_lt p (first + length (claims_at entries n))) [
                    | inl inside ↦
                        (let j_lt : p - first < length (claims_at entries n) = omega (arith, behind, inside) in
                        let at : first + (p - first) ≡ p = omega (arith, behind) in
                        let is : held_at s.claims p ≡ held_of n (slice_index_or (claims_at entries n) (p - first) no_claim) =
                        ap (λ (i : ℕ). held_at s.claims i) (sym at) ∙ placed.held n (p - first) lt j_lt in
                        absurd (ne (ap (λ (h : Held). h.entry) is)))
                    | inr past ↦ inr past
                  ]
                ] in
                e.outside p side ∙ q.over p p_lt ∙ sym (ap is_ended (stand_other entries n (held_at s.claims p).entry Ended ne)) ∙ sym stand)
          ]);
      begun = λ m below gone. elim (cases_eq m n) [
        | inl is ↦ ap (λ (i : ℕ). slice_index now.waits i) is ∙ still_free s now n free.0 was.free kept.free free.1 (omega (arith, sizes, lt)) none
        | inr ne ↦
            still_free s now m free.0 was.free kept.free free.1 (omega (arith, sizes, below, size))
            (q.begun m (omega (arith, below, size)) (sym (ap is_waiting (stand_other entries n m Ended ne)) ∙ gone))
      ];
      bounded = found.most;
      passed = all_passed (moved entries n Ended) now.free front front' found (λ i below.
          (let front_le : front ≤ length s.free = q.bounded in
          let same : slice_index now.free i ≡ slice_index s.free i =
          ap (λ (l : List ℕ). slice_index l i) free.1 ∙ get_or_append_left s.free free.0 0 i (omega (arith, front_le, below)) in
          ap (λ (k : ℕ). is_waiting (entry_at (moved entries n Ended) k).stand) same ∙ passed_moved entries s.free n i Ended lt refl (q.passed i below)));
      next = found.next;
    }

old_entry : (entries : List Entry) (claims : List Claim) (m : ℕ) → m < length entries → entry_at (longer entries claims) m ≡ entry_at entries m
old_entry entries claims m lt = get_or_append_left entries (entered claims ∷ []) no_entry m lt

new_entry : (entries : List Entry) (claims : List Claim) (m : ℕ) → m ≡ length entries → entry_at (longer entries claims) m ≡ entered claims
new_entry entries claims m is = get_or_push entries (entered claims) no_entry m (sym is)

old_held : (claims : List Held) (more : List Held) (p : ℕ) → p < length claims → held_at (claims ++ more) p ≡ held_at claims p
old_held claims more p lt = get_or_append_left claims more no_held p lt

new_held : (claims : List Held) (n : ℕ) (given : List Claim) (j : ℕ) → j < length given
    → held_at (claims ++ map (held_of n) given) (length claims + j) ≡ held_of n (slice_index_or given j no_claim)
new_held claims n given j lt =
    get_or-append-add claims (map (held_of n) given) j no_held ∙ get_or-map (held_of n) given j no_claim no_held lt

-- a claim of an entry that has just entered
new_place : (claims : List Held) (n : ℕ) (given : List Claim) (p : ℕ) → length claims ≤ p → p < length claims + length given → (held_at (claims ++ map (held_of n) given) p).entry ≡ n
new_place claims n given p le lt =
    let at : length claims + (p - length claims) ≡ p = omega (arith, le) in
    ap (λ (i : ℕ). (held_at (claims ++ map (held_of n) given) i).entry) (sym at)
    ∙ ap (λ (h : Held). h.entry) (new_held claims n given (p - length claims) (omega (arith, le, lt)))

placed_longer : (entries : List Entry) (places : List ℕ) (claims : List Held) (given : List Claim) → ArePlaced entries places claims → length given ≤ most_claims
    → ArePlaced (longer entries given) (places ++ length claims ∷ []) (claims ++ map (held_of (length entries)) given)
placed_longer entries places claims given are few =
    let n : ℕ = length entries in
    let c : ℕ = length claims in
    let all : List Held = claims ++ map (held_of n) given in
    let count : length all ≡ c + length given = length-append claims (map (held_of n) given) ∙ ap (λ (i : ℕ). c + i) (length-map given (held_of n)) in
    let size : length (longer entries given) ≡ n + 1 = length_push entries (entered given) in
    let was : length places ≡ n = are.sizes in
    let was_few : c ≤ most_claims * n = are.few in
    let place_old : (m : ℕ) → m < n → slice_index places m ≡ slice_index (places ++ c ∷ []) m = λ m lt. sym (get_or_append_left places (c ∷ []) 0 m (omega (arith, lt, was))) in
    let place_new : (m : ℕ) → m ≡ n → c ≡ slice_index (places ++ c ∷ []) m = λ m is. sym (get_or_push places c 0 m (was ∙ sym is)) in
    let claims_old : (m : ℕ) → m < n → claims_at entries m ≡ claims_at (longer entries given) m = λ m lt. sym (ap (λ (e : Entry). e.claims) (old_entry entries given m lt)) in
    let claims_new : (m : ℕ) → m ≡ n → given ≡ claims_at (longer entries given) m = λ m is. sym (ap (λ (e : Entry). e.claims) (new_entry entries given m is)) in
    let entry_old : (p : ℕ) → p < c → (held_at claims p).entry ≡ (held_at all p).entry = λ p lt. sym (ap (λ (h : Held). h.entry) (old_held claims (map (held_of n) given) p lt)) in
    let entry_new : (p : ℕ) → c ≤ p → p < length all → (held_at all p).entry ≡ n = λ p le lt. new_place claims n given p le (omega (arith, lt, count)) in
    record {
      sizes = length_push places c ∙ ap (λ (i : ℕ). i + 1) was ∙ sym size;
      few = omega (arith, count, size, was_few, few);
      within = λ m lt. elim (push_cases entries (entered given) m lt) [
        | inl below ↦
            (let old : slice_index places m + length (claims_at entries m) ≤ c = are.within m below in
            let at : slice_index places m ≡ slice_index (places ++ c ∷ []) m = place_old m below in
            let len : length (claims_at entries m) ≡ length (claims_at (longer entries given) m) = ap length (claims_old m below) in
            omega (arith, old, at, len, count))
        | inr is ↦
            (let at : c ≡ slice_index (places ++ c ∷ []) m = place_new m is in
            let len : length given ≡ length (claims_at (longer entries given) m) = ap length (claims_new m is) in
            omega (arith, at, len, count))
      ];
      held = λ m j lt below. elim (push_cases entries (entered given) m lt) [
        | inl m_lt ↦
            (let j_lt : j < length (claims_at entries m) = subst (λ (cs : List Claim). j < length cs) (sym (claims_old m m_lt)) below in
            let within : slice_index places m + length (claims_at entries m) ≤ c = are.within m m_lt in
            ap (λ (i : ℕ). held_at all (i + j)) (sym (place_old m m_lt))
            ∙ old_held claims (map (held_of n) given) (slice_index places m + j) (omega (arith, within, j_lt))
            ∙ are.held m j m_lt j_lt ∙ ap (λ (cs : List Claim). held_of m (slice_index_or cs j no_claim)) (claims_old m m_lt))
        | inr is ↦
            (let j_lt : j < length given = subst (λ (cs : List Claim). j < length cs) (sym (claims_new m is)) below in
            ap (λ (i : ℕ). held_at all (i + j)) (sym (place_new m is)) ∙ new_held claims n given j j_lt
            ∙ ap (λ (i : ℕ). held_of i (slice_index_or given j no_claim)) (sym is)
            ∙ ap (λ (cs : List Claim). held_of m (slice_index_or cs j no_claim)) (claims_new m is))
      ];
      known = λ p lt. elim (cases_lt p c) [
        | inl old ↦
            (let k : (held_at claims p).entry < n = are.known p old in
            let e : (held_at claims p).entry ≡ (held_at all p).entry = entry_old p old in
            omega (arith, k, e, size))
        | inr new ↦ (let e : (held_at all p).entry ≡ n = entry_new p new lt in omega (arith, e, size))
      ];
      behind = λ p lt. elim (cases_lt p c) [
        | inl old ↦
            subst (λ (m : ℕ). slice_index (places ++ c ∷ []) m ≤ p) (entry_old p old)
            (let b : slice_index places (held_at claims p).entry ≤ p = are.behind p old in
            let at : slice_index places (held_at claims p).entry ≡ slice_index (places ++ c ∷ []) (held_at claims p).entry = place_old (held_at claims p).entry (are.known p old) in
            omega (arith, b, at))
        | inr new ↦ (let at : c ≡ slice_index (places ++ c ∷ []) (held_at all p).entry = place_new (held_at all p).entry (entry_new p new lt) in omega (arith, new, at))
      ];
      before = λ p lt. elim (cases_lt p c) [
        | inl old ↦
            subst (λ (m : ℕ). p < slice_index (places ++ c ∷ []) m + length (claims_at (longer entries given) m)) (entry_old p old)
            (let b : p < slice_index places (held_at claims p).entry + length (claims_at entries (held_at claims p).entry) = are.before p old in
            let at : slice_index places (held_at claims p).entry ≡ slice_index (places ++ c ∷ []) (held_at claims p).entry = place_old (held_at claims p).entry (are.known p old) in
            let len : length (claims_at entries (held_at claims p).entry) ≡ length (claims_at (longer entries given) (held_at claims p).entry) =
            ap length (claims_old (held_at claims p).entry (are.known p old)) in
            omega (arith, b, at, len))
        | inr new ↦
            (let at : c ≡ slice_index (places ++ c ∷ []) (held_at all p).entry = place_new (held_at all p).entry (entry_new p new lt) in
            let len : length given ≡ length (claims_at (longer entries given) (held_at all p).entry) = ap length (claims_new (held_at all p).entry (entry_new p new lt)) in
            omega (arith, at, len, lt, count))
      ];
      order = λ p q less lt. elim (cases_lt q c) [
        | inl old ↦
            (let o : (held_at claims p).entry ≤ (held_at claims q).entry = are.order p q less old in
            let a : (held_at claims p).entry ≡ (held_at all p).entry = entry_old p (omega (arith, less, old)) in
            let b : (held_at claims q).entry ≡ (held_at all q).entry = entry_old q old in
            omega (arith, o, a, b))
        | inr new ↦
            (let b : (held_at all q).entry ≡ n = entry_new q new lt in
            elim (cases_lt p c) [
              | inl p_old ↦
                  (let k : (held_at claims p).entry < n = are.known p p_old in
                  let a : (held_at claims p).entry ≡ (held_at all p).entry = entry_old p p_old in
                  omega (arith, k, a, b))
              | inr p_new ↦ (let a : (held_at all p).entry ≡ n = entry_new p p_new (omega (arith, less, lt)) in omega (arith, a, b))
            ])
      ];
    }

pub entered_queued : (entries : List Entry) (places : List ℕ) (s now : Holders) (given : List Claim) (front front' : ℕ) → AreQueued entries places s front
    → length given ≤ most_claims → AreHeld now (length now.waits) → AreSettled now → HasEntered s now given
    → IsFront (longer entries given) now.free front front' → AreQueued (longer entries given) (places ++ length s.claims ∷ []) now front'
entered_queued entries places s now given front front' q few kept settled e found =
    let placed : ArePlaced entries places s.claims = q.placed in
    let was : AreHeld s (length s.waits) = q.kept in
    let sizes : length s.waits ≡ length entries = q.sizes in
    let size : length (longer entries given) ≡ length entries + 1 = length_push entries (entered given) in
    let c : ℕ = length s.claims in
    let claims : now.claims ≡ s.claims ++ map (held_of (length entries)) given = e.claims ∙ ap (λ (n : ℕ). s.claims ++ map (held_of n) given) sizes in
    let count : length now.claims ≡ c + length given =
    ap length claims ∙ length-append s.claims (map (held_of (length entries)) given) ∙ ap (λ (i : ℕ). c + i) (length-map given (held_of (length entries))) in
    let over_size : length s.over ≡ c = was.over in
    let free = e.free in
    let held : (p : ℕ) → (held_at now.claims p).entry ≡ (held_at (s.claims ++ map (held_of (length entries)) given) p).entry = λ p. ap (λ (l : List Held). (held_at l p).entry) claims in
    let stand_old : (m : ℕ) → m < length entries → (entry_at (longer entries given) m).stand ≡ (entry_at entries m).stand =
    λ m lt. ap (λ (x : Entry). x.stand) (old_entry entries given m lt) in
    record {
      kept = kept;
      settled = settled;
      sizes = e.waits ∙ ap (λ (i : ℕ). i + 1) sizes ∙ sym size;
      placed = subst (λ (l : List Held). ArePlaced (longer entries given) (places ++ c ∷ []) l) (sym claims) (placed_longer entries places s.claims given placed few);
      over = λ p lt. elim (cases_lt p c) [
        | inl old ↦
            (let same : (held_at now.claims p).entry ≡ (held_at s.claims p).entry = held p ∙ ap (λ (h : Held). h.entry) (old_held s.claims (map (held_of (length entries)) given) p old) in
            ap (λ (o : List Bool). over_at o p) e.over ∙ get_or_append_left s.over (replicate (length given) false) true p (omega (arith, over_size, old))
            ∙ q.over p old ∙ sym (ap is_ended (stand_old (held_at s.claims p).entry (placed.known p old)))
            ∙ ap (λ (m : ℕ). is_ended (entry_at (longer entries given) m).stand) (sym same))
        | inr new ↦
            (let below : p < c + length given = omega (arith, lt, count) in
            let at : length s.over + (p - c) ≡ p = omega (arith, over_size, new) in
            let is : (held_at now.claims p).entry ≡ length entries = held p ∙ new_place s.claims (length entries) given p new below in
            ap (λ (o : List Bool). over_at o p) e.over ∙ ap (λ (i : ℕ). over_at (s.over ++ replicate (length given) false) i) (sym at)
            ∙ get_or-append-add s.over (replicate (length given) false) (p - c) true ∙ get_or-replicate (length given) (p - c) false true (omega (arith, new, below))
            ∙ sym (ap (λ (x : Entry). is_ended x.stand) (new_entry entries given (held_at now.claims p).entry is)))
      ];
      begun = λ m lt gone. elim (push_cases entries (entered given) m lt) [
        | inl old ↦ still_free s now m free.0 was.free kept.free free.1 (omega (arith, old, sizes)) (q.begun m old (sym (ap is_waiting (stand_old m old)) ∙ gone))
        | inr new ↦ absurd (both_ways (is_waiting (entry_at (longer entries given) m).stand) gone (ap (λ (x : Entry). is_waiting x.stand) (new_entry entries given m new)))
      ];
      bounded = found.most;
      passed = all_passed (longer entries given) now.free front front' found (λ i below.
          (let front_le : front ≤ length s.free = q.bounded in
          let i_lt : i < length s.free = omega (arith, front_le, below) in
          let were : AreFree s.waits s.free = was.free in
          let known : slice_index s.free i < length s.waits = (were.right i i_lt).0 in
          let same : slice_index now.free i ≡ slice_index s.free i = ap (λ (l : List ℕ). slice_index l i) free.1 ∙ get_or_append_left s.free free.0 0 i i_lt in
          ap (λ (k : ℕ). is_waiting (entry_at (longer entries given) k).stand) same
          ∙ ap is_waiting (stand_old (slice_index s.free i) (omega (arith, known, sizes))) ∙ q.passed i below));
      next = found.next;
    }
