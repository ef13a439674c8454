-- The public queues stay right: an entry enters, or stands elsewhere.
use Rattle.std.proofs.Common.{◌≡◌, ◌≢◌, ℕ, ◌+◌, ◌*◌, ◌<◌, ◌≤◌, ◌^◌, ◌⊎◌, ◌++◌, ◌∷◌, [], false, true, Option, Some, None, IfSome, List, length, set, slice_index, AllPairs, inl, inr, refl, sym, subst, ap, ◌∙◌, arith, length-set, length-append}
use Rattle.std.proofs.lemmas.Bool.{both_ways}
use Rattle.std.proofs.lemmas.List.{length_push, get_or_default}
use Rattle.bl_queue.specs.declared.claim.Claim.{Claim}
use Rattle.bl_queue.specs.declared.entry.Stand.{Stand}
use Rattle.bl_queue.specs.declared.entry.Stand.TheVariants.{Waiting, Started, Ended}
use Rattle.bl_queue.specs.Claims.{most_claims, AreClaims}
use Rattle.bl_queue.specs.Entries.{Entry, entry_at, no_entry, is_waiting, is_started, is_ended, entered, standing, MayStart, Runs}
use Rattle.bl_queue.specs.Queues.{Queue, IsQueue, most_entries, with_entry, with_stand}
use Rattle.bl_queue.specs.Holders.{Holders, held_at, over_at, nowhere, AreFree, AreHeld, AreSettled, IsEnding, HasEntered}
use Rattle.bl_queue.specs.Queued.{claims_at, moved, longer, added, Roster, ArePlaced, AreQueued, IsFront, IsKept}
use Rattle.bl_queue.proofs.Places.{each-set, each-push}
use Rattle.bl_queue.proofs.Ready.{is_clear, is_free, not_ended}
use Rattle.bl_queue.proofs.Steps.{started_queued, ended_queued, entered_queued, can_end}

pub moved_queue : (q : Queue) (n : ℕ) (stand : Stand) → IsQueue q → n < length q.entries → IsQueue (with_stand q n stand)
moved_queue q n stand is lt =
    let size : length (set q.entries n (standing (entry_at q.entries n) stand)) ≡ length q.entries = length-set q.entries n (standing (entry_at q.entries n) stand) in
    let few : length q.entries ≤ q.limit = is.few in
    record {
      cowns = is.cowns;
      limit = is.limit;
      few = omega (arith, size, few);
      each = λ k d below. each-set (λ (j : ℕ) (e : Entry). AreClaims q.cowns e.claims) q.entries n (standing (entry_at q.entries n) stand) d lt
          (is.each n no_entry lt) (λ j within ne. is.each j d within) k below;
    }

pub longer_queue : (q : Queue) (claims : List Claim) → IsQueue q → length q.entries < q.limit → AreClaims q.cowns claims → IsQueue (with_entry q claims)
longer_queue q claims is room right =
    let size : length (q.entries ++ entered claims ∷ []) ≡ length q.entries + 1 = length_push q.entries (entered claims) in
    record {
      cowns = is.cowns;
      limit = is.limit;
      few = omega (arith, size, room);
      each = λ k d below. each-push (λ (j : ℕ) (e : Entry). AreClaims q.cowns e.claims) q.entries (entered claims) d (λ j within. is.each j d within) right k below;
    }

-- the claims of an entry are of different cowns
pub apart_at : (q : Queue) (n : ℕ) → IsQueue q → n < length q.entries → AllPairs (λ (a b : Claim). a.cown ≢ b.cown) (claims_at q.entries n)
apart_at q n is lt = let right : AreClaims q.cowns (claims_at q.entries n) = is.each n no_entry lt in right.apart

-- an entry may start exactly where it waits and none of its claims does
pub may_start_from : (q : Queue) (places : List ℕ) (s : Holders) (front n : ℕ) → AreQueued q.entries places s front → n < length q.entries
    → is_waiting (entry_at q.entries n).stand ≡ true → slice_index s.waits n ≡ 0 → MayStart q.entries n
may_start_from q places s front n are lt waiting none =
    record { there = lt; waits = waiting; clear = is_clear q.entries places s front n are lt waiting none }

pub waits_none : (q : Queue) (places : List ℕ) (s : Holders) (front n : ℕ) → IsQueue q → AreQueued q.entries places s front → MayStart q.entries n → slice_index s.waits n ≡ 0
waits_none q places s front n is are may = is_free q.entries places s front n are may.there (apart_at q n is may.there) may.clear

not_waiting_started : (s : Stand) → is_started s ≡ true → (is_waiting s ≡ false) × (is_ended s ≡ false)
not_waiting_started Waiting e = absurd (both_ways false refl e)
not_waiting_started Started e = (refl, refl)
not_waiting_started Ended e = absurd (both_ways false refl e)

-- what an entry that ends is like: it is there, none of its claims waits, and it has not ended
pub record MayEnd (q : Queue) (s : Holders) (n : ℕ) : Type 0 where
  pub there : n < length q.entries
  pub none : slice_index s.waits n ≡ 0
  pub unended : is_ended (entry_at q.entries n).stand ≡ false

pub may_end : (q : Queue) (places : List ℕ) (s : Holders) (front n : ℕ) → IsQueue q → AreQueued q.entries places s front → MayStart q.entries n ⊎ Runs q.entries n → MayEnd q s n
may_end q places s front n is are (inl may) = record {
  there = may.there;
  none = waits_none q places s front n is are may;
  unended = not_ended (entry_at q.entries n).stand may.waits;
}
may_end q places s front n is are (inr runs) =
    let stands = not_waiting_started (entry_at q.entries n).stand runs.started in
    record { there = runs.there; none = are.begun n runs.there stands.0; unended = stands.1 }

-- the entry at the front may start
pub front_may_start : (q : Queue) (places : List ℕ) (s : Holders) (front n : ℕ) → AreQueued q.entries places s front → front < length s.free → slice_index s.free front ≡ n
    → MayStart q.entries n
front_may_start q places s front n are lt at =
    let kept : AreHeld s (length s.waits) = are.kept in
    let free : AreFree s.waits s.free = kept.free in
    let sizes : length s.waits ≡ length q.entries = are.sizes in
    let r = free.right front lt in
    let known : slice_index s.free front < length s.waits = r.0 in
    subst (λ (m : ℕ). MayStart q.entries m) at
    (may_start_from q places s front (slice_index s.free front) are (omega (arith, known, sizes)) (are.next lt) r.1)

-- where the front has passed all that are free, none may start
pub none_may_start : (q : Queue) (places : List ℕ) (s : Holders) (front n : ℕ) → IsQueue q → AreQueued q.entries places s front → length s.free ≤ front → ¬ MayStart q.entries n
none_may_start q places s front n is are past may =
    let kept : AreHeld s (length s.waits) = are.kept in
    let free : AreFree s.waits s.free = kept.free in
    let sizes : length s.waits ≡ length q.entries = are.sizes in
    let there : n < length q.entries = may.there in
    let c = free.listed n (omega (arith, there, sizes)) (waits_none q places s front n is are may) in
    let i_lt : c.0 < length s.free = c.1 in
    let at : slice_index s.free c.0 ≡ n = get_or_default s.free c.0 0 n i_lt ∙ c.2 in
    both_ways (is_waiting (entry_at q.entries n).stand)
    (ap (λ (m : ℕ). is_waiting (entry_at q.entries m).stand) (sym at) ∙ are.passed c.0 (omega (arith, i_lt, past))) may.waits

abbrev queue : ℕ → ℕ → Roster → Queue
queue cowns limit r = record { cowns = cowns; limit = limit; entries = r.entries }

-- what a move of the front needs
pub record CanPass (r : Roster) : Type 0 where
  pub front : r.front ≤ length r.holders.free
  pub known : (i : ℕ) → i < length r.holders.free → slice_index r.holders.free i < length r.entries

passes : (entries : List Entry) (s : Holders) (i : ℕ) → AreFree s.waits s.free → length s.waits ≡ length entries → i < length s.free → slice_index s.free i < length entries
passes entries s i free sizes lt = let known : slice_index s.free i < length s.waits = (free.right i lt).0 in omega (arith, known, sizes)

-- ---- an entry starts

pub started_may_pass : (cowns limit : ℕ) (r s : Roster) (n : ℕ) → IsKept cowns limit r → s ≡ record r { entries = moved r.entries n Started } → CanPass s
started_may_pass cowns limit r s n kept e =
    let q : AreQueued r.entries r.places r.holders r.front = kept.queued in
    let held : AreHeld r.holders (length r.holders.waits) = q.kept in
    let size : length (moved r.entries n Started) ≡ length r.entries = length-set r.entries n (standing (entry_at r.entries n) Started) in
    subst (λ (x : Roster). CanPass x) (sym e)
    (record { front = q.bounded; known = λ i lt. passes (moved r.entries n Started) r.holders i held.free (q.sizes ∙ sym size) lt })

pub started_kept : (cowns limit : ℕ) (r s p : Roster) (n : ℕ) → IsKept cowns limit r → MayStart r.entries n → s ≡ record r { entries = moved r.entries n Started }
    → IsFront s.entries s.holders.free s.front p.front → p ≡ record s { front = p.front } → IsKept cowns limit p
started_kept cowns limit r s p n kept may e found f =
    let q : AreQueued r.entries r.places r.holders r.front = kept.queued in
    let there : n < length r.entries = may.there in
    let whole : p ≡ record r { entries = moved r.entries n Started; front = p.front } = f ∙ ap (λ (x : Roster). record x { front = p.front }) e in
    subst (λ (x : Roster). IsKept cowns limit x) (sym whole) (record {
      right = moved_queue (queue cowns limit r) n Started kept.right there;
      limits = kept.limits;
      held_limit = kept.held_limit;
      held_cowns = kept.held_cowns;
      queued = started_queued r.entries r.places r.holders r.front p.front n q (apart_at (queue cowns limit r) n kept.right there) may
          (subst (λ (x : Roster). IsFront x.entries x.holders.free x.front p.front) e found);
    })

-- ---- an entry ends

-- what the end of its claims needs
pub record CanEnd (r : Roster) (n : ℕ) : Type 0 where
  pub there : n < length r.entries
  pub place : n < length r.places
  pub kept : AreHeld r.holders (length r.holders.waits)
  pub settled : AreSettled r.holders
  pub room : length r.holders.waits ≤ r.holders.limit
  pub range : slice_index r.places n + length (claims_at r.entries n) ≤ length r.holders.claims
  pub free : (p : ℕ) → slice_index r.places n ≤ p → p < slice_index r.places n + length (claims_at r.entries n)
      → (slice_index r.holders.waits (held_at r.holders.claims p).entry ≡ 0) × (over_at r.holders.over p ≡ false)

pub can_end_claims : (cowns limit : ℕ) (r : Roster) (n : ℕ) → IsKept cowns limit r → MayStart r.entries n ⊎ Runs r.entries n → CanEnd r n
can_end_claims cowns limit r n kept goes =
    let q : AreQueued r.entries r.places r.holders r.front = kept.queued in
    let right : IsQueue (queue cowns limit r) = kept.right in
    let may : MayEnd (queue cowns limit r) r.holders n = may_end (queue cowns limit r) r.places r.holders r.front n right q goes in
    let there : n < length r.entries = may.there in
    let placed : ArePlaced r.entries r.places r.holders.claims = q.placed in
    let sizes : length r.places ≡ length r.entries = placed.sizes in
    let few : length r.entries ≤ limit = right.few in
    let waits : length r.holders.waits ≡ length r.entries = q.sizes in
    let limits : r.holders.limit ≡ limit = kept.held_limit in
    record {
      there = there;
      place = omega (arith, there, sizes);
      kept = q.kept;
      settled = q.settled;
      room = omega (arith, few, waits, limits);
      range = placed.within n there;
      free = λ p le lt. can_end r.entries r.places r.holders r.front n p q there may.none may.unended le lt;
    }

pub ended_may_pass : (cowns limit : ℕ) (r e s : Roster) (n : ℕ) → IsKept cowns limit r → MayStart r.entries n ⊎ Runs r.entries n
    → IsEnding r.holders (slice_index r.places n) (slice_index r.places n + length (claims_at r.entries n)) e.holders → e ≡ record r { holders = e.holders }
    → s ≡ record e { entries = moved e.entries n Ended } → CanPass s
ended_may_pass cowns limit r e s n kept goes ending is moves =
    let q : AreQueued r.entries r.places r.holders r.front = kept.queued in
    let held : AreHeld e.holders (length e.holders.waits) = ending.kept in
    let size : length (moved r.entries n Ended) ≡ length r.entries = length-set r.entries n (standing (entry_at r.entries n) Ended) in
    let bounded : r.front ≤ length r.holders.free = q.bounded in
    let free = ending.free in
    let longer_free : length e.holders.free ≡ length r.holders.free + length free.0 = ap length free.1 ∙ length-append r.holders.free free.0 in
    let whole : s ≡ record r { entries = moved r.entries n Ended; holders = e.holders } = moves ∙ ap (λ (x : Roster). record x { entries = moved x.entries n Ended }) is in
    subst (λ (x : Roster). CanPass x) (sym whole)
    (record {
      front = omega (arith, bounded, longer_free);
      known = λ i lt. passes (moved r.entries n Ended) e.holders i held.free (ending.waits ∙ q.sizes ∙ sym size) lt;
    })

pub ended_kept : (cowns limit : ℕ) (r e s p : Roster) (n : ℕ) → IsKept cowns limit r → MayStart r.entries n ⊎ Runs r.entries n
    → IsEnding r.holders (slice_index r.places n) (slice_index r.places n + length (claims_at r.entries n)) e.holders → e ≡ record r { holders = e.holders }
    → s ≡ record e { entries = moved e.entries n Ended } → IsFront s.entries s.holders.free s.front p.front → p ≡ record s { front = p.front } → IsKept cowns limit p
ended_kept cowns limit r e s p n kept goes ending is moves found f =
    let q : AreQueued r.entries r.places r.holders r.front = kept.queued in
    let may : MayEnd (queue cowns limit r) r.holders n = may_end (queue cowns limit r) r.places r.holders r.front n kept.right q goes in
    let after : s ≡ record r { entries = moved r.entries n Ended; holders = e.holders } = moves ∙ ap (λ (x : Roster). record x { entries = moved x.entries n Ended }) is in
    let whole : p ≡ record r { entries = moved r.entries n Ended; holders = e.holders; front = p.front } = f ∙ ap (λ (x : Roster). record x { front = p.front }) after in
    subst (λ (x : Roster). IsKept cowns limit x) (sym whole) (record {
      right = moved_queue (queue cowns limit r) n Ended kept.right may.there;
      limits = kept.limits;
      held_limit = ending.limit ∙ kept.held_limit;
      held_cowns = ending.cowns ∙ kept.held_cowns;
      queued = ended_queued r.entries r.places r.holders e.holders r.front p.front n q may.there may.none ending
          (subst (λ (x : Roster). IsFront x.entries x.holders.free x.front p.front) after found);
    })

pub ended_entries : (r e s p : Roster) (n : ℕ) → e ≡ record r { holders = e.holders } → s ≡ record e { entries = moved e.entries n Ended } → p ≡ record s { front = p.front }
    → p.entries ≡ moved r.entries n Ended
ended_entries r e s p n is moves f =
    ap (λ (x : Roster). x.entries) f ∙ ap (λ (x : Roster). x.entries) moves ∙ ap (λ (x : Roster). moved x.entries n Ended) is

pub started_entries : (r s p : Roster) (n : ℕ) → s ≡ record r { entries = moved r.entries n Started } → p ≡ record s { front = p.front } → p.entries ≡ moved r.entries n Started
started_entries r s p n e f = ap (λ (x : Roster). x.entries) f ∙ ap (λ (x : Roster). x.entries) e

-- ---- an entry enters

one_longer : (entries : List Entry) (claims : List Claim) → length (longer entries claims) ≡ length entries + 1
one_longer entries claims = length_push entries (entered claims)

-- what an entry more needs
pub record CanAdd (r : Roster) (claims : List Claim) : Type 0 where
  pub entries : length r.entries < r.limit
  pub small : length r.holders.claims < 2 ^ 32
  pub kept : AreHeld r.holders (length r.holders.waits)
  pub settled : AreSettled r.holders
  pub known : AreClaims (length r.holders.cowns) claims
  pub room : length r.holders.waits < r.holders.limit
  pub places : length r.holders.claims ≤ most_claims * length r.holders.waits
  pub limit : r.holders.limit ≤ most_entries

pub can_add : (cowns limit : ℕ) (r : Roster) (claims : List Claim) → IsKept cowns limit r → length r.entries < limit → AreClaims cowns claims → CanAdd r claims
can_add cowns limit r claims kept room right =
    let q : AreQueued r.entries r.places r.holders r.front = kept.queued in
    let placed : ArePlaced r.entries r.places r.holders.claims = q.placed in
    let held : AreHeld r.holders (length r.holders.waits) = q.kept in
    let small : length r.holders.claims + 1 < nowhere = held.small in
    let queue_right : IsQueue (queue cowns limit r) = kept.right in
    let few : length r.holders.claims ≤ most_claims * length r.entries = placed.few in
    let waits : length r.holders.waits ≡ length r.entries = q.sizes in
    let limits : r.limit ≡ limit = kept.limits in
    let held_limits : r.holders.limit ≡ limit = kept.held_limit in
    let most : limit ≤ most_entries = queue_right.limit in
    record {
      entries = omega (arith, room, limits);
      small = omega (arith, small);
      kept = held;
      settled = q.settled;
      known = subst (λ (n : ℕ). AreClaims n claims) (sym kept.held_cowns) right;
      room = omega (arith, room, waits, held_limits);
      places = omega (arith, few, waits);
      limit = omega (arith, held_limits, most);
    }

pub entered_may_pass : (cowns limit : ℕ) (r a : Roster) (claims : List Claim) → IsKept cowns limit r
    → AreHeld a.holders (length a.holders.waits) → HasEntered r.holders a.holders claims → a ≡ record (added r claims) { holders = a.holders } → CanPass a
entered_may_pass cowns limit r a claims kept held has is =
    let q : AreQueued r.entries r.places r.holders r.front = kept.queued in
    let size : length (longer r.entries claims) ≡ length r.entries + 1 = one_longer r.entries claims in
    let sizes : length a.holders.waits ≡ length (longer r.entries claims) = has.waits ∙ ap (λ (i : ℕ). i + 1) q.sizes ∙ sym size in
    let bounded : r.front ≤ length r.holders.free = q.bounded in
    let free = has.free in
    let longer_free : length a.holders.free ≡ length r.holders.free + length free.0 = ap length free.1 ∙ length-append r.holders.free free.0 in
    subst (λ (x : Roster). CanPass x) (sym is)
    (record { front = omega (arith, bounded, longer_free); known = λ i lt. passes (longer r.entries claims) a.holders i held.free sizes lt })

pub entered_kept : (cowns limit : ℕ) (r a p : Roster) (claims : List Claim) → IsKept cowns limit r → length r.entries < limit → AreClaims cowns claims
    → AreHeld a.holders (length a.holders.waits) → AreSettled a.holders → HasEntered r.holders a.holders claims → a ≡ record (added r claims) { holders = a.holders }
    → IsFront a.entries a.holders.free a.front p.front → p ≡ record a { front = p.front } → IsKept cowns limit p
entered_kept cowns limit r a p claims kept room right held settled has is found f =
    let q : AreQueued r.entries r.places r.holders r.front = kept.queued in
    let whole : p ≡ record (added r claims) { holders = a.holders; front = p.front } = f ∙ ap (λ (x : Roster). record x { front = p.front }) is in
    subst (λ (x : Roster). IsKept cowns limit x) (sym whole) (record {
      right = longer_queue (queue cowns limit r) claims kept.right room right;
      limits = kept.limits;
      held_limit = has.limit ∙ kept.held_limit;
      held_cowns = has.cowns ∙ kept.held_cowns;
      queued = entered_queued r.entries r.places r.holders a.holders claims r.front p.front q right.few held settled has
          (subst (λ (x : Roster). IsFront x.entries x.holders.free x.front p.front) is found);
    })

pub entered_entries : (r a p : Roster) (claims : List Claim) → a ≡ record (added r claims) { holders = a.holders } → p ≡ record a { front = p.front }
    → p.entries ≡ longer r.entries claims
entered_entries r a p claims is f = ap (λ (x : Roster). x.entries) f ∙ ap (λ (x : Roster). x.entries) is

-- what is known of the value, if there is one
pub if_some : (P Q : ℕ → Type 0) (o : Option ℕ) → IfSome o P → ((n : ℕ) → P n → Q n) → IfSome o Q
if_some P Q None p step = tt
if_some P Q (Some n) p step = step n p
