-- How the claims and the entries of the code go together.
use Rattle.std.specs.Prelude.{◌≡◌, ℕ, ◌+◌, ◌*◌, ◌<◌, ◌≤◌, Bool, true, false, List, [], ◌∷◌, ◌++◌, length, slice_index, slice_index_or, slice_set}
use Rattle.bl_queue.specs.declared.claim.Claim.{Claim}
use Rattle.bl_queue.specs.declared.cown.Held.{Held}
use Rattle.bl_queue.specs.declared.entry.Stand.{Stand}
use Rattle.bl_queue.specs.Claims.{most_claims}
use Rattle.bl_queue.specs.Entries.{Entry, entry_at, entered, standing, is_waiting, is_ended}
use Rattle.bl_queue.specs.Queues.{IsQueue}
use Rattle.bl_queue.specs.Holders.{Holders, held_at, held_of, over_at, no_holders, AreHeld, AreSettled}

abbrev pub no_claim : Claim
no_claim = record { cown = 0; shared = false }

abbrev pub claims_at : List Entry → ℕ → List Claim
claims_at entries n = (entry_at entries n).claims

-- the claims of each entry stand together, from its place on, and entry after entry
pub record ArePlaced (entries : List Entry) (places : List ℕ) (claims : List Held) : Type 0 where
  pub sizes : length places ≡ length entries
  pub few : length claims ≤ most_claims * length entries
  pub within : (n : ℕ) → n < length entries → slice_index places n + length (claims_at entries n) ≤ length claims
  pub held : (n j : ℕ) → n < length entries → j < length (claims_at entries n)
      → held_at claims (slice_index places n + j) ≡ held_of n (slice_index_or (claims_at entries n) j no_claim)
  pub known : (p : ℕ) → p < length claims → (held_at claims p).entry < length entries
  pub behind : (p : ℕ) → p < length claims → slice_index places (held_at claims p).entry ≤ p
  pub before : (p : ℕ) → p < length claims → p < slice_index places (held_at claims p).entry + length (claims_at entries (held_at claims p).entry)
  pub order : (p q : ℕ) → p < q → q < length claims → (held_at claims p).entry ≤ (held_at claims q).entry

-- the entry that is listed as free at this place waits
abbrev pub waits_at : List Entry → List ℕ → ℕ → Bool
waits_at entries free i = is_waiting (entry_at entries (slice_index free i)).stand

-- the claims are those of the entries, those of ended ones are over, what has begun is free, and of the entries that are listed
-- as free the front is the first that waits
pub record AreQueued (entries : List Entry) (places : List ℕ) (s : Holders) (front : ℕ) : Type 0 where
  pub kept : AreHeld s (length s.waits)
  pub settled : AreSettled s
  pub sizes : length s.waits ≡ length entries
  pub placed : ArePlaced entries places s.claims
  pub over : (p : ℕ) → p < length s.claims → over_at s.over p ≡ is_ended (entry_at entries (held_at s.claims p).entry).stand
  pub begun : (n : ℕ) → n < length entries → is_waiting (entry_at entries n).stand ≡ false → slice_index s.waits n ≡ 0
  pub bounded : front ≤ length s.free
  pub passed : (i : ℕ) → i < front → waits_at entries s.free i ≡ false
  pub next : front < length s.free → waits_at entries s.free front ≡ true

-- from here on, the first place of the listed entries whose entry waits
pub record IsFront (entries : List Entry) (free : List ℕ) (from front : ℕ) : Type 0 where
  pub most : front ≤ length free
  pub passed : (i : ℕ) → from ≤ i → i < front → waits_at entries free i ≡ false
  pub next : front < length free → waits_at entries free front ≡ true

-- the entries with one that stands elsewhere
abbrev pub moved : List Entry → ℕ → Stand → List Entry
moved entries n stand = slice_set entries n (standing (entry_at entries n) stand)

-- the entries with one more
abbrev pub longer : List Entry → List Claim → List Entry
longer entries claims = entries ++ entered claims ∷ []

-- the entries, the place of the first claim of each, the claims, and the front
pub record Roster : Type 0 where
  pub entries : List Entry
  pub places : List ℕ
  pub holders : Holders
  pub front : ℕ
  pub limit : ℕ

abbrev pub no_roster : ℕ → ℕ → Roster
no_roster cowns limit = record { entries = []; places = []; holders = no_holders cowns limit; front = 0; limit = limit }

-- the roster with one entry more, whose claims come next
abbrev pub added : Roster → List Claim → Roster
added r claims = record r { entries = longer r.entries claims; places = r.places ++ length r.holders.claims ∷ [] }

-- the entries are right, and the claims are theirs
pub record IsKept (cowns limit : ℕ) (r : Roster) : Type 0 where
  pub right : IsQueue (record { cowns = cowns; limit = limit; entries = r.entries })
  pub limits : r.limit ≡ limit
  pub held_limit : r.holders.limit ≡ limit
  pub held_cowns : length r.holders.cowns ≡ cowns
  pub queued : AreQueued r.entries r.places r.holders r.front
