-- The entries in the order in which they entered, and which of them may start.
use Rattle.std.specs.Prelude.{ℕ, ◌<◌, ◌≤◌, Bool, true, false, ◌⊎◌, IsTrue, List, [], length, slice_index_or}
use Rattle.bl_queue.specs.declared.claim.Claim.{Claim}
use Rattle.bl_queue.specs.declared.entry.Stand.{Stand}
use Rattle.bl_queue.specs.declared.entry.Stand.TheVariants.{Waiting, Started, Ended}
use Rattle.bl_queue.specs.Claims.{conflict}

abbrev pub is_waiting : Stand → Bool
is_waiting Waiting = true
is_waiting Started = false
is_waiting Ended = false

abbrev pub is_started : Stand → Bool
is_started Waiting = false
is_started Started = true
is_started Ended = false

abbrev pub is_ended : Stand → Bool
is_ended Waiting = false
is_ended Started = false
is_ended Ended = true

-- an entry: what it claims, and where it stands
pub record Entry : Type 0 where
  pub claims : List Claim
  pub stand : Stand

-- an entry with these claims, as it enters
abbrev pub entered : List Claim → Entry
entered claims = record { claims = claims; stand = Waiting }

-- the entry, with another stand
abbrev pub standing : Entry → Stand → Entry
standing e stand = record { claims = e.claims; stand = stand }

-- what stands where there is no entry
abbrev pub no_entry : Entry
no_entry = record { claims = []; stand = Ended }

abbrev pub entry_at : List Entry → ℕ → Entry
entry_at entries n = slice_index_or entries n no_entry

-- each entry before this place that conflicts with the claims has ended
abbrev pub IsClear : List Entry → ℕ → List Claim → Type 0
IsClear entries n claims = (m : ℕ) → m < n → IsTrue (conflict (entry_at entries m).claims claims) → IsTrue (is_ended (entry_at entries m).stand)

-- MayStart (Cheeseman et al. 2023; own choice: sharing): an entry waits, and each earlier one that it conflicts with has ended
pub record MayStart (entries : List Entry) (n : ℕ) : Type 0 where
  pub there : n < length entries
  pub waits : IsTrue (is_waiting (entry_at entries n).stand)
  pub clear : IsClear entries n (entry_at entries n).claims

-- an entry is there and runs
pub record Runs (entries : List Entry) (n : ℕ) : Type 0 where
  pub there : n < length entries
  pub started : IsTrue (is_started (entry_at entries n).stand)

-- the first entry from a number on that runs
pub record IsFirstRunning (entries : List Entry) (from n : ℕ) : Type 0 where
  pub behind : from ≤ n
  pub runs : Runs entries n
  pub least : (m : ℕ) → from ≤ m → m < n → ¬ Runs entries m

-- something is ready or started
abbrev pub GoesOn : List Entry → Type 0
GoesOn entries = (n : ℕ) × (MayStart entries n ⊎ Runs entries n)
