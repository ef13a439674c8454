-- What queues are, and what the calls make of them.
use Rattle.std.specs.Prelude.{ℕ, ◌≤◌, List, [], ◌∷◌, ◌++◌, length, All, slice_set}
use Rattle.bl_queue.specs.declared.claim.Claim.{Claim}
use Rattle.bl_queue.specs.declared.entry.Stand.{Stand}
use Rattle.bl_queue.specs.Claims.{AreClaims}
use Rattle.bl_queue.specs.Entries.{Entry, entered, standing, entry_at}

-- how many cowns there are, how many entries may enter, and those that have entered, in order
pub record Queue : Type 0 where
  pub cowns : ℕ
  pub limit : ℕ
  pub entries : List Entry

-- own choice: 1,024 documents, and the policy
abbrev pub most_cowns : ℕ
most_cowns = 1025

-- own choice: 100,000 entries
abbrev pub most_entries : ℕ
most_entries = 100000

-- the queues with one more entry, which waits
abbrev pub with_entry : Queue → List Claim → Queue
with_entry q claims = record q { entries = q.entries ++ entered claims ∷ [] }

-- the queues with one entry's stand changed
abbrev pub with_stand : Queue → ℕ → Stand → Queue
with_stand q n stand = record q { entries = slice_set q.entries n (standing (entry_at q.entries n) stand) }

-- what every queue keeps: its limits, no more entries than may enter, and each with claims that it may have
pub record IsQueue (q : Queue) : Type 0 where
  pub cowns : q.cowns ≤ most_cowns
  pub limit : q.limit ≤ most_entries
  pub few : length q.entries ≤ q.limit
  pub each : All (λ (e : Entry). AreClaims q.cowns e.claims) q.entries
