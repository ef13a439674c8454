-- What the queues know of the places.
use Rattle.std.specs.Prelude.{◌≡◌, ℕ, ◌+◌, ◌<◌, Bool, true, not, List, ◌∷◌, length, map}
use Rattle.bl_policy.specs.Mode.{is_exclusive}
use Rattle.bl_policy.specs.declared.access.Access.{Access}
use Rattle.bl_order.specs.Claims.{NumberedClaim, numbered_claims}
use Rattle.bl_order.specs.Order.{Task}
use Rattle.bl_queue.specs.Claims.{AreClaims}
use Rattle.bl_queue.specs.Entries.{Entry, entry_at}
use Rattle.bl_queue.specs.Queues.{Queue}
use Rattle.bl_queue.specs.declared.claim.Claim.{Claim}
use Rattle.bl_queue.specs.declared.entry.Stand.{Stand as QueueStand}
use Rattle.bl_queue.specs.declared.entry.Stand.TheVariants as queues
use Rattle.bl_place.specs.Places.{place_in, task_in, HasTask}
use Rattle.bl_place.specs.declared.place.Place.{Place}
use Rattle.bl_place.specs.declared.place.Stand.{Stand}
use Rattle.bl_place.specs.declared.place.Stand.TheVariants.{Waiting, Running, Ended}

-- the claims of a task, as the queues take them
abbrev pub claims_for : Task → List Claim
claims_for task = map (λ (c : NumberedClaim). record { cown = c.cown; shared = c.shared }) (numbered_claims task)

-- the claim of the policy
abbrev pub policy_claim : Bool → Claim
policy_claim shared = record { cown = 0; shared = shared }

-- the claim of a document that is declared
abbrev pub document_claim : Access → Claim
document_claim access = record { cown = access.doc + 1; shared = not (is_exclusive access.mode) }

-- the claims of a behaviour, by what it declares
abbrev pub behaviour_claims : List Access → List Claim
behaviour_claims accesses = policy_claim true ∷ map document_claim accesses

-- where an entry of the queues stands
abbrev pub stand_for : Stand → QueueStand
stand_for Waiting = queues.Waiting
stand_for Running = queues.Started
stand_for (Ended answer) = queues.Ended

-- the entry of a place
abbrev pub queued_at : List Place → ℕ → Entry
queued_at places n = record { claims = claims_for (task_in places n); stand = stand_for (place_in places n).stand }

-- so many of the places have entered the queues, with the claims of their tasks, and stand there as here
pub record QueuesTell (cowns limit : ℕ) (places : List Place) (entered : ℕ) (q : Queue) : Type 0 where
  pub cowns_are : q.cowns ≡ cowns
  pub limit_is : q.limit ≡ limit
  pub as_many : length q.entries ≡ entered
  pub each : (n : ℕ) → n < entered → entry_at q.entries n ≡ queued_at places n

-- a place that may enter the queues: it has not begun, and its claims are some that an entry may have
pub record MayEnter (cowns : ℕ) (places : List Place) (n : ℕ) : Type 0 where
  pub task : HasTask places n
  pub claims : AreClaims cowns (claims_for (task_in places n))
  pub waits : stand_for (place_in places n).stand ≡ queues.Waiting
