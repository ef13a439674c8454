-- What a core begins with: nothing has happened, and there is room.
use Rattle.std.specs.Prelude.{◌≡◌, ℕ, ◌+◌, ◌≤◌, [], length, map}
use Rattle.std.specs.Vec.{vec_capacity}
use Rattle.bl_setup.specs.Setup.{Setup}
use Rattle.bl_setup.specs.Agreement.{Agree}
use Rattle.bl_setup.specs.declared.version.Version.TheVariants.{Two}
use Rattle.bl_order.specs.Machine.{most_sessions}
use Rattle.bl_place.specs.Shelves.{new_shelf}
use Rattle.bl_core.specs.declared.beginning.Beginning.{Beginning}

-- the policy and the contents of the setup, which is of version 2, no session and no place, and room for the most
-- sessions and so many places
pub record Begins (setup : Setup) (limit : ℕ) (b : Beginning) : Type 0 where
  pub agree : Agree setup
  pub two : setup.version ≡ Two
  pub policy : b.policy ≡ setup.policy
  pub sessions : b.sessions.items ≡ []
  pub places : b.places.items ≡ []
  pub shelves : b.shelves.items ≡ map new_shelf setup.contents
  pub queues : b.queues ≡ record { cowns = length setup.policy.documents + 1; limit = limit; entries = [] }
  pub reserved : limit ≤ vec_capacity b.places
  pub rooms : most_sessions ≤ vec_capacity b.sessions
