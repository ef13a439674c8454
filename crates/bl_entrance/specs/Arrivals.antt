-- What is heard first of a connection, and which number it has.
use Rattle.std.specs.Prelude.{◌≡◌, ◌++◌, ◌∷◌, ℕ, List, [], get_or, string_bytes}
use Rattle.bl_doors.specs.Greetings.{greeting_of}
use Rattle.bl_entrance.specs.declared.acceptor.Accepted.{Accepted}
use Rattle.bl_entrance.specs.declared.acceptor.Place.{Place}
use Rattle.bl_entrance.specs.declared.entrance.Arrival.{Arrival}
use Rattle.bl_entrance.specs.declared.entrance.Arrival.TheVariants.{Port, Door}

-- at a port what is sent; of who came by a door first the greeting of its subject
abbrev pub greeting_at : Arrival → List ℕ
greeting_at (Port stream from) = []
greeting_at (Door incoming) = greeting_of (string_bytes incoming.door.now.place.name)

-- the thread at this place was given a connection more, which has this number
pub record HasGiven (number thread : ℕ) (old new : List Place) : Type 0 where
  pub accepted : Accepted
  pub number_is : accepted.number ≡ number
  pub given : (d : Place) → (get_or new thread d).all_accepted.items
      ≡ (get_or old thread d).all_accepted.items ++ accepted ∷ []
