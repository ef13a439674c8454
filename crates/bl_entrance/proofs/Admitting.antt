-- A connection that a thread is given.
use Rattle.std.proofs.Common.{◌≡◌, ◌++◌, ◌∷◌, [], ℕ, List, get_or}
use Rattle.bl_entrance.specs.Arrivals.{HasGiven}
use Rattle.bl_entrance.specs.declared.acceptor.Accepted.{Accepted}
use Rattle.bl_entrance.specs.declared.acceptor.Place.{Place}

pub gives-one : (number thread : ℕ) (old new : List Place) (accepted : Accepted)
    → ((d : Place) → (get_or new thread d).all_accepted.items ≡ (get_or old thread d).all_accepted.items ++ accepted ∷ [])
    → accepted.number ≡ number → HasGiven number thread old new
gives-one number thread old new accepted given is = record { accepted = accepted; number_is = is; given = given }
