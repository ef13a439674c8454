-- The setup of a hall stays what it began with.
use Rattle.std.proofs.Common.{◌≡◌, List, [], ◌∷◌, refl, ◌∙◌, ap}
use Rattle.bl_setup.specs.Setup.{Setup}
use Rattle.bl_order.specs.Machine.{State, Event, start, change, state_after}
use Rattle.bl_hall.specs.Chronicle.{Chronicle, state_now}
use Rattle.bl_hall.proofs.Recalling.{same-setup}

setup-stays : (x : State) (events : List Event) → (state_after x events).setup ≡ x.setup
setup-stays x [] = refl
setup-stays x (event ∷ events) = setup-stays (change x event) events ∙ same-setup x event

pub names_stay : (hall : Chronicle) → (state_now hall).setup.names ≡ hall.setup.names
names_stay hall = ap (λ (setup : Setup). setup.names) (setup-stays (start hall.setup hall.limit) hall.trail)
