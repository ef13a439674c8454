-- One event, in a state that a trail leads to.
use Rattle.std.proofs.Common.{◌≡◌, ◌≤◌, ◌+◌, refl}
use Rattle.bl_order.specs.Headline.{IsReached}
use Rattle.bl_order.specs.Machine.{State, Event, Opens, Admits, Starts, Ends, Loses, Needs, change}
use Rattle.bl_order.proofs.Reached.{sound-reached}
use Rattle.bl_order.proofs.RoomProof.{LinesAskScripts, roomy-reached}
use Rattle.bl_sizes.specs.Sizes.{HoldsDocuments, full_size}
use Rattle.bl_sizes.proofs.Growing.{event_size, full-step}

-- events leave the setup and the limit

pub setup-stays : (x : State) (e : Event) → (change x e).setup ≡ x.setup
setup-stays x (Opens s) = refl
setup-stays x (Admits i o w) = refl
setup-stays x (Starts n) = refl
setup-stays x (Ends n) = refl
setup-stays x (Loses n) = refl

pub limit-stays : (x : State) (e : Event) → (change x e).limit ≡ x.limit
limit-stays x (Opens s) = refl
limit-stays x (Admits i o w) = refl
limit-stays x (Starts n) = refl
limit-stays x (Ends n) = refl
limit-stays x (Loses n) = refl

module _ (all : LinesAskScripts) where
  pub full-next : (x : State) (e : Event) → IsReached x → HoldsDocuments x.setup → Needs x e → full_size (change x e) ≤ full_size x + event_size x.setup.names e
  full-next x e r short needs = full-step x (sound-reached x r) (roomy-reached x all r) short e needs
