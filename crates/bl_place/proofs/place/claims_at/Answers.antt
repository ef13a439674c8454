use Rattle.std.proofs.Common.{◌∙◌, sym}
use Rattle.bl_place.specs.Places.{task_in}
use Rattle.bl_place.proofs.Entering.{claims-runs}
use Rattle.bl_place.proofs.place.claims_at.Goals as goal

pub returns-in-Some : goal.returns-in-Some
returns-in-Some c =
    c.of_behaviour.ensures ∙ sym (claims-runs (task_in c.args.places.now c.args.n) c.in-Some.accesses.now c.in-Some.ensures.1 c.in-Some.ensures.0)
