use Rattle.std.proofs.Common.{◌≡◌, length}
use Rattle.std.proofs.lemmas.Result.{IfOk-weaker}
use Rattle.bl_hall.specs.Linked.{AreGathered, places_with}
use Rattle.bl_hall.specs.Told.{is_above}
use Rattle.bl_hall.proofs.Gathering.{above-gathered, have-families}
use Rattle.bl_hall.proofs.walk.places_above.Goals as goal

pub gather_families-requires : goal.gather_families-requires
gather_families-requires c =
    have-families c.args.core.now c.requires.reached c.args.session c.args.after c.args.links.now c.requires.links c.in_ok-lines.lines.items c.in_ok-lines.ensures

pub returns : goal.returns
returns c =
    IfOk-weaker c.gather_families.result (λ places. AreGathered c.args.links.now c.in_ok-lines.lines.items places.items)
    (λ places. places.items ≡ places_with c.args.core.now.order (is_above c.args.session c.args.after) (length c.args.core.now.order))
    (λ places g. above-gathered c.args.core.now c.requires.reached c.args.session c.args.after c.args.links.now c.requires.links c.in_ok-lines.lines.items places.items c.in_ok-lines.ensures g)
    c.gather_families.ensures
