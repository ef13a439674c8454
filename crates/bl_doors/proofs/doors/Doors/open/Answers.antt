use Rattle.std.proofs.Common.{◌≡◌, ◌∙◌, [], sym, subst}
use Rattle.std.specs.Prelude.{All}
use Rattle.std.proofs.lemmas.Result.{IfOk-weaker}
use Rattle.bl_doors.specs.Doors.{AreDoors, stand_at}
use Rattle.bl_doors.specs.Places.{IsPlaceIn}
use Rattle.bl_doors.specs.declared.doors.Doors.{Doors}
use Rattle.bl_doors.proofs.Placing.{some-places}
use Rattle.bl_doors.proofs.doors.Doors.open.Goals as goal

pub returns : goal.returns
returns g c =
    let names = c.args.names.now in
    let folder = c.args.folder.now in
    let places = c.in_ok-places.places.items in
    let are = c.in_ok-places.ensures.places in
    IfOk-weaker c.open_at.result (λ (doors : Doors). stand_at doors ≡ places) (AreDoors names folder) (λ doors all. record {
      places = subst (All (IsPlaceIn names folder)) (sym all) are.there;
      some = λ none'. are.some (sym are.named ∙ some-places places (sym all ∙ none'));
    }) c.open_at.ensures
