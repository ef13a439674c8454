use Rattle.std.proofs.Common.{rules, ◌≡◌, ◌++◌, ◌∷◌, [], ◌∙◌, ap, sym, subst, get_or, map}
use Rattle.std.specs.Prelude.{All, Contains, string_bytes}
use Rattle.bl_doors.specs.Places.{IsPlaceIn, door_path}
use Rattle.bl_doors.proofs.Placing.{all-more, name_of, named-more}
use Rattle.bl_doors.proofs.place.places_of.Goals as goal

pub loop-name-preserved : goal.loop-name-preserved
loop-name-preserved c =
    let names = c.args.names.now in
    let folder = c.args.folder.now in
    let found = c.args.found.now in
    let i = c.loop-name.name-index in
    let old = c.loop-name.places.items in
    let place = c.in_ok-place_in.field-0 in
    let name = c.name-item.result in
    let items : c.push_reserved.new.self.items ≡ old ++ place ∷ [] = search rules in
    let same : string_bytes place.name ≡ string_bytes name = search rules in
    let known : Contains names.subjects (string_bytes name) = search rules in
    let path : string_bytes place.path ≡ door_path folder (string_bytes name) = search rules in
    let at : get_or found i name ≡ name = search rules in
    let here : IsPlaceIn names folder place = record {
      known = subst (Contains names.subjects) (sym same) known;
      path = path ∙ ap (door_path folder) (sym same);
    } in
    record {
      named = ap (map name_of) items ∙ named-more old place found i name c.loop-name-test.true c.loop-name.invariant.named same at;
      places = subst (All (IsPlaceIn names folder)) (sym items) (all-more (IsPlaceIn names folder) old place c.loop-name.invariant.places here);
    }
