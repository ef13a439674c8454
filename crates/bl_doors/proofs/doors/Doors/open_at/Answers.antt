use Rattle.std.proofs.Common.{rules, ◌≡◌, ◌∙◌, length, sym}
use Rattle.std.specs.Vec.Iter.{into_iter_len}
use Rattle.std.proofs.lemmas.Iterator.Adapters.{YieldsList-from_vec}
use Rattle.std.proofs.lemmas.Iterator.Consumers.{YieldsList-end}
use Rattle.std.proofs.lemmas.List.{map-id}
use Rattle.bl_doors.proofs.doors.Doors.open_at.Goals as goal

pub returns : goal.returns
returns g c =
    let places = c.args.places.items in
    let gives = c.into_iter-place-iterator.ensures.into_iter_gives in
    let count : into_iter_len c.into_iter-place-iterator.result ≡ length places = search rules in
    let end = YieldsList-end (YieldsList-from_vec places gives.0 count) c.loop-place.yielded c.loop-place.place-iterator c.loop-place.yielded_by c.next.result c.next.new.self c.in-None.is c.next.ensures.steps in
    c.loop-place.invariant.so_far ∙ sym (map-id c.loop-place.yielded) ∙ end.0
