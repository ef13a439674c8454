use Rattle.std.proofs.Common.{subst}
use Rattle.bl_replay.specs.declared.place.Place.{Place}
use Rattle.std.specs.Prelude.{List, ◌↔◌, IsTrue}
use Rattle.bl_left.specs.Ended.{AreOver}
use Rattle.bl_left.proofs.Over.{over-ended}
use Rattle.bl_left.proofs.told.have_all_ended.Goals as goal

pub returns : goal.returns
returns c x keeps =
    let over : IsTrue c.are_over.result ↔ AreOver c.args.replayer.now.places.items =
    subst (λ (l : List Place). IsTrue c.are_over.result ↔ AreOver l) c.deref.ensures.value c.are_over.ensures in
    let ended = over-ended x c.args.replayer.now keeps in
    ((λ yes. ended.0 (over.0 yes)), (λ all. over.1 (ended.1 all)))
