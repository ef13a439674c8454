use Rattle.std.proofs.Common.{refl}
use Rattle.bl_order.proofs.PlaceLaws.{line-carries_nothing}
use Rattle.bl_order.proofs.laws.places_run_at_their_level.Goals as goal

pub returns : goal.returns
returns c = record {
  level = λ setup lost order n. refl;
  lines = λ setup lost order n session ordinal subject work stands. line-carries_nothing setup lost order n session ordinal subject work stands;
}
