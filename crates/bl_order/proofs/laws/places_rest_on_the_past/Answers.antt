use Rattle.std.proofs.Common.{refl}
use Rattle.bl_order.proofs.Places.{place-grown}
use Rattle.bl_order.proofs.PlaceLaws.{place-lost}
use Rattle.bl_order.proofs.laws.places_rest_on_the_past.Goals as goal

pub returns : goal.returns
returns c = record {
  entries = λ setup lost order more n lt. place-grown setup lost lost order more n (λ _. refl) lt;
  losses = λ setup order n lost others same. place-lost setup lost others order n same;
}
