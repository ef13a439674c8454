-- Whether there is nothing, by whether there is something.
use Rattle.std.proofs.Common.{◌≡◌, Bool, true, false, not, refl, sym, true≢false}
use Rattle.std.specs.Prelude.{Option, Some, None, is_none}
use Rattle.std.specs.Option.{is_some}

pub none-is : {X : Type 0} (o : Option X) (b : Bool) → is_some o ≡ not b → b ≡ is_none o
none-is None true is = refl
none-is None false is = absurd (true≢false (sym is))
none-is (Some x) true is = absurd (true≢false is)
none-is (Some x) false is = refl
