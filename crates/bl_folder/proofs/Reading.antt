-- What a reader gives within a bound.
use Rattle.std.proofs.Common.{◌≡◌, ◌<◌, ◌≤◌, ◌+◌, ◌∙◌, ℕ, List, Option, None, Some, IfSome, ap, arith, length, sym, take}
use Rattle.std.proofs.lemmas.List.{length-take, take_all}

pub within : (remaining : Option (List ℕ)) (found : List ℕ) (most : ℕ) → IfSome remaining (λ all. found ≡ take (most + 1) all) → length found ≤ most
    → IfSome remaining (λ all. (length all ≤ most) × (found ≡ all))
within None found most read short = tt
within (Some all) found most read short =
    let few : length all ≤ most + 1 = omega (arith, ap length read, length-take (most + 1) all, short) in
    let same : found ≡ all = read ∙ take_all (most + 1) all few in
    (omega (arith, short, ap length same), same)
