-- A place or none, kept as one number: the greatest one that four bytes hold stands for none.
use Rattle.std.specs.Prelude.{◌≡◌, ℕ, ◌==◌, if◌then◌else◌, Bool, true, false, Option, Some, None}
use Rattle.std.proofs.Common.{refl, sym}
use Rattle.std.proofs.lemmas.Bool.{eqb-true}

abbrev pub place_of : ℕ → Option ℕ
place_of number = if number == 4294967295 then None else Some number

abbrev pub number_of : Option ℕ → ℕ
number_of None = 4294967295
number_of (Some place) = place

-- what is kept tells its number
pub same_number : (number : ℕ) → number_of (place_of number) ≡ number
same_number number = by_test (number == 4294967295) refl
  where
    by_test : (none : Bool) → (number == 4294967295) ≡ none → number_of (if none then None else Some number) ≡ number
    by_test true is = sym (eqb-true number 4294967295 is)
    by_test false is = refl
