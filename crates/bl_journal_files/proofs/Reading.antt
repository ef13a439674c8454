-- What a reader gives, told by its first bytes.
use Rattle.std.proofs.Common.{◌≡◌, ◌↔◌, ◌<◌, ◌≤◌, ◌∙◌, ℕ, List, Bool, Option, None, Some, IfSome, ap, arith, length, sym, take}
use Rattle.std.specs.Prelude.{IsTrue}
use Rattle.std.proofs.lemmas.List.{length-take, take_all}

-- where one byte more than there are to be would be read, all was read that is there
all_read : (n : ℕ) (all bs : List ℕ) → length bs < n → take n all ≡ bs → all ≡ bs
all_read n all bs more is =
    let short : length all ≤ n = omega (arith, ap length is, length-take n all) in
    sym (take_all n all short) ∙ is

pub has_just : (remaining : Option (List ℕ)) (found bs : List ℕ) (n : ℕ) (is : Bool) → length bs < n → IfSome remaining (λ all. found ≡ take n all)
    → (IsTrue is ↔ (found ≡ bs)) → IfSome remaining (λ all. IsTrue is ↔ (all ≡ bs))
has_just None found bs n is more read same = tt
has_just (Some all) found bs n is more read same = (
  (λ yes'. all_read n all bs more (sym read ∙ same.0 yes')),
  (λ e. same.1 (read ∙ ap (take n) e ∙ take_all n bs (omega (arith, more)))),
)
