-- Desks, by the numbers of their threads.
use Rattle.std.proofs.Common.{◌≡◌, ◌<◌, ◌∙◌, inl, inr, ℕ, List, [], ◌∷◌, ◌++◌, length, get_or, ap, sym, arith, length-append}
use Rattle.std.proofs.lemmas.Bool.{cases_lt}
use Rattle.std.proofs.Math.ListN.{get_or-append}
use Rattle.std.proofs.Math.Seq.{get_or-append_seam}
use Rattle.bl_keeper.specs.Desks.{AreNumbered}
use Rattle.bl_keeper.specs.declared.desk.Desk.{Desk}

-- one comes, of the thread with the next number
pub numbered_more : (desks : List Desk) (desk : Desk) → desk.thread ≡ length desks → AreNumbered desks → AreNumbered (desks ++ desk ∷ [])
numbered_more desks desk next numbered i d low =
    let long = length-append desks (desk ∷ []) in
    let number = λ (x : Desk). x.thread in
    elim (cases_lt i (length desks)) [
      | inl below ↦ ap number (get_or-append desks (desk ∷ []) d i below) ∙ numbered i d below
      | inr high ↦
          (let last : i ≡ length desks = omega (arith, long) in
          ap (λ k. number (get_or (desks ++ desk ∷ []) k d)) last ∙ (ap number (get_or-append_seam desks desk [] d) ∙ (next ∙ sym last)))
    ]
