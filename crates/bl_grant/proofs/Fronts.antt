-- What an addition leaves of the front.
use Rattle.std.proofs.Common.{◌≡◌, ℕ, ◌≤◌, List, ◌++◌, take, length, sym, ◌∙◌, subst, arith, length-append, Result, Ok, Err}
use Rattle.std.specs.Prelude.{OnOk, OnErr}
use Rattle.std.proofs.lemmas.List.{length-take, take-take, take-append-le}
use Rattle.bl_work.specs.Content.{most_bytes, added}
use Rattle.bl_grant.specs.Fronts.{HasFront}

module _ (n : ℕ) (content text : List ℕ) (has : HasFront n content) where
  pub has-added : HasFront n (added content text)
  unfolding added
  has-added = record {
    within = let w : n ≤ length content = has.within in let s : n ≤ most_bytes = has.short in
        omega (arith, length-take most_bytes (content ++ text), length-append content text);
    short = has.short;
  }

  pub take-added : take n (added content text) ≡ take n content
  unfolding added
  take-added = take-take n most_bytes (content ++ text) has.short ∙ take-append-le n content text has.within

-- where it was tried the content has its front, whether it was refused or not
pub has-tried : {U E : Type 0} (r : Result U E) (n : ℕ) (content text : List ℕ) → HasFront n content → (new : List ℕ) → OnOk r (new ≡ added content text) → OnErr r (new ≡ content)
    → HasFront n new
has-tried (Ok u) n content text has new ok err = subst (HasFront n) (sym ok) (has-added n content text has)
has-tried (Err e) n content text has new ok err = subst (HasFront n) (sym err) has
