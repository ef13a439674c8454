-- What is known of a result, taken further.
use Rattle.std.proofs.Common.{◌≡◌, Result, Ok, Err, refl}
use Rattle.std.specs.Prelude.{MatchResult}

module _ {T E : Type 0} where
  pub both : {P P' P'' : T → Type 0} {Q Q' Q'' : E → Type 0} (r : Result T E) → ((x : T) → r ≡ Ok x → P x → P' x → P'' x) → ((e : E) → r ≡ Err e → Q e → Q' e → Q'' e)
      → MatchResult r P Q → MatchResult r P' Q' → MatchResult r P'' Q''
  both (Ok x) f g a b = f x refl a b
  both (Err e) f g a b = g e refl a b

  -- what holds either way holds
  pub always : {G : Type 0} (r : Result T E) → MatchResult r (λ _. G) (λ _. G) → G
  always (Ok x) g = g
  always (Err e) g = g
