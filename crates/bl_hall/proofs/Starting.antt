-- That an entry may start, where its start is not refused.
use Rattle.std.proofs.Common.{◌≡◌, ℕ, Bool, true, false, refl, sym, ◌∙◌, true≢false}
use Rattle.std.specs.Prelude.{IsTrue, Ok, Err, ◌↔◌, Result}
use Rattle.bl_order.specs.Machine.{State, MayStart, may_start}

pub may-from : (x : State) (n : ℕ) → (IsTrue (may_start x n) ↔ MayStart x n) → ((MayStart x n → ⊥) → ⊥) → MayStart x n
may-from x n test not_not = go (may_start x n) refl
  where
    go : (b : Bool) → may_start x n ≡ b → MayStart x n
    go true is = test.0 is
    go false is = absurd (not_not (λ may. true≢false (sym (test.1 may) ∙ is)))

pub ok-no-err : {T E : Type 0} {r : Result T E} (x : T) (e : E) → r ≡ Ok x → r ≡ Err e → ⊥
ok-no-err x e h k = cc
