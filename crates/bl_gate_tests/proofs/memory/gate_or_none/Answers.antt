use Rattle.std.proofs.Common.{◌≡◌, IfSome, sym, subst}
use Rattle.std.proofs.lemmas.Result.{IfOk-weaker}
use Rattle.std.specs.Prelude.{IfOk, Ok, Err, Result}
use Rattle.std.specs.Result.{result_ok}
use Rattle.bl_gate_tests.proofs.memory.gate_or_none.Goals as goal

-- what holds of a value holds of it where the error was let go, too
some_if_ok : {T E : Type 0} (outcome : Result T E) (Holds : T → Type 0) → IfOk outcome Holds
    → IfSome (result_ok outcome) Holds
some_if_ok (Ok x) Holds held = held
some_if_ok (Err e) Holds held = tt

pub returns-clause-gate : goal.returns-clause-gate
returns-clause-gate c =
    subst (λ made. IfSome made (λ m. m.1.gate ≡ m.0)) (sym c.ok.ensures.value)
    (some_if_ok c.new.result (λ m. m.1.gate ≡ m.0)
    (IfOk-weaker c.new.result _ (λ m. m.1.gate ≡ m.0) (λ m known. known.0) c.new.ensures.gate))

pub returns-clause-parts : goal.returns-clause-parts
returns-clause-parts c =
    subst (λ made. IfSome made (λ m. m.1.parts ≡ 64)) (sym c.ok.ensures.value)
    (some_if_ok c.new.result (λ m. m.1.parts ≡ 64) c.new.ensures.parts)
