-- What a start lets run is of its entry.
use Rattle.std.specs.Prelude.{ℕ}
use Rattle.std.proofs.Common.{ap}
use Rattle.bl_order.specs.Machine.{State}
use Rattle.bl_eval.specs.Loan.{Loan}
use Rattle.bl_core.specs.Answers.{IsStarted}
use Rattle.bl_core.specs.declared.machine.Started.{Started}
use Rattle.bl_core.specs.declared.machine.Started.TheVariants.{Denied, RuleDone, Run}
use Rattle.bl_gate.specs.Gates.{IsOf}

pub what_runs_is_of : (x : State) (n : ℕ) (begun : Started) → IsStarted x n begun → IsOf n begun
what_runs_is_of x n (Denied denial) started = tt
what_runs_is_of x n RuleDone started = tt
what_runs_is_of x n (Run lent) started = ap (λ (loan : Loan). loan.entry) started.1
