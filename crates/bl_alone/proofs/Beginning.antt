-- The hall that a run begins with.
use Rattle.std.proofs.Common.{◌≡◌, ◌<◌, ◌∙◌, ℕ, Bool, true, false, List, IsTrue, ap, arith, length}
use Rattle.bl_hall.specs.Chronicle.{Chronicle, state_now}
use Rattle.bl_order.specs.Machine.{has_ended}
use Rattle.bl_setup.specs.Setup.{Setup}
use Rattle.bl_trail_run.specs.Beginning.{Begins}

-- it is over the setup
pub begun_setup : (resumes : Bool) (setup : Setup) (limit : ℕ) (text : List ℕ) (hall : Chronicle) (cut : ℕ) → Begins resumes setup limit text hall cut → hall.setup ≡ setup
begun_setup false setup limit text hall cut begins = ap (λ (h : Chronicle). h.setup) begins.0
begun_setup true setup limit text hall cut begins = begins.finished.on.grown.setup ∙ begins.finished.setup_is

-- all that had been admitted there has ended
pub begun_ended : (resumes : Bool) (setup : Setup) (limit : ℕ) (text : List ℕ) (hall : Chronicle) (cut : ℕ) → Begins resumes setup limit text hall cut
    → (n : ℕ) → n < length (state_now hall).order → IsTrue (has_ended (state_now hall) n)
begun_ended false setup limit text hall cut begins n lt = absurd (omega (arith, lt, ap (λ (h : Chronicle). length (state_now h).order) begins.0))
begun_ended true setup limit text hall cut begins n lt = begins.finished.ended n lt
