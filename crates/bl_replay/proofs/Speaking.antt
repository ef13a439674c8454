-- What a place does stays the same, whatever happens.
use Rattle.std.proofs.Common.{◌≡◌, ℕ, ◌<◌, length, ap, sym, inl, inr}
use Rattle.bl_order.specs.Headline.{IsReached}
use Rattle.bl_order.specs.Past.{Past}
use Rattle.bl_order.specs.Machine.{State, Event, Opens, Admits, Starts, Ends, Loses, Needs, change, past_at, phase_at}
use Rattle.bl_order.proofs.Sound.{IsSound}
use Rattle.bl_order.proofs.Reached.{sound-reached}
use Rattle.bl_order.proofs.Steps.{past-alike, running_is_not_over, waiting_is_not_over}
use Rattle.bl_order.proofs.Trails.{past-admitted, past-started, past-ended, within}

task-step : (x : State) (e : Event) → IsSound x → Needs x e → (m : ℕ) → m < length x.order → (past_at (change x e) m).task ≡ (past_at x m).task
task-step x (Opens s) sound needs m lt = ap (λ (p : Past). p.task) (refl_past x m)
  where
    refl_past : (y : State) (n : ℕ) → past_at y n ≡ past_at y n
    refl_past y n = λ i. past_at y n
task-step x (Admits i o w) sound needs m lt = ap (λ (p : Past). p.task) (past-admitted x sound i o w m lt)
task-step x (Starts k) sound may m lt = ap (λ (p : Past). p.task) (past-started x sound k may m)
task-step x (Ends k) sound running m lt = ap (λ (p : Past). p.task) (past-ended x sound k running m lt)
task-step x (Loses k) sound (inl running) m lt = sym (past-alike x k sound (within x sound k running) (running_is_not_over (phase_at x k) running) m lt).task
task-step x (Loses k) sound (inr may) m lt = sym (past-alike x k sound may.there (waiting_is_not_over (phase_at x k) may.waits) m lt).task

pub task-stays : (x : State) (e : Event) → IsReached x → Needs x e → (m : ℕ) → m < length x.order → (past_at (change x e) m).task ≡ (past_at x m).task
task-stays x e reached needs m lt = task-step x e (sound-reached x reached) needs m lt
