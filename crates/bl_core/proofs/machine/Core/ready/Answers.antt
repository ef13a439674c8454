use Rattle.std.proofs.Common.{ℕ, subst, sym}
use Rattle.std.specs.Prelude.{IfSome, Option, Some, None}
use Rattle.bl_order.specs.Machine.{State, MayStart}
use Rattle.bl_queue.specs.Entries as entries
use Rattle.bl_core.proofs.Queueing.{may-queued, queue-may}
use Rattle.bl_core.proofs.machine.Core.ready.Goals as goal

-- what is said of the number in an option
if_some : (o : Option ℕ) (P Q : ℕ → Type 0) → ((n : ℕ) → P n → Q n) → IfSome o P → IfSome o Q
if_some None P Q f h = tt
if_some (Some n) P Q f h = f n h

pub returns-clause-some : goal.returns-clause-some
returns-clause-some c =
    if_some c.ready.result (entries.MayStart c.self.inside.queues.entries) (MayStart c.args.self.now)
    (λ n may. subst (λ (x : State). MayStart x n) c.self.view_is (may-queued c.self.inside c.self.invariant n may)) c.ready.ensures.some

pub returns-clause-none : goal.returns-clause-none
returns-clause-none c none n may =
    c.ready.ensures.none none n (queue-may c.self.inside c.self.invariant n (subst (λ (x : State). MayStart x n) (sym c.self.view_is) may))
