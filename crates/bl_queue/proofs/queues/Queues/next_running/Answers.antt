use Rattle.std.proofs.Common.{ℕ, ◌<◌, ◌≤◌, length, MatchOption, arith, subst, sym}
use Rattle.bl_queue.specs.Entries.{Runs, IsFirstRunning}
use Rattle.bl_queue.specs.Queues.{Queue}
use Rattle.bl_queue.proofs.Running.{first_running}
use Rattle.bl_queue.proofs.queues.Queues.next_running.Goals as goal

pub next-requires : goal.next-requires
next-requires c =
    let most = c.self.invariant.kept.right.limit in
    omega (arith, most)

-- no entry has a number from the limit on
pub returns-then-from-self : goal.returns-then-from-self
returns-then-from-self c n le runs =
    let few = c.self.invariant.kept.right.few in
    let inside = subst (λ (q : Queue). Runs q.entries n) (sym c.self.view_is) runs in
    let there : n < length c.self.inside.roster.entries = inside.there in
    omega (arith, le, few, there)

pub returns : goal.returns
returns c =
    subst (λ (q : Queue). MatchOption c.next.result ((n : ℕ) → c.args.from ≤ n → ¬ Runs q.entries n) (IsFirstRunning q.entries c.args.from)) c.self.view_is
    (first_running c.self.inside.roster.entries c.self.inside.limit c.self.inside.running c.args.from c.next.result c.self.invariant.running c.next.ensures)
