use Rattle.std.proofs.Common.{arith}
use Rattle.bl_allowance.proofs.Holding.{due_after}
use Rattle.bl_allowance.proofs.buffer.Buffer.give.Goals as goal

pub returns-clause-due : goal.returns-clause-due
returns-clause-due c =
    let old = c.args.self.now in
    due_after c.min-count.result old.due old.given old.bytes.items (omega (arith, c.min-count.ensures))
