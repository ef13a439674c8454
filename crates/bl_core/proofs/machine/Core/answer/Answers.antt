use Rattle.std.proofs.Common.{◌≡◌, sym, subst, arith}
use Rattle.bl_order.specs.Machine.{State, past_at}
use Rattle.bl_order.specs.Known.{KnowsAnswer}
use Rattle.bl_core.proofs.Looking.{answer-known}
use Rattle.bl_core.proofs.Reading.{answer-at}
use Rattle.bl_core.proofs.machine.Core.answer.Goals as goal

pub returns-in-Ended-clause-value : goal.returns-in-Ended-clause-value
returns-in-Ended-clause-value c =
    sym (subst (λ (x : State). (past_at x c.args.n).answer ≡ c.in-Ended.answer) c.self.view_is
    (answer-at c.self.inside c.self.invariant c.args.n c.index.result.now c.in-Ended.answer (omega arith) c.index.ensures c.in-Ended.is))

pub returns-in-Ended-clause-known : goal.returns-in-Ended-clause-known
returns-in-Ended-clause-known c =
    subst (λ (x : State). KnowsAnswer x.setup c.in-Ended.answer) c.self.view_is
    (subst (KnowsAnswer c.self.inside.setup)
    (answer-at c.self.inside c.self.invariant c.args.n c.index.result.now c.in-Ended.answer (omega arith) c.index.ensures c.in-Ended.is)
    (answer-known c.self.inside c.self.invariant c.args.n (omega arith)))
