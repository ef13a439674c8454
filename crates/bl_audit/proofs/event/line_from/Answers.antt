use Rattle.std.proofs.Common.{◌≡◌, ◌<◌, ℕ, ◌∙◌, subst}
use Rattle.bl_audit.proofs.Lines.{skip-child, take-line}
use Rattle.bl_audit.proofs.event.line_from.Goals as goal

within : {m n k : ℕ} → m ≡ n → k < m → k < n
within {k = k} is lt = subst (λ j. k < j) is lt

pub returns-in-Some-clause-lines : goal.returns-in-Some-clause-lines
returns-in-Some-clause-lines c = c.loop-n.invariant ∙ take-line c.args.core.now c.loop-n.n c.in-Some.work.now c.in-Some.ensures.work

pub loop-n-preserved : goal.loop-n-preserved
loop-n-preserved c = c.loop-n.invariant ∙ skip-child c.args.core.now c.loop-n.n (within c.entries-n-end.ensures.count c.loop-n-test.true) c.in_default.ensures.work
