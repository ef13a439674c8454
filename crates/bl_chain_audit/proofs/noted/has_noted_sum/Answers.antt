use Rattle.std.proofs.Common.{Option, refl, sym, subst}
use Rattle.std.specs.Prelude.{◌↔◌, IfOk, IsTrue}
use Rattle.bl_chain_audit.specs.Noted.{HasNotedSum}
use Rattle.bl_chain_audit.specs.declared.noted.NotedRun.{NotedRun}
use Rattle.bl_chain_audit.proofs.noted.has_noted_sum.Goals as goal

pub returns-in-Some : goal.returns-in-Some
returns-in-Some c =
    subst (λ (o : Option NotedRun). IfOk c.has_sum.result (λ has. IsTrue has ↔ HasNotedSum o c.args.setup.now)) (sym c.in-Some.is) c.has_sum.ensures

pub returns-in-None : goal.returns-in-None
returns-in-None c = ((λ t. subst (λ (o : Option NotedRun). HasNotedSum o c.args.setup.now) (sym c.in-None.is) tt), (λ sum. refl))
