use Rattle.std.proofs.Common.{Option, refl, sym, subst}
use Rattle.bl_chain.proofs.Spans.{first-of}
use Rattle.bl_chain_audit.specs.Noted.{IsBeginning}
use Rattle.bl_chain_audit.specs.declared.noted.NotedRun.{NotedRun}
use Rattle.bl_chain_audit.proofs.noted.first_run.Goals as goal

pub returns-in-Some : goal.returns-in-Some
returns-in-Some c there is = subst (λ (o : Option NotedRun). IsBeginning there o c.in-Some.one.run) (sym c.in-Some.is) refl

pub returns-in-None : goal.returns-in-None
returns-in-None c there is =
    subst (λ (o : Option NotedRun). IsBeginning there o c.args.setups.first) (sym c.in-None.is) (first-of there c.args.setups is)
