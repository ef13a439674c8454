use Rattle.std.proofs.Common.{◌≡◌, List, ℕ, rules, subst}
use Rattle.bl_wire.specs.Watch.{used}
use Rattle.bl_explaining.specs.Explains.{IsExplainRun}
use Rattle.bl_readonly.proofs.run.run_explain.Goals as goal

-- over the bytes of the setup file
pub returns-in-Ok-clause-run : goal.returns-in-Ok-clause-run
returns-in-Ok-clause-run g c =
    let bytes : c.as_slice.result.now ≡ c.in-Ok.bytes.items = search rules in
    let output = used g.W.Write.contents c.args.writer.now c.explain_on.new.writer in
    let errors = used g.E.Write.contents c.args.errors.now c.explain_on.new.errors in
    rw c.in-Ok.is
    (subst (λ (l : List ℕ). IsExplainRun l c.args.question.now c.explain_on.result output errors) bytes c.explain_on.ensures.run)
