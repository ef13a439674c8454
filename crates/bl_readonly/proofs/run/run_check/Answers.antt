use Rattle.std.proofs.Common.{◌≡◌, List, ℕ, rules, subst}
use Rattle.bl_wire.specs.Watch.{used}
use Rattle.bl_checking.specs.Checks.{IsCheckRun}
use Rattle.bl_readonly.proofs.run.run_check.Goals as goal

-- over the bytes of the setup file, under its name
pub returns-in-Ok-clause-run : goal.returns-in-Ok-clause-run
returns-in-Ok-clause-run g c =
    let bytes : c.as_slice.result.now ≡ c.in-Ok.bytes.items = search rules in
    let path : c.as_bytes.result.now ≡ c.args.path.now = search rules in
    let output = used g.W.Write.contents c.args.writer.now c.check_on.new.output in
    let errors = used g.E.Write.contents c.args.errors.now c.check_on.new.errors in
    rw c.in-Ok.is (subst (λ (l : List ℕ). IsCheckRun c.args.path.now l c.check_on.result output errors) bytes
    (subst (λ (l : List ℕ). IsCheckRun l c.as_slice.result.now c.check_on.result output errors) path c.check_on.ensures.run))
