use Rattle.std.proofs.Common.{◌≡◌, List, ℕ, rules, subst}
use Rattle.bl_wire.specs.Watch.{used}
use Rattle.bl_explaining_trail.specs.Explains.{IsTrailRun}
use Rattle.bl_readonly.proofs.run.run_explain_trail.Goals as goal

-- over the bytes of both files
pub returns-in-Ok-clause-run : goal.returns-in-Ok-clause-run
returns-in-Ok-clause-run g c =
    let setup : c.as_slice.result.now ≡ c.in-Ok.files.setup.items = search rules in
    let trail : c.as_slice-in-Ok.result.now ≡ c.in-Ok.files.trail.items = search rules in
    let status = c.explain_trail_on.result in
    let output = used g.W.Write.contents c.args.writer.now c.explain_trail_on.new.writer in
    let errors = used g.E.Write.contents c.args.errors.now c.explain_trail_on.new.errors in
    rw c.in-Ok.is (subst (λ (l : List ℕ). IsTrailRun c.in-Ok.files.setup.items l c.args.asked.now status output errors) trail
    (subst (λ (l : List ℕ). IsTrailRun l c.as_slice-in-Ok.result.now c.args.asked.now status output errors) setup c.explain_trail_on.ensures.run))
