use Rattle.std.proofs.Common.{◌≡◌, List, ℕ, rules, subst}
use Rattle.bl_wire.specs.Watch.{used}
use Rattle.bl_standing.specs.States.{IsStateRun}
use Rattle.bl_readonly.proofs.run.run_state.Goals as goal

-- over the bytes of both files
pub returns-in-Ok-clause-run : goal.returns-in-Ok-clause-run
returns-in-Ok-clause-run g c =
    let setup : c.as_slice.result.now ≡ c.in-Ok.files.setup.items = search rules in
    let trail : c.as_slice-in-Ok.result.now ≡ c.in-Ok.files.trail.items = search rules in
    let status = c.state_on.result in
    let output = used g.W.Write.contents c.args.writer.now c.state_on.new.writer in
    let errors = used g.E.Write.contents c.args.errors.now c.state_on.new.errors in
    rw c.in-Ok.is (subst (λ (l : List ℕ). IsStateRun c.in-Ok.files.setup.items l status output errors) trail
    (subst (λ (l : List ℕ). IsStateRun l c.as_slice-in-Ok.result.now status output errors) setup c.state_on.ensures.run))
