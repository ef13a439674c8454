use Rattle.std.proofs.Common.{◌≡◌, List, ℕ, Bool, true, false, rules, subst}
use Rattle.bl_wire.specs.Watch.{Use}
use Rattle.bl_readonly.specs.Runs.{EndsReplay}
use Rattle.bl_readonly.proofs.run.run_replay.Goals as goal

-- a replay over the same bytes
over : (opens : Bool) (s t u v : List ℕ) (status : ℕ) (output errors : Use) → s ≡ u → t ≡ v → EndsReplay opens s t status output errors → EndsReplay opens u v status output errors
over opens s t u v status output errors is that ends =
    subst (λ (l : List ℕ). EndsReplay opens l v status output errors) is (subst (λ (l : List ℕ). EndsReplay opens s l status output errors) that ends)

pub returns-then-asked-clause-run : goal.returns-then-asked-clause-run
returns-then-asked-clause-run g c =
    let setup : c.as_slice-setup.result.now ≡ c.in-Ok.files.setup.items = search rules in
    let trail : c.as_slice-trail.result.now ≡ c.in-Ok.files.trail.items = search rules in
    rw c.in-Ok.is (rw c.if-asked.true (over true c.as_slice-setup.result.now c.as_slice-trail.result.now _ _ _ _ _ setup trail c.replay_open_on.ensures.run))

pub returns-clause-run : goal.returns-clause-run
returns-clause-run g c =
    let setup : c.as_slice-setup.result.now ≡ c.in-Ok.files.setup.items = search rules in
    let trail : c.as_slice-trail.result.now ≡ c.in-Ok.files.trail.items = search rules in
    rw c.in-Ok.is (rw c.if-asked.false (over false c.as_slice-setup.result.now c.as_slice-trail.result.now _ _ _ _ _ setup trail c.replay_on.ensures.run))
