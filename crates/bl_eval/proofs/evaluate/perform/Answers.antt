use Rattle.std.proofs.Common.{[], refl, sym, ◌∙◌}
use Rattle.bl_eval.proofs.Loans.{changed_by-none}
use Rattle.bl_eval.proofs.evaluate.perform.Goals as goal

pub returns-clause-done : goal.returns-clause-done
returns-clause-done c =
    let after = c.in_ok-run.ensures.ran.on c.args.grants.now [] (record { contents = sym (changed_by-none c.args.grants.now); shown = refl; spawned = c.new.ensures.items }) in
    record { outputs = c.of.ensures ∙ after.shown; spawned = after.spawned; left = after.contents }
