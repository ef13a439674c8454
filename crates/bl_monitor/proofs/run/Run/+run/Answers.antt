use Rattle.std.proofs.Common.{◌≤◌, [], ◌∷◌, length, sym, subst, arith}
use Rattle.std.proofs.lemmas.List.{take_all}
use Rattle.std.proofs.lemmas.Result.{on_ok_weaker}
use Rattle.bl_work.specs.Body.{statements_of, depth}
use Rattle.bl_monitor.specs.Running.{GoesOn, UsesBelow}
use Rattle.bl_monitor.proofs.Runs.{goes_on_more, depth_of_one, uses-at}
use Rattle.bl_monitor.proofs.Undoes.{back_on}
use Rattle.bl_monitor.proofs.run.Run.+run.Goals as goal

pub perform-returns-in-Say-clause-ran : goal.perform-returns-in-Say-clause-ran
perform-returns-in-Say-clause-ran t c = rw c.in-Say.is (on_ok_weaker c.say.result (λ ran. ran c.args.contents.now) c.say.ensures.ran)

pub perform-returns-in-Add-clause-ran : goal.perform-returns-in-Add-clause-ran
perform-returns-in-Add-clause-ran t c = rw c.in-Add.is c.add.ensures.ran

pub perform-returns-in-Set-clause-ran : goal.perform-returns-in-Set-clause-ran
perform-returns-in-Set-clause-ran t c = rw c.in-Set.is c.set.ensures.ran

pub perform-returns-in-Spawn-clause-ran : goal.perform-returns-in-Spawn-clause-ran
perform-returns-in-Spawn-clause-ran t c = rw c.in-Spawn.is (on_ok_weaker c.spawn.result (λ ran. ran c.args.contents.now) c.spawn.ensures.ran)

pub run-perform-requires : goal.run-perform-requires
run-perform-requires t c =
    let falls : depth (statements_of (c.statement-item.result ∷ [])) ≤ depth (statements_of c.args.statements.now) =
    depth_of_one c.args.statements.now c.loop-statement.statement-index c.statement-item.result c.loop-statement-test.true c.statement-item.is in (
      omega (arith, falls, c.decreases),
      subst (λ n. UsesBelow n (statements_of (c.statement-item.result ∷ []))) (sym c.loop-statement.invariant.1.long)
          (uses-at (length c.args.contents.now) c.args.statements.now c.loop-statement.statement-index c.statement-item.result c.loop-statement-test.true c.statement-item.is c.requires),
    )

pub run-loop-statement-preserved : goal.run-loop-statement-preserved
run-loop-statement-preserved t c = (
  goes_on_more c.args.statements.now c.loop-statement.statement-index c.statement-item.result c.args.contents.now c.loop-statement.contents c.perform.new.contents
      c.args.self.now c.loop-statement.self c.perform.new.self c.loop-statement-test.true c.statement-item.is c.loop-statement.invariant.0 c.in_ok-perform.ensures.ran,
  back_on c.args.contents.now c.loop-statement.contents c.perform.new.contents c.args.self.now c.loop-statement.self c.perform.new.self c.loop-statement.invariant.1 c.perform.ensures.back,
)

pub run-returns-clause-ran : goal.run-returns-clause-ran
run-returns-clause-ran t c =
    subst (λ xs. GoesOn (statements_of xs) c.args.contents.now c.args.self.now c.loop-statement.contents c.loop-statement.self)
    (take_all c.loop-statement.statement-index c.args.statements.now (omega arith)) c.loop-statement.invariant.0
