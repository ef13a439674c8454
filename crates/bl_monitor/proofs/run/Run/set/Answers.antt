use Rattle.std.proofs.Common.{◌∙◌, ap, set}
use Rattle.std.proofs.lemmas.Result.{on_ok_weaker}
use Rattle.bl_monitor.proofs.Runs.{run_put}
use Rattle.bl_monitor.proofs.run.Run.set.Goals as goal

pub returns-clause-ran : goal.returns-clause-ran
returns-clause-ran c = on_ok_weaker c.put.result (λ puts start so_far stands. run_put start so_far c.args.contents.now c.args.self.now stands c.put.new.contents c.put.new.self c.args.doc
    (ap (λ v. v.items) c.put.ensures.shown) (ap (λ v. v.items) c.put.ensures.spawned) c.args.text.now
    (puts ∙ ap (set c.args.contents.now c.args.doc) c.in_ok-content.ensures)) c.put.ensures.put
