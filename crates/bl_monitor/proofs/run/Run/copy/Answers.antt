use Rattle.std.proofs.Common.{◌≡◌, ◌∙◌, ap, set}
use Rattle.std.proofs.lemmas.Result.{on_ok_weaker}
use Rattle.bl_monitor.specs.Undoing.{content_listed}
use Rattle.bl_monitor.proofs.Runs.{run_copied, read_content}
use Rattle.bl_monitor.proofs.run.Run.copy.Goals as goal

pub returns-clause-ran : goal.returns-clause-ran
returns-clause-ran c =
    let at : c.index-contents-position.result ≡ content_listed c.args.contents.now c.args.from = read_content c.args.contents.now c.args.from c.position.result c.index-contents-position.result c.index-contents-position.is c.position.ensures c.requires.from in
    let read : c.in_ok-content.content ≡ content_listed c.args.contents.now c.args.from = cc (c.in_ok-content.ensures, at, c.index-contents-position.is) in
    on_ok_weaker c.put.result (λ puts start so_far stands. run_copied start so_far c.args.contents.now c.args.self.now stands c.put.new.contents c.put.new.self c.args.to
    (ap (λ v. v.items) c.put.ensures.shown) (ap (λ v. v.items) c.put.ensures.spawned) c.args.from c.requires.from (puts ∙ ap (set c.args.contents.now c.args.to) read)) c.put.ensures.put
