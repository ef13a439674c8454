use Rattle.std.proofs.Common.{◌≡◌}
use Rattle.std.proofs.lemmas.Result.{on_ok_weaker}
use Rattle.bl_monitor.specs.Undoing.{content_listed}
use Rattle.bl_monitor.proofs.Runs.{poured, read_content}
use Rattle.bl_monitor.proofs.run.Run.pour.Goals as goal

pub returns-clause-ran : goal.returns-clause-ran
returns-clause-ran c =
    let at : c.index-contents-position.result ≡ content_listed c.args.contents.now c.args.from = read_content c.args.contents.now c.args.from c.position.result c.index-contents-position.result c.index-contents-position.is c.position.ensures c.requires.from in
    let read : c.in_ok-poured.poured ≡ content_listed c.args.contents.now c.args.from = cc (c.in_ok-poured.ensures, at, c.index-contents-position.is) in
    on_ok_weaker c.add.result (λ adds. poured c.args.from c.args.to c.in_ok-poured.poured c.args.contents.now c.add.new.contents c.args.self.now c.add.new.self c.requires.from read adds) c.add.ensures.ran
