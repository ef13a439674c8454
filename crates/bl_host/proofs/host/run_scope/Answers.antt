use Rattle.bl_host.proofs.Passes.{follows_on}
use Rattle.bl_host.proofs.host.run_scope.Goals as goal

pub returns-clause-whole : goal.returns-clause-whole
returns-clause-whole g c whole =
    follows_on c.args.pass c.count_trail-counted.new.pass c.scoped-joined.result.0.pass c.count_trail-counted.ensures.follows (c.scoped-joined.ensures.1.1 whole)
