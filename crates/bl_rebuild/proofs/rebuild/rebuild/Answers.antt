use Rattle.bl_rebuild.proofs.Recovering.{rebuilt-by}
use Rattle.bl_rebuild.proofs.rebuild.rebuild.Goals as goal

pub returns-clause-ok : goal.returns-clause-ok
returns-clause-ok c =
    rebuilt-by c.args.setup.now c.version-version.ensures.two c.args.text.now c.in_ok-follower.follower c.in_ok-follower.ensures.ok
    c.in_ok-rebuilt.rebuilt c.in_ok-rebuilt.ensures
