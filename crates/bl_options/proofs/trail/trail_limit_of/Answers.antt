use Rattle.bl_options.proofs.Given.{trail_limit_none}
use Rattle.bl_options.proofs.trail.trail_limit_of.Goals as goal

pub returns-clause-none : goal.returns-clause-none
returns-clause-none c = trail_limit_none c.args.options.now c.number.result c.number.ensures.none
