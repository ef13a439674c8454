use Rattle.std.specs.Prelude.{Some, None}
use Rattle.bl_options.proofs.Given.{given_not_left_out}
use Rattle.bl_options.proofs.start.start_of.Goals as goal

pub returns-in-None-clause-none : goal.returns-in-None-clause-none
returns-in-None-clause-none c None has range = given_not_left_out _ _ c.in-Some-Some.ensures has.0
returns-in-None-clause-none c (Some start) has range = c.in-None.ensures.none start.run has.0 range.0.0 range.0.1
