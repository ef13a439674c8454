use Rattle.std.specs.Prelude.{Some, None}
use Rattle.bl_options.proofs.Given.{given_not_left_out}
use Rattle.bl_options.proofs.hosting.idle_of.Goals as goal

pub returns-in-Some-None-clause-none : goal.returns-in-Some-None-clause-none
returns-in-Some-None-clause-none c None has range = given_not_left_out _ _ c.in-Some-None.ensures has
returns-in-Some-None-clause-none c (Some seconds) has range = c.in-Some-None.ensures'.none seconds has range.0 range.1
