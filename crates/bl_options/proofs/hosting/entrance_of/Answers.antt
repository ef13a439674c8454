use Rattle.bl_options.specs.declared.hosting.NamedEntrance.TheVariants.{Port, Doors}
use Rattle.bl_options.proofs.Given.{given_not_left_out}
use Rattle.bl_options.proofs.hosting.entrance_of.Goals as goal

pub returns-in-None-clause-none : goal.returns-in-None-clause-none
returns-in-None-clause-none c (Port port) has range = c.in-None.ensures.none port has.0 range.0 range.1
returns-in-None-clause-none c (Doors folder) has range = given_not_left_out _ _ c.in-Some-None.ensures has.0
