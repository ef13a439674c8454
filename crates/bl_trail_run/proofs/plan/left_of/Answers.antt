use Rattle.std.proofs.Common.{refl}
use Rattle.bl_trail_run.proofs.plan.left_of.Goals as goal

pub returns-in-AsItGoes-clause-file : goal.returns-in-AsItGoes-clause-file
returns-in-AsItGoes-clause-file g c = rw c.in-AsItGoes.is refl

pub returns-in-AtEnd-clause-file : goal.returns-in-AtEnd-clause-file
returns-in-AtEnd-clause-file g c = rw c.in-AtEnd.is tt
