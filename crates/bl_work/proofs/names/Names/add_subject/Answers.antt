use Rattle.std.proofs.Common.{rules, arith}
use Rattle.std.proofs.lemmas.Grind.{common_steps}
use Rattle.bl_work.proofs.names.Names.add_subject.Goals as goal

pub returns-in_err-add-clause-too_many : goal.returns-in_err-add-clause-too_many
returns-in_err-add-clause-too_many c = search rules

pub returns-in_err-add-clause-repeated : goal.returns-in_err-add-clause-repeated
returns-in_err-add-clause-repeated c = search rules

pub invariant_of-self-2 : goal.invariant_of-self-2
invariant_of-self-2 c = grind (arith, common_steps)

pub returns-clause-too_many : goal.returns-clause-too_many
returns-clause-too_many c = search rules
