use Rattle.bl_policy.proofs.FieldLemmas.{below-of_sound}
use Rattle.bl_policy.proofs.policy.Policy.failed_condition.Goals as goal

pub returns-in-Current-clause-below : goal.returns-in-Current-clause-below
returns-in-Current-clause-below c = below-of_sound c.self.inside c.args.self.now c.self.view_is c.self.invariant

pub returns-in_default-clause-below : goal.returns-in_default-clause-below
returns-in_default-clause-below c = below-of_sound c.self.inside c.args.self.now c.self.view_is c.self.invariant

pub returns-in-Classify-clause-below : goal.returns-in-Classify-clause-below
returns-in-Classify-clause-below c = below-of_sound c.self.inside c.args.self.now c.self.view_is c.self.invariant

pub returns-in-Create-clause-below : goal.returns-in-Create-clause-below
returns-in-Create-clause-below c = below-of_sound c.self.inside c.args.self.now c.self.view_is c.self.invariant

pub returns-in-Delete-clause-below : goal.returns-in-Delete-clause-below
returns-in-Delete-clause-below c = below-of_sound c.self.inside c.args.self.now c.self.view_is c.self.invariant

pub returns-in_default-2-clause-below : goal.returns-in_default-2-clause-below
returns-in_default-2-clause-below c = below-of_sound c.self.inside c.args.self.now c.self.view_is c.self.invariant

pub returns-in_default-2-2-clause-below : goal.returns-in_default-2-2-clause-below
returns-in_default-2-2-clause-below c = below-of_sound c.self.inside c.args.self.now c.self.view_is c.self.invariant

pub returns-in_default-2-3-clause-below : goal.returns-in_default-2-3-clause-below
returns-in_default-2-3-clause-below c = below-of_sound c.self.inside c.args.self.now c.self.view_is c.self.invariant

pub returns-in_default-2-4-clause-below : goal.returns-in_default-2-4-clause-below
returns-in_default-2-4-clause-below c = below-of_sound c.self.inside c.args.self.now c.self.view_is c.self.invariant

pub returns-in-Current-2-clause-below : goal.returns-in-Current-2-clause-below
returns-in-Current-2-clause-below c = below-of_sound c.self.inside c.args.self.now c.self.view_is c.self.invariant
