use Rattle.bl_policy.proofs.Rules.{as_many-after, same_rights-after, below-after}
use Rattle.bl_policy.proofs.laws.rules_keep_rights.Goals as goal

pub returns-clause-subjects : goal.returns-clause-subjects
returns-clause-subjects c = λ p s rule. (as_many-after p s rule).subjects

pub returns-clause-documents : goal.returns-clause-documents
returns-clause-documents c = λ p s rule. (as_many-after p s rule).documents

pub returns-clause-greatest : goal.returns-clause-greatest
returns-clause-greatest c = λ p s u rule. (same_rights-after p s u rule).greatest

pub returns-clause-trusted : goal.returns-clause-trusted
returns-clause-trusted c = λ p s u rule. (same_rights-after p s u rule).trusted

pub returns-clause-admin : goal.returns-clause-admin
returns-clause-admin c = λ p s u rule. (same_rights-after p s u rule).admin

pub returns-clause-below : goal.returns-clause-below
returns-clause-below c = below-after c.dominates_means_dominance.ensures
