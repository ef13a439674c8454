use Rattle.std.proofs.Common.{Option, sym, subst}
use Rattle.std.specs.Prelude.{All, IfNone}
use Rattle.std.proofs.lemmas.Bool.{false≢true}
use Rattle.bl_read.specs.RuleFaults.{right_mentions, IsKnown}
use Rattle.bl_read.proofs.RuleMeanings.{subject_there, document_there}
use Rattle.bl_read.proofs.rules.right_of.Goals as goal

pub returns-in_err-subject-clause-unknown : goal.returns-in_err-subject-clause-unknown
returns-in_err-subject-clause-unknown c =
    subst (λ x. IfNone x (All (IsKnown c.args.names.now) (right_mentions c.args.right.now.subject.now c.args.right.now.document.now) → ⊥)) (sym c.from_residual.ensures)
    (λ all. false≢true (c.in_err-subject.ensures.found.1 (subject_there c.args.names.now c.args.right.now.subject.now c.args.right.now.document.now all)))

pub returns-in_err-document-clause-unknown : goal.returns-in_err-document-clause-unknown
returns-in_err-document-clause-unknown c =
    subst (λ x. IfNone x (All (IsKnown c.args.names.now) (right_mentions c.args.right.now.subject.now c.args.right.now.document.now) → ⊥)) (sym c.from_residual-in_err-document.ensures)
    (λ all. false≢true (c.in_err-document.ensures.found.1 (document_there c.args.names.now c.args.right.now.subject.now c.args.right.now.document.now all)))
