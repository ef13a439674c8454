use Rattle.std.proofs.Common.{sym, subst, ap, ◌∙◌, Option}
use Rattle.std.specs.Prelude.{IfNone}
use Rattle.bl_level.proofs.Dominance.{dominates-sets}
use Rattle.bl_policy.specs.declared.denial.Denial.{Denial}
use Rattle.bl_policy.specs.Policy.{SecurityPolicy}
use Rattle.bl_policy.specs.Properties.{IsSecure}
use Rattle.bl_policy.specs.FirstFault.{property_fault}
use Rattle.bl_policy.specs.Cells.{clause_of}
use Rattle.bl_policy.proofs.FirstFailed.{refused}
use Rattle.bl_policy.proofs.FieldLemmas.{AreThere, cell-fault}
use Rattle.bl_policy.proofs.Properties.{secure-of_none}
use Rattle.bl_policy.proofs.policy.Policy.property_fault.Goals as goal

pub returns-in_err-clause-clause-first : goal.returns-in_err-clause-clause-first
returns-in_err-clause-clause-first c =
    let are = subst (λ (p : SecurityPolicy). AreThere p c.args.subject c.args.access.now.doc) (sym c.self.view_is) (record { known = c.requires.known; there = c.requires.there }) in
    c.from_residual.ensures
    ∙ ap (λ x. refused x c.args.subject c.args.access.now.doc) (sym c.in_err-clause.was ∙ c.clause.ensures ∙ ap clause_of c.failed-failed.ensures)
    ∙ cell-fault c.self.inside c.self.invariant c.args.subject c.args.access.now.doc c.cell_place.result c.args.access.now.mode c.index.result.now are c.cell_place.ensures c.index.ensures
    ∙ ap (λ (p : SecurityPolicy). property_fault p c.args.subject c.args.access.now) c.self.view_is

pub returns-in_err-clause-clause-secure : goal.returns-in_err-clause-clause-secure
returns-in_err-clause-clause-secure c =
    subst (λ (x : Option Denial). IfNone x (IsSecure c.args.self.now c.args.subject c.args.access.now.doc c.args.access.now.mode)) (sym c.from_residual.ensures)
    (secure-of_none dominates-sets c.args.self.now c.args.subject c.args.access.now (sym (returns-in_err-clause-clause-first c) ∙ c.from_residual.ensures))

pub returns-clause-first : goal.returns-clause-first
returns-clause-first c =
    let are = subst (λ (p : SecurityPolicy). AreThere p c.args.subject c.args.access.now.doc) (sym c.self.view_is) (record { known = c.requires.known; there = c.requires.there }) in
    ap (λ x. refused x c.args.subject c.args.access.now.doc) (sym c.in_ok-clause.was ∙ c.clause.ensures ∙ ap clause_of c.failed-failed.ensures)
    ∙ cell-fault c.self.inside c.self.invariant c.args.subject c.args.access.now.doc c.cell_place.result c.args.access.now.mode c.index.result.now are c.cell_place.ensures c.index.ensures
    ∙ ap (λ (p : SecurityPolicy). property_fault p c.args.subject c.args.access.now) c.self.view_is
