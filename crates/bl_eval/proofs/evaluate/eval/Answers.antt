use Rattle.std.proofs.Common.{◌≡◌, ℕ, List, ap, sym, ◌∙◌, subst}
use Rattle.std.specs.Prelude.{map, slice_index_or}
use Rattle.bl_policy.specs.declared.access.Access.{Access}
use Rattle.bl_work.specs.Modes.{KeepsModes}
use Rattle.bl_work.specs.Script.{AreApart, IsBehaviour}
use Rattle.bl_work.specs.Statements.{Statements, Part, no_part}
use Rattle.bl_work.specs.Body.{statements_of}
use Rattle.bl_work.specs.Effects.{Effect, effects_of, outputs, children}
use Rattle.bl_grant.specs.Loaned.{as_lent, back_of}
use Rattle.bl_grant.specs.Loans.{accesses_of, lent_of, content_of}
use Rattle.bl_eval.specs.Loan.{Loan, part_of, input_at, backs}
use Rattle.bl_eval.specs.Lending.{lent_view}
use Rattle.bl_eval.specs.Told.{changed_by}
use Rattle.bl_eval.proofs.Loans.{contents-lent, backs-changed, accesses-for, lent-for, kept-lent, still-for}
use Rattle.bl_eval.proofs.evaluate.eval.Goals as goal

pub perform-requires-clause-lent : goal.perform-requires-clause-lent
perform-requires-clause-lent c = lent-for c.lent.inside.entry (part_of (lent_view c.lent.inside)).accesses c.lent.inside.grants c.lent.invariant.grants

pub perform-requires-clause-apart : goal.perform-requires-clause-apart
perform-requires-clause-apart c =
    let part = part_of (lent_view c.lent.inside) in
    let right : IsBehaviour part = subst (λ (i : ℕ). IsBehaviour (slice_index_or c.lent.inside.script i no_part)) c.from.ensures c.body.ensures.behaviour in
    subst (λ (xs : List Access). AreApart xs) (sym (accesses-for c.lent.inside.entry part.accesses c.lent.inside.grants c.lent.invariant.grants)) right.apart

pub perform-requires-clause-modes : goal.perform-requires-clause-modes
perform-requires-clause-modes c =
    let part = part_of (lent_view c.lent.inside) in
    let right : IsBehaviour part = subst (λ (i : ℕ). IsBehaviour (slice_index_or c.lent.inside.script i no_part)) c.from.ensures c.body.ensures.behaviour in
    subst (λ (b : Statements). KeepsModes (accesses_of c.lent.inside.grants) b) (sym (c.body.ensures.value ∙ ap (λ (i : ℕ). (slice_index_or c.lent.inside.script i no_part).body) c.from.ensures))
    (subst (λ (xs : List Access). KeepsModes xs part.body) (sym (accesses-for c.lent.inside.entry part.accesses c.lent.inside.grants c.lent.invariant.grants)) right.modes)

pub invariant_of-result : goal.invariant_of-result
invariant_of-result c =
    let gs = c.lent.inside.grants in
    let entry = c.lent.inside.entry in
    let part = part_of (lent_view c.lent.inside) in
    let did = c.in-Ok.ensures.done in
    let inputs = lent_of c.withdraw.result in
    let body = statements_of c.body.result.now in
    let ran : List Effect = effects_of (content_of gs) body in
    let kept : map as_lent c.withdraw.result ≡ gs = ap (map as_lent) c.withdraw.ensures ∙ c.perform.ensures.kept in
    let lent : inputs ≡ lent_of gs = kept-lent gs c.withdraw.result kept in
    let same : ran ≡ effects_of (input_at part.accesses inputs) part.body =
    ap (λ f. effects_of f body) (ap content_of c.lent.invariant.grants.lent ∙ contents-lent entry part.accesses (lent_of gs) ∙ ap (input_at part.accesses) (sym lent))
    ∙ ap (effects_of (input_at part.accesses inputs)) (c.body.ensures.value ∙ ap (λ (i : ℕ). (slice_index_or c.lent.inside.script i no_part).body) c.from.ensures) in
    record {
      there = c.lent.invariant.there;
      grants = still-for entry part.accesses gs c.withdraw.result c.lent.invariant.grants kept;
      outputs = did.outputs ∙ ap outputs same;
      spawned = did.spawned ∙ ap children same;
      returned =
          ap (map back_of) (c.withdraw.ensures ∙ did.left)
          ∙ ap (λ grants. map back_of (changed_by grants ran)) c.lent.invariant.grants.lent
          ∙ backs-changed entry part.accesses (lent_of gs) ran
          ∙ ap (λ cs. backs entry part.accesses cs ran) (sym lent)
          ∙ ap (backs entry part.accesses inputs) same;
    }

abbrev loan_of : ℕ → List Part → ℕ → List (List ℕ) → Loan
loan_of entry script index inputs = record { entry = entry; script = script; index = index; inputs = inputs }

pub returns : goal.returns
returns c =
    ap (loan_of c.lent.inside.entry c.lent.inside.script c.lent.inside.index)
    (kept-lent c.lent.inside.grants c.withdraw.result (ap (map as_lent) c.withdraw.ensures ∙ c.perform.ensures.kept))
    ∙ c.lent.view_is
