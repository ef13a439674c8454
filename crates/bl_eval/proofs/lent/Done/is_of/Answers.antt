use Rattle.std.proofs.Common.{◌≡◌, ℕ, List, length, ap, sym, ◌∙◌, subst}
use Rattle.std.specs.Prelude.{map, slice_index_or}
use Rattle.bl_policy.specs.declared.access.Access.{Access}
use Rattle.bl_work.specs.Statements.{no_part}
use Rattle.bl_grant.specs.Loaned.{as_lent}
use Rattle.bl_grant.specs.Loans.{loans, lent_of}
use Rattle.bl_eval.specs.Loan.{Loan, part_of}
use Rattle.bl_eval.specs.Lending.{done_view}
use Rattle.bl_eval.proofs.Loans.{lent-these, these-were_lent}
use Rattle.bl_eval.proofs.lent.Done.is_of.Goals as goal

pub returns : goal.returns
returns c =
    let gs = c.self.inside.grants in
    let script = c.is_same.ensures.0 c.if-not-is_same.false in
    let part = part_of (done_view c.self.inside) in
    let accesses : c.accesses-accesses.result.now ≡ part.accesses =
    c.accesses-accesses.ensures ∙ ap (λ (i : ℕ). (slice_index_or c.self.inside.script i no_part).accesses) (c.from.ensures ∙ sym c.if-self-index.false) in (
      λ h.
          let made = c.were_lent.ensures.0 h in
          let inputs : lent_of gs ≡ c.args.contents.now = lent-these c.args.entry c.accesses-accesses.result.now gs c.args.contents.now made.0 made.1 in
          sym c.self.view_is ∙ cc (script, inputs, c.if-self-entry.false, c.if-self-index.false),
      λ e.
          let inputs : lent_of gs ≡ c.args.contents.now = ap (λ (l : Loan). l.inputs) (c.self.view_is ∙ e) in
          let these = these-were_lent c.self.inside.entry part.accesses gs c.args.contents.now c.self.invariant.grants inputs in
          let made : map as_lent gs ≡ loans c.args.entry c.accesses-accesses.result.now c.args.contents.now =
          subst (λ (n : ℕ). map as_lent gs ≡ loans n c.accesses-accesses.result.now c.args.contents.now) c.if-self-entry.false
          (these.1 ∙ ap (λ (xs : List Access). loans c.self.inside.entry xs c.args.contents.now) (sym accesses)) in
          c.were_lent.ensures.1 (these.0 ∙ sym (ap length accesses), made),
    )
