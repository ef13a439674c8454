use Rattle.std.proofs.Common.{◌≡◌, ◌<◌, List, [], length, get_or, ap, sym, ◌∙◌, arith}
use Rattle.std.proofs.lemmas.List.{length-map, get_or-map}
use Rattle.bl_grant.specs.Loaned.{Loaned, no_loan}
use Rattle.bl_eval.specs.Loan.{Loan}
use Rattle.bl_eval.proofs.lent.Done.had.Goals as goal

pub had-requires : goal.had-requires
had-requires c =
    omega (arith, c.requires, ap (λ (l : Loan). length l.inputs) c.self.view_is, length-map c.self.inside.grants (λ (g : Loaned). g.lent))

pub returns : goal.returns
returns c =
    let gs = c.self.inside.grants in
    let lt : c.args.place < length gs = omega (arith, c.requires, ap (λ (l : Loan). length l.inputs) c.self.view_is, length-map gs (λ (g : Loaned). g.lent)) in
    let here : (get_or gs c.args.place no_loan).lent ≡ get_or c.args.self.now.inputs c.args.place [] =
    sym (get_or-map (λ (g : Loaned). g.lent) gs c.args.place no_loan [] lt) ∙ ap (λ (l : Loan). get_or l.inputs c.args.place []) c.self.view_is in
    (λ h. sym here ∙ c.had.ensures.0 h, λ e. c.had.ensures.1 (here ∙ e))
