use Rattle.std.proofs.Common.{◌∙◌, ap}
use Rattle.bl_eval.specs.Loan.{Loan}
use Rattle.bl_order.specs.Machine.{Loses}
use Rattle.bl_hall.specs.Chronicle.{with_event}
use Rattle.bl_rebuild.proofs.Making.{made-lost, taken}
use Rattle.bl_rebuild.proofs.remade.Remade.lose.Goals as goal

pub returns-in-Some : goal.returns-in-Some
returns-in-Some c =
    let r = c.args.self.now in
    let is = taken r c.requires.whole c.args.n c.in-Some.lent c.in-Some.ensures.value in
    made-lost r c.requires.whole _ c.args.n c.requires.may (c.lose_running.ensures.change ∙ ap (λ (l : Loan). with_event r.hall (Loses l.entry)) is.1) c.in-Some.ensures.rest

pub returns-in-None : goal.returns-in-None
returns-in-None c = made-lost c.args.self.now c.requires.whole _ c.args.n c.requires.may c.lose_untried.ensures.change c.in-None.ensures.rest
