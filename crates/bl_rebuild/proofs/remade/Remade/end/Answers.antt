use Rattle.std.proofs.Common.{◌∙◌, ap}
use Rattle.bl_eval.specs.Loan.{Loan}
use Rattle.bl_order.specs.Machine.{Ends}
use Rattle.bl_hall.specs.Chronicle.{with_event}
use Rattle.bl_rebuild.proofs.Making.{made-ended}
use Rattle.bl_rebuild.proofs.remade.Remade.end.Goals as goal

pub returns-in-Ok : goal.returns-in-Ok
returns-in-Ok c =
    made-ended c.args.self.now c.requires.whole _ c.args.n c.in-Some.lent c.in-Some.ensures.value
    (c.finish_lent.ensures.change ∙ ap (λ (l : Loan). with_event c.args.self.now.hall (Ends l.entry)) c.in-Ok.ensures) c.in-Some.ensures.rest
