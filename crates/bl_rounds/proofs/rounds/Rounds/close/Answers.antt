use Rattle.std.proofs.Common.{ap, subst, sym}
use Rattle.bl_gate.specs.Gates.{Follows, PassView}
use Rattle.bl_worker.specs.Turns.{Settles}
use Rattle.bl_rounds.specs.Seats.{Table}
use Rattle.bl_rounds.proofs.Going.{rest_follows, rest_settles}
use Rattle.bl_rounds.proofs.rounds.Rounds.close.Goals as goal

pub returns-clause-follows : goal.returns-clause-follows
returns-clause-follows g c =
    let crowd = c.self.inside.crowd in
    let is = rest_follows crowd.first.value crowd.pass c.self.inside.hand c.self.invariant.rest in
    subst (λ (first : PassView). Follows first c.close-2.result) (ap (λ (t : Table). t.first) c.self.view_is)
    (subst (Follows crowd.first.value) (sym c.close-2.ensures.pass) is)

pub returns-clause-settles : goal.returns-clause-settles
returns-clause-settles g c =
    let crowd = c.self.inside.crowd in
    let is = rest_settles crowd.first.value crowd.pass c.self.inside.hand c.self.invariant.rest in
    subst (λ (first : PassView). Settles first c.close-2.result) (ap (λ (t : Table). t.first) c.self.view_is)
    (subst (Settles crowd.first.value) (sym c.close-2.ensures.pass) is)
