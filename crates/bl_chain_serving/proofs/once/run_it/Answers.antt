use Rattle.std.proofs.Common.{subst, sym}
use Rattle.bl_chain_serving.proofs.Ends.{left-open, served-closed, served-fails, trail-closed}
use Rattle.bl_chain_serving.proofs.Words.{served-tells}
use Rattle.bl_chain_serving.specs.Going.{IfClosed, IsStatusOf}
use Rattle.bl_chain_serving.specs.Telling.{TellsOver}
use Rattle.bl_wire.specs.Watch.{end_state}
use Rattle.bl_chain_serving.proofs.once.run_it.Goals as goal
use Rattle.bl_chain_serving.proofs.once.run_it.Goals.{in-Ok, in-Err}

pub returns-then-resumes-clause-closed : goal.returns-then-resumes-clause-closed
returns-then-resumes-clause-closed g c =
    let now = g.D.Device.now in
    let setup = c.args.at.setup in
    elim c.match-close_cut.branch [
      | in-Ok w ↦ subst (IfClosed now setup) (sym w.result-is) (trail-closed setup _ _ _ w.in-Ok.ensures.closed)
      | in-Err w ↦ subst (IfClosed now setup) (sym w.result-is)
          (subst (IfClosed now setup) (sym w.over_by.ensures) (left-open now setup _ _))
    ]

pub returns-clause-closed : goal.returns-clause-closed
returns-clause-closed g c =
    let now = g.D.Device.now in
    let setup = c.args.at.setup in
    subst (IfClosed now setup) (sym c.over_by-2.ensures) (served-closed now setup _ _ _ _ _ _ _ _ _ c.serve_chained.ensures.run)

pub returns-clause-status : goal.returns-clause-status
returns-clause-status g c =
    subst IsStatusOf (sym c.over_by-2.ensures)
    (served-fails g.D.Device.now c.args.at.setup _ _ _ _ _ _ _ _ _ c.serve_chained.ensures.run c.serve_chained.ensures.whole c.serve_chained.ensures.status)

pub returns-clause-told : goal.returns-clause-told
returns-clause-told g c =
    let before = end_state g.E.Write.contents c.args.errors.now in
    let after = end_state g.E.Write.contents c.serve_chained.new.errors in
    subst (λ over. TellsOver over before after) (sym c.over_by-2.ensures)
    (served-tells before after _ c.args.at.setup _ _ _ g.D.Device.now _ _ _ c.serve_chained.ensures.run c.serve_chained.ensures.whole c.serve_chained.ensures.status)
