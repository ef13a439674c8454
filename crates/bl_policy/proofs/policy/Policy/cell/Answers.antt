use Rattle.std.proofs.Common.{sym, subst}
use Rattle.bl_policy.specs.Policy.{SecurityPolicy}
use Rattle.bl_policy.specs.Fields.{policy_of}
use Rattle.bl_policy.proofs.FieldLemmas.{AreThere, cell-allows, modes-small}
use Rattle.bl_policy.proofs.policy.Policy.cell.Goals as goal

are_there : (c : goal.After-result-1) → AreThere (policy_of c.self.inside) c.args.subject c.args.doc
are_there c = subst (λ (p : SecurityPolicy). AreThere p c.args.subject c.args.doc) (sym c.self.view_is) (record { known = c.requires.known; there = c.requires.there })

pub returns-clause-modes : goal.returns-clause-modes
returns-clause-modes c =
    rw (← c.self.view_is) (cell-allows c.self.inside c.self.invariant c.args.subject c.args.doc c.cell_place.result c.index.result.now (are_there c) c.cell_place.ensures c.index.ensures)

pub returns-clause-modes_only : goal.returns-clause-modes_only
returns-clause-modes_only c =
    modes-small c.self.inside c.self.invariant c.args.subject c.args.doc c.cell_place.result c.index.result.now (are_there c) c.cell_place.ensures c.index.ensures
