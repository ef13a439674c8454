use Rattle.std.proofs.Common.{◌<◌, sym, subst, ap, ◌∙◌, length, map, get_or, List, false, ℕ}
use Rattle.bl_level.specs.Level.{SecurityLevel}
use Rattle.bl_policy.specs.declared.policy.Subject.{Subject}
use Rattle.bl_policy.specs.declared.policy.cell.Cell.{Cell}
use Rattle.bl_policy.specs.Policy.{SecurityPolicy, lowest, with_presence, without_cells}
use Rattle.bl_policy.specs.Cells.{clearance_from, HasEmptiedColumn}
use Rattle.bl_policy.proofs.FieldLemmas.{level-read, IsSound-emptied, policy_of-emptied}
use Rattle.bl_policy.proofs.policy.Policy.delete.Goals as goal

-- the column of the document is emptied
emptied : (c : goal.After-self-1) → HasEmptiedColumn c.args.doc (map clearance_from c.self.inside.subjects.items) (get_or c.self.inside.documents.items c.args.doc lowest) c.self.inside.cells.items c.empty_column.new.cells
emptied c =
    let p = c.self.inside in
    let there : c.args.doc < length p.documents.items = subst (λ (q : SecurityPolicy). c.args.doc < length q.documents) (sym c.self.view_is) c.requires in
    subst (λ (k : ℕ). HasEmptiedColumn k (map clearance_from p.subjects.items) (get_or p.documents.items c.args.doc lowest) p.cells.items c.empty_column.new.cells) c.position-column.ensures
    (subst (λ (l : SecurityLevel). HasEmptiedColumn c.position-column.result (map clearance_from p.subjects.items) l p.cells.items c.empty_column.new.cells)
    (level-read p c.args.doc c.position-column.result c.index.result.now there c.position-column.ensures c.index.ensures)
    (subst (λ (ss : List Subject). HasEmptiedColumn c.position-column.result (map clearance_from ss) c.index.result.now p.cells.items c.empty_column.new.cells) c.deref.ensures.value
    (subst (λ (cells : List Cell). HasEmptiedColumn c.position-column.result (map clearance_from c.deref.result.now) c.index.result.now cells c.empty_column.new.cells) c.deref_mut.ensures.value c.empty_column.ensures.emptied)))

pub invariant_of-self : goal.invariant_of-self
invariant_of-self c = IsSound-emptied c.self.inside c.self.invariant c.args.doc c.empty_column.new.cells (emptied c)

pub returns : goal.returns
returns c =
    let p = c.self.inside in
    c.set_present.ensures
    ∙ ap (λ (q : SecurityPolicy). with_presence q c.args.doc false)
    (policy_of-emptied p c.self.invariant c.args.doc (get_or p.documents.items c.args.doc lowest) c.empty_column.new.cells (emptied c.before.before) ∙ ap (λ (q : SecurityPolicy). without_cells q c.args.doc) c.self.view_is)
