use Rattle.std.proofs.Common.{◌≡◌, ◌<◌, refl, sym, subst, ap, ◌∙◌, arith, length, map, List, length-set}
use Rattle.bl_policy.specs.declared.policy.Subject.{Subject}
use Rattle.bl_policy.specs.declared.policy.cell.Cell.{Cell}
use Rattle.bl_policy.specs.Policy.{SecurityPolicy}
use Rattle.bl_policy.specs.Cells.{clearance_from, modes_of, HasMendedColumn}
use Rattle.bl_policy.proofs.FieldLemmas.{written_back, IsSound-classified}
use Rattle.bl_policy.proofs.policy.Policy.set_level.Goals as goal

pub invariant_of-self : goal.invariant_of-self
invariant_of-self c =
    let p = c.self.inside in
    let column = c.position-column.result in
    let there : c.args.doc < length p.documents.items = subst (λ (q : SecurityPolicy). c.args.doc < length q.documents) (sym c.self.view_is) c.requires in
    let within : column < length p.documents.items = omega (arith, there, c.position-column.ensures) in
    let same : modes_of c.mend_column.new.cells ≡ modes_of p.cells.items = c.mend_column.ensures.modes ∙ ap modes_of c.deref_mut.ensures.value in
    let has : HasMendedColumn column (map clearance_from p.subjects.items) c.args.level p.cells.items c.mend_column.new.cells =
    subst (λ (ss : List Subject). HasMendedColumn column (map clearance_from ss) c.args.level p.cells.items c.mend_column.new.cells) c.deref.ensures.value
    (subst (λ (cells : List Cell). HasMendedColumn column (map clearance_from c.deref.result.now) c.args.level cells c.mend_column.new.cells) c.deref_mut.ensures.value c.mend_column.ensures.mended) in
    IsSound-classified p _ column c.args.level c.mend_column.new.cells c.self.invariant
    (record { subject_room = omega arith; document_room = omega arith; presence_room = omega arith; cell_room = omega arith; same = same; small = c.self.invariant.modes_only; is = written_back p.cells c.mend_column.new.cells same; presence_count = c.self.invariant.presence_count ∙ sym (length-set p.documents.items column c.args.level) })
    refl refl within has
