use Rattle.std.proofs.Common.{◌≡◌, ◌<◌, ℕ, refl, subst, ap, ◌∙◌, arith, length, map, List}
use Rattle.std.proofs.lemmas.List.{length_push}
use Rattle.bl_policy.specs.declared.policy.Subject.{Subject}
use Rattle.bl_policy.specs.declared.policy.cell.Cell.{Cell}
use Rattle.bl_policy.specs.Cells.{clearance_from, modes_of, HasMendedColumn}
use Rattle.bl_policy.proofs.FieldLemmas.{written_back, IsSound-document}
use Rattle.bl_policy.proofs.policy.Policy.declare.Goals as goal

pub invariant_of-self : goal.invariant_of-self
invariant_of-self c =
    let p = c.self.inside in
    let column = c.len-position.result in
    let at : column ≡ length p.documents.items = c.len-position.ensures ∙ p.documents.ok.0 in
    let room : length p.documents.items < 1024 = omega (arith, c.if-len-eq-MOST_DOCUMENTS.false, c.len.ensures, p.documents.ok.0, c.self.invariant.document_limit) in
    let same : modes_of c.mend_column.new.cells ≡ modes_of p.cells.items = c.mend_column.ensures.modes ∙ ap modes_of c.deref_mut.ensures.value in
    let has : HasMendedColumn (length p.documents.items) (map clearance_from p.subjects.items) c.args.level p.cells.items c.mend_column.new.cells =
    subst (λ (k : ℕ). HasMendedColumn k (map clearance_from p.subjects.items) c.args.level p.cells.items c.mend_column.new.cells) at
    (subst (λ (ss : List Subject). HasMendedColumn column (map clearance_from ss) c.args.level p.cells.items c.mend_column.new.cells) c.deref.ensures.value
    (subst (λ (cells : List Cell). HasMendedColumn column (map clearance_from c.deref.result.now) c.args.level cells c.mend_column.new.cells) c.deref_mut.ensures.value c.mend_column.ensures.mended)) in
    let as_many : length c.push_reserved-2.new.self.items ≡ length c.push_reserved.new.self.items =
    omega (arith, ap length c.push_reserved-2.ensures.items, length_push p.present.items c.args.present, c.self.invariant.presence_count, ap length c.push_reserved.ensures.items, length_push p.documents.items c.args.level) in
    IsSound-document p _ c.args.level c.mend_column.new.cells c.self.invariant
    (record { subject_room = omega arith; document_room = omega (arith, c.push_reserved.ensures.capacity); presence_room = omega (arith, c.push_reserved-2.ensures.capacity); cell_room = omega arith; same = same; small = c.self.invariant.modes_only; is = written_back p.cells c.mend_column.new.cells same; presence_count = as_many })
    refl c.push_reserved.ensures.items room has
