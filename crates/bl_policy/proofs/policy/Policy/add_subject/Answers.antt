use Rattle.std.proofs.Common.{◌≡◌, ◌<◌, ◌+◌, ℕ, refl, subst, ap, ◌∙◌, arith, length, map, List, is_ok}
use Rattle.std.specs.Vec.{with_items}
use Rattle.std.proofs.lemmas.List.{length-map}
use Rattle.bl_level.specs.Level.{SecurityLevel, Dominates}
use Rattle.bl_policy.specs.declared.policy.Subject.{Subject}
use Rattle.bl_policy.specs.declared.policy.cell.Cell.{Cell}
use Rattle.bl_policy.specs.Policy.{SecurityPolicy}
use Rattle.bl_policy.specs.Cells.{clearance_from, modes_of, HasMendedRow}
use Rattle.bl_policy.proofs.FieldLemmas.{with_row, small-with_row, resized-row, written_back, IsSound-subject, policy_of-subject}
use Rattle.bl_policy.proofs.policy.Policy.add_subject.Goals as goal

-- the cells that are mended
resized : (c : goal.After-new) → c.resize.new.self.items ≡ with_row c.self.inside.cells.items
resized c =
    resized-row c.self.inside.cells.items c.resize.new.self.items (is_ok c.resize.result) (c.len-first.result + 1024) c.self.inside.cells.len c.empty.result
    c.resize.ensures.items (ap is_ok c.unwrap.ensures) c.self.inside.cells.ok.0 (ap (λ n. n + 1024) c.len-first.ensures) c.empty.ensures

same : (c : goal.After-new) → modes_of c.mend_row.new.cells ≡ modes_of c.resize.new.self.items
same c = c.mend_row.ensures.modes ∙ ap modes_of c.deref_mut.ensures.value

pub invariant_of-self : goal.invariant_of-self
invariant_of-self c =
    let p = c.self.inside in
    let new : Subject = record { greatest = c.args.greatest; current = c.args.current; trusted = c.args.trusted; admin = c.args.admin } in
    let first : c.len-first.result ≡ length p.cells.items = c.len-first.ensures ∙ p.cells.ok.0 in
    let room : length p.subjects.items < 256 = omega (arith, c.if-len-eq-MOST_SUBJECTS.false, c.len.ensures, p.subjects.ok.0, c.self.invariant.subject_limit) in
    let below : Dominates c.args.greatest c.args.current = c.if-not-dominates.ensures.sets.0 refl in
    let has : HasMendedRow (length p.cells.items) (clearance_from new) p.documents.items (with_row p.cells.items) c.mend_row.new.cells =
    subst (λ (k : ℕ). HasMendedRow k (clearance_from new) p.documents.items (with_row p.cells.items) c.mend_row.new.cells) first
    (subst (λ (ls : List SecurityLevel). HasMendedRow c.len-first.result (clearance_from new) ls (with_row p.cells.items) c.mend_row.new.cells) c.deref.ensures.value
    (subst (λ (cells : List Cell). HasMendedRow c.len-first.result (clearance_from new) c.deref.result.now cells c.mend_row.new.cells) (c.deref_mut.ensures.value ∙ resized c) c.mend_row.ensures.mended)) in
    IsSound-subject p _ new c.mend_row.new.cells c.self.invariant
    (record {
      subject_room = omega (arith, c.push_reserved.ensures.capacity);
      document_room = omega arith;
      presence_room = omega arith;
      cell_room = omega (arith, c.resize.ensures.capacity);
      same = same c ∙ ap modes_of (resized c);
      small = small-with_row p.cells.items c.self.invariant.modes_only;
      is = written_back c.resize.new.self c.mend_row.new.cells (same c);
      presence_count = c.self.invariant.presence_count;
    })
    c.push_reserved.ensures.items refl room below has

pub returns-clause-ok : goal.returns-clause-ok
returns-clause-ok c =
    let p = c.self.inside in
    let new : Subject = record { greatest = c.args.greatest; current = c.args.current; trusted = c.args.trusted; admin = c.args.admin } in
    let many : length (map clearance_from p.subjects.items) ≡ length c.args.self.now.subjects = ap (λ (q : SecurityPolicy). length q.subjects) c.self.view_is in (
      omega (arith, c.new.ensures, c.len-position.ensures, p.subjects.ok.0, length-map p.subjects.items clearance_from, many),
      rw (← c.self.view_is) (policy_of-subject p (record p { subjects = c.push_reserved.new.self; cells = with_items c.resize.new.self c.mend_row.new.cells }) new c.push_reserved.ensures.items refl refl (ap modes_of (written_back c.resize.new.self c.mend_row.new.cells (same c)) ∙ same c ∙ ap modes_of (resized c))),
    )
