use Rattle.std.proofs.Common.{◌≡◌, ◌<◌, ◌*◌, ℕ, refl, sym, subst, ap, ◌∙◌, arith, length, map, get_or, List}
use Rattle.std.specs.Vec.{with_item, with_items}
use Rattle.std.proofs.lemmas.List.{length-map}
use Rattle.bl_level.specs.Level.{SecurityLevel, Dominates}
use Rattle.bl_policy.specs.declared.policy.Subject.{Subject}
use Rattle.bl_policy.specs.declared.policy.Policy.TheInside.{Inside}
use Rattle.bl_policy.specs.declared.policy.cell.Cell.{Cell}
use Rattle.bl_policy.specs.Policy.{SecurityPolicy, Clearance, nobody, clearance_of, greatest_of, with_current}
use Rattle.bl_policy.specs.Cells.{clearance_from, modes_of, HasMendedRow}
use Rattle.bl_policy.specs.Fields.{policy_of, IsSound}
use Rattle.bl_policy.proofs.FieldLemmas.{clearance-read, written_back, row-mended_for, row-trusted, IsSound-moved, policy_of-moved}
use Rattle.bl_policy.proofs.policy.Policy.set_current.Goals as goal
use Rattle.bl_policy.proofs.policy.Policy.set_current.Goals.{then-not-moved, else-not-moved}

-- the subject with its new level
abbrev moved : Subject → SecurityLevel → Subject
moved was level = record was { current = level }

-- the fields with that subject in its place
abbrev placed : Inside → ℕ → Subject → Inside
placed q row subject = record q { subjects = with_item q.subjects row subject }

pub invariant_of-self : goal.invariant_of-self
invariant_of-self c =
    let p = c.self.inside in
    let row = c.position-row.result in
    let read = c.index.result.now in
    let subject = moved read c.args.level in
    let known : c.args.subject < length (policy_of p).subjects = subst (λ (q : SecurityPolicy). c.args.subject < length q.subjects) (sym c.self.view_is) c.requires.known in
    let within : row < length p.subjects.items = omega (arith, known, c.position-row.ensures, length-map p.subjects.items clearance_from) in
    let had : clearance_from read ≡ clearance_of (policy_of p) c.args.subject = clearance-read p c.args.subject row read known c.position-row.ensures c.index.ensures in
    let below : Dominates read.greatest c.args.level =
    subst (λ (k : Clearance). Dominates k.greatest c.args.level) (sym had) (subst (λ (q : SecurityPolicy). Dominates (greatest_of q c.args.subject) c.args.level) (sym c.self.view_is) c.requires.below) in
    elim c.if-not-moved.branch [
      | then-not-moved w ↦
          let same : modes_of w.mend_row.new.cells ≡ modes_of p.cells.items = w.mend_row.ensures.modes ∙ ap modes_of w.deref_mut.ensures.value in
          let has : HasMendedRow (row * 1024) (clearance_from subject) p.documents.items p.cells.items w.mend_row.new.cells =
          subst (λ (ls : List SecurityLevel). HasMendedRow (row * 1024) (clearance_from subject) ls p.cells.items w.mend_row.new.cells) w.deref.ensures.value
          (subst (λ (cells : List Cell). HasMendedRow (row * 1024) (clearance_from subject) w.deref.result.now cells w.mend_row.new.cells) w.deref_mut.ensures.value w.mend_row.ensures.mended) in
          subst (λ (q : Inside). IsSound (placed q row subject)) (sym w.self-inside-is)
          (IsSound-moved p _ row subject w.mend_row.new.cells c.self.invariant
          (record { subject_room = omega arith; document_room = omega arith; presence_room = omega arith; cell_room = omega arith; same = same; small = c.self.invariant.modes_only; is = written_back p.cells w.mend_row.new.cells same; presence_count = c.self.invariant.presence_count })
          refl refl below (row-mended_for p c.self.invariant row subject w.mend_row.new.cells within has))
      | else-not-moved w ↦
          let was : clearance_from read ≡ get_or (map clearance_from p.subjects.items) row nobody = had ∙ ap (λ k. get_or (map clearance_from p.subjects.items) k nobody) (sym c.position-row.ensures) in
          subst (λ (q : Inside). IsSound (placed q row subject)) (sym w.self-inside-is)
          (IsSound-moved p _ row subject p.cells.items c.self.invariant
          (record { subject_room = omega arith; document_room = omega arith; presence_room = omega arith; cell_room = omega arith; same = refl; small = c.self.invariant.modes_only; is = refl; presence_count = c.self.invariant.presence_count })
          refl refl below (row-trusted p c.self.invariant row read subject within was w.if-not-moved.false w.if-not-moved.false refl))
    ]

pub returns : goal.returns
returns c =
    let p = c.self.inside in
    let row = c.position-row.result in
    let read = c.index.result.now in
    let subject = moved read c.args.level in
    let known : c.args.subject < length (policy_of p).subjects = subst (λ (q : SecurityPolicy). c.args.subject < length q.subjects) (sym c.self.view_is) c.requires.known in
    elim c.if-not-moved.branch [
      | then-not-moved w ↦
          let same : modes_of w.mend_row.new.cells ≡ modes_of p.cells.items = w.mend_row.ensures.modes ∙ ap modes_of w.deref_mut.ensures.value in
          subst (λ (q : Inside). policy_of (placed q row subject) ≡ with_current c.args.self.now c.args.subject c.args.level) (sym w.self-inside-is)
          (rw (← c.self.view_is) (policy_of-moved p (placed (record p { cells = with_items p.cells w.mend_row.new.cells }) row subject) c.args.subject row read c.args.level subject
          (record { known = known; at = c.position-row.ensures; was = c.index.ensures; is = refl }) refl refl refl
          (ap modes_of (written_back p.cells w.mend_row.new.cells same) ∙ same)))
      | else-not-moved w ↦
          subst (λ (q : Inside). policy_of (placed q row subject) ≡ with_current c.args.self.now c.args.subject c.args.level) (sym w.self-inside-is)
          (rw (← c.self.view_is) (policy_of-moved p (placed p row subject) c.args.subject row read c.args.level subject
          (record { known = known; at = c.position-row.ensures; was = c.index.ensures; is = refl }) refl refl refl refl))
    ]
