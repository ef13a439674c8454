use Rattle.std.proofs.Common.{◌≡◌, ◌<◌, ◌≤◌, ◌⊎◌, ◌∙◌, [], ap, arith, inl, inr, length, subst, sym, take, true}
use Rattle.std.specs.Io.KnownBytes.{Consumes, Keeps}
use Rattle.bl_allowance.specs.Intakes.{to_come}
use Rattle.bl_allowance.specs.Lines.{MayGive}
use Rattle.bl_allowance.specs.Streams.{IsOver, due}
use Rattle.bl_allowance.specs.declared.lines.LineStream.{LineStream}
use Rattle.bl_allowance.proofs.Giving.{consumes_after, gives_due, gives_fresh, gives_in_order, none_due}
use Rattle.bl_allowance.proofs.lines.LineStream.read_lines.Goals.{then-not-is_due+in-Ok, else-not-is_due}
use Rattle.bl_allowance.proofs.lines.LineStream.read_lines.Goals as goal

pub returns-clause-lines : goal.returns-clause-lines
returns-clause-lines g c =
    let Stream = LineStream g.row.S.Denot in
    let old : Stream = c.args.self.now in
    let mid : Stream = c.if-not-is_due.self in
    let new : Stream = c.give.new.self in
    let given = take c.give.result c.give.new.room in
    let gave = c.give.ensures in
    let lines' : new.lines ≡ mid.lines = ap (λ (s : Stream). s.lines) gave.same.1 in
    elim c.if-not-is_due.branch [
      | then-not-is_due+in-Ok w ↦
          let found = subst (λ (m : Stream). (IsOver m × (due m ≡ [])) ⊎ MayGive m.intake.ended old.intake.long m.intake.long m.lines (due m)) (sym w.self-is) w.in-Ok.ensures.given in
          gives_fresh old mid new c.give.result (length c.if-not-is_due.room) given (0 < length c.give.new.room)
          (none_due (due old) c.is_due.result c.is_due.ensures w.if-not-is_due.true) found gave.count gave.given gave.due gave.held
          gave.same.0.1 gave.same.0.2 lines' (ap (λ (s : Stream). s.over) gave.same.1)
      | else-not-is_due w ↦ inl (gives_due old mid new c.give.result given w.self-is gave.given gave.due lines' gave.same.0.0)
    ]

pub returns-clause-order : goal.returns-clause-order
returns-clause-order g c =
    let Stream = LineStream g.row.S.Denot in
    let remaining = g.S.Stream.remaining in
    let old : Stream = c.args.self.now in
    let mid : Stream = c.if-not-is_due.self in
    let new : Stream = c.give.new.self in
    let given = take c.give.result c.give.new.room in
    let gave = c.give.ensures in
    let front = gives_in_order remaining mid new c.give.result given (omega (arith, gave.count)) gave.given gave.held gave.same.0.0 in
    elim c.if-not-is_due.branch [
      | then-not-is_due+in-Ok w ↦
          let found = subst (λ (m : Stream). (m.over ≡ true) ⊎ Keeps (to_come remaining old.intake) (to_come remaining m.intake)) (sym w.self-is) w.in-Ok.ensures.order in
          elim found [
            | inl over ↦ inl (ap (λ (s : Stream). s.over) gave.same.1 ∙ over)
            | inr kept ↦ inr (consumes_after (to_come remaining old.intake) (to_come remaining mid.intake) (to_come remaining new.intake) given kept front)
          ]
      | else-not-is_due w ↦
          inr (subst (λ (m : Stream). Consumes (to_come remaining m.intake) (to_come remaining new.intake) given) w.self-is front)
    ]
