use Rattle.std.proofs.Common.{◌≡◌, ℕ, ◌<◌, ◌+◌, ◌-◌, length, true, false, not, refl, sym, ap, subst, ◌∙◌, arith}
use Rattle.bl_setup.specs.Lines.{is_skipped, without_cr}
use Rattle.bl_spot.proofs.Parting.{Passed, passed_more, read_one, read_same, some_left}
use Rattle.bl_spot.proofs.cut.part.Goals.{then-not-is_skipped, else-not-is_skipped}
use Rattle.bl_spot.proofs.cut.part.Goals as goal

pub loop-next-preserved : goal.loop-next-preserved
loop-next-preserved c =
    let line = c.split_line.result.0.now in
    let behind = c.split_line.result.1.now in
    let l = c.loop-next in
    let s = is_skipped (without_cr line) in
    let e : s ≡ c.is_skipped.result = ap is_skipped (sym c.without_cr.ensures) ∙ sym c.is_skipped.ensures in
    let some = some_left (length l.rest.now) c.is_empty.result c.is_empty.ensures c.if-not-is_empty.true in
    let below : l.next < c.args.number = omega (arith, c.loop-next-test.true) in
    let p = passed_more c.args.bytes.now l.rest.now line behind l.next l.read c.args.number l.invariant some c.split_line.ensures below in
    let P = λ (n : ℕ). Passed c.args.bytes.now behind (l.next + 1) n c.args.number in
    elim c.if-not-is_skipped.branch [
      | then-not-is_skipped w ↦ subst P (read_one s c.is_skipped.result l.read c.if-not-is_skipped.read e w.if-not-is_skipped.true w.read-is) p
      | else-not-is_skipped w ↦ subst P (read_same s c.is_skipped.result l.read c.if-not-is_skipped.read e w.if-not-is_skipped.false w.read-is) p
    ]
