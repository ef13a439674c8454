use Rattle.std.proofs.Common.{◌≡◌, ◌≤◌, ◌+◌, arith, false, refl, subst, sym, take}
use Rattle.bl_allowance.proofs.Counting.{whole_all, whole_full, whole_next, whole_on, whole_start}
use Rattle.bl_allowance.specs.Lines.{AreWhole}
use Rattle.bl_allowance.specs.declared.offer.Offer.{Offer}
use Rattle.bl_allowance.proofs.offer.whole_lines.Goals.{then-byte-eq10, else-byte-eq10}
use Rattle.bl_allowance.proofs.offer.whole_lines.Goals as goal

pub returns-then-whole-most-clause-whole : goal.returns-then-whole-most-clause-whole
returns-then-whole-most-clause-whole c =
    whole_full c.args.bytes.now c.loop-at.at c.args.most c.loop-at.whole.bytes c.loop-at.whole.lines (omega (arith, c.if-whole-most.true)) c.loop-at.invariant.0

pub loop-at-init : goal.loop-at-init
loop-at-init c = (whole_start c.args.most, refl, omega arith)

pub loop-at-preserved : goal.loop-at-preserved
loop-at-preserved c =
    let bytes = c.args.bytes.now in
    let at = c.loop-at.at in
    let was = c.loop-at.whole in
    let Kept : Offer → Type 0 = λ o. AreWhole (take (at + 1) bytes) c.args.most o.bytes o.lines × (o.long ≡ false) × (o.lines ≤ c.args.most) in
    elim c.if-byte-eq10.branch [
      | then-byte-eq10 w ↦
          subst Kept (sym w.whole-is)
          (whole_next bytes at c.args.most was.bytes was.lines c.loop-at-test.true w.if-byte-eq10.true c.if-whole-most.false c.loop-at.invariant.0, c.loop-at.invariant.1, omega (arith, c.if-whole-most.false))
      | else-byte-eq10 w ↦
          subst Kept (sym w.whole-is)
          (whole_on bytes at c.args.most was.bytes was.lines c.loop-at-test.true w.if-byte-eq10.false c.loop-at.invariant.0, c.loop-at.invariant.1, c.loop-at.invariant.2)
    ]

pub returns-clause-whole : goal.returns-clause-whole
returns-clause-whole c =
    whole_all c.args.bytes.now c.loop-at.at c.args.most c.loop-at.whole.bytes c.loop-at.whole.lines (omega (arith, c.loop-at-test.false, c.loop-at.auto.at-end)) c.loop-at.invariant.0
