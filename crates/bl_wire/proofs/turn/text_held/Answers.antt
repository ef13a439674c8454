use Rattle.std.proofs.Common.{◌≡◌, ◌-◌, suc, sym, arith, length}
use Rattle.bl_wire.proofs.HeldLines.{cut_cr, keep_cr, keep_nil}
use Rattle.bl_wire.proofs.turn.text_held.Goals as goal
use Rattle.bl_wire.proofs.turn.text_held.Goals.{else-n-gt0-via-then-n-gt0+else-bytes-n-eq13, else-n-gt0-via-else-n-gt0}

pub returns-then-bytes-n-eq13 : goal.returns-then-bytes-n-eq13
returns-then-bytes-n-eq13 c =
    let bs = c.args.bytes.now in
    let long : length bs ≡ suc (length bs - 1) = omega arith in
    sym (cut_cr bs (length bs - 1) long c.if-bytes-n-eq13.true)

pub returns-else-n-gt0 : goal.returns-else-n-gt0
returns-else-n-gt0 c =
    let bs = c.args.bytes.now in
    elim c.else-n-gt0.branch [
      | else-n-gt0-via-then-n-gt0+else-bytes-n-eq13 w ↦ (let long : length bs ≡ suc (length bs - 1) = omega arith in sym (keep_cr bs (length bs - 1) long w.if-bytes-n-eq13.false))
      | else-n-gt0-via-else-n-gt0 w ↦ sym (keep_nil bs w.if-n-gt0.false)
    ]
