use Rattle.std.proofs.Common.{◌≡◌, ◌-◌, suc, sym, length, arith}
use Rattle.bl_wire.proofs.HeldLines.{cut_cr, keep_cr}
use Rattle.bl_entrance.proofs.first.without_cr.Goals as goal

pub returns-then-last-eq13 : goal.returns-then-last-eq13
returns-then-last-eq13 c =
    let line = c.args.line.now in
    let long : length line ≡ suc (length line - 1) = omega arith in
    sym (cut_cr line (length line - 1) long c.if-last-eq13.true)

pub returns-else-last-eq13 : goal.returns-else-last-eq13
returns-else-last-eq13 c =
    let line = c.args.line.now in
    let long : length line ≡ suc (length line - 1) = omega arith in
    sym (keep_cr line (length line - 1) long c.if-last-eq13.false)
