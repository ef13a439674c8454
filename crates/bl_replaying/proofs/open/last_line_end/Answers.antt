use Rattle.std.proofs.Common.{◌≡◌, ◌≢◌, ◌<◌, ◌-◌, get_or, arith, rules}
use Rattle.bl_replaying.proofs.Splits.{none_more, splits}
use Rattle.bl_replaying.proofs.open.last_line_end.Goals as goal

pub returns-clause-split : goal.returns-clause-split
returns-clause-split c =
    let text = c.args.text.now in
    let end = c.loop-end.end in
    let last : 0 < end → get_or text (end - 1) 0 ≡ 10 = search rules in
    splits text end c.loop-end.invariant.0 c.loop-end.invariant.1 last

pub loop-end-preserved : goal.loop-end-preserved
loop-end-preserved c =
    let text = c.args.text.now in
    let end = c.loop-end.end in
    let other : get_or text (end - 1) 0 ≢ 10 = search rules in
    (omega arith, none_more text end c.loop-end.invariant.1 other)
