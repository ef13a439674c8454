use Rattle.std.proofs.Common.{rules, ◌≡◌, ◌≤◌, ◌-◌, arith, true}
use Rattle.bl_chain.proofs.Spans.{unbroken}
use Rattle.bl_chain.proofs.gap.covers.Goals as goal

pub returns : goal.returns
returns c = λ t there is are.
    let one : c.is_whole.result ≡ true = search rules in
    let two : c.is_whole-2.result ≡ true = search rules in
    let from : c.args.trails.first ≤ c.args.setups.first = omega arith in
    let to : c.args.setups.last - 1 ≤ c.args.trails.last = omega arith in
    unbroken there c.args.setups c.args.trails is are (c.is_whole.ensures one) (c.is_whole-2.ensures two) from to
