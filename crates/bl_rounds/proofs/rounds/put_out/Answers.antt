use Rattle.std.proofs.Common.{◌<◌, subst}
use Rattle.bl_rounds.proofs.Going.{gone_out}
use Rattle.bl_rounds.proofs.rounds.put_out.Goals as goal

pub returns-clause-gone : goal.returns-clause-gone
returns-clause-gone g c =
    let crowd = c.args.crowd.now in
    let lt = subst (λ n. c.args.i < n) crowd.members.ok.0 c.requires.within in
    let left = c.leave-departed in
    gone_out g.S.Stream.remaining g.S.Stream.contents crowd c.args.i
    (record { number = c.args.number; stream = left.result.stream; fault = left.result.fault; full = left.result.full; lines = c.lines-lines.result; refused = c.refused-refused.result; events = c.args.events })
    c.requires.crowd c.requires.follows lt (λ d. (left.ensures.stream d).0) (λ d. (left.ensures.stream d).1) left.ensures.full c.lines-lines.ensures c.refused-refused.ensures left.ensures.departs
