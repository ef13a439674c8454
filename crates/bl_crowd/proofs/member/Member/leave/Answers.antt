use Rattle.bl_crowd.proofs.Departing.{departs}
use Rattle.bl_crowd.proofs.member.Member.leave.Goals as goal

pub returns-clause-departs : goal.returns-clause-departs
returns-clause-departs g c names first pass home member =
    departs g.S.Stream.remaining g.S.Stream.contents names first pass c.args.self home c.args.self.fault member
