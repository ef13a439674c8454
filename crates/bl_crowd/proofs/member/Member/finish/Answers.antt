use Rattle.std.proofs.Common.{refl, subst}
use Rattle.bl_crowd.specs.Ways.{StandsSo}
use Rattle.bl_crowd.proofs.Departing.{is_served}
use Rattle.bl_crowd.proofs.member.Member.finish.Goals as goal

pub returns-clause-served : goal.returns-clause-served
returns-clause-served g c names first pass home member =
    let self = c.args.self in
    is_served g.S.Stream.remaining g.S.Stream.contents names first pass self home self.asked
    (subst (StandsSo g.S.Stream.remaining g.S.Stream.contents names first pass self) c.requires.fine member) c.requires.over c.finish.ensures.finishes self.reception refl
