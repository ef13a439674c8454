use Rattle.std.proofs.Common.{subst}
use Rattle.bl_connection.specs.Connections.{OpensAs}
use Rattle.bl_crowd.proofs.Meeting.{awaited, new_received, serves, way_received}
use Rattle.bl_crowd.proofs.Opening.{own_received}
use Rattle.bl_crowd.proofs.Passing.{speaks_on}
use Rattle.bl_crowd.proofs.Stages.{opens_state}
use Rattle.bl_crowd.proofs.member.Member.open.Goals as goal

pub receive-self-requires : goal.receive-self-requires
receive-self-requires g c =
    let way = c.requires.way in
    serves g.S.Stream.remaining g.S.Stream.contents way.0 way.1 c.args.turn.now c.args.self.now c.args.subject way.3 way.2

pub opened-requires : goal.opened-requires
opened-requires g c =
    let way = c.requires.way in
    opens_state c.args.self.now.connection way.3.asks.quiet way.3.asks.awaits

pub returns-clause-way : goal.returns-clause-way
returns-clause-way g c names first home speaks w =
    let old = c.args.self.now in
    let p = c.args.turn.now in
    let q = c.receive-self.new.turn in (
      way_received g.S.Stream.remaining g.S.Stream.contents names first p old c.args.subject w q c.opened.new.self c.none_told.result c.opened.ensures.block c.opened.ensures.state
          c.none_told.ensures.none.0 c.none_told.ensures.none.1 c.none_told.ensures.none.2 c.receive-self.result c.receive-self.ensures.goes c.receive-self.ensures.received
          (subst (λ o. OpensAs g.S.Stream.remaining g.S.Stream.contents o old.connection c.opened.new.self) c.opening.ensures c.opened.ensures.opened) speaks,
      speaks_on names first p q c.receive-self.ensures.goes c.receive-self.ensures.lines speaks,
    )

pub returns-clause-new : goal.returns-clause-new
returns-clause-new g c = new_received c.args.turn.now c.receive-self.new.turn c.args.subject c.receive-self.result c.receive-self.ensures.received

pub returns-clause-awaited : goal.returns-clause-awaited
returns-clause-awaited g c =
    let way = c.requires.way in
    (awaited g.S.Stream.remaining g.S.Stream.contents way.0 way.1 c.args.turn.now c.args.self.now c.args.subject way.3).0

pub returns-clause-own : goal.returns-clause-own
returns-clause-own g c =
    let way = c.requires.way in
    let is = (awaited g.S.Stream.remaining g.S.Stream.contents way.0 way.1 c.args.turn.now c.args.self.now c.args.subject way.3).0 in
    own_received c.args.turn.now c.receive-self.new.turn c.args.subject c.args.self.now.reception c.receive-self.result is c.receive-self.ensures.goes.follows c.receive-self.ensures.received
