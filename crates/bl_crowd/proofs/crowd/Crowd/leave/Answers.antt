use Rattle.std.proofs.Common.{◌<◌, sym, subst}
use Rattle.std.proofs.lemmas.List.Elements.{All-get_or}
use Rattle.bl_crowd.specs.Departures.{Departs}
use Rattle.bl_crowd.specs.Ways.{AreMembers, IsMember}
use Rattle.bl_crowd.proofs.Crowding.{at_place, crowd_leaves}
use Rattle.bl_crowd.proofs.crowd.Crowd.leave.Goals as goal

pub returns-clause-crowd : goal.returns-clause-crowd
returns-clause-crowd g c =
    let self = c.args.self.now in
    let within = subst (λ n. c.args.i < n) self.members.ok.0 c.requires.within in
    record {
      gate_is = c.requires.crowd.gate_is;
      members = subst (λ l. AreMembers g.S.Stream.remaining g.S.Stream.contents self.gate.now.base.setup.names self.first.value self.pass l) (sym c.remove.ensures.items)
          (crowd_leaves g.S.Stream.remaining g.S.Stream.contents self.gate.now.base.setup.names self.first.value self.pass self.members.items c.args.i within c.requires.crowd.members);
    }

pub returns-clause-departs : goal.returns-clause-departs
returns-clause-departs g c d =
    let self = c.args.self.now in
    let R = g.S.Stream.remaining in
    let W = g.S.Stream.contents in
    let names = self.gate.now.base.setup.names in
    let within = subst (λ n. c.args.i < n) self.members.ok.0 c.requires.within in
    let is = at_place self.members.items c.args.i c.remove.result d within c.remove.ensures.value in
    let a = c.requires.crowd.members in
    let member = subst (IsMember R W names self.first.value self.pass) (sym is) (All-get_or (IsMember R W names self.first.value self.pass) self.members.items c.args.i d within a.each) in
    subst (λ m. Departs R W names self.first.value self.pass m.connection m.reception c.leave.result.fault) is
    (subst (Departs R W names self.first.value self.pass c.remove.result.connection c.remove.result.reception) (sym c.leave.ensures.fault)
    (c.leave.ensures.departs names self.first.value self.pass a.home member))
