use Rattle.std.proofs.Common.{rules, ◌≡◌, ◌++◌, ◌∷◌, [], sym, subst}
use Rattle.bl_crowd.specs.Ways.{AreMembers, IsMember}
use Rattle.bl_crowd.proofs.Crowding.{crowd_joins}
use Rattle.bl_crowd.proofs.crowd.Crowd.join.Goals as goal

pub returns-clause-crowd : goal.returns-clause-crowd
returns-clause-crowd g c =
    let self = c.args.self.now in
    let R = g.S.Stream.remaining in
    let W = g.S.Stream.contents in
    let names = self.gate.now.base.setup.names in
    let member = c.in_ok-member.member in
    let items : c.push_reserved.new.self.items ≡ self.members.items ++ member ∷ [] = search rules in
    let here = subst (λ n. IsMember R W n self.first.value self.pass member) c.names.ensures.value (c.in_ok-member.ensures.member self.first.value self.pass) in
    record {
      gate_is = c.requires.crowd.gate_is;
      members = subst (λ l. AreMembers R W names self.first.value self.pass l) (sym items)
          (crowd_joins R W names self.first.value self.pass self.members.items member here c.in_ok-member.ensures.awaited c.requires.crowd.members);
    }

pub returns-clause-ok : goal.returns-clause-ok
returns-clause-ok g c =
    let self = c.args.self.now in
    let member = c.in_ok-member.member in
    let items : c.push_reserved.new.self.items ≡ self.members.items ++ member ∷ [] = search rules in
    (member, items, c.in_ok-member.ensures.stream.1, c.in_ok-member.ensures.stream.0)
