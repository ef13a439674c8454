use Rattle.std.proofs.Common.{◌<◌, ◌∙◌, ap, length, refl, sym, subst}
use Rattle.std.proofs.lemmas.List.{get_or-set_other, get_or_read_under}
use Rattle.std.proofs.lemmas.List.Elements.{All-get_or}
use Rattle.bl_crowd.specs.Ways.{IsMember}
use Rattle.bl_crowd.specs.declared.member.Member.{Member}
use Rattle.bl_crowd.proofs.Crowding.{one_steps}
use Rattle.bl_crowd.proofs.crowd.Crowd.step.Goals as goal

pub step-requires : goal.step-requires
step-requires g c =
    let self = c.args.self.now in
    let R = g.S.Stream.remaining in
    let W = g.S.Stream.contents in
    let names = self.gate.now.base.setup.names in
    let items = self.members.items in
    let was = c.index_mut.result.now in
    let low = subst (λ n. c.args.i < n) self.members.ok.0 c.requires.within in
    let is = get_or_read_under items c.args.i (length items) was was c.index_mut.ensures.value low refl in
    record {
      way = (
        names,
        self.first.value,
        self.pass,
        subst (IsMember R W names self.first.value self.pass) (sym is) (All-get_or (IsMember R W names self.first.value self.pass) items c.args.i was low c.requires.crowd.members.each),
      );
    }

pub returns-clause-crowd : goal.returns-clause-crowd
returns-clause-crowd g c =
    let self = c.args.self.now in
    let R = g.S.Stream.remaining in
    let W = g.S.Stream.contents in
    let names = self.gate.now.base.setup.names in
    let items = self.members.items in
    let was = c.index_mut.result.now in
    let low = subst (λ n. c.args.i < n) self.members.ok.0 c.requires.within in
    let is = get_or_read_under items c.args.i (length items) was was c.index_mut.ensures.value low refl in
    let here = subst (IsMember R W names self.first.value self.pass) (sym is) (All-get_or (IsMember R W names self.first.value self.pass) items c.args.i was low c.requires.crowd.members.each) in
    let same = c.step.ensures.same ∙ ap (λ (m : Member g.row.S.Denot). m.reception) (get_or_read_under items c.args.i (length items) was c.step.new.self c.index_mut.ensures.value low refl) in
    record {
      gate_is = c.requires.crowd.gate_is;
      members = one_steps R W names self.first.value self.pass items c.args.i c.step.new.self low (c.step.ensures.way names self.first.value self.pass here) same c.requires.crowd.members;
    }

pub returns-clause-others : goal.returns-clause-others
returns-clause-others g c j d other = get_or-set_other c.args.self.now.members.items c.args.i j c.step.new.self d other
