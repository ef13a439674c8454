use Rattle.std.proofs.Common.{List, ap, refl, sym, subst}
use Rattle.bl_gate.specs.Gates.{GateId}
use Rattle.bl_setup.specs.Agreement.{Agree}
use Rattle.bl_crowd.specs.Ways.{AreMembers, IsHome}
use Rattle.bl_crowd.specs.declared.member.Member.{Member}
use Rattle.bl_crowd.proofs.Crowding.{crowd_begins}
use Rattle.bl_crowd.proofs.crowd.Crowd.new.Goals as goal

pub returns-clause-crowd : goal.returns-clause-crowd
returns-clause-crowd g c =
    let R = g.S.Stream.remaining in
    let W = g.S.Stream.contents in
    let pass = c.args.pass in
    let names = c.args.gate.now.base.setup.names in
    let home : IsHome names pass = record {
      agree = subst (λ (at : GateId). Agree at.base.setup) (sym c.requires) c.names-names.ensures.agree;
      names_are = ap (λ (at : GateId). at.base.setup.names) (sym c.requires);
    } in
    record {
      gate_is = c.requires;
      members = subst (λ (l : List (Member g.row.S.Denot)). AreMembers R W names c.of.result.value pass l) (sym c.new.ensures.items)
          (crowd_begins R W names c.of.result.value pass home c.of.ensures);
    }

pub returns-clause-pass : goal.returns-clause-pass
returns-clause-pass g c = (refl, c.of.ensures, refl)

pub returns-clause-none : goal.returns-clause-none
returns-clause-none g c = c.new.ensures.items
