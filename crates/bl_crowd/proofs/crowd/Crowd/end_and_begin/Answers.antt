use Rattle.std.proofs.Common.{◌≡◌, ◌∙◌, ap, sym, subst}
use Rattle.bl_gate.specs.Gates.{PassView}
use Rattle.bl_worker.specs.Batches.{IsBatch, loans_in}
use Rattle.bl_worker.specs.Turns.{AddsTurnsAlone, IsEventOf, IsNoLine}
use Rattle.bl_worker.proofs.Adding.{adds_itself, adds_then}
use Rattle.bl_worker.proofs.Batching.{batch_enters}
use Rattle.bl_crowd.specs.Ways.{AreMembers}
use Rattle.bl_crowd.proofs.Crowding.{crowd_goes}
use Rattle.bl_crowd.proofs.Rounding.{crowd_turns}
use Rattle.bl_crowd.proofs.crowd.Crowd.end_and_begin.Goals as goal

pub end_all-ended-requires-clause-batch : goal.end_all-ended-requires-clause-batch
end_all-ended-requires-clause-batch g c =
    let b = c.requires.batch in
    let loans = loans_in c.args.batch.now in (
      b.0,
      batch_enters b.0 c.take.result c.turn-turn.result loans (subst (λ (v : PassView). IsBatch b.0 v loans) (sym c.take.ensures.taken) b.1) c.turn-turn.ensures.follows c.turn-turn.ensures.trail
          c.turn-turn.ensures.own c.turn-turn.ensures.in_hand,
    )

pub returns-clause-crowd : goal.returns-clause-crowd
returns-clause-crowd g c =
    let self = c.args.self.now in
    let R = g.S.Stream.remaining in
    let W = g.S.Stream.contents in
    let names = self.gate.now.base.setup.names in
    let items = self.members.items in
    let p = c.take.result in
    let t = c.turn-turn.result in
    let e = c.end_all-ended.ensures in
    let b = c.begin_ready-begun.ensures in
    let here = subst (λ (v : PassView). AreMembers R W names self.first.value v items) (sym c.take.ensures.taken) c.requires.crowd.members in
    let begins = crowd_goes R W names self.first.value p t items here (record { follows = c.turn-turn.ensures.follows; trail = c.turn-turn.ensures.trail }) (adds_itself (λ _. IsNoLine) p t c.turn-turn.ensures.own) in
    record {
      gate_is = ap (λ (v : PassView). v.gate) c.leave.ensures ∙ (b.follows.gate ∙ (e.follows.gate ∙ (c.turn-turn.ensures.follows.gate ∙ (ap (λ (v : PassView). v.gate) c.take.ensures.taken ∙ c.requires.crowd.gate_is))));
      members = subst (λ (v : PassView). AreMembers R W names self.first.value v items) (sym c.leave.ensures)
          (crowd_turns R W names self.first.value c.end_all-ended.new.turn c.begin_ready-begun.new.turn items
          (crowd_turns R W names self.first.value t c.end_all-ended.new.turn items begins e.follows e.trail e.adds) b.follows b.trail b.adds);
    }

pub returns-clause-batch : goal.returns-clause-batch
returns-clause-batch g c since b =
    let loans = loans_in c.args.batch.now in
    subst (λ (v : PassView). IsBatch since v (loans_in c.begin_ready-begun.new.self)) (sym c.leave.ensures)
    (c.begin_ready-begun.ensures.batch since
    (c.end_all-ended.ensures.batch since
    (batch_enters since c.take.result c.turn-turn.result loans (subst (λ (v : PassView). IsBatch since v loans) (sym c.take.ensures.taken) b) c.turn-turn.ensures.follows c.turn-turn.ensures.trail
    c.turn-turn.ensures.own c.turn-turn.ensures.in_hand)))

pub returns-clause-adds : goal.returns-clause-adds
returns-clause-adds g c =
    let p = c.args.self.now.pass in
    let t = c.turn-turn.result in
    let u = c.end_all-ended.new.turn in
    let e = c.end_all-ended.ensures in
    let b = c.begin_ready-begun.ensures in
    let own : t.own ≡ p.own = c.turn-turn.ensures.own ∙ ap (λ (v : PassView). v.own) c.take.ensures.taken in
    let ended = adds_then (λ _. IsEventOf (λ n. Unit {0})) p t u (adds_itself (λ _. IsEventOf (λ n. Unit {0})) p t own) e.adds e.follows in
    subst (AddsTurnsAlone p) (sym c.leave.ensures) (adds_then (λ _. IsEventOf (λ n. Unit {0})) p u c.begin_ready-begun.new.turn ended b.adds b.follows)
