use Rattle.std.proofs.Common.{◌≡◌, ◌∙◌, ap, length, sym, subst}
use Rattle.bl_gate.specs.Gates.{PassView}
use Rattle.bl_worker.specs.Batches.{IsBatch, loans_in}
use Rattle.bl_rounds.specs.Seats.{HaveGoneOn}
use Rattle.bl_rounds.specs.declared.rounds.Marks.{Marks}
use Rattle.bl_rounds.proofs.rounds.take_turn.Goals as goal

pub round-round-requires-clause-batch : goal.round-round-requires-clause-batch
round-round-requires-clause-batch g c = (c.args.crowd.now.first.value, c.end_and_begin-ended.ensures.run.batch)

pub returns-clause-turns : goal.returns-clause-turns
returns-clause-turns g c =
    let s = c.end_and_begin-ended.ensures in
    let r = c.round-round.ensures in
    let on = c.go_on_each.ensures.goes in
    let first = c.args.crowd.now.first.value in
    let batch = r.batch first s.run.batch in
    record {
      crowd_is = on.crowd_is;
      seated = on.seated;
      first = on.first ∙ (r.same.0 ∙ s.same.1);
      gate = on.gate ∙ (r.same.1 ∙ s.same.2);
      same = on.same;
      run = record {
        batch = subst (IsBatch first c.go_on_each.new.crowd.pass) (sym c.run.ensures.loans) (subst (λ (p : PassView). IsBatch first p (loans_in c.round-round.new.batch)) (sym on.pass) batch);
        ran = c.run.ensures.ran;
        room = c.run.ensures.room;
      };
    }

pub returns-clause-gone : goal.returns-clause-gone
returns-clause-gone g c gone =
    let seats = c.args.seats.now.items in
    let after = c.go_on_each.new.seats.items in
    let time = c.tell_of-noted.ensures.time ∙ ap (λ (m : Marks). m.time) c.end_and_begin-ended.ensures.marks in
    subst (λ t. HaveGoneOn t (length after) after) time (c.go_on_each.ensures.gone (subst (λ t. HaveGoneOn t (length seats) seats) (sym time) gone))
