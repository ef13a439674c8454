use Rattle.std.proofs.Common.{List, ◌++◌, map, refl, sym, ap, ◌∙◌, arith}
use Rattle.std.specs.Prelude.{reverse, Result}
use Rattle.bl_eval.specs.Loan.{Loan}
use Rattle.bl_worker.specs.Batches.{loan_of}
use Rattle.bl_worker.proofs.Batching.{ran_is, run_next}
use Rattle.bl_worker.proofs.batch.Batch.run.Goals as goal

pub loop-lent-init : goal.loop-lent-init
loop-lent-init g c = record { loans = refl; room = c.requires.room; most = refl }

pub loop-lent-preserved : goal.loop-lent-preserved
loop-lent-preserved g c = record {
  loans =
      ap (λ (l : List (Result Loan Loan)). c.pop.new.self.items ++ reverse (map loan_of l)) c.push_reserved.ensures.items
      ∙ (run_next c.pop.new.self.items c.in-Some.lent c.loop-lent.self.ran.items c.eval.result (ran_is c.eval.result c.in-Some.lent c.eval.ensures)
      ∙ (ap (λ (l : List Loan). l ++ reverse (map loan_of c.loop-lent.self.ran.items)) (sym c.in-Some.ensures.items) ∙ c.loop-lent.invariant.loans));
  room = record {
    some = c.loop-lent.invariant.room.some;
    few = omega (arith, c.in-Some.ensures.len, c.in-Some.ensures.cases, c.push_reserved.ensures.len, c.loop-lent.invariant.room.few);
    lents = omega (arith, c.pop.ensures.capacity, c.loop-lent.invariant.room.lents);
    ran = omega (arith, c.push_reserved.ensures.capacity, c.loop-lent.invariant.room.ran);
  };
  most = c.loop-lent.invariant.most;
}
