use Rattle.std.proofs.Common.{◌≡◌, List, ◌++◌, map, length, vec_len, sym, ap, ◌∙◌, append-nil, arith}
use Rattle.std.specs.Prelude.{reverse}
use Rattle.bl_eval.specs.Loan.{Loan}
use Rattle.bl_worker.specs.Batches.{lent_by, loan_of, loans_in}
use Rattle.bl_worker.specs.declared.turn.Begun.{Begun}
use Rattle.bl_worker.proofs.Batching.{more_in}
use Rattle.bl_worker.proofs.batch.Batch.hold.Goals as goal

pub returns-in-Over-clause-loans : goal.returns-in-Over-clause-loans
returns-in-Over-clause-loans c =
    sym (append-nil (loans_in c.args.self.now)) ∙ ap (λ (b : Begun). loans_in c.args.self.now ++ lent_by b) (sym c.in-Over.is)

pub returns-in-Runs-clause-loans : goal.returns-in-Runs-clause-loans
returns-in-Runs-clause-loans c =
    ap (λ (l : List Loan). l ++ reverse (map loan_of c.args.self.now.ran.items)) c.push_reserved.ensures.items
    ∙ (more_in c.args.self.now.lents.items c.args.self.now.ran.items c.in-Runs.lent c.requires.ran
    ∙ ap (λ (b : Begun). loans_in c.args.self.now ++ lent_by b) (sym c.in-Runs.is))

pub returns-in-Runs-clause-room : goal.returns-in-Runs-clause-room
returns-in-Runs-clause-room c =
    let none : vec_len c.args.self.now.ran ≡ 0 = c.args.self.now.ran.ok.0 ∙ ap length c.requires.ran in record {
      some = c.requires.room.some;
      few = omega (arith, c.push_reserved.ensures.len, c.requires.space, none);
      lents = omega (arith, c.push_reserved.ensures.capacity, c.requires.room.lents);
      ran = c.requires.room.ran;
    }
