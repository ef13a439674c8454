use Rattle.std.proofs.Common.{◌∙◌, ap}
use Rattle.bl_allowance.specs.Buffers.{pending}
use Rattle.bl_allowance.specs.Lines.{lines_in}
use Rattle.bl_allowance.proofs.Counting.{none_behind}
use Rattle.bl_allowance.proofs.intake.Intake.give.Goals as goal

pub invariant_of-self : goal.invariant_of-self
invariant_of-self g c =
    let old = c.args.self.now in
    record {
      no_end = λ part. ap lines_in (c.forget_given.ensures.pending ∙ c.give-count.ensures.pending) ∙ none_behind c.give-count.result (pending old.buffer) (old.no_end part);
      goes_on = λ part. old.goes_on part;
    }
