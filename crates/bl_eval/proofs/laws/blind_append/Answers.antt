use Rattle.bl_eval.specs.Loan.{part_of, input_at}
use Rattle.bl_eval.proofs.laws.blind_append.Goals as goal

pub returns : goal.returns
returns c l others keeps same =
    c.blind_append.ensures (part_of l).accesses (input_at (part_of l).accesses l.inputs) (input_at (part_of l).accesses others) (part_of l).body same keeps
