use Rattle.std.proofs.Common.{[], ◌∷◌, map}
use Rattle.bl_syntax.specs.RawBodies.{raw_access}
use Rattle.bl_work.specs.WhenFaults.{IsOnce, declarations_behind, declarations_in}
use Rattle.bl_work.specs.FirstWhenFault.{declared_document}
use Rattle.bl_check.proofs.Firsts.{first_before, finds_behind, exits}
use Rattle.bl_check.proofs.once.check_when_once.Goals as goal

pub returns-in_err-check_accesses_once : goal.returns-in_err-check_accesses_once
returns-in_err-check_accesses_once c =
    exits IsOnce declared_document _ _ _ c.from_residual.ensures.1
    (first_before IsOnce declared_document (declarations_behind [] (raw_access c.args.first ∷ map raw_access c.args.more.now)) (declarations_in c.args.body.now) _
    c.in_err-check_accesses_once.ensures)

pub returns : goal.returns
returns c =
    finds_behind IsOnce declared_document (declarations_behind [] (raw_access c.args.first ∷ map raw_access c.args.more.now)) (declarations_in c.args.body.now) _
    c.in_ok-check_accesses_once.ensures c.check_once.ensures
