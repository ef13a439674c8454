use Rattle.std.proofs.Common.{[], ◌∷◌}
use Rattle.bl_read.specs.declared.rules.Role.TheVariants.{Subject, Document}
use Rattle.bl_read.specs.RuleFaults.{mentioned, IsKnown}
use Rattle.bl_check.proofs.Firsts.{first_before, finds_behind, exits}
use Rattle.bl_read.proofs.rules.check_right_known.Goals as goal

pub returns-in_err-check_known : goal.returns-in_err-check_known
returns-in_err-check_known c =
    let known = IsKnown c.args.names.now in
    exits known mentioned _ _ _ c.from_residual.ensures.1
    (first_before known mentioned (record { role = Subject; word = c.args.right.now.subject.now } ∷ []) (record { role = Document; word = c.args.right.now.document.now } ∷ []) _ c.in_err-check_known.ensures)

pub returns : goal.returns
returns c =
    finds_behind (IsKnown c.args.names.now) mentioned (record { role = Subject; word = c.args.right.now.subject.now } ∷ [])
    (record { role = Document; word = c.args.right.now.document.now } ∷ []) _ c.in_ok-check_known.ensures c.check_known-2.ensures
