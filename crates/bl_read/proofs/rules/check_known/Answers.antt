use Rattle.std.proofs.Common.{[], sym, ◌∙◌}
use Rattle.std.proofs.lemmas.Bool.{false≢true}
use Rattle.bl_read.specs.RuleFaults.{mentioned, IsKnown}
use Rattle.bl_check.proofs.Firsts.{first_here}
use Rattle.bl_read.proofs.rules.check_known.Goals as goal

pub returns-else-is_known : goal.returns-else-is_known
returns-else-is_known c =
    first_here (IsKnown c.args.names.now) mentioned (record { role = c.args.role; word = c.args.name.now }) []
    (λ there. false≢true (sym c.if-is_known.false ∙ c.is_known.ensures.1 there))
