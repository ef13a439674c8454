use Rattle.std.proofs.Common.{subst}
use Rattle.bl_declare.specs.Words.{declaration_of}
use Rattle.bl_explain.specs.SetupLines.{IsSought}
use Rattle.bl_setup.proofs.WholeLemmas.{one_spelled}
use Rattle.bl_explain.proofs.setup_lines.spells.Goals as goal

pub returns-in-Ok : goal.returns-in-Ok
returns-in-Ok c = (
  (λ h. (declaration_of c.in-Ok.words, c.in-Ok.ensures.spelled, c.is_sought.ensures.0 h)),
  (λ f. c.is_sought.ensures.1 (subst (IsSought c.args.sought.now) (one_spelled c.args.line.now f.0 (declaration_of c.in-Ok.words) f.1 c.in-Ok.ensures.spelled) f.2)),
)
