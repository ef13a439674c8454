use Rattle.bl_trail.proofs.OneVerdict.{one-verdict}
use Rattle.bl_trail.proofs.verdict.one_verdict.Goals as goal

pub returns : goal.returns
returns c = one-verdict
