use Rattle.std.proofs.Common.{[]}
use Rattle.bl_work.proofs.Blind.{effects_from-same}
use Rattle.bl_work.proofs.laws.blind_append.Goals as goal

pub returns : goal.returns
returns c accesses contents others body same keeps = effects_from-same accesses contents others same body [] keeps
