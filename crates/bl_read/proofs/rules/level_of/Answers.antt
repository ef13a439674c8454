use Rattle.std.proofs.Common.{Err, ap}
use Rattle.std.proofs.lemmas.Bool.{false≢true}
use Rattle.bl_syntax.specs.RawRules.{raw_names, raw_level}
use Rattle.bl_read.proofs.RuleMeanings.{level_there}
use Rattle.bl_read.proofs.rules.level_of.Goals as goal

pub returns-in-Err-clause-fault : goal.returns-in-Err-clause-fault
returns-in-Err-clause-fault c known once =
    false≢true (level_there c.args.names.now c.scheme.result.now (raw_level c.args.level.now) _ c.scheme.ensures.value
    (ap (λ l. record { rank = c.args.level.now.rank.now; categories = raw_names l }) c.deref.ensures.value) known once (Err _) c.in-Err.ensures)
