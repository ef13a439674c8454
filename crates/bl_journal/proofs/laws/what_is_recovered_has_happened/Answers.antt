use Rattle.bl_journal.proofs.Recovering.{happened}
use Rattle.bl_journal.proofs.laws.what_is_recovered_has_happened.Goals as goal

pub returns : goal.returns
returns c setup written found file agree names =
    happened setup (λ k f t h r. c.what_was_kept_is_recovered.ensures.kept setup k f t agree names h r) written found file
