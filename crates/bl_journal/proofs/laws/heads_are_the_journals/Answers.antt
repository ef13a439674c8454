use Rattle.bl_journal.proofs.Heading.{head-of}
use Rattle.bl_journal.proofs.laws.heads_are_the_journals.Goals as goal

pub returns : goal.returns
returns c = head-of
