use Rattle.std.specs.Prelude.{codes, length, ◌++◌}
use Rattle.bl_journal.specs.Journals.{journal_text}
use Rattle.bl_journal.proofs.Recovering.{closed-true}
use Rattle.bl_journal.proofs.laws.closed_journals_are_true.Goals as goal

pub returns-clause-text : goal.returns-clause-text
returns-clause-text c = closed-true

pub returns-clause-accepted : goal.returns-clause-accepted
returns-clause-accepted c setup journal verdict history is =
    c.true_texts_are_accepted.ensures setup (journal_text setup journal ++ codes "stop\n") (length journal.events) verdict (closed-true setup journal history) is
