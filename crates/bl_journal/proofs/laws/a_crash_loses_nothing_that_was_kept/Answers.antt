use Rattle.std.proofs.Common.{List, ℕ, subst}
use Rattle.bl_disk.specs.File.{Begins}
use Rattle.bl_journal.specs.Journals.{IsRecovered, journal_text}
use Rattle.bl_journal.proofs.laws.a_crash_loses_nothing_that_was_kept.Goals as goal

pub returns : goal.returns
returns c setup kept found file left agree names history keeps may recovered =
    let t : Begins (journal_text setup kept) left = keeps left may in
    c.what_was_kept_is_recovered.ensures.kept setup kept found t.0 agree names history (subst (λ (f : List ℕ). IsRecovered setup f found) t.1 recovered)
