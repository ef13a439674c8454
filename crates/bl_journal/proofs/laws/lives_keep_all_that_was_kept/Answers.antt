use Rattle.std.proofs.Common.{List, ℕ, ◌++◌}
use Rattle.bl_journal.specs.Journals.{GoesOnFrom, IsHistory, IsRecovered, Journal, journal_text}
use Rattle.bl_journal.proofs.Living.{history, goes-on, goes-on-all}
use Rattle.bl_journal.proofs.laws.lives_keep_all_that_was_kept.Goals as goal

pub returns : goal.returns
returns c setup from lives agree names first are =
    let kept : (k f : Journal) (t : List ℕ) → IsHistory setup k → IsRecovered setup (journal_text setup k ++ t) f → GoesOnFrom k f =
    λ k f t h r. c.what_was_kept_is_recovered.ensures.kept setup k f t agree names h r in
    (history setup kept from lives first are, goes-on setup kept from lives are, goes-on-all setup kept from lives are)
