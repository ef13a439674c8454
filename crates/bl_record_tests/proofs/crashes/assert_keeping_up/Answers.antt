use Rattle.bl_disk_tests.specs.OfTorn.{torn_now}
use Rattle.bl_record.specs.Kept.{IsKept}
use Rattle.bl_record_tests.proofs.Growing.{at-ok}
use Rattle.bl_record_tests.proofs.crashes.assert_keeping_up.Goals as goal

pub keep_up-requires-clause-goes_on : goal.keep_up-requires-clause-goes_on
keep_up-requires-clause-goes_on g c _ = (
  c.right-resumed.result.hall,
  at-ok c.resume.result c.right-resumed.result (λ r. IsKept r.hall r.journal.bookmark (torn_now r.journal.log.device)) c.right-resumed.ensures c.resume.ensures.kept,
  c.open_bob.ensures,
)
