use Rattle.std.proofs.Common.{◌≡◌, [], codes, inl, refl, subst, sym}
use Rattle.bl_audit.specs.Bookmarks.{HasGrown}
use Rattle.bl_disk.specs.File.{File, all_kept, seen}
use Rattle.bl_disk_tests.specs.OfTorn.{torn_now}
use Rattle.bl_disk_tests.specs.declared.torn.Torn.{Torn}
use Rattle.bl_hall.specs.Chronicle.{Chronicle}
use Rattle.bl_record.specs.Kept.{IsKept}
use Rattle.bl_record.specs.Torn.{IsTornHead}
use Rattle.bl_setup.specs.Setup.{Setup}
use Rattle.bl_setup.specs.declared.version.Version.TheVariants.{Two}
use Rattle.bl_record_tests.proofs.Growing.{at-ok}
use Rattle.bl_record_tests.proofs.resumes.a_journal_begins.Goals as goal

pub keep_up-requires-clause-goes_on : goal.keep_up-requires-clause-goes_on
keep_up-requires-clause-goes_on g c _ =
    let begun : Chronicle = record { setup = c.in_ok-setup.setup; limit = 10000; trail = [] } in
    let hall : c.right-hall.result ≡ begun = at-ok c.new-2.result c.right-hall.result (λ (h : Chronicle). h ≡ begun) c.right-hall.ensures c.new-2.ensures in (
      begun,
      at-ok c.begin.result c.right-journal.result
          (λ journal. (setup : Setup) → setup.version ≡ Two
          → IsKept (record { setup = setup; limit = 10000; trail = [] }) journal.bookmark (torn_now journal.log.device))
          c.right-journal.ensures c.begin.ensures.kept begun.setup c.version-version.ensures.two,
      subst (λ (h : Chronicle). HasGrown h c.open_bob.new.hall) hall c.open_bob.ensures,
    )

-- the head that is there is torn
pub begin-requires-clause-fresh : goal.begin-requires-clause-fresh
begin-requires-clause-fresh g c =
    let there = at-ok c.new.result c.right-torn.result (λ (torn : Torn). torn_now torn ≡ all_kept (codes "trail 2\nli")) c.right-torn.ensures c.new.ensures.now in
    subst (λ (file : File). IsTornHead (seen file)) (sym there) (inl (codes "mit ", refl))
