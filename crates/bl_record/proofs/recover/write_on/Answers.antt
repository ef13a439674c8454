use Rattle.std.proofs.Common.{subst}
use Rattle.bl_rebuild.specs.Rebuilds.{journal_of}
use Rattle.bl_record.proofs.Histories.{none-opening, none-writing, reopened}
use Rattle.bl_record.proofs.recover.write_on.Goals as goal
use Rattle.bl_work.specs.Names.{AreNames}

pub returns-in-Err-clause-any_moment_failed : goal.returns-in-Err-clause-any_moment_failed
returns-in-Err-clause-any_moment_failed g c =
    let is = c.requires.completed in
    none-opening g.D.Device.now g.D.Device.past c.a_crash_loses_nothing_that_was_kept.ensures c.args.setup.now c.names.ensures.agree
    (subst AreNames c.names.ensures.value c.scheme-scheme.ensures.names) (journal_of is.finished.found) c.args.device c.in-Err.device c.args.completed.now.right
    is.finished.recovered is.right c.in-Err.ensures.any_moment_failed

pub keep_up-requires-clause-goes_on : goal.keep_up-requires-clause-goes_on
keep_up-requires-clause-goes_on g c none =
    let is = c.requires.completed in (
      is.finished.found,
      reopened c.args.setup.now c.version-version.ensures.two is.finished.found is.finished.setup_is c.args.completed.now.bookmark (g.D.Device.now c.args.device)
          (g.D.Device.now c.in-Ok.log.device) c.args.completed.now.right is.finished.recovered is.right is.bookmark is.all c.in-Ok.ensures.kept,
      is.finished.on.grown,
    )

pub returns-in-Ok-keep_up-clause-any_moment : goal.returns-in-Ok-keep_up-clause-any_moment
returns-in-Ok-keep_up-clause-any_moment g c =
    let is = c.requires.completed in
    none-writing g.D.Device.now g.D.Device.past c.a_crash_loses_nothing_that_was_kept.ensures c.args.setup.now c.names.ensures.agree
    (subst AreNames c.names.ensures.value c.scheme-scheme.ensures.names) is.finished.found is.finished.setup_is c.args.device c.in-Ok.log.device
    c.keep_up.new.self.log.device c.args.completed.now.right is.finished.recovered is.right c.in-Ok.ensures.any_moment
    (c.keep_up.ensures.any_moment is.finished.found
    (reopened c.args.setup.now c.version-version.ensures.two is.finished.found is.finished.setup_is c.args.completed.now.bookmark (g.D.Device.now c.args.device)
    (g.D.Device.now c.in-Ok.log.device) c.args.completed.now.right is.finished.recovered is.right is.bookmark is.all c.in-Ok.ensures.kept)
    is.finished.on.grown)

pub returns-in-Err-keep_up-clause-any_moment_failed : goal.returns-in-Err-keep_up-clause-any_moment_failed
returns-in-Err-keep_up-clause-any_moment_failed g c =
    let is = c.requires.completed in
    none-writing g.D.Device.now g.D.Device.past c.a_crash_loses_nothing_that_was_kept.ensures c.args.setup.now c.names.ensures.agree
    (subst AreNames c.names.ensures.value c.scheme-scheme.ensures.names) is.finished.found is.finished.setup_is c.args.device c.in-Ok.log.device
    c.keep_up.new.self.log.device c.args.completed.now.right is.finished.recovered is.right c.in-Ok.ensures.any_moment
    (c.keep_up.ensures.any_moment is.finished.found
    (reopened c.args.setup.now c.version-version.ensures.two is.finished.found is.finished.setup_is c.args.completed.now.bookmark (g.D.Device.now c.args.device)
    (g.D.Device.now c.in-Ok.log.device) c.args.completed.now.right is.finished.recovered is.right is.bookmark is.all c.in-Ok.ensures.kept)
    is.finished.on.grown)
