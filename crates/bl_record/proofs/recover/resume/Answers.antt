use Rattle.std.proofs.Common.{◌≡◌, ℕ, List, subst}
use Rattle.bl_disk.specs.File.{seen}
use Rattle.bl_record.proofs.Histories.{err-on, none-after, none-nowhere, ok-both, ok-on}
use Rattle.bl_record.proofs.recover.resume.Goals as goal
use Rattle.bl_record.proofs.Resuming.{resumes}
use Rattle.bl_record.specs.Recovering.{IsNotResumed, IsResumed, LosesNoHistory}
use Rattle.bl_work.specs.Names.{AreNames}

pub returns-in-Ok-clause-any_moment : goal.returns-in-Ok-clause-any_moment
returns-in-Ok-clause-any_moment g c =
    let now = g.D.Device.now in
    let past = g.D.Device.past in
    let mid = c.look_on.new.device in
    ok-on c.go_on.result (λ r. LosesNoHistory now past c.args.setup.now mid r.journal.log.device) (λ r. LosesNoHistory now past c.args.setup.now c.args.device r.journal.log.device)
    (λ r loses. none-after g.D.Device.now g.D.Device.past c.a_crash_loses_nothing_that_was_kept.ensures c.args.setup.now c.names.ensures.agree
    (subst AreNames c.names.ensures.value c.scheme-scheme.ensures.names) c.args.device mid r.journal.log.device c.look_on.ensures.same loses) c.go_on.ensures.any_moment

pub returns-in-Ok-clause-any_moment_failed : goal.returns-in-Ok-clause-any_moment_failed
returns-in-Ok-clause-any_moment_failed g c =
    let now = g.D.Device.now in
    let past = g.D.Device.past in
    let mid = c.look_on.new.device in
    err-on c.go_on.result (λ f. LosesNoHistory now past c.args.setup.now mid f.1) (λ f. LosesNoHistory now past c.args.setup.now c.args.device f.1)
    (λ f loses. none-after g.D.Device.now g.D.Device.past c.a_crash_loses_nothing_that_was_kept.ensures c.args.setup.now c.names.ensures.agree
    (subst AreNames c.names.ensures.value c.scheme-scheme.ensures.names) c.args.device mid f.1 c.look_on.ensures.same loses) c.go_on.ensures.any_moment_failed

pub returns-in-Err-clause-any_moment_failed : goal.returns-in-Err-clause-any_moment_failed
returns-in-Err-clause-any_moment_failed g c = none-nowhere g.D.Device.now g.D.Device.past c.a_crash_loses_nothing_that_was_kept.ensures c.args.setup.now c.names.ensures.agree
    (subst AreNames c.names.ensures.value c.scheme-scheme.ensures.names) c.args.device c.look_on.new.device c.look_on.ensures.same

pub returns-in-Ok-clause-resumed : goal.returns-in-Ok-clause-resumed
returns-in-Ok-clause-resumed g c =
    let completed = c.in-Ok.completed in
    let text = seen (g.D.Device.now c.args.device) in
    ok-both c.go_on.result (λ r. r.hall ≡ completed.hall) (λ r. r.cut ≡ completed.rest.bytes) (λ r. IsResumed c.args.setup.now text r.hall r.cut)
    (λ r same bytes. resumes c.args.setup.now text completed c.in-Ok.ensures.completed c.in-Ok.ensures.may r.hall same r.cut bytes)
    c.go_on.ensures.hall c.go_on.ensures.cut

pub returns-in-Ok-clause-err : goal.returns-in-Ok-clause-err
returns-in-Ok-clause-err g c =
    let text = seen (g.D.Device.now c.args.device) in
    err-on c.go_on.result (λ f. (text : List ℕ) → IsNotResumed c.args.setup.now text f.0)
    (λ f. IsNotResumed c.args.setup.now text f.0) (λ f not. not text) c.go_on.ensures.err
