use Rattle.std.proofs.Common.{ℕ, List, subst}
use Rattle.bl_disk.specs.File.{seen}
use Rattle.bl_record.proofs.Histories.{err-on, none-after, none-nowhere, ok-on}
use Rattle.bl_record.proofs.recover.recover.Goals as goal
use Rattle.bl_record.specs.Recovering.{IsNotRecovered, LosesNoHistory}
use Rattle.bl_work.specs.Names.{AreNames}

pub returns-in-Ok-clause-any_moment : goal.returns-in-Ok-clause-any_moment
returns-in-Ok-clause-any_moment g c =
    let now = g.D.Device.now in
    let past = g.D.Device.past in
    let mid = c.look.new.device in
    ok-on c.close_up.result (λ r. LosesNoHistory now past c.args.setup.now mid r.closed) (λ r. LosesNoHistory now past c.args.setup.now c.args.device r.closed)
    (λ r loses. none-after g.D.Device.now g.D.Device.past c.a_crash_loses_nothing_that_was_kept.ensures c.args.setup.now c.names.ensures.agree
    (subst AreNames c.names.ensures.value c.scheme-scheme.ensures.names) c.args.device mid r.closed c.look.ensures.same loses) c.close_up.ensures.any_moment

pub returns-in-Ok-clause-any_moment_failed : goal.returns-in-Ok-clause-any_moment_failed
returns-in-Ok-clause-any_moment_failed g c =
    let now = g.D.Device.now in
    let past = g.D.Device.past in
    let mid = c.look.new.device in
    err-on c.close_up.result (λ f. LosesNoHistory now past c.args.setup.now mid f.1) (λ f. LosesNoHistory now past c.args.setup.now c.args.device f.1)
    (λ f loses. none-after g.D.Device.now g.D.Device.past c.a_crash_loses_nothing_that_was_kept.ensures c.args.setup.now c.names.ensures.agree
    (subst AreNames c.names.ensures.value c.scheme-scheme.ensures.names) c.args.device mid f.1 c.look.ensures.same loses) c.close_up.ensures.any_moment_failed

pub returns-in-Err-clause-any_moment_failed : goal.returns-in-Err-clause-any_moment_failed
returns-in-Err-clause-any_moment_failed g c = none-nowhere g.D.Device.now g.D.Device.past c.a_crash_loses_nothing_that_was_kept.ensures c.args.setup.now c.names.ensures.agree
    (subst AreNames c.names.ensures.value c.scheme-scheme.ensures.names) c.args.device c.look.new.device c.look.ensures.same

pub returns-in-Ok-clause-fault : goal.returns-in-Ok-clause-fault
returns-in-Ok-clause-fault g c =
    let text = seen (g.D.Device.now c.args.device) in
    err-on c.close_up.result (λ f. (text : List ℕ) → IsNotRecovered c.args.setup.now text f.0) (λ f. IsNotRecovered c.args.setup.now text f.0) (λ f not. not text) c.close_up.ensures.err
