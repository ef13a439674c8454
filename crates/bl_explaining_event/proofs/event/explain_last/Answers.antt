use Rattle.std.proofs.Common.{◌≡◌, subst}
use Rattle.bl_order.specs.Machine.{Starts}
use Rattle.bl_explaining_event.specs.Courses.{IsStarted}
use Rattle.bl_explaining_event.specs.Starts.{IsMomentBefore}
use Rattle.bl_explaining_event.proofs.Noted.{no-start-of, start-of}
use Rattle.bl_explaining_event.proofs.event.explain_last.Goals as goal

pub explain_start-requires : goal.explain_start-requires
explain_start-requires c =
    let x = c.requires.0 in
    let event = c.requires.1 in
    let b = c.requires.2 in
    let is : event ≡ Starts c.in-Some.n = start-of event c.in-Some.n (subst (IsStarted event) c.in-Some.is (c.started.ensures x event b.happened)) in
    (x, subst (IsMomentBefore c.args.moment.now c.args.hall.now x) is b)

pub returns-in_ok-told-in-Some : goal.returns-in_ok-told-in-Some
returns-in_ok-told-in-Some c x event b =
    let n = c.in-Some.n in
    let is : event ≡ Starts n = start-of event n (subst (IsStarted event) c.in-Some.is (c.started.ensures x event b.happened)) in
    (n, is, c.in_ok-told-in-Some.ensures x (subst (IsMomentBefore c.args.moment.now c.args.hall.now x) is b))

pub returns-in-None : goal.returns-in-None
returns-in-None c x event b = no-start-of event (subst (IsStarted event) c.in-None.is (c.started.ensures x event b.happened))
