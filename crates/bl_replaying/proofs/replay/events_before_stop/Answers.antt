use Rattle.std.proofs.Common.{rules, ◌≡◌, ◌++◌, subst}
use Rattle.std.specs.Prelude.{codes}
use Rattle.bl_trail.specs.Follow.{IsVerdict}
use Rattle.bl_replaying.proofs.Opening.{unstopped-none, unstopped-some}
use Rattle.bl_replaying.proofs.replay.events_before_stop.Goals as goal

pub returns-in-Accepted : goal.returns-in-Accepted
returns-in-Accepted c =
    let text = c.args.text.now in
    let stopped = c.as_slice.result.now in
    let is : stopped ≡ text ++ codes "stop\n" = search rules in
    unstopped-some c.args.setup.now text stopped c.in-Accepted.events is (subst (IsVerdict c.args.setup.now stopped) c.in-Accepted.is c.in_ok-events.ensures)

pub returns : goal.returns
returns c =
    let text = c.args.text.now in
    let stopped = c.as_slice.result.now in
    let is : stopped ≡ text ++ codes "stop\n" = search rules in
    unstopped-none c.args.setup.now text stopped _ is (subst (IsVerdict c.args.setup.now stopped) c.in-Rejected.is c.in_ok-events.ensures)
