use Rattle.std.proofs.Common.{refl, subst}
use Rattle.bl_replaying.specs.Open.{IsUnstopped}
use Rattle.bl_replaying.proofs.Opening.{opened, unopened}
use Rattle.bl_replaying.proofs.open.find_rejected.Goals as goal

pub returns-in-Some : goal.returns-in-Some
returns-in-Some c =
    let lines = c.split_at.result.0.now in
    opened c.args.setup.now c.args.trail.now c.last_line_end.result c.in-Some.events _ lines c.split_at.result.1.now c.last_line_end.ensures.split c.split_at.ensures.front c.split_at.ensures.back
    (subst (IsUnstopped c.args.setup.now lines) c.in-Some.is c.in_ok-events.ensures) refl

pub returns-in-None : goal.returns-in-None
returns-in-None c =
    let lines = c.split_at.result.0.now in (
      c.requires,
      unopened c.args.setup.now c.args.trail.now c.last_line_end.result lines c.last_line_end.ensures.split c.split_at.ensures.front
          (subst (IsUnstopped c.args.setup.now lines) c.in-None.is c.in_ok-events.ensures),
    )
