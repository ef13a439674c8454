use Rattle.bl_report.proofs.Granting.{granted-at}
use Rattle.bl_report.proofs.laws.what_is_held_was_granted.Goals as goal

pub returns : goal.returns
returns c until since x number n shown reached may is =
    granted-at until since x number n reached (c.headline.ensures.state x reached) (c.each_state_holds.ensures x reached) may shown is
