use Rattle.std.proofs.Common.{◌∙◌, sym}
use Rattle.bl_trail_run.specs.Plans.{is_kept}
use Rattle.bl_command.proofs.Sessions.{ends_at_end, ends_recorded}
use Rattle.bl_command.proofs.alone.sit_given.Goals as goal

-- no trail is kept
pub returns-in_default-clause-run : goal.returns-in_default-clause-run
returns-in_default-clause-run g c = rw c.in_default.is c.sit_unrecorded.ensures.run.2

-- it is kept as the session goes
pub returns-in-Some-kept-clause-run : goal.returns-in-Some-kept-clause-run
returns-in-Some-kept-clause-run g c =
    rw c.in-Some.is (ends_recorded c.in-Some.trail c.args.asked.now.keeping c.args.given.setup c.args.asked.now.run.limit _ c.in-Some-kept.keeping (sym c.outlives-kept.ensures ∙ c.in-Some-kept.is))

-- it is written at the end
pub returns-in-None-clause-run : goal.returns-in-None-clause-run
returns-in-None-clause-run g c =
    let ends = c.sit_unrecorded-in-None.ensures.run in
    rw c.in-Some.is (ends_at_end c.in-Some.trail c.args.asked.now.keeping c.args.given.setup c.args.asked.now.run.limit _ (is_kept ends.0, ends.1, ends.2))
