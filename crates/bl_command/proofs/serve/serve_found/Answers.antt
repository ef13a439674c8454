use Rattle.bl_trail_run.specs.Plans.{is_kept}
use Rattle.bl_command.proofs.serve.serve_found.Goals as goal

-- the trail is kept at status 0
pub returns-clause-run : goal.returns-clause-run
returns-clause-run g c = (is_kept c.serve-end.result.trail, c.serve-end.ensures.kept, c.serve-end.ensures.run)
