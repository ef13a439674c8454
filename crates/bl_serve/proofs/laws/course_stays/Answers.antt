use Rattle.bl_serve.proofs.Together.{no_line_of, stays}
use Rattle.bl_serve.proofs.laws.course_stays.Goals as goal

pub returns-clause-one : goal.returns-clause-one
returns-clause-one c course before after on none names first told = stays names first before after course told on none

pub returns-clause-apart : goal.returns-clause-apart
returns-clause-apart c = no_line_of
