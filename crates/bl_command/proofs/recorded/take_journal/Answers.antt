use Rattle.bl_command.proofs.Reading.{is_of_not}
use Rattle.bl_command.proofs.recorded.take_journal.Goals as goal

-- what is begun anew is a torn head, as the files were found
pub returns-clause-fresh : goal.returns-clause-fresh
returns-clause-fresh g c anew = c.in_ok-found.ensures.torn.0 (is_of_not c.in_ok-found.found.is_torn anew)
