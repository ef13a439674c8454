use Rattle.bl_command.proofs.alone.sit_unrecorded.Goals as goal

-- what the run has of its trail is let go
pub returns-clause-run : goal.returns-clause-run
returns-clause-run g c = (c.alone-end.result.trail, c.alone-end.ensures.kept, c.alone-end.ensures.run)
