use Rattle.bl_record.proofs.recover.go_on.Goals as goal

pub returns-in-Err-clause-err : goal.returns-in-Err-clause-err
returns-in-Err-clause-err g c text = c.in-Err.ensures.err text
