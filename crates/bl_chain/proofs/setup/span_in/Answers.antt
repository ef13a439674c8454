use Rattle.bl_chain.proofs.setup.span_in.Goals as goal

pub returns-in-Ok : goal.returns-in-Ok
returns-in-Ok g c = record { same = c.in-Ok.ensures.same; span = c.in-Ok.ensures.span; fault = tt }

pub returns-in-Err : goal.returns-in-Err
returns-in-Err g c = record { same = c.in-Err.ensures.same; span = tt; fault = (c.in-Err.fault, c.of_folder.ensures) }
