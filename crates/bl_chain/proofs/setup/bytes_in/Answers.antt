use Rattle.bl_chain.proofs.setup.bytes_in.Goals as goal

pub returns-in-Ok : goal.returns-in-Ok
returns-in-Ok g c = record { same = c.in-Ok.ensures.same; bytes = c.in-Ok.ensures.bytes; fault = tt }

pub returns-in-Err : goal.returns-in-Err
returns-in-Err g c = record { same = c.in-Err.ensures.same; bytes = tt; fault = (c.in-Err.fault, c.of_folder.ensures) }
