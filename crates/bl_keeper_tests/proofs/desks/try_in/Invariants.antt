use Rattle.bl_keeper_tests.proofs.desks.try_in.Given as goal

abbrev pub ghosts-try_with : goal.ghosts-try_with
ghosts-try_with g a = record { gate = a.gate.now }
