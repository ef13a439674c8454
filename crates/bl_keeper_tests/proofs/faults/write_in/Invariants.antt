use Rattle.bl_keeper_tests.proofs.faults.write_in.Given as goal

abbrev pub ghosts-write_thrice : goal.ghosts-write_thrice
ghosts-write_thrice g a = record { gate = a.gate.now }
