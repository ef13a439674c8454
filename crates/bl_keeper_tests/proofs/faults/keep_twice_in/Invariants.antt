use Rattle.bl_keeper_tests.proofs.faults.keep_twice_in.Given as goal

abbrev pub ghosts-keep_twice : goal.ghosts-keep_twice
ghosts-keep_twice g a = record { gate = a.gate.now }
