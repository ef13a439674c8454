use Rattle.bl_keeper_tests.proofs.overlap.one_sync_serves_all_that_asked_before_it.Given as goal

abbrev pub ghosts-keep_all : goal.ghosts-keep_all
ghosts-keep_all g a = record { gate = a.gate.now }
