use Rattle.bl_keeper_tests.proofs.threads.all_is_kept_that_two_threads_did.Given as goal

abbrev pub ghosts-keep_both : goal.ghosts-keep_both
ghosts-keep_both g a = record { gate = a.gate.now }
