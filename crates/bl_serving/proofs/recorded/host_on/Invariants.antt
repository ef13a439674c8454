use Rattle.bl_serving.proofs.recorded.host_on.Given as goal

abbrev pub ghosts-host_kept : goal.ghosts-host_kept
ghosts-host_kept g a = record { gate = a.gate.now }
