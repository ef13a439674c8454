use Rattle.std.proofs.Common.{codes, inl, refl}
use Rattle.bl_alone_tests.proofs.whole.bytes_that_are_no_setup_are_told.Goals as goal

pub run_over-requires : goal.run_over-requires
run_over-requires g c = inl (codes "imit ", refl)
