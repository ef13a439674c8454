use Rattle.std.proofs.Common.{codes, inl, refl}
use Rattle.bl_alone_tests.proofs.whole.a_file_is_begun_anew.Goals as goal

pub run_after-requires : goal.run_after-requires
run_after-requires g c = inl (codes "it ", refl)
