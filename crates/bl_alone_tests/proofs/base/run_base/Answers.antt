use Rattle.std.proofs.Common.{inl, refl}
use Rattle.bl_record.specs.Torn.{head_front}
use Rattle.bl_alone_tests.proofs.base.run_base.Goals as goal

-- nothing is there of a head
pub run_over-requires : goal.run_over-requires
run_over-requires c = inl (head_front, refl)
