use Rattle.std.proofs.Common.{vec_len}
use Rattle.bl_core_tests.proofs.orders.finish_all.Given as goal

abbrev pub decreases-loop-done : goal.decreases-loop-done
decreases-loop-done g l = vec_len l.dones
