use Rattle.std.proofs.Common.{ℕ, length, ap, arith, length-append}
use Rattle.bl_disk.specs.File.{File, seen}
use Rattle.bl_disk_tests.proofs.torn.Torn.len.Goals as goal

pub returns : goal.returns
returns c = omega (arith, length-append {A = ℕ}, ap (λ (f : File). length (seen f)) c.now-moment.ensures)
