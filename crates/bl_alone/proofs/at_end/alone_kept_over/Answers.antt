use Rattle.std.proofs.Common.{inr}
use Rattle.std.proofs.KnownBytes.{Keeps-refl}
use Rattle.bl_trail_file.proofs.Unkept.{is_unkept}
use Rattle.bl_alone.proofs.at_end.alone_kept_over.Goals as goal

-- no file could be made for the trail
pub returns-in-Err-clause-run : goal.returns-in-Err-clause-run
returns-in-Err-clause-run g c =
    inr (
      c.of_keep.result,
      c.end_before.ensures.told,
      record { why = is_unkept c.in-Err.fault c.of_keep.result c.of_keep.ensures; unread = Keeps-refl _; unwritten = Keeps-refl _ },
    )
