use Rattle.std.proofs.Common.{inl, inr}
use Rattle.std.proofs.KnownBytes.{Keeps-refl}
use Rattle.bl_alone.proofs.alone.alone_planned_on.Goals as goal

-- over the setup that was read
pub returns-in-Ok-clause-run : goal.returns-in-Ok-clause-run
returns-in-Ok-clause-run g c = inl (c.in-Ok.setup, c.in-Ok.ensures.setup, c.alone.ensures.run)

-- the bytes are no setup
pub returns-in-Err-clause-run : goal.returns-in-Err-clause-run
returns-in-Err-clause-run g c =
    inr (
      c.in-Err.fault,
      c.tell.ensures.told,
      record { unread = Keeps-refl _; unmet = record { unwritten = Keeps-refl _; none = c.in-Err.ensures.fault } },
      c.left_of.ensures.whole,
      c.left_of.ensures.kept,
      c.left_of.ensures.file,
    )
