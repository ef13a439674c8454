use Rattle.std.proofs.Common.{inl, inr}
use Rattle.std.proofs.KnownBytes.{Keeps-refl}
use Rattle.bl_replaying.proofs.open.replay_open_on.Goals as goal

-- over the setup that was read
pub returns-in-Ok-clause-run : goal.returns-in-Ok-clause-run
returns-in-Ok-clause-run g c = inl (c.in-Ok.setup, c.in-Ok.ensures.setup, c.replay_open_over-status.ensures.run)

-- the bytes are no setup
pub returns-in-Err-clause-run : goal.returns-in-Err-clause-run
returns-in-Err-clause-run g c = inr (c.in-Err.fault, c.tell.ensures.told, record { unwritten = Keeps-refl _; none = c.in-Err.ensures.fault })
