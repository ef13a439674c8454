use Rattle.std.proofs.Common.{inl}
use Rattle.std.proofs.KnownBytes.{Keeps-refl}
use Rattle.bl_explaining_trail.proofs.explain.explain_trail_on.Goals as goal

pub returns-in-Ok-clause-run : goal.returns-in-Ok-clause-run
returns-in-Ok-clause-run g c = inl (c.in-Ok.ensures.explained, Keeps-refl _)
