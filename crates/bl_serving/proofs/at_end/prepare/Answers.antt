use Rattle.std.proofs.Common.{inl, inr, refl}
use Rattle.std.proofs.KnownBytes.{Keeps-refl}
use Rattle.bl_serving.proofs.at_end.prepare.Goals as goal

-- there was no memory for the hall or for the gate
pub returns-in_default-clause-err : goal.returns-in_default-clause-err
returns-in_default-clause-err g c = inl (refl, Keeps-refl _)

-- `listening` was not told
pub returns-in-Err-clause-err : goal.returns-in-Err-clause-err
returns-in-Err-clause-err g c = inr c.in-Err.ensures.err
