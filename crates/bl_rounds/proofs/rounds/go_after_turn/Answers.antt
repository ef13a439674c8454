use Rattle.std.proofs.Common.{inl, inr}
use Rattle.bl_rounds.proofs.rounds.go_after_turn.Goals as goal

pub returns-in-Failed-clause-stands : goal.returns-in-Failed-clause-stands
returns-in-Failed-clause-stands g c e = inl (c.in-Failed.field-0, c.step.ensures.failed c.in-Failed.field-0 c.in-Failed.is e)

pub returns-in-Full-clause-stands : goal.returns-in-Full-clause-stands
returns-in-Full-clause-stands g c e = inr (c.step.ensures.full c.in-Full.is e)
