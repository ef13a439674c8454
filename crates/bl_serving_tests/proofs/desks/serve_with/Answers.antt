use Rattle.std.proofs.Common.{inl, refl, subst, sym}
use Rattle.bl_record.specs.Torn.{IsTornHead, head_front}
use Rattle.bl_serving_tests.proofs.desks.serve_with.Goals as goal

-- a file that has nothing has a torn head
pub serve-end-requires-clause-plan : goal.serve-end-requires-clause-plan
serve-end-requires-clause-plan g c κs within = (
  c.begin-start.ensures.sound,
  λ off. subst IsTornHead (sym c.begin-start.ensures.empty) (inl (head_front, refl)),
)
