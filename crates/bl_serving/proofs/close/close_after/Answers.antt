use Rattle.bl_serving.proofs.close.close_after.Goals as goal

pub close_with-requires-clause-goes_on : goal.close_with-requires-clause-goes_on
close_with-requires-clause-goes_on g c fine =
    let kept = c.requires.kept fine in
    (kept.before, kept.kept, kept.grown)

pub returns-in-Ok : goal.returns-in-Ok
returns-in-Ok g c = record {
  left = record { there = c.in-Ok.ensures.closed; true_text = c.in-Ok.ensures.true_text };
}
