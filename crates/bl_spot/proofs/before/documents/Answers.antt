use Rattle.std.proofs.Common.{ap, sym, ◌∙◌}
use Rattle.std.specs.Prelude.{slice_get}
use Rattle.bl_spot.proofs.Failing.{pushed_next}
use Rattle.bl_spot.proofs.before.documents.Goals as goal

pub loop-place-preserved : goal.loop-place-preserved
loop-place-preserved c =
    pushed_next c.args.names.now.documents c.loop-place.listed.items _ c.loop-place.place c.document_name-name.result.now c.copy.result c.in_ok-push.ensures.items c.copy.ensures
    c.loop-place.invariant (ap (slice_get c.args.names.now.documents) (sym c.new.ensures) ∙ c.document_name-name.ensures)
