use Rattle.std.proofs.Common.{◌++◌, ◌∷◌, []}
use Rattle.bl_trail.specs.EventText.{event_text}
use Rattle.bl_audit.proofs.Trails.{part-put}
use Rattle.bl_audit.proofs.event.put_event.Goals as goal

-- a first part of the line was put
pub returns-then-failed-clause-part : goal.returns-then-failed-clause-part
returns-then-failed-clause-part g c x e later comes kept =
    part-put (event_text x e ++ 10 ∷ []) _ _ (c.in-Ok.ensures.told x e later comes kept).text
