use Rattle.std.specs.Arc.{arc_value}
use Rattle.bl_document.proofs.Fronts.{has-shorter}
use Rattle.bl_document.proofs.document.Document.truncate.Goals as goal

pub invariant_of-self : goal.invariant_of-self
invariant_of-self c = has-shorter c.self.inside.len (arc_value c.self.inside.bytes).items c.self.invariant c.args.len c.min-self-inside.result c.min-self-inside.ensures
