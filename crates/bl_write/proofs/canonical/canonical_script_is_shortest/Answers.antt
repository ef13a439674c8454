use Rattle.bl_write.proofs.Knowing.{line_known, line_shortest}
use Rattle.bl_write.proofs.canonical.canonical_script_is_shortest.Goals as goal

pub returns-clause-known : goal.returns-clause-known
returns-clause-known c = line_known c.canonical_is_shortest.ensures

pub returns-clause-shortest : goal.returns-clause-shortest
returns-clause-shortest c = line_shortest c.canonical_is_shortest.ensures
