use Rattle.bl_connection.proofs.States.{over_at}
use Rattle.bl_connection.proofs.Ending.{finishes}
use Rattle.bl_connection.proofs.connection.Connection.finish.Goals as goal

pub returns-clause-finishes : goal.returns-clause-finishes
returns-clause-finishes g c = let at = over_at c.args.self c.requires in finishes g.S.Stream.remaining g.S.Stream.contents c.args.self at.0 at.1
