use Rattle.bl_connection.proofs.Ending.{begins_text}
use Rattle.bl_connection.proofs.connection.Connection.leave.Goals as goal

pub returns-clause-begins : goal.returns-clause-begins
returns-clause-begins g c = begins_text g.S.Stream.remaining g.S.Stream.contents c.args.self
