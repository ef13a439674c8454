use Rattle.bl_connection.proofs.Connecting.{connected_still}
use Rattle.bl_connection.proofs.laws.what_was_answered_stands.Goals as goal

pub returns : goal.returns
returns g c = connected_still g.S.Stream.remaining g.S.Stream.contents
