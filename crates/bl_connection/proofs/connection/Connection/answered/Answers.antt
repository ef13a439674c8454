use Rattle.std.proofs.Common.{refl}
use Rattle.bl_connection.proofs.Connecting.{connected_answered}
use Rattle.bl_connection.proofs.connection.Connection.answered.Goals as goal

pub returns-clause-answered : goal.returns-clause-answered
returns-clause-answered g c = (
  refl,
  connected_answered g.S.Stream.remaining g.S.Stream.contents c.args.self.now _ refl refl refl refl c.answered.ensures.block.ended refl c.answered.ensures.answered,
)
