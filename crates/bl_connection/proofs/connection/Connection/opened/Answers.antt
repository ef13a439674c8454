use Rattle.std.proofs.Common.{refl}
use Rattle.bl_connection.proofs.Connecting.{connected_opened}
use Rattle.bl_connection.proofs.connection.Connection.opened.Goals as goal

pub returns-clause-opened : goal.returns-clause-opened
returns-clause-opened g c = (
  refl,
  connected_opened g.S.Stream.remaining g.S.Stream.contents c.args.opening c.args.self.now _ refl refl refl refl c.opened.ensures.block.ended refl c.opened.ensures.opened,
)
