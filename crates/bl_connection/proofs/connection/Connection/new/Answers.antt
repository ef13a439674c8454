use Rattle.std.proofs.Common.{refl, ap, drop}
use Rattle.bl_connection.proofs.Connecting.{connected_new}
use Rattle.bl_connection.proofs.connection.Connection.new.Goals as goal

pub returns-clause-new : goal.returns-clause-new
returns-clause-new g c = record {
  stream_is = refl;
  first_is = c.of.ensures;
  connected = connected_new g.S.Stream.remaining g.S.Stream.contents c.args.stream _ refl c.of.ensures (ap (λ l. drop 0 l) c.new-2.ensures.items) (ap (λ l. drop 0 l) c.new-3.ensures.items) refl
      c.in_ok-conv.ensures.need c.in_ok-conv.ensures.spoke;
}
