use Rattle.std.proofs.Common.{refl}
use Rattle.bl_connection.proofs.States.{reads_at}
use Rattle.bl_crowd.proofs.Streaming.{way_first}
use Rattle.bl_crowd.proofs.member.Member.new.Goals as goal

pub returns-clause-member : goal.returns-clause-member
returns-clause-member g c first pass =
    way_first g.S.Stream.remaining g.S.Stream.contents c.args.names.now first pass _ c.args.stream c.in_ok-connection.ensures.new
    (reads_at c.in_ok-connection.connection c.in_ok-connection.ensures.state).1 refl refl refl refl
