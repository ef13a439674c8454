use Rattle.std.proofs.Common.{◌≡◌, ◌∙◌, ◌++◌, refl, sym, ap}
use Rattle.bl_connection.specs.Connections.{Answers, unwritten}
use Rattle.bl_connection.proofs.Connecting.{connected_free, connected_told}
use Rattle.bl_connection.proofs.Ending.{stops_told, stops_write}
use Rattle.bl_connection.proofs.Faults.{if_err-any}
use Rattle.bl_connection.proofs.States.{tells_at}
use Rattle.bl_connection.proofs.connection.Connection.tell.Goals as goal

pub returns-in_err-tell_parts-clause-err : goal.returns-in_err-tell_parts-clause-err
returns-in_err-tell_parts-clause-err g c =
    let told = c.in_err-tell_parts.ensures.err in
    if_err-any c.from_residual-in_err-tell_parts.result
    (refl, λ names replies upto x was. stops_told g.S.Stream.remaining g.S.Stream.contents names replies upto (g.B.Replies.left c.args.block.now) told.left c.args.self.now c.tell_parts.new.conv x told.more told.ended told.says was)

pub returns-in_err-reserve-clause-err : goal.returns-in_err-reserve-clause-err
returns-in_err-reserve-clause-err g c =
    if_err-any c.from_residual.result
    (refl, λ names replies upto x was. stops_write g.S.Stream.remaining g.S.Stream.contents names replies upto (g.B.Replies.left c.args.block.now) c.args.self.now x was)

pub returns-clause-told : goal.returns-clause-told
returns-clause-told g c =
    let R = g.S.Stream.remaining in
    let W = g.S.Stream.contents in
    let old = c.args.self.now in
    let told = c.in_ok-tell_parts.ensures.ok in
    let none = (tells_at old c.requires.state).0 in
    let output : c.tell_parts.new.output.items ≡ unwritten old ++ told.more = told.put ∙ ap (λ l. l ++ told.more) (c.reserve.ensures.items ∙ c.clear.ensures.items ∙ sym none) in
    record {
      first = refl;
      more = told.more;
      output = output;
      connected = connected_told R W (g.B.Replies.left c.args.block.now) (g.B.Replies.left c.tell_parts.new.block) old _ told.more refl refl refl refl told.ended output told.says;
      told = λ quiet names opening replies upto other x on. connected_free R W names (Answers opening replies upto) (g.B.Replies.left c.tell_parts.new.block) other _ x quiet on;
    }
