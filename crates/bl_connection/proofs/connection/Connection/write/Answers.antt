use Rattle.std.proofs.Common.{rules, ◌≡◌, ◌∙◌, ◌-◌, [], refl, sym, subst, length, take, drop}
use Rattle.std.proofs.lemmas.List.{drop-drop}
use Rattle.std.specs.Io.KnownBytes.{Appends, Keeps}
use Rattle.std.proofs.KnownBytes.{Appends-kept, Appends-nil}
use Rattle.bl_connection.specs.Connections.{Answers, unwritten}
use Rattle.bl_connection.proofs.Connecting.{connected_blocked, connected_written}
use Rattle.bl_connection.proofs.Ending.{stops_stuck}
use Rattle.bl_connection.proofs.Faults.{rest_whole}
use Rattle.bl_connection.proofs.connection.Connection.write.Goals as goal

pub returns-in-WouldBlock-clause-stays : goal.returns-in-WouldBlock-clause-stays
returns-in-WouldBlock-clause-stays g c = (
  refl,
  λ names opening replies upto left x. connected_blocked g.S.Stream.remaining g.S.Stream.contents names (Answers opening replies upto) left c.args.self.now _ x refl refl refl refl refl
      c.in-WouldBlock.ensures.others c.in-WouldBlock.ensures.bytes,
)

pub returns-in-Failed-clause-stays : goal.returns-in-Failed-clause-stays
returns-in-Failed-clause-stays g c = (
  refl,
  λ names opening replies upto left x. connected_blocked g.S.Stream.remaining g.S.Stream.contents names (Answers opening replies upto) left c.args.self.now _ x refl refl refl refl refl
      c.in-Failed.ensures.others c.in-Failed.ensures.bytes,
)

pub returns-in-Failed-clause-err : goal.returns-in-Failed-clause-err
returns-in-Failed-clause-err g c =
    let W = g.S.Stream.contents in
    let old = c.args.self.now in
    λ left. (
      refl,
      λ names replies upto x was. stops_stuck g.S.Stream.remaining W names replies upto left old x c.write.new.self c.in-Failed.ensures.others
          (Appends-kept (W old.stream) (W old.stream) (W c.write.new.self) [] (Appends-nil (W old.stream)) c.in-Failed.ensures.bytes) was,
    )

pub returns-then-count-eq0-clause-err : goal.returns-then-count-eq0-clause-err
returns-then-count-eq0-clause-err g c =
    let W = g.S.Stream.contents in
    let old = c.args.self.now in
    let none : c.in-Moved.count ≡ 0 = c.if-count-eq0.true in
    λ left. (
      refl,
      λ names replies upto x was. stops_stuck g.S.Stream.remaining W names replies upto left old x c.write.new.self c.in-Moved.ensures.others
          (subst (λ n. Appends (W old.stream) (W c.write.new.self) (take n (take (length c.deref.result.now - old.written) (drop old.written c.deref.result.now)))) none c.in-Moved.ensures.bytes.1) was,
    )

pub returns-clause-stays : goal.returns-clause-stays
returns-clause-stays g c =
    let R = g.S.Stream.remaining in
    let W = g.S.Stream.contents in
    let old = c.args.self.now in
    let new = c.forget_written.new.self in
    let n = c.in-Moved.count in
    let same : c.deref.result.now ≡ old.output.items = search rules in
    let whole = rest_whole old.written c.deref.result.now old.output.items same in
    let stream = c.forget_written.ensures.stream in (
      c.forget_written.ensures.first,
      λ names opening replies upto left x. connected_written R W names (Answers opening replies upto) left old new x n c.forget_written.ensures.first c.forget_written.ensures.conv
          (c.forget_written.ensures.unwritten_is ∙ sym (drop-drop n old.written old.output.items)) c.forget_written.ensures.unheard_is c.forget_written.ensures.ended
          (subst (λ s. Keeps (R old.stream) (R s)) (sym stream) c.in-Moved.ensures.others)
          (subst (λ s. Appends (W old.stream) (W s) (take n (unwritten old))) (sym stream)
          (subst (λ l. Appends (W old.stream) (W c.write.new.self) (take n l)) whole c.in-Moved.ensures.bytes.1)),
    )
