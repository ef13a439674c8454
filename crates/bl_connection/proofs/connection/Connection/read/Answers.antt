use Rattle.std.proofs.Common.{rules, ◌≡◌, ◌<◌, ◌==◌, ◌∙◌, ◌||◌, inl, true, false, refl, sym, ap, subst, length, take, drop, nat_lt, eqb-true, length-take, arith}
use Rattle.std.specs.Io.KnownBytes.{Consumes, prepend_known}
use Rattle.std.proofs.KnownBytes.{Keeps-refl}
use Rattle.bl_engine.specs.Conversations.{need_of}
use Rattle.bl_engine.specs.declared.conversation.Need.TheVariants as needs
use Rattle.bl_connection.specs.Connections.{Answers, to_hear, unheard}
use Rattle.bl_connection.specs.declared.stream.Answer.TheVariants as answers
use Rattle.bl_connection.proofs.Connecting.{connected_blocked, connected_read}
use Rattle.bl_connection.proofs.Ending.{stops_memory, stops_read}
use Rattle.bl_connection.proofs.Faults.{memory_alone}
use Rattle.bl_connection.proofs.Passing.{front_of, keeps_unread}
use Rattle.bl_connection.proofs.States.{more_read, reads_at, state_so, still_reads}
use Rattle.bl_connection.proofs.connection.Connection.read.Goals as goal

pub returns-in_err-room-clause-err : goal.returns-in_err-room-clause-err
returns-in_err-room-clause-err g c =
    let R = g.S.Stream.remaining in
    let W = g.S.Stream.contents in
    let old = c.args.self.now in
    let at = reads_at old c.requires in
    memory_alone c.from_residual.result _ c.from_residual.ensures.1
    (λ left. (refl, λ names replies upto x was. stops_memory R W names replies upto left old x (to_hear R old) (W old.stream) at.0 (Keeps-refl (to_hear R old)) (Keeps-refl (W old.stream)) was (inl at.1)))

pub returns-in-WouldBlock-clause-stays : goal.returns-in-WouldBlock-clause-stays
returns-in-WouldBlock-clause-stays g c = (
  refl,
  λ names opening replies upto left x. connected_blocked g.S.Stream.remaining g.S.Stream.contents names (Answers opening replies upto) left c.args.self.now _ x refl refl refl refl refl
      c.in-WouldBlock.ensures.bytes c.in-WouldBlock.ensures.others,
)

pub returns-in-Failed-clause-stays : goal.returns-in-Failed-clause-stays
returns-in-Failed-clause-stays g c = (
  refl,
  λ names opening replies upto left x. connected_blocked g.S.Stream.remaining g.S.Stream.contents names (Answers opening replies upto) left c.args.self.now _ x refl refl refl refl refl
      c.in-Failed.ensures.bytes c.in-Failed.ensures.others,
)

pub returns-in-Failed-clause-err : goal.returns-in-Failed-clause-err
returns-in-Failed-clause-err g c =
    let R = g.S.Stream.remaining in
    let old = c.args.self.now in
    let at = reads_at old c.requires in
    λ left. (
      refl,
      λ names replies upto x was.
          stops_read R g.S.Stream.contents names replies upto left old x (prepend_known (unheard old) (R c.read.new.self)) (g.S.Stream.contents c.read.new.self) at.0 (keeps_unread (R old.stream) (R c.read.new.self) (unheard old) c.in-Failed.ensures.bytes) c.in-Failed.ensures.others was at.1,
    )

pub returns-clause-stays : goal.returns-clause-stays
returns-clause-stays g c =
    let R = g.S.Stream.remaining in
    let old = c.args.self.now in
    let at = reads_at old c.requires in
    let whole : c.in_ok-room.room.len ≡ length c.read.new.room = first_of (search rules, omega arith) in
    let items : c.truncate.new.self.items ≡ take c.in-Moved.count c.read.new.room = c.truncate.ensures.items ∙ ap (λ l. take c.in-Moved.count l) (front_of c.in_ok-room.room.len c.read.new.room (drop (length c.read.new.room) c.in_ok-room.room.items) whole) in
    let long : 0 < length c.read.new.room = search rules in
    let gave = c.in-Moved.ensures.bytes in (
      refl,
      λ names opening replies upto left x. connected_read R g.S.Stream.contents names (Answers opening replies upto) left old _ x refl refl refl at.2
          (subst (λ l. Consumes (R old.stream) (R c.read.new.self) l) (sym items) gave.1) c.in-Moved.ensures.others (λ is. gave.2 (eqb-true _ _ is) long),
    )

pub returns-clause-hears : goal.returns-clause-hears
returns-clause-hears g c = λ moved.
    let old = c.args.self.now in
    let at = still_reads old c.requires in
    let n = c.in-Moved.count in
    let whole : c.in_ok-room.room.len ≡ length c.read.new.room = first_of (search rules, omega arith) in
    let items : c.truncate.new.self.items ≡ take n c.read.new.room = c.truncate.ensures.items ∙ ap (λ l. take c.in-Moved.count l) (front_of c.in_ok-room.room.len c.read.new.room (drop (length c.read.new.room) c.in_ok-room.room.items) whole) in
    let fits = c.in-Moved.ensures.bytes.0 in
    let long : length c.truncate.new.self.items ≡ n = subst (λ l. length l ≡ n) (sym items) (omega (arith, length-take n c.read.new.room, fits)) in
    sym (state_so (nat_lt old.written (length old.output.items)) false (need_of old.conv) needs.Input (nat_lt 0 (length c.truncate.new.self.items) || (n == 0)) true at.0 at.1
    (more_read n (length c.truncate.new.self.items) long))

pub returns-clause-moved : goal.returns-clause-moved
returns-clause-moved g c = λ moved.
    let n = c.in-Moved.count in
    let whole : c.in_ok-room.room.len ≡ length c.read.new.room = first_of (search rules, omega arith) in
    let items : c.truncate.new.self.items ≡ take n c.read.new.room = c.truncate.ensures.items ∙ ap (λ l. take c.in-Moved.count l) (front_of c.in_ok-room.room.len c.read.new.room (drop (length c.read.new.room) c.in_ok-room.room.items) whole) in
    let fits = c.in-Moved.ensures.bytes.0 in
    let long : length c.truncate.new.self.items ≡ n = subst (λ l. length l ≡ n) (sym items) (omega (arith, length-take n c.read.new.room, fits)) in
    subst (λ k. g.S.Stream.reads c.args.self.now.stream (answers.Moved k) c.read.new.self) (sym long) c.in-Moved.ensures.answer
