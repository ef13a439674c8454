use Rattle.std.proofs.Common.{◌≡◌, ◌≢◌, ◌==◌, ◌<◌, ◌∙◌, [], length, sym, ap, subst, arith}
use Rattle.std.specs.Io.KnownBytes.{prepend_known}
use Rattle.bl_connection.specs.Answers.{Gives}
use Rattle.bl_connection.specs.declared.stream.Answer.TheVariants.{Moved}
use Rattle.bl_doors.specs.Greetings.{ungiven}
use Rattle.bl_doors.proofs.Giving.{empty-none, filled-some, gives-on, gives-part, some-length}
use Rattle.bl_doors.proofs.greeted.GreetedStream.read.Goals as goal

pub returns-then-is_empty-clause-bytes : goal.returns-then-is_empty-clause-bytes
returns-then-is_empty-clause-bytes g c =
    let old = c.args.self.now in
    let none' : ungiven old ≡ [] = empty-none (ungiven old) c.is_empty.result (c.is_empty.ensures ∙ ap (λ l. length l == 0) c.left.ensures) c.if-is_empty.true in
    gives-on (ungiven old) (g.S.Stream.remaining old.inner) (g.S.Stream.remaining c.read.new.self) c.read.result _ none' c.read.ensures.bytes

pub returns-else-is_empty-clause-bytes : goal.returns-else-is_empty-clause-bytes
returns-else-is_empty-clause-bytes g c =
    let old = c.args.self.now in
    let new = c.give.new.self in
    let some' : ungiven old ≢ [] = filled-some (ungiven old) c.is_empty.result (c.is_empty.ensures ∙ ap (λ l. length l == 0) c.left.ensures) c.if-is_empty.false in
    let long : 0 < length (ungiven old) = some-length (ungiven old) some' in
    subst (λ i. Gives (prepend_known (ungiven old) (g.S.Stream.remaining old.inner)) (prepend_known (ungiven new) (g.S.Stream.remaining i)) (Moved c.give.result) c.give.new.room)
    (sym c.give.ensures.inner)
    (gives-part (ungiven old) (ungiven new) c.give.new.room c.give.result (g.S.Stream.remaining old.inner)
    (omega (arith, c.give.ensures.count, c.give.ensures.room)) c.give.ensures.rest c.give.ensures.given
    (λ none' more. omega (arith, none', c.give.ensures.count, c.give.ensures.room, more, long)))
