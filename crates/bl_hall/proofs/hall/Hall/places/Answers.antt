use Rattle.std.proofs.Common.{map, subst, arith}
use Rattle.std.specs.Prelude.{All, IsTrue}
use Rattle.bl_order.specs.Machine.{State, has_ended}
use Rattle.bl_hall.specs.Told.{AreAnswers, Waits, reply_in}
use Rattle.bl_hall.proofs.Answering.{answers-are, counted-is, places-ended, waits-where-some}
use Rattle.bl_hall.proofs.Keeping.{core-is}
use Rattle.bl_hall.proofs.hall.Hall.places.Goals as goal

pub returns-then-tally-gt0-clause-waits : goal.returns-then-tally-gt0-clause-waits
returns-then-tally-gt0-clause-waits c =
    λ _.
    subst (λ (y : State). Waits y c.args.session) (core-is c.self.inside c.self.invariant c.args.self.now c.self.view_is)
    (waits-where-some c.self.inside.core c.args.session (omega (arith, c.if-tally-gt0.true, counted-is c.self.inside c.self.invariant c.args.session c.number-number.result c.index-tally.result.now c.number-number.ensures (omega (arith, c.if-number-len.false, c.len.ensures, c.self.inside.tallies.ok.0)) c.index-tally.ensures)))

pub returns-in-Ok-clause-replies : goal.returns-in-Ok-clause-replies
returns-in-Ok-clause-replies c =
    subst (λ (y : State). AreAnswers y c.args.session c.args.after (map (reply_in y) c.in-Ok.places.items)) (core-is c.self.inside c.self.invariant c.args.self.now c.self.view_is)
    (answers-are c.self.inside.core c.args.session c.args.after c.in-Ok.places.items (omega (arith, c.if-tally-gt0.false, counted-is c.self.inside c.self.invariant c.args.session c.number-number.result c.index-tally.result.now c.number-number.ensures (omega (arith, c.if-number-len.false, c.len.ensures, c.self.inside.tallies.ok.0)) c.index-tally.ensures)) c.in-Ok.ensures)

pub returns-in-Ok-clause-ended : goal.returns-in-Ok-clause-ended
returns-in-Ok-clause-ended c =
    subst (λ (y : State). All (λ n. IsTrue (has_ended y n)) c.in-Ok.places.items) (core-is c.self.inside c.self.invariant c.args.self.now c.self.view_is)
    (places-ended c.self.inside.core c.args.session c.args.after c.in-Ok.places.items (omega (arith, c.if-tally-gt0.false, counted-is c.self.inside c.self.invariant c.args.session c.number-number.result c.index-tally.result.now c.number-number.ensures (omega (arith, c.if-number-len.false, c.len.ensures, c.self.inside.tallies.ok.0)) c.index-tally.ensures)) c.in-Ok.ensures)
