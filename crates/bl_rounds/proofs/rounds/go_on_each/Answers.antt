use Rattle.std.proofs.Common.{◌≢◌, ◌<◌, ◌+◌, ◌∙◌, ℕ, length, refl, subst, arith}
use Rattle.bl_rounds.specs.Seats.{HasGoneOn}
use Rattle.bl_rounds.specs.declared.seat.Seat.{Seat}
use Rattle.bl_rounds.specs.declared.seat.Stage.TheVariants.{Asks}
use Rattle.bl_rounds.proofs.Going.{goes_itself, goes_then}
use Rattle.bl_rounds.proofs.Seating.{below_other, each_at, stand_at}
use Rattle.bl_rounds.proofs.rounds.go_on_each.Goals as goal

pub loop-i-init : goal.loop-i-init
loop-i-init g c = record {
  goes = goes_itself g.S.Stream.remaining g.S.Stream.contents c.args.crowd.now c.args.seats.now.items c.requires.crowd (omega (arith, c.requires.seated, c.args.seats.now.ok.0));
  len = refl;
  stand = λ j d e low. absurd (omega arith);
  gone = λ gone. gone;
  asks = λ j d low. absurd (omega arith);
}

pub loop-i-preserved : goal.loop-i-preserved
loop-i-preserved g c =
    let was = c.loop-i in
    let one = c.go_one_on.ensures in
    let new = c.go_one_on.new in
    let here : was.i < length was.seats.items = omega (arith, c.loop-i-test.true, c.len-i-end.ensures, was.invariant.len, c.args.seats.now.ok.0) in
    record {
      goes = goes_then g.S.Stream.remaining g.S.Stream.contents c.args.crowd.now was.crowd new.crowd c.args.seats.now.items was.seats.items new.seats.items was.invariant.goes one.goes.goes;
      len = one.goes.len ∙ was.invariant.len;
      stand = stand_at (was.i + 1) was.seats.items new.seats.items was.crowd.members.items new.crowd.members.items was.i one.goes.seats one.goes.members one.goes.stands
          (λ j d e low other. was.invariant.stand j d e (below_other j was.i low other));
      gone = λ first.
          (let before = was.invariant.gone first in
          each_at (HasGoneOn c.args.time) (length new.seats.items) was.seats.items new.seats.items was.i one.goes.seats (λ d. one.gone d (before was.i d here))
          (λ j d low other. before j d (subst (λ (n : ℕ). j < n) one.goes.len low)));
      asks = each_at (λ (s : Seat). s.stage ≢ Asks) (was.i + 1) was.seats.items new.seats.items was.i one.goes.seats one.asks (λ j d low other. was.invariant.asks j d (below_other j was.i low other));
    }

pub returns-clause-stand : goal.returns-clause-stand
returns-clause-stand g c i d e low =
    c.loop-i.invariant.stand i d e (omega (arith, low, c.loop-i-test.false, c.len-i-end.ensures, c.loop-i.invariant.len, c.args.seats.now.ok.0))

pub returns-clause-asks : goal.returns-clause-asks
returns-clause-asks g c i d low =
    c.loop-i.invariant.asks i d (omega (arith, low, c.loop-i-test.false, c.len-i-end.ensures, c.loop-i.invariant.len, c.args.seats.now.ok.0))
