use Rattle.std.proofs.Common.{◌<◌, ◌+◌, ◌∙◌, ℕ, length, refl, subst, arith}
use Rattle.bl_rounds.specs.Seats.{HasGoneOn}
use Rattle.bl_rounds.proofs.Going.{goes_itself, goes_then}
use Rattle.bl_rounds.proofs.Seating.{below_other, each_at, stand_at}
use Rattle.bl_rounds.proofs.rounds.go_each.Goals as goal

pub loop-i-init : goal.loop-i-init
loop-i-init g c = record {
  goes = goes_itself g.S.Stream.remaining g.S.Stream.contents c.args.crowd.now c.args.seats.now.items c.requires.seats.crowd_is c.requires.seats.seated;
  len = refl;
  stand = c.requires.seats.stand;
  gone = λ j d low. absurd (omega arith);
}

pub go_one-requires-clause-stands : goal.go_one-requires-clause-stands
go_one-requires-clause-stands g c d e =
    let low : c.loop-i.i < length c.loop-i.seats.items = omega (arith, c.loop-i-test.true, c.len-i-end.ensures, c.loop-i.invariant.len, c.args.seats.now.ok.0) in
    c.loop-i.invariant.stand c.loop-i.i d e low

pub loop-i-preserved : goal.loop-i-preserved
loop-i-preserved g c =
    let was = c.loop-i in
    let one = c.go_one.ensures in
    let new = c.go_one.new in
    record {
      goes = goes_then g.S.Stream.remaining g.S.Stream.contents c.args.crowd.now was.crowd new.crowd c.args.seats.now.items was.seats.items new.seats.items was.invariant.goes one.goes.goes;
      len = one.goes.len ∙ was.invariant.len;
      stand = stand_at (length new.seats.items) was.seats.items new.seats.items was.crowd.members.items new.crowd.members.items was.i one.goes.seats one.goes.members one.goes.stands
          (λ j d e low other. was.invariant.stand j d e (subst (λ (n : ℕ). j < n) one.goes.len low));
      gone = each_at (HasGoneOn c.args.time) (was.i + 1) was.seats.items new.seats.items was.i one.goes.seats one.gone (λ j d low other. was.invariant.gone j d (below_other j was.i low other));
    }

pub returns-clause-gone : goal.returns-clause-gone
returns-clause-gone g c i d low =
    c.loop-i.invariant.gone i d (omega (arith, low, c.loop-i-test.false, c.len-i-end.ensures, c.loop-i.invariant.len, c.args.seats.now.ok.0))
