use Rattle.std.proofs.Common.{◌∙◌, inl, inr, length, refl, sym, subst}
use Rattle.bl_rounds.specs.Seats.{HaveGoneOn}
use Rattle.bl_rounds.proofs.Going.{run_there, turns_itself, turns_then}
use Rattle.bl_rounds.proofs.rounds.go_round.Goals as goal

pub loop-init : goal.loop-init
loop-init g c = record {
  turns = turns_itself g.S.Stream.remaining g.S.Stream.contents c.args.crowd.now c.args.seats.now.items c.args.hand.now c.requires.seats.crowd_is c.requires.seats.seated c.requires.run;
  stand = c.requires.seats.stand;
  time = refl;
  gone = inl (refl, c.requires.idle);
}

pub go_free-requires-clause-seats : goal.go_free-requires-clause-seats
go_free-requires-clause-seats g c = record {
  crowd_is = c.loop.invariant.turns.crowd_is;
  seated = c.loop.invariant.turns.seated;
  stand = c.loop.invariant.stand;
}

pub go_free-requires-clause-gone : goal.go_free-requires-clause-gone
go_free-requires-clause-gone g c = elim c.loop.invariant.gone [
  | inl first ↦ inl first.1
  | inr later ↦ inr later.0
]

pub take_turn-requires-clause-run : goal.take_turn-requires-clause-run
take_turn-requires-clause-run g c =
    run_there g.S.Stream.remaining g.S.Stream.contents c.args.crowd.now c.loop.crowd c.go_free.new.crowd c.args.seats.now.items c.loop.seats.items c.go_free.new.seats.items c.loop.hand c.loop.invariant.turns c.go_free.ensures.goes

pub loop-preserved : goal.loop-preserved
loop-preserved g c =
    let turn = c.take_turn.ensures in
    let after = c.take_turn.new.seats.items in
    record {
      turns = turns_then g.S.Stream.remaining g.S.Stream.contents c.args.crowd.now c.loop.crowd c.go_free.new.crowd c.take_turn.new.crowd
          c.args.seats.now.items c.loop.seats.items c.go_free.new.seats.items c.take_turn.new.seats.items c.loop.hand c.take_turn.new.hand c.loop.invariant.turns c.go_free.ensures.goes turn.turns;
      stand = turn.stand;
      time = turn.time ∙ c.loop.invariant.time;
      gone = inr (subst (λ t. HaveGoneOn t (length after) after) (sym turn.time) (turn.gone c.go_free.ensures.gone), turn.asks);
    }
