use Rattle.std.proofs.Common.{◌≡◌, [], rules, refl, sym, ◌∙◌, subst, arith}
use Rattle.std.proofs.lemmas.List.{nil_from_length}
use Rattle.bl_worker.specs.Batches.{IsBatch, loan_of}
use Rattle.bl_gate.proofs.Following.{follows_itself, follows_then}
use Rattle.bl_worker.proofs.Adding.{adds_itself, adds_then}
use Rattle.bl_worker.proofs.Batching.{first_held, last_in, none_in}
use Rattle.bl_worker.proofs.batch.Batch.end_all.Goals as goal

pub loop-run-init : goal.loop-run-init
loop-run-init c = record {
  follows = follows_itself c.args.turn.now;
  trail = c.requires.trail;
  adds = adds_itself _ c.args.turn.now c.args.turn.now refl;
  ran = c.requires.ran;
  batch = λ first b. b;
  room = c.requires.room;
  most = refl;
}

pub end-requires : goal.end-requires
end-requires c =
    let whole = c.loop-run.invariant.batch c.requires.batch.0 c.requires.batch.1 in
    first_held c.requires.batch.0 c.loop-run.turn _ (loan_of c.in-Some.run')
    (subst (IsBatch c.requires.batch.0 c.loop-run.turn)
    (last_in c.loop-run.self.lents.items c.loop-run.self.ran.items c.pop.new.self.items c.in-Some.run' c.loop-run.invariant.ran c.in-Some.ensures.items) whole)

pub loop-run-preserved : goal.loop-run-preserved
loop-run-preserved c = record {
  follows = follows_then c.args.turn.now c.loop-run.turn c.end.new.turn c.loop-run.invariant.follows c.end.ensures.follows;
  trail = c.end.ensures.trail;
  adds = adds_then _ c.args.turn.now c.loop-run.turn c.end.new.turn c.loop-run.invariant.adds c.end.ensures.adds c.end.ensures.follows;
  ran = c.loop-run.invariant.ran;
  batch = λ first b. c.end.ensures.batch first _
      (subst (IsBatch first c.loop-run.turn)
      (last_in c.loop-run.self.lents.items c.loop-run.self.ran.items c.pop.new.self.items c.in-Some.run' c.loop-run.invariant.ran c.in-Some.ensures.items) (c.loop-run.invariant.batch first b));
  room = record {
    some = c.loop-run.invariant.room.some;
    few = omega (arith, c.in-Some.ensures.len, c.in-Some.ensures.cases, c.loop-run.invariant.room.few);
    lents = c.loop-run.invariant.room.lents;
    ran = omega (arith, c.pop.ensures.capacity, c.loop-run.invariant.room.ran);
  };
  most = c.loop-run.invariant.most;
}

pub returns-clause-batch : goal.returns-clause-batch
returns-clause-batch c = λ first b.
    let none : c.loop-run.self.ran.items ≡ [] = nil_from_length c.loop-run.self.ran.items (sym c.loop-run.self.ran.ok.0 ∙ c.in_default.ensures.cases.0) in
    let left : c.pop.new.self.items ≡ [] = search rules in
    subst (IsBatch first c.loop-run.turn)
    (none_in c.loop-run.self.lents.items c.loop-run.self.ran.items c.loop-run.invariant.ran none ∙ sym (none_in c.loop-run.self.lents.items c.pop.new.self.items c.loop-run.invariant.ran left))
    (c.loop-run.invariant.batch first b)
