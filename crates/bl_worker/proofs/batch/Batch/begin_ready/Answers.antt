use Rattle.std.proofs.Common.{◌+◌, arith, length, refl, sym, ◌∙◌, subst, vec_len}
use Rattle.bl_gate.proofs.Following.{follows_itself, follows_then}
use Rattle.bl_worker.specs.Batches.{IsBatch, lent_by, loans_in}
use Rattle.bl_worker.proofs.Adding.{adds_alone, adds_itself, adds_then}
use Rattle.bl_worker.proofs.Batching.{AreInHand, batch_begun, ended_none, held_one, one_ended, one_event, one_held, one_made}
use Rattle.bl_worker.proofs.batch.Batch.begin_ready.Goals as goal
use Rattle.bl_worker.proofs.batch.Batch.begin_ready.Goals.{then-hold, else-hold}

pub loop-count-init : goal.loop-count-init
loop-count-init c = record {
  follows = follows_itself c.args.turn.now;
  trail = c.requires.trail;
  adds = adds_itself _ c.args.turn.now c.args.turn.now refl;
  ran = c.requires.ran;
  batch = λ first b. b;
  room = c.requires.room;
  most = refl;
  made = omega arith;
  ended = omega arith;
}

pub loop-count-preserved : goal.loop-count-preserved
loop-count-preserved c =
    let p = c.loop-count.turn in
    let q = c.begin-begun.new.turn in
    let begun = c.begin-begun.result in
    let e = c.begin-begun.ensures in
    let i = c.loop-count.invariant in
    let now = vec_len c.loop-count.self.lents in
    let was = vec_len c.args.self.now.lents in
    let after = vec_len c.hold.new.self.lents in
    let may = c.in-Some.ensures.some in
    let one = one_event c.in-Some.n begun e.entry (e.missed may) in
    record {
      follows = follows_then c.args.turn.now p q i.follows e.follows;
      trail = e.trail;
      adds = adds_then _ c.args.turn.now p q i.adds (adds_alone _ p q e.adds) e.follows;
      ran = c.hold.ensures.ran;
      batch = λ first b.
          subst (IsBatch first q) (sym c.hold.ensures.loans)
          (batch_begun first p q (loans_in c.loop-count.self) begun (i.batch first b) e.follows e.trail e.begun e.in_hand);
      room = c.hold.ensures.room;
      most = c.hold.ensures.most ∙ i.most;
      made = one_made c.args.turn.now p q begun c.loop-count.count one e.made i.made;
      ended = elim c.if-hold.branch [
        | then-hold w ↦ subst (λ b. AreInHand b after was (c.loop-count.count + 1)) (sym w.over-is)
            (one_ended c.loop-count.over now was c.loop-count.count (length (lent_by begun)) after i.ended (ended_none begun c.hold.result c.hold.ensures.ends w.if-hold.true) c.hold.ensures.lent)
        | else-hold w ↦ subst (λ b. AreInHand b after was (c.loop-count.count + 1)) (sym w.over-is)
            (one_held c.loop-count.over now was c.loop-count.count (length (lent_by begun)) after i.ended (held_one begun c.hold.result c.hold.ensures.ends w.if-hold.false one) c.hold.ensures.lent)
      ];
    }
