use Rattle.std.proofs.Common.{◌≡◌, ℕ, ◌+◌, length, ap, subst, arith}
use Rattle.bl_queue.specs.Holders.{IsEnding}
use Rattle.bl_queue.proofs.Steps.{ending_start, ending_step, can_release}
use Rattle.bl_queue.proofs.cowns.Cowns.release_all.Goals as goal

pub loop-place-init : goal.loop-place-init
loop-place-init c = ending_start c.args.self.now c.args.first c.requires.kept c.requires.settled

pub release-requires : goal.release-requires
release-requires c =
    let same = ap length c.loop-place.invariant.claims in
    let free = c.requires.free c.loop-place.place (omega arith) (omega arith) in
    record {
      kept = c.loop-place.invariant.kept;
      settled = c.loop-place.invariant.settled;
      room = omega (arith, c.requires.room, c.loop-place.invariant.waits, c.loop-place.invariant.limit);
      place = omega (arith, same, c.requires.range);
      holds = can_release c.args.self.now c.loop-place.self c.args.first c.loop-place.place c.requires.kept c.loop-place.invariant (omega (arith, c.requires.range)) free.0 free.1;
    }

pub loop-place-preserved : goal.loop-place-preserved
loop-place-preserved c =
    ending_step c.args.self.now c.loop-place.self c.release.new.self c.args.first c.loop-place.place c.loop-place.invariant (omega arith) (omega (arith, c.requires.range))
    c.release.ensures.kept c.release.ensures.settled c.release.ensures.after

pub returns : goal.returns
returns c =
    let all : c.loop-place.place ≡ c.args.first + c.args.count = omega arith in
    subst (λ (p : ℕ). IsEnding c.args.self.now c.args.first p c.loop-place.self) all c.loop-place.invariant
