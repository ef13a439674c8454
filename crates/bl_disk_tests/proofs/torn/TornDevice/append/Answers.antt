use Rattle.std.proofs.Common.{◌<◌, get_or, length, refl, arith}
use Rattle.bl_disk.specs.Moments.{IsAdding}
use Rattle.bl_disk_tests.specs.OfTorn.{torn_now}
use Rattle.bl_disk_tests.specs.declared.torn.Torn.{Torn}
use Rattle.bl_disk_tests.proofs.Bytewise.{at-byte, lift, none, one-more}
use Rattle.bl_disk_tests.proofs.torn.TornDevice.append.Goals as goal

pub returns-in_err-append-clause-moments : goal.returns-in_err-append-clause-moments
returns-in_err-append-clause-moments c =
    let lt : c.loop-i.i < length c.args.text.now = omega arith in
    lift (λ (torn : Torn). torn.memory) c.args.self.now _ (IsAdding (torn_now c.args.self.now) c.args.text.now)
    (at-byte c.args.self.now.memory c.loop-i.self.memory c.append.new.self c.args.text.now c.loop-i.i (get_or c.args.text.now c.loop-i.i 0) lt refl c.loop-i.invariant.0
    c.append.ensures.moments)

pub loop-i-preserved : goal.loop-i-preserved
loop-i-preserved c =
    let lt : c.loop-i.i < length c.args.text.now = omega arith in (
      one-more c.args.self.now.memory c.loop-i.self.memory c.append.new.self c.args.text.now c.loop-i.i (get_or c.args.text.now c.loop-i.i 0) lt refl c.loop-i.invariant.0
          c.append.ensures.moments c.in_ok-append.ensures.added,
      c.loop-i.invariant.1,
    )

pub loop-i-init : goal.loop-i-init
loop-i-init c = (none c.args.self.now.memory c.args.text.now, c.requires)
