use Rattle.std.proofs.Common.{◌≡◌, ◌+◌, ◌∙◌, length, arith}
use Rattle.bl_sizes.specs.Counts.{in_word}
use Rattle.bl_sizes.specs.Sizes.{size_at}
use Rattle.bl_quota.proofs.Scanning.{sum-none, sum-on, sum-over}
use Rattle.bl_quota.proofs.sizes.sizes_behind.Goals as goal

pub loop-n-init : goal.loop-n-init
loop-n-init c = record { bytes = sum-none (size_at c.args.core.now) c.args.from; few = omega arith }

pub loop-n-preserved : goal.loop-n-preserved
loop-n-preserved c =
    let now : c.saturating_add-bytes.result ≡ in_word (c.loop-n.bytes + c.size_at.result) = omega arith in
    record {
      bytes = now ∙ sum-on (size_at c.args.core.now) c.args.from c.loop-n.n c.loop-n.bytes c.size_at.result (omega arith) c.loop-n.invariant.bytes c.size_at.ensures;
      few = omega (arith, c.entries-n-end.ensures.count, c.loop-n-test.true);
    }

pub returns : goal.returns
returns c =
    sum-over (size_at c.args.core.now) c.args.from c.loop-n.n (length c.args.core.now.order) c.loop-n.bytes c.loop-n.invariant.bytes c.loop-n.invariant.few
    (omega (arith, c.entries-n-end.ensures.count, c.loop-n-test.false))
