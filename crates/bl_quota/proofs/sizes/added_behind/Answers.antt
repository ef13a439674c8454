use Rattle.std.proofs.Common.{◌≡◌, ◌+◌, ◌∙◌, length, arith}
use Rattle.bl_sizes.specs.Counts.{added_at, in_word}
use Rattle.bl_quota.proofs.Scanning.{sum-none, sum-on, sum-over}
use Rattle.bl_quota.proofs.sizes.added_behind.Goals as goal

pub loop-n-init : goal.loop-n-init
loop-n-init c = record { bytes = sum-none (added_at c.args.core.now) c.args.from; few = omega arith }

pub loop-n-preserved : goal.loop-n-preserved
loop-n-preserved c =
    let now : c.saturating_add-bytes.result ≡ in_word (c.loop-n.bytes + c.added_by.result) = omega arith in
    record {
      bytes = now ∙ sum-on (added_at c.args.core.now) c.args.from c.loop-n.n c.loop-n.bytes c.added_by.result (omega arith) c.loop-n.invariant.bytes c.added_by.ensures;
      few = omega (arith, c.entries-n-end.ensures.count, c.loop-n-test.true);
    }

pub returns : goal.returns
returns c =
    sum-over (added_at c.args.core.now) c.args.from c.loop-n.n (length c.args.core.now.order) c.loop-n.bytes c.loop-n.invariant.bytes c.loop-n.invariant.few
    (omega (arith, c.entries-n-end.ensures.count, c.loop-n-test.false))
