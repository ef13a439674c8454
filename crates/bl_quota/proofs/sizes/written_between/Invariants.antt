use Rattle.std.proofs.Common.{◌≡◌, ◌-◌, ◌≤◌, length}
use Rattle.std.specs.Prelude.{sum_by}
use Rattle.std.specs.List.{range_with_len}
use Rattle.bl_sizes.specs.Counts.{in_word}
use Rattle.bl_sizes.specs.Sizes.{written_at}
use Rattle.bl_quota.proofs.sizes.written_between.Given as goal

-- the places so far are counted
abbrev pub invariant-loop-n : goal.invariant-loop-n
invariant-loop-n l = record {
  bytes : l.bytes ≡ in_word (sum_by (written_at l.core) (range_with_len l.from (l.n - l.from)));
  few : l.n - l.from ≤ l.to - l.from;
}
