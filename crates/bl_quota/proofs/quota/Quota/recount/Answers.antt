use Rattle.std.proofs.Common.{◌≡◌, ◌+◌, ◌-◌, ◌∙◌, ap, sym, subst, arith}
use Rattle.std.specs.Prelude.{sum_by}
use Rattle.std.specs.List.{range_with_len}
use Rattle.bl_sizes.specs.Counts.{IsCounted, in_word}
use Rattle.bl_sizes.specs.Sizes.{frame_size, full_size, written_at, written_size}
use Rattle.bl_quota.proofs.Scanning.{all-sizes, all-written, counted-all}
use Rattle.bl_quota.proofs.quota.Quota.recount.Goals as goal

pub returns-clause-recounted : goal.returns-clause-recounted
returns-clause-recounted c s =
    let x = c.args.core.now in
    let kept = c.settle.new.self.kept in
    let settled = c.settle.new.self.settled in
    let is = c.settle.ensures.settled s in
    let base : c.saturating_add-settled.result ≡ in_word (settled + frame_size) = omega arith in
    let count : c.saturating_add-self.result ≡ in_word (c.saturating_add-settled.result + c.sizes_behind.result) = omega arith in
    let bytes : c.saturating_add.result ≡ in_word (c.saturating_add-settled.result + c.written_between.result) = omega arith in
    let full : c.saturating_add-self.result ≡ in_word (full_size x) =
    count ∙ ap (λ v. in_word (v + c.sizes_behind.result)) base ∙ all-sizes x kept settled is c.sizes_behind.result c.sizes_behind.ensures in
    let written : c.saturating_add.result ≡ in_word (written_size x) =
    bytes ∙ ap (λ v. in_word (v + c.written_between.result)) base
    ∙ all-written x kept settled is c.written_between.result
    (c.written_between.ensures ∙ ap (λ n. in_word (sum_by (written_at x) (range_with_len kept (n - kept)))) c.entries-entries.ensures.count) in
    record {
      settled = is;
      counted = subst (IsCounted x c.saturating_add-self.result) (sym c.entries-entries.ensures.count) (counted-all x c.saturating_add-self.result full);
      full = full;
      written = written;
    }
