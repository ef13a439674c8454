use Rattle.std.proofs.Common.{[], sym, true≢false, ◌∙◌}
use Rattle.bl_level.proofs.ReadingLevels.{reads_braces, braces_syntax}
use Rattle.bl_level.proofs.scheme.Scheme.read_level.Goals as goal

pub returns-then-is_at_end-clause-syntax : goal.returns-then-is_at_end-clause-syntax
returns-then-is_at_end-clause-syntax c =
    λ none. absurd (none (record { rank = c.in-Some.rank.now; categories = [] }) (c.in-Some.behind.now, c.in-Some.ensures.some, c.is_at_end.ensures.0 c.if-is_at_end.true))

pub returns-in-Some-after_sign-clause-reads : goal.returns-in-Some-after_sign-clause-reads
returns-in-Some-after_sign-clause-reads c =
    reads_braces c.args.self.now c.args.bytes.now c.in-Some.behind.now c.in-Some-after_sign.categories.now c.in-Some.rank.now c.ranked-so_far.result
    c.read_categories.result c.in-Some.ensures.some (λ done. true≢false (sym (c.is_at_end.ensures.1 done) ∙ c.if-is_at_end.false))
    c.in-Some-after_sign.ensures.some c.ranked-so_far.ensures c.read_categories.ensures

pub returns-in-Some-after_sign-clause-syntax : goal.returns-in-Some-after_sign-clause-syntax
returns-in-Some-after_sign-clause-syntax c =
    braces_syntax c.args.self.now c.args.bytes.now c.in-Some.behind.now c.in-Some-after_sign.categories.now c.in-Some.rank.now c.ranked-so_far.result
    c.read_categories.result c.in-Some.ensures.some c.in-Some-after_sign.ensures.some c.read_categories.ensures
