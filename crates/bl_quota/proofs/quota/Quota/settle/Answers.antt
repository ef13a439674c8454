use Rattle.std.proofs.Common.{◌≡◌, ◌+◌, sym, subst, arith}
use Rattle.bl_sizes.specs.Counts.{in_word}
use Rattle.bl_quota.specs.Quotas.{IsSettled}
use Rattle.bl_quota.proofs.Scanning.{settled-on}
use Rattle.bl_quota.proofs.quota.Quota.settle.Goals as goal

pub returns-clause-settled : goal.returns-clause-settled
returns-clause-settled c s =
    let x = c.args.core.now in
    let now : c.saturating_add-self.result ≡ in_word (c.args.self.now.settled + c.written_between-more.result) = omega arith in
    subst (IsSettled x c.first_unended-to.result) (sym now)
    (settled-on x c.args.self.now.kept c.args.self.now.settled s c.first_unended-to.result c.written_between-more.result (c.first_unended-to.ensures.behind s.there) c.first_unended-to.ensures.there
    c.first_unended-to.ensures.ended c.written_between-more.ensures)
