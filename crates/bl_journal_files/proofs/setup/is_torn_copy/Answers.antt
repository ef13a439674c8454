use Rattle.std.proofs.Common.{sym, true≢false}
use Rattle.bl_journal_files.proofs.Copies.{other_begin, torn_copy}
use Rattle.bl_journal_files.proofs.setup.is_torn_copy.Goals as goal

pub returns-then-not-starts_with : goal.returns-then-not-starts_with
returns-then-not-starts_with c = (
  (λ yes'. absurd (true≢false (sym yes'))),
  (λ torn. absurd (other_begin c.args.setup.now c.args.copy.now c.starts_with.result c.starts_with.ensures.value c.if-not-starts_with.true torn)),
)

pub returns : goal.returns
returns c = torn_copy c.args.setup.now c.args.copy.now c.starts_with.result c.ends_with.result c.starts_with.ensures.value c.ends_with.ensures.value c.if-not-starts_with.false c.if-copy-setup.false
