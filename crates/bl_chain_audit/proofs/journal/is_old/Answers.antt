use Rattle.std.proofs.Common.{sym, true≢false}
use Rattle.bl_chain_audit.proofs.Journals.{no-old, old-first, old-line}
use Rattle.bl_chain_audit.proofs.journal.is_old.Goals as goal

pub returns-in_default : goal.returns-in_default
returns-in_default c = ((λ t. absurd (true≢false (sym t))), (λ old. absurd (no-old c.args.text.now c.in_default.ensures old)))

pub returns : goal.returns
returns c = (
  (λ t. old-line c.args.text.now c.in-Some.line.now _ c.in-Some.ensures (c.names_one.ensures.0 t)),
  (λ old. c.names_one.ensures.1 (old-first c.args.text.now c.in-Some.line.now _ c.in-Some.ensures old)),
)
