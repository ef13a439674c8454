use Rattle.std.proofs.Common.{refl, sym, true≢false}
use Rattle.bl_chain_audit.proofs.Journals.{has-line}
use Rattle.bl_chain_audit.proofs.journal.has_no_line.Goals as goal

pub returns-in-Some : goal.returns-in-Some
returns-in-Some c = (
  (λ t. absurd (true≢false (sym t))),
  (λ none. absurd (has-line c.args.text.now _ _ c.in-Some.ensures none)),
)

pub returns-in-None : goal.returns-in-None
returns-in-None c = ((λ t. c.in-None.ensures), (λ none. refl))
