use Rattle.std.proofs.Common.{◌∙◌, ap, subst}
use Rattle.bl_replaying.specs.Finding.{IsFound}
use Rattle.bl_replaying.specs.declared.open.Finding.TheVariants.{Judged}
use Rattle.bl_chain.proofs.Exits.{err-so, ok-so, silent, told}
use Rattle.bl_chain_audit.proofs.journal.journal_of.Goals as goal

pub returns-in_err-finding : goal.returns-in_err-finding
returns-in_err-finding c = record {
  found = silent _ _ _ c.from_residual.ensures.1;
  fault = told _ _ _ c.from_residual.ensures.1 tt;
}

pub returns-in-Open : goal.returns-in-Open
returns-in-Open c =
    let unstopped = subst (IsFound c.args.setup.now c.args.text.now) c.in-Open.is c.in_ok-finding.ensures in
    record {
      found = ok-so c.so_far.result c.so_far.ensures.found (λ found f. f c.args.setup.now _ unstopped);
      fault = err-so c.so_far.result c.so_far.ensures.fault (λ fault f. f c.args.setup.now _ unstopped);
    }

pub returns-in-Accepted : goal.returns-in-Accepted
returns-in-Accepted c =
    let right = subst (IsFound c.args.setup.now c.args.text.now) (c.in-Judged.is ∙ ap Judged c.in-Accepted.is) c.in_ok-finding.ensures in
    record { found = c.closed.ensures.found; fault = err-so c.closed.result c.closed.ensures.fault (λ fault f. f c.in-Accepted.field-0 right) }

pub returns-in-Rejected : goal.returns-in-Rejected
returns-in-Rejected c =
    let wrong = subst (IsFound c.args.setup.now c.args.text.now) (c.in-Judged.is ∙ ap Judged c.in-Rejected.is) c.in_ok-finding.ensures in
    record {
      found = ok-so c.torn_or_wrong.result c.torn_or_wrong.ensures.found (λ found f. f c.args.setup.now);
      fault = err-so c.torn_or_wrong.result c.torn_or_wrong.ensures.fault (λ fault f. f c.args.setup.now wrong);
    }
