use Rattle.std.proofs.Common.{◌∙◌, Some, ap, sym}
use Rattle.bl_chain.proofs.Exits.{err-so, ok-so, silent, told}
use Rattle.bl_chain_audit.proofs.Journals.{found, unfit}
use Rattle.bl_chain_audit.proofs.Reasons.{of-call}
use Rattle.bl_chain_audit.proofs.journal.journal_in.Goals as goal

pub returns-in_err-text : goal.returns-in_err-text
returns-in_err-text g c = record {
  same = c.in_err-text.ensures.same;
  found = silent _ _ _ c.from_residual.ensures.1;
  fault = told _ _ _ c.from_residual.ensures.1 (λ before noted is closed none. of-call before.seen noted c.in_err-text.field-0.0 c.in_err-text.ensures.fault);
}

pub returns-in_default : goal.returns-in_default
returns-in_default g c = record {
  same = c.in_ok-text.ensures.same;
  found = λ before is. sym (rw (c.trail_part-journal.ensures, c.in_default.is) at (c.in_ok-text.ensures.bytes before is));
  fault = tt;
}

pub returns : goal.returns
returns g c = record {
  same = c.in_ok-text.ensures.same;
  found = ok-so c.journal_of.result c.journal_of.ensures.found (λ journal f before is.
      let has = sym (rw (c.trail_part-journal.ensures, c.in-Some.is) at (c.in_ok-text.ensures.bytes before is)) in
      found before.seen c.args.run c.args.stood.now c.deref.result.now (has ∙ ap Some (sym c.deref.ensures.value)) journal f);
  fault = err-so c.journal_of.result c.journal_of.ensures.fault (λ fault f before noted is closed none.
      let has = sym (rw (c.trail_part-journal.ensures, c.in-Some.is) at (c.in_ok-text.ensures.bytes before is)) in
      unfit before.seen c.args.run c.args.stood.now c.deref.result.now (has ∙ ap Some (sym c.deref.ensures.value)) noted closed none fault f);
}
