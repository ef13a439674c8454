use Rattle.std.proofs.Common.{inl, inr, refl, sym, true≢false, ◌∙◌}
use Rattle.bl_chain_audit.proofs.journal.so_far.Goals as goal

pub returns-then-is_old : goal.returns-then-is_old
returns-then-is_old c = record {
  found = tt;
  fault = λ setup torn unstopped. (refl, inr (c.is_old.ensures.0 c.if-is_old.true, (c.args.events, torn, unstopped)));
}

pub returns : goal.returns
returns c = record {
  found = λ setup torn unstopped. inl (torn, unstopped, λ old. true≢false (sym (c.is_old.ensures.1 old) ∙ c.if-is_old.false));
  fault = tt;
}
