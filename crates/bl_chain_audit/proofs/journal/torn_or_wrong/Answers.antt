use Rattle.std.proofs.Common.{inr, refl, sym, true≢false, ◌∙◌}
use Rattle.bl_chain_audit.proofs.Journals.{not-so-far}
use Rattle.bl_chain_audit.proofs.journal.torn_or_wrong.Goals as goal

pub returns-then-lacks_head : goal.returns-then-lacks_head
returns-then-lacks_head c = record { found = λ setup. inr (refl, c.lacks_head.ensures.0 c.if-lacks_head.true); fault = tt }

pub returns : goal.returns
returns c = record {
  found = tt;
  fault = λ setup found.
      (refl, not-so-far setup c.args.text.now c.args.line found (λ lacks. true≢false (sym (c.lacks_head.ensures.1 lacks) ∙ c.if-lacks_head.false)));
}
