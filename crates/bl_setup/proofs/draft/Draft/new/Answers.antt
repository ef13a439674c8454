use Rattle.std.proofs.Common.{sym, subst}
use Rattle.bl_setup.specs.Agreement.{Agree}
use Rattle.bl_setup.proofs.AddLemmas.{same_setup}
use Rattle.bl_setup.proofs.Agreeing.{agree_first}
use Rattle.bl_setup.proofs.draft.Draft.new.Goals as goal

pub returns-clause-agree : goal.returns-clause-agree
returns-clause-agree c = subst Agree (sym (same_setup c.in_ok-names.ensures c.in_ok-policy.ensures c.in_ok-contents.ensures.items)) (agree_first c.args.scheme)
