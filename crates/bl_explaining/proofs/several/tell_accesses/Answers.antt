use Rattle.std.proofs.Common.{ℕ, List, subst}
use Rattle.bl_explaining.specs.Shown.{AreShown}
use Rattle.bl_explaining.proofs.Nones.{none-is}
use Rattle.bl_explaining.proofs.several.tell_accesses.Goals as goal

pub returns : goal.returns
returns c =
    record {
      refused = c.decided-refused.result;
      decided = c.decided-refused.ensures;
      granted_is = none-is c.decided-refused.result c.is_none.result c.is_none.ensures;
      shown = subst (λ (before : List ℕ). AreShown c.args.setting.now c.args.accesses.now before c.put_each.new.text.items) c.in_ok-text.ensures
          c.in_ok-put_each.ensures;
    }
