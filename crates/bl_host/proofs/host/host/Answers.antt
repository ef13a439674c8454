use Rattle.std.proofs.Common.{◌∙◌, refl, sym, subst}
use Rattle.bl_gate.specs.Gates.{Follows}
use Rattle.bl_live.proofs.Notices.{live-none}
use Rattle.bl_host.proofs.host.host.Goals as goal

-- as the scope of threads says
pub returns-clause-whole : goal.returns-clause-whole
returns-clause-whole g c is =
    subst (Follows c.args.pass) (sym c.hosted_of.ensures.pass) (c.run_scope-joined.ensures.whole (sym c.hosted_of.ensures.whole ∙ is))

-- nothing was told yet
pub returns-in_default-clause-told : goal.returns-in_default-clause-told
returns-in_default-clause-told g c = live-none _ _ refl
