use Rattle.std.proofs.Common.{sym, ◌∙◌, ap, subst}
use Rattle.std.specs.Arc.{arc_value}
use Rattle.bl_setup.specs.Agreement.{Agree}
use Rattle.bl_setup.specs.Setup.{Setup, by_version}
use Rattle.bl_monitor.specs.Sound.{IsSound}
use Rattle.bl_monitor.proofs.Keeps.{agree_of_version, first_sound}
use Rattle.bl_monitor.proofs.monitor.Monitor.new.Goals as goal

pub invariant_of-result : goal.invariant_of-result
invariant_of-result c =
    subst (IsSound (by_version c.args.version (arc_value c.in_ok-setup.setup)) c.in_ok-policy.policy c.in_ok-contents.contents.items) (sym c.new.ensures.items)
    (first_sound (by_version c.args.version (arc_value c.in_ok-setup.setup)) c.in_ok-policy.policy c.in_ok-contents.contents.items
    (agree_of_version c.args.version (arc_value c.in_ok-setup.setup) (subst Agree c.deref.ensures c.policy.ensures.agree))
    (c.in_ok-policy.ensures ∙ c.policy.ensures.value ∙ ap (λ (s : Setup). s.policy) c.deref.ensures)
    (c.in_ok-contents.ensures ∙ c.contents.ensures.value ∙ ap (λ (s : Setup). s.contents) c.deref-2.ensures))
