use Rattle.std.proofs.Common.{sym, ◌∙◌, ap, subst}
use Rattle.bl_setup.specs.Agreement.{Agree}
use Rattle.bl_setup.specs.Setup.{Setup, by_version}
use Rattle.bl_setup.specs.declared.version.Version.TheVariants.{Two}
use Rattle.bl_order.specs.Standing.{setup_after}
use Rattle.bl_monitor.specs.Heard.{is_lost}
use Rattle.bl_monitor.proofs.Standing.{same_whole, whole_agrees, whole_stands}
use Rattle.bl_monitor.proofs.monitor.Monitor.stands.Goals as goal

pub of-requires : goal.of-requires
of-requires c =
    subst Agree
    (sym (same_whole c.self.inside c.in_ok-names.names c.in_ok-policy.policy c.in_ok-contents.contents.items
    (c.in_ok-names.ensures ∙ c.names.ensures.value ∙ ap (λ (s : Setup). s.names) c.deref-2.ensures) c.in_ok-policy.ensures
    (c.in_ok-contents.ensures ∙ c.deref.ensures.value)))
    (whole_agrees c.self.inside c.self.invariant)

pub returns : goal.returns
returns c =
    c.of.ensures
    ∙ same_whole c.self.inside c.in_ok-names.names c.in_ok-policy.policy c.in_ok-contents.contents.items
    (c.in_ok-names.ensures ∙ c.names.ensures.value ∙ ap (λ (s : Setup). s.names) c.deref-2.ensures) c.in_ok-policy.ensures
    (c.in_ok-contents.ensures ∙ c.deref.ensures.value)
    ∙ whole_stands c.self.inside c.self.invariant
    ∙ ap (λ h. by_version Two (setup_after h.setup (is_lost h) h.order)) c.self.view_is
