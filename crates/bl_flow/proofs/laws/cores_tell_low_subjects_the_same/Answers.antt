use Rattle.std.proofs.Common.{sym, ◌∙◌, ap}
use Rattle.bl_setup.specs.Setup.{Setup}
use Rattle.bl_flow.specs.Low.{history_of}
use Rattle.bl_flow.proofs.laws.cores_tell_low_subjects_the_same.Goals as goal

pub returns-clause-sealed : goal.returns-clause-sealed
returns-clause-sealed c level =
    c.states_tell_low_subjects_the_same.ensures level c.args.one.now c.args.two.now c.policy-one.ensures.reached c.policy-two.ensures.reached

pub returns-clause-untrusted : goal.returns-clause-untrusted
returns-clause-untrusted c level silent silent_too =
    c.states_tell_low_subjects_the_same.ensures level c.args.one.now c.args.two.now c.policy-one.ensures.reached c.policy-two.ensures.reached
    (c.untrusted_histories_are_sealed.ensures level (history_of c.args.one.now)
    (ap (λ (s : Setup). s.version) (sym c.setup.ensures) ∙ c.version-one_version.ensures.two) silent)
    (c.untrusted_histories_are_sealed.ensures level (history_of c.args.two.now)
    (ap (λ (s : Setup). s.version) (sym c.setup-2.ensures) ∙ c.version-two_version.ensures.two) silent_too)
