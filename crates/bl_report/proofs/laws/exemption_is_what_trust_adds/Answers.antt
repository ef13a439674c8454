use Rattle.bl_report.proofs.Trust.{trust-adds}
use Rattle.bl_report.proofs.laws.exemption_is_what_trust_adds.Goals as goal

pub returns : goal.returns
returns c p s carried access there granted =
    trust-adds (record { decide = c.grounds_decide.ensures; granted = c.what_fails_first_decides.ensures.granted }) p s carried access there granted
