use Rattle.bl_report.proofs.Denying.{blamed}
use Rattle.bl_report.proofs.laws.denials_are_of_their_moment.Goals as goal

pub returns : goal.returns
returns c until since x number n denial reached may denied =
    blamed
    (record {
      denial = c.what_fails_first_decides.ensures.denial;
      granted = c.what_fails_first_decides.ensures.granted;
      fails = c.what_fails_first_decides.ensures.fails;
    })
    c.rule_fault_is_the_first.ensures.some until since x number n denial (c.denials_are_of_their_moment.ensures x n reached may) denied
