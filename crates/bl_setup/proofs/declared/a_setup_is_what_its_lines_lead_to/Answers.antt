use Rattle.bl_setup.proofs.LedLemmas.{is_setup_led}
use Rattle.bl_setup.proofs.declared.a_setup_is_what_its_lines_lead_to.Goals as goal

pub returns : goal.returns
returns c = is_setup_led
