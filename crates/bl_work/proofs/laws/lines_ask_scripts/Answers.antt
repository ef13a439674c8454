use Rattle.bl_work.proofs.AskedScripts.{asked_script}
use Rattle.bl_work.proofs.laws.lines_ask_scripts.Goals as goal

pub returns : goal.returns
returns c = asked_script c.canonical_is_shortest.ensures c.read_tokens_are_proper.ensures
