use Rattle.bl_sizes.proofs.Within.{text-counted, text-within}
use Rattle.bl_sizes.proofs.laws.texts_stay_within.Goals as goal

pub returns : goal.returns
returns c = record { counted = text-counted c.lines_ask_scripts.ensures; within = text-within c.lines_ask_scripts.ensures }
