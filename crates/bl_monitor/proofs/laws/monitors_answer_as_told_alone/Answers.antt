use Rattle.std.proofs.Common.{ap, ◌∙◌}
use Rattle.bl_order.specs.Past.{Past}
use Rattle.bl_monitor.proofs.Alone.{as-told}
use Rattle.bl_monitor.proofs.laws.monitors_answer_as_told_alone.Goals as goal

pub returns-clause-alone : goal.returns-clause-alone
returns-clause-alone c = as-told

pub returns-clause-core : goal.returns-clause-core
returns-clause-core c = λ x lost n heard reached there hand agree told.
    as-told x lost n heard told
    ∙ ap (λ (p : Past). p.answer) ((c.headline.ensures.state x reached).told_as_alone n there hand lost agree)
