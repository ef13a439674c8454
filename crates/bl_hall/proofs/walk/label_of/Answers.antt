use Rattle.std.proofs.Common.{sym, ap, ◌∙◌}
use Rattle.std.specs.Prelude.{Some}
use Rattle.bl_order.specs.Labels.{Tag}
use Rattle.bl_hall.proofs.Answering.{line-there}
use Rattle.bl_hall.proofs.Tags.{tag-line}
use Rattle.bl_hall.proofs.walk.label_of.Goals as goal

pub returns-in-Some-Line : goal.returns-in-Some-Line
returns-in-Some-Line c =
    let line = line-there c.args.core.now.order c.args.n c.in-Some-Line.field-0-0 c.in-Some-Line.ordinal (ap Some (sym c.in-Some-Line.field-0-is) ∙ c.in-Some-Line.ensures) in
    sym (ap (λ (t : Tag). t.label) (tag-line c.args.core.now.order c.args.n c.in-Some-Line.field-0-0 c.in-Some-Line.ordinal line.1.0 line.1.1 line.1.2))
