use Rattle.std.proofs.Common.{rules, ◌<◌, sym, ap, ◌∙◌, arith, length, codes}
use Rattle.std.specs.Prelude.{Some, decimal}
use Rattle.bl_order.specs.Labels.{Tag, tag}
use Rattle.bl_hall.proofs.Answering.{child-there, line-there, origin-there}
use Rattle.bl_hall.proofs.Tags.{parent-of, tag-child, tag-line, tag-known}
use Rattle.bl_wire.proofs.PutLaws.{puts-is, puts-three}
use Rattle.bl_wire.specs.Replies.{label_text}
use Rattle.bl_session.proofs.LabelLaws.{label_more}
use Rattle.bl_session.proofs.entries.+put_label.Goals as goal

pub put_label-requires : goal.put_label-requires
put_label-requires g t c κs within =
    let x = c.args.core.now in
    let child = child-there x.order c.args.n c.in-Some-Child.parent c.in-Some-Child.which (ap Some (sym c.in-Some-Child.field-0-is) ∙ c.in-Some-Child.ensures) in
    let parent = parent-of x c.requires.reached c.args.n c.in-Some-Child.parent c.in-Some-Child.which child.0 child.1 in
    let low : c.in-Some-Child.parent < c.args.n = parent.0 in
    let there : c.in-Some-Child.parent < length x.order = omega (arith, parent.0, child.0) in
    search rules

pub unreachable-requires : goal.unreachable-requires
unreachable-requires g t c = origin-there c.args.core.now.order c.args.n c.requires.there c.in-None.ensures

pub returns-in-Some-Child : goal.returns-in-Some-Child
returns-in-Some-Child g t c =
    let x = c.args.core.now in
    let child = child-there x.order c.args.n c.in-Some-Child.parent c.in-Some-Child.which (ap Some (sym c.in-Some-Child.field-0-is) ∙ c.in-Some-Child.ensures) in
    let parent = parent-of x c.requires.reached c.args.n c.in-Some-Child.parent c.in-Some-Child.which child.0 child.1 in
    let known = tag-known x c.requires.reached c.in-Some-Child.parent (omega (arith, parent.0, child.0)) in
    puts-three (label_text (tag x.order c.args.n).label) (label_text (tag x.order c.in-Some-Child.parent).label) (codes ".") (decimal c.in-Some-Child.which) _ _ _ _
    (ap (λ (t : Tag). label_text t.label) (tag-child x.order c.args.n c.in-Some-Child.parent c.in-Some-Child.which parent.0 child.1)
    ∙ label_more (tag x.order c.in-Some-Child.parent).label c.in-Some-Child.which known.some)
    c.put_label.ensures c.put.ensures.puts c.put_number.ensures.puts

pub returns-in-Some-Line : goal.returns-in-Some-Line
returns-in-Some-Line g t c =
    let x = c.args.core.now in
    let line = line-there x.order c.args.n c.in-Some-Line.field-0-0 c.in-Some-Line.ordinal (ap Some (sym c.in-Some-Line.field-0-is) ∙ c.in-Some-Line.ensures) in
    puts-is _ _ _ _ (sym (ap (λ (t : Tag). label_text t.label) (tag-line x.order c.args.n c.in-Some-Line.field-0-0 c.in-Some-Line.ordinal line.1.0 line.1.1 line.1.2))) c.put_number-in-Some-Line.ensures.puts
