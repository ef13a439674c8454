use Rattle.std.proofs.Common.{sym, ap, ◌∙◌, arith}
use Rattle.std.specs.Prelude.{Some}
use Rattle.bl_order.specs.Labels.{tag}
use Rattle.bl_hall.proofs.Answering.{child-there, line-there, origin-there}
use Rattle.bl_hall.proofs.Entering.{first-kept}
use Rattle.bl_hall.proofs.Tags.{parent-of, tag-child, tag-line, tag-known}
use Rattle.bl_session.specs.Pages.{ordinal_of}
use Rattle.bl_session.proofs.block.ordinal_of.Goals as goal

pub up-smaller : goal.up-smaller
up-smaller c =
    let child = child-there c.args.core.now.order c.up.at c.in-Some-Child.parent c.in-Some-Child.field-0-1 (ap Some (sym c.in-Some-Child.field-0-is) ∙ c.in-Some-Child.ensures) in
    (parent-of c.args.core.now c.requires.reached c.up.at c.in-Some-Child.parent c.in-Some-Child.field-0-1 child.0 child.1).0

pub up-preserved : goal.up-preserved
up-preserved c =
    let x = c.args.core.now in
    let child = child-there x.order c.up.at c.in-Some-Child.parent c.in-Some-Child.field-0-1 (ap Some (sym c.in-Some-Child.field-0-is) ∙ c.in-Some-Child.ensures) in
    let parent = parent-of x c.requires.reached c.up.at c.in-Some-Child.parent c.in-Some-Child.field-0-1 child.0 child.1 in
    let known = tag-known x c.requires.reached c.in-Some-Child.parent (omega (arith, parent.0, child.0)) in (
      omega (arith, parent.0, child.0),
      c.up.invariant.1 ∙ ap ordinal_of (tag-child x.order c.up.at c.in-Some-Child.parent c.in-Some-Child.field-0-1 parent.0 child.1)
          ∙ first-kept (tag x.order c.in-Some-Child.parent).label c.in-Some-Child.field-0-1 known.some,
    )

pub returns-in-Some-Line : goal.returns-in-Some-Line
returns-in-Some-Line c =
    let x = c.args.core.now in
    let line = line-there x.order c.up.at c.in-Some-Line.field-0-0 c.in-Some-Line.ordinal (ap Some (sym c.in-Some-Line.field-0-is) ∙ c.in-Some-Line.ensures) in
    sym (c.up.invariant.1 ∙ ap ordinal_of (tag-line x.order c.up.at c.in-Some-Line.field-0-0 c.in-Some-Line.ordinal line.1.0 line.1.1 line.1.2))

pub unreachable-requires : goal.unreachable-requires
unreachable-requires c = origin-there c.args.core.now.order c.up.at c.up.invariant.0 c.in-None.ensures
