use Rattle.std.proofs.Common.{◌≡◌, ◌∷◌, ◌++◌, [], sym, ap, ◌∙◌, arith, append_assoc}
use Rattle.std.specs.Prelude.{Some, reverse}
use Rattle.std.proofs.lemmas.List.{reverse-append, reverse-reverse}
use Rattle.bl_order.specs.Labels.{Tag, tag}
use Rattle.bl_hall.proofs.Answering.{child-there, line-there, origin-there}
use Rattle.bl_hall.proofs.Tags.{parent-of, tag-child, tag-line}
use Rattle.bl_hall.proofs.walk.climb.Goals as goal

pub up-smaller : goal.up-smaller
up-smaller c =
    let child = child-there c.args.core.now.order c.up.at c.in-Some-Child.parent c.in-Some-Child.which (ap Some (sym c.in-Some-Child.field-0-is) ∙ c.in-Some-Child.ensures) in
    (parent-of c.args.core.now c.requires.reached c.up.at c.in-Some-Child.parent c.in-Some-Child.which child.0 child.1).0

pub up-preserved : goal.up-preserved
up-preserved c =
    let child = child-there c.args.core.now.order c.up.at c.in-Some-Child.parent c.in-Some-Child.which (ap Some (sym c.in-Some-Child.field-0-is) ∙ c.in-Some-Child.ensures) in
    let parent = parent-of c.args.core.now c.requires.reached c.up.at c.in-Some-Child.parent c.in-Some-Child.which child.0 child.1 in
    let label : (tag c.args.core.now.order c.up.at).label ≡ (tag c.args.core.now.order c.in-Some-Child.parent).label ++ c.in-Some-Child.which ∷ [] =
    ap (λ (t : Tag). t.label) (tag-child c.args.core.now.order c.up.at c.in-Some-Child.parent c.in-Some-Child.which parent.0 child.1)
    in (
      omega (arith, parent.0, child.0),
      c.up.invariant.1 ∙ ap (λ l. l ++ reverse c.up.label.items) label
          ∙ append_assoc (tag c.args.core.now.order c.in-Some-Child.parent).label (c.in-Some-Child.which ∷ []) (reverse c.up.label.items)
          ∙ ap (λ l. (tag c.args.core.now.order c.in-Some-Child.parent).label ++ l) (sym (reverse-append c.up.label.items (c.in-Some-Child.which ∷ [])))
          ∙ ap (λ l. (tag c.args.core.now.order c.in-Some-Child.parent).label ++ reverse l) (sym c.in_ok-push-in-Some-Child.ensures.items),
    )

pub unreachable-requires : goal.unreachable-requires
unreachable-requires c = origin-there c.args.core.now.order c.up.at c.up.invariant.0 c.in-None.ensures

pub returns-in-Some-Line : goal.returns-in-Some-Line
returns-in-Some-Line c =
    let line = line-there c.args.core.now.order c.up.at c.in-Some-Line.field-0-0 c.in-Some-Line.ordinal (ap Some (sym c.in-Some-Line.field-0-is) ∙ c.in-Some-Line.ensures) in
    let label : (tag c.args.core.now.order c.up.at).label ≡ c.in-Some-Line.ordinal ∷ [] =
    ap (λ (t : Tag). t.label) (tag-line c.args.core.now.order c.up.at c.in-Some-Line.field-0-0 c.in-Some-Line.ordinal line.1.0 line.1.1 line.1.2)
    in
    c.in_ok-push-in-Some-Line.ensures.items ∙ sym (reverse-reverse (c.up.label.items ++ c.in-Some-Line.ordinal ∷ []))
    ∙ ap reverse (reverse-append c.up.label.items (c.in-Some-Line.ordinal ∷ []) ∙ sym (c.up.invariant.1 ∙ ap (λ l. l ++ reverse c.up.label.items) label))
