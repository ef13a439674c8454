use Rattle.std.proofs.Common.{◌<◌, List, ℕ, sym, ap, subst, ◌∙◌, arith}
use Rattle.std.specs.Prelude.{Option}
use Rattle.std.proofs.lemmas.List.{get_or_default}
use Rattle.bl_hall.specs.declared.link.Link.{Link}
use Rattle.bl_hall.specs.Linked.{earlier_in, no_link, ordinal_in}
use Rattle.bl_hall.proofs.Ways.{IsOnTheWay, IsWalked, on-next, place_of}
use Rattle.bl_hall.proofs.walk.lines_above.Goals as goal

pub lines-smaller : goal.lines-smaller
lines-smaller c =
    let w : IsWalked c.args.core.now.order c.args.links.now c.args.session c.args.after c.lines.lines.items c.lines.at c.in-Some.line =
    on-next c.args.core.now.order c.args.links.now c.args.session c.args.after c.lines.lines.items c.lines.at c.in-Some.line c.lines.invariant c.in-Some.is
    in
    subst (λ (o : Option ℕ). place_of o < place_of c.lines.at)
    (ap (λ (l : Link). l.earlier) (get_or_default c.args.links.now c.in-Some.line no_link c.index-links-line.result (omega (arith, w.there, c.requires.links.as_many)))
    ∙ sym c.get-at-in-Some.ensures) w.smaller

pub lines-preserved : goal.lines-preserved
lines-preserved c =
    let w : IsWalked c.args.core.now.order c.args.links.now c.args.session c.args.after c.lines.lines.items c.lines.at c.in-Some.line =
    on-next c.args.core.now.order c.args.links.now c.args.session c.args.after c.lines.lines.items c.lines.at c.in-Some.line c.lines.invariant c.in-Some.is
    in
    let above : c.args.after < ordinal_in c.args.core.now.order c.in-Some.line = omega (arith, c.if-ordinal-after.false, c.ordinal.ensures) in
    subst (λ (o : Option ℕ). IsOnTheWay c.args.core.now.order c.args.links.now c.args.session c.args.after c.push.new.self.items o)
    (ap (λ (l : Link). l.earlier) (get_or_default c.args.links.now c.in-Some.line no_link c.index-links-line.result (omega (arith, w.there, c.requires.links.as_many)))
    ∙ sym c.get-at-in-Some.ensures)
    (subst (λ (l : List ℕ). IsOnTheWay c.args.core.now.order c.args.links.now c.args.session c.args.after l (earlier_in c.args.links.now c.in-Some.line)) (sym c.in_ok-push.ensures.items) (w.next above))
