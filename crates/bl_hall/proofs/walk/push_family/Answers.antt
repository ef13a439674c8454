use Rattle.std.proofs.Common.{◌<◌, List, ℕ, length, sym, ap, subst, ◌∙◌}
use Rattle.std.specs.Prelude.{Option}
use Rattle.std.proofs.lemmas.List.{get_or_default}
use Rattle.bl_hall.specs.declared.link.Link.{Link}
use Rattle.bl_hall.specs.Linked.{next_in, no_link}
use Rattle.bl_hall.proofs.Ways.{IsStepped, IsUnderWay, steps_from, under-next, under-start}
use Rattle.bl_hall.proofs.walk.push_family.Goals as goal

pub places-init : goal.places-init
places-init c = under-start c.args.links.now c.args.line c.args.places.now.items c.requires

pub places-smaller : goal.places-smaller
places-smaller c =
    let w : IsStepped c.args.links.now c.args.line c.args.places.now.items c.places.places.items c.places.at c.in-Some.n =
    under-next c.args.links.now c.args.line c.args.places.now.items c.places.places.items c.places.at c.in-Some.n c.places.invariant c.in-Some.is
    in
    subst (λ (o : Option ℕ). steps_from (next_in c.args.links.now) (length c.args.links.now) o < steps_from (next_in c.args.links.now) (length c.args.links.now) c.places.at)
    (ap (λ (l : Link). l.next) (get_or_default c.args.links.now c.in-Some.n no_link c.index-links-n.result w.there) ∙ sym c.get-at.ensures) w.smaller

pub places-preserved : goal.places-preserved
places-preserved c =
    let w : IsStepped c.args.links.now c.args.line c.args.places.now.items c.places.places.items c.places.at c.in-Some.n =
    under-next c.args.links.now c.args.line c.args.places.now.items c.places.places.items c.places.at c.in-Some.n c.places.invariant c.in-Some.is
    in
    subst (λ (o : Option ℕ). IsUnderWay c.args.links.now c.args.line c.args.places.now.items c.push.new.self.items o)
    (ap (λ (l : Link). l.next) (get_or_default c.args.links.now c.in-Some.n no_link c.index-links-n.result w.there) ∙ sym c.get-at.ensures)
    (subst (λ (l : List ℕ). IsUnderWay c.args.links.now c.args.line c.args.places.now.items l (next_in c.args.links.now c.in-Some.n)) (sym c.in_ok-push.ensures.items) w.next)
