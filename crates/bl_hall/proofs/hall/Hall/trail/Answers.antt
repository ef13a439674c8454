use Rattle.std.proofs.Common.{sym, ap, subst, ◌∙◌}
use Rattle.std.specs.Prelude.{map}
use Rattle.bl_hall.specs.Chronicle.{Chronicle, HasTrail, kept_of}
use Rattle.bl_hall.specs.Recalled.{works_of}
use Rattle.bl_hall.proofs.Recalling.{kept-image}
use Rattle.bl_hall.proofs.hall.Hall.trail.Goals as goal

pub returns-clause-value : goal.returns-clause-value
returns-clause-value c =
    c.as_slice.ensures.value ∙ sym (kept-image (works_of c.self.inside.core.order) c.self.inside.events.items) ∙ ap (λ (h : Chronicle). map kept_of h.trail) c.self.view_is

pub returns-clause-headline : goal.returns-clause-headline
returns-clause-headline c =
    c.headline.ensures.throughout c.args.self.now.setup c.args.self.now.limit c.args.self.now.trail
    (subst HasTrail c.self.view_is c.self.invariant.trail)
