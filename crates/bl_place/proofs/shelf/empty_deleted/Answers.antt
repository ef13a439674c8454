use Rattle.std.proofs.Common.{◌<◌, ℕ, length, refl, sym, subst, ap, ◌∙◌, eq-eqb}
use Rattle.bl_policy.specs.declared.rule.Rule.{Rule}
use Rattle.bl_order.specs.Past.{deletes}
use Rattle.bl_place.proofs.shelf.empty_deleted.Goals as goal

pub bounds-shelves-position : goal.bounds-shelves-position
bounds-shelves-position c =
    subst (λ (n : ℕ). n < length c.args.shelves.now) (sym c.position.ensures)
    (c.requires c.in-Delete.doc (ap (λ (r : Rule). deletes r c.in-Delete.doc) c.in-Delete.is ∙ eq-eqb c.in-Delete.doc c.in-Delete.doc refl))
