use Rattle.std.proofs.Common.{◌++◌, List, ℕ, [], sym, ap, subst, ◌∙◌, append_assoc, append-nil, refl}
use Rattle.std.specs.Prelude.{Some}
use Rattle.std.proofs.lemmas.List.Elements.{All-pop}
use Rattle.bl_hall.specs.Linked.{AreGathered, HasFamily}
use Rattle.bl_hall.proofs.Ways.{gather-step, nothing-left}
use Rattle.bl_hall.proofs.walk.gather_families.Goals as goal

pub lines-preserved : goal.lines-preserved
lines-preserved c = (
  (All-pop (HasFamily c.args.links.now) c.lines.lines.items c.pop.new.self.items (Some c.in-Some.line) c.in-Some.ensures.items c.lines.invariant.0).0,
  λ tail g.
      let fam = c.in_ok-push_family.ensures in
      subst (AreGathered c.args.links.now c.args.lines.items)
      (sym (append_assoc c.lines.places.items fam.0 tail) ∙ ap (λ t. t ++ tail) (sym fam.2))
      (c.lines.invariant.1 (fam.0 ++ tail)
      (subst (λ (l : List ℕ). AreGathered c.args.links.now l (fam.0 ++ tail)) (sym c.in-Some.ensures.items)
      (gather-step c.args.links.now c.pop.new.self.items c.in-Some.line fam.0 tail fam.1 g))),
)

pub returns : goal.returns
returns c =
    subst (AreGathered c.args.links.now c.args.lines.items) (append-nil c.lines.places.items)
    (c.lines.invariant.1 []
    (subst (λ (l : List ℕ). AreGathered c.args.links.now l []) (sym (nothing-left c.lines.lines.items _ c.pop.result c.lines.lines.ok.0 c.pop.ensures.variant c.in_default.not-Some)) refl))
