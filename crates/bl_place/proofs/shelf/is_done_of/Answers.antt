use Rattle.std.proofs.Common.{◌<◌, List, length, ap, sym, subst, arith, ◌∙◌}
use Rattle.std.specs.Prelude.{All}
use Rattle.bl_policy.specs.declared.access.Access.{Access}
use Rattle.bl_place.specs.declared.shelf.Shelf.{Shelf}
use Rattle.bl_place.proofs.Inputs.{one_more}
use Rattle.bl_place.proofs.shelf.is_done_of.Goals as goal

pub loop-i-preserved : goal.loop-i-preserved
loop-i-preserved c =
    one_more c.args.done.now.inputs c.args.shelves.now c.accesses-accesses.result.now c.loop-i.i c.position.result c.index-accesses-i.result c.index-shelves-position.result
    c.loop-i.invariant (omega (arith, c.inputs.ensures, c.if-inputs-accesses.false)) (omega (arith, c.loop-i-test.true))
    (subst (λ (xs : List Access). All (λ (b : Access). b.doc < length c.args.shelves.now) xs) (sym c.accesses-accesses.ensures) c.requires.shelves)
    c.index-accesses-i.is c.position.ensures c.index-shelves-position.is (c.had.ensures.0 c.if-not-had.false ∙ ap (λ (v : Shelf). v.content) (sym c.index-shelves-position.is))
