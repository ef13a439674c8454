use Rattle.std.proofs.Common.{◌<◌, subst, arith, refl}
use Rattle.std.specs.Prelude.{All}
use Rattle.std.proofs.lemmas.List.{take_all}
use Rattle.std.proofs.lemmas.List.Elements.{All-more}
use Rattle.bl_policy.specs.declared.access.Access.{Access}
use Rattle.bl_write.proofs.knows.are_in.Goals as goal

pub loop-access-preserved : goal.loop-access-preserved
loop-access-preserved c =
    let here : c.access-item.result.doc < c.args.documents = omega (arith, c.if-from-documents.false, c.from.ensures, c.position.ensures) in
    All-more (λ (access : Access). access.doc < c.args.documents) c.args.accesses.now c.loop-access.access-index c.access-item.result c.loop-access-test.true c.loop-access.invariant
    (subst (λ (access : Access). access.doc < c.args.documents) c.access-item.is here)

pub returns : goal.returns
returns c =
    (λ t. subst (λ l. All (λ (access : Access). access.doc < c.args.documents) l) (take_all c.loop-access.access-index c.args.accesses.now (omega arith)) c.loop-access.invariant, λ h. refl)
