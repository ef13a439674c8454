use Rattle.std.proofs.Common.{[], ap, ◌∙◌, refl, subst}
use Rattle.bl_wire.proofs.PutLaws.{puts-nil}
use Rattle.bl_wire.specs.Watch.{end_state}
use Rattle.bl_chain_serving.specs.Telling.{HasToldWhy}
use Rattle.bl_chain_serving.proofs.Words.{said-behind, why-behind}
use Rattle.bl_chain_serving.proofs.serve.serve_chain.Goals as goal

pub loop-init : goal.loop-init
loop-init g c = (c.requires.ready, refl, ([], puts-nil _ _ refl))

pub returns-in-End-clause-told : goal.returns-in-End-clause-told
returns-in-End-clause-told g c =
    why-behind (end_state g.E.Write.contents c.args.errors.now) (end_state g.E.Write.contents c.loop.errors)
    (end_state g.E.Write.contents c.run_once.new.errors) c.args.chain.now.name.now c.in-End.status c.loop.invariant.2
    (subst (λ name. HasToldWhy name c.in-End.status (end_state g.E.Write.contents c.loop.errors) (end_state g.E.Write.contents c.run_once.new.errors))
    (ap (λ named. named.now) c.loop.invariant.1) c.in-End.ensures.told)

pub loop-preserved : goal.loop-preserved
loop-preserved g c = (
  c.in-Next.ensures.follows.ready,
  c.in-Next.ensures.name ∙ c.loop.invariant.1,
  said-behind (end_state g.E.Write.contents c.args.errors.now) (end_state g.E.Write.contents c.loop.errors)
      (end_state g.E.Write.contents c.run_once.new.errors) c.loop.invariant.2 c.in-Next.ensures.told,
)
