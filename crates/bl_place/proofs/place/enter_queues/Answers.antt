use Rattle.std.proofs.Common.{◌∙◌, ◌+◌, ℕ, sym, subst, arith}
use Rattle.bl_queue.specs.Claims.{AreClaims}
use Rattle.bl_queue.specs.Queues.{Queue}
use Rattle.bl_place.specs.Places.{task_in}
use Rattle.bl_place.specs.Queueing.{claims_for, QueuesTell}
use Rattle.bl_place.proofs.Entering.{tell-more}
use Rattle.bl_place.proofs.place.enter_queues.Goals as goal

pub enter-requires-clause-claims : goal.enter-requires-clause-claims
enter-requires-clause-claims c =
    subst (AreClaims c.loop-n.queues.cowns) (sym (c.as_slice.ensures ∙ c.claims_at-claims.ensures))
    (subst (λ (k : ℕ). AreClaims k (claims_for (task_in c.args.places.now c.loop-n.n))) (sym c.loop-n.invariant.cowns_are)
    (c.requires.may c.loop-n.n (omega arith) (omega arith)).claims)

pub loop-n-preserved : goal.loop-n-preserved
loop-n-preserved c =
    subst (λ (q : Queue). QueuesTell c.args.queues.now.cowns c.args.queues.now.limit c.args.places.now (c.loop-n.n + 1) q) (sym c.enter.ensures)
    (tell-more c.args.queues.now.cowns c.args.queues.now.limit c.args.places.now c.loop-n.n c.loop-n.queues c.as_slice.result.now c.loop-n.invariant
    (c.as_slice.ensures ∙ c.claims_at-claims.ensures) (c.requires.may c.loop-n.n (omega arith) (omega arith)).waits)
