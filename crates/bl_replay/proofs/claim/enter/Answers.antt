use Rattle.std.proofs.Common.{◌-◌, ◌∙◌, sym, subst}
use Rattle.bl_queue.specs.Claims.{AreClaims}
use Rattle.bl_replay.specs.Kept.{task_in}
use Rattle.bl_replay.proofs.Claiming.{claims-fit}
use Rattle.bl_replay.proofs.claim.enter.Goals as goal

pub enter-requires-clause-claims : goal.enter-requires-clause-claims
enter-requires-clause-claims c =
    subst (AreClaims c.args.queues.now.cowns) (sym (c.deref.ensures.value ∙ c.in_ok-list_claims.ensures))
    (claims-fit (task_in c.args.place) c.args.queues.now.cowns c.requires.cowns
    (c.claims_go_by_number.ensures.apart (task_in c.args.place) c.requires.task)
    (c.claims_go_by_number.ensures.known (task_in c.args.place) (c.args.queues.now.cowns - 1) c.requires.known))
