use Rattle.std.proofs.Common.{refl, ap, ◌∙◌, inl, arith, set, cond}
use Rattle.bl_order.specs.Machine.{Starts, Running, Ended}
use Rattle.bl_replay.specs.declared.place.Stand.TheVariants as stand
use Rattle.bl_replay.proofs.Moving.{many-places}
use Rattle.bl_replay.proofs.Queueing.{may-queued}
use Rattle.bl_replay.proofs.Standing.{keeps-stood}
use Rattle.bl_replay.proofs.replayer.Replayer.begin.Goals as goal

pub started-requires : goal.started-requires
started-requires c = may-queued c.requires.0 c.args.self.now c.requires.1 c.claims_go_by_number.ensures.conflict c.args.n c.requires.2

pub end-requires : goal.end-requires
end-requires c = inl (may-queued c.requires.0 c.args.self.now c.requires.1 c.claims_go_by_number.ensures.conflict c.args.n c.requires.2)

pub returns-then-runs-clause-keeps : goal.returns-then-runs-clause-keeps
returns-then-runs-clause-keeps c x keeps may runs =
    keeps-stood x (Starts c.args.n) c.args.self.now _ c.args.n c.index_mut.result.now stand.Running keeps may c.steps_lead_on.ensures.next
    (record { setup = refl; limit = refl; sessions = refl; order = refl; phases = ap (λ b. set x.phases c.args.n (cond b Running Ended)) (runs ∙ c.if-runs.true) })
    (omega (arith, may.there, many-places x c.args.self.now keeps)) c.index_mut.ensures.value
    (record { setup = refl; limit = refl; weight = refl; marks = refl; monitor = refl; answers = refl; sessions = refl; places = refl; queues = c.started.ensures })

pub returns-else-runs-clause-keeps : goal.returns-else-runs-clause-keeps
returns-else-runs-clause-keeps c x keeps may runs =
    keeps-stood x (Starts c.args.n) c.args.self.now _ c.args.n c.index_mut-else-runs.result.now stand.Ended keeps may c.steps_lead_on.ensures.next
    (record { setup = refl; limit = refl; sessions = refl; order = refl; phases = ap (λ b. set x.phases c.args.n (cond b Running Ended)) (runs ∙ c.if-runs.false) })
    (omega (arith, may.there, many-places x c.args.self.now keeps)) c.index_mut-else-runs.ensures.value
    (record { setup = refl; limit = refl; weight = refl; marks = refl; monitor = refl; answers = refl; sessions = refl; places = refl; queues = c.end.ensures })
