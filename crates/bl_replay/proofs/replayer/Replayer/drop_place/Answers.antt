use Rattle.std.proofs.Common.{refl}
use Rattle.bl_order.specs.Machine.{Loses}
use Rattle.bl_replay.specs.declared.place.Stand.TheVariants.{Lost}
use Rattle.bl_replay.proofs.Queueing.{end-queued, lost-within}
use Rattle.bl_replay.proofs.Standing.{keeps-stood}
use Rattle.bl_replay.proofs.replayer.Replayer.drop_place.Goals as goal

pub end-requires : goal.end-requires
end-requires c = end-queued c.requires.0 c.args.self.now c.requires.1 c.claims_go_by_number.ensures.conflict c.args.n c.requires.2

pub returns-clause-keeps : goal.returns-clause-keeps
returns-clause-keeps c x keeps needs =
    keeps-stood x (Loses c.args.n) c.args.self.now _ c.args.n c.index_mut.result.now Lost keeps needs c.steps_lead_on.ensures.next
    (record { setup = refl; limit = refl; sessions = refl; order = refl; phases = refl })
    (lost-within x c.args.self.now keeps c.args.n needs) c.index_mut.ensures.value
    (record { setup = refl; limit = refl; weight = refl; marks = refl; monitor = refl; answers = refl; sessions = refl; places = refl; queues = c.end.ensures })
