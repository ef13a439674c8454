use Rattle.std.proofs.Common.{refl}
use Rattle.bl_replay.proofs.Opening.{keeps-opened}
use Rattle.bl_replay.proofs.replayer.Replayer.add_session.Goals as goal

pub returns-clause-keeps : goal.returns-clause-keeps
returns-clause-keeps c x keeps needs = keeps-opened x c.args.subject c.args.self.now _ keeps needs c.steps_lead_on.ensures.next (record {
  setup = refl;
  limit = refl;
  weight = refl;
  marks = refl;
  monitor = refl;
  answers = refl;
  places = refl;
  queues = refl;
  sessions = c.in_ok-push.ensures.items;
})
