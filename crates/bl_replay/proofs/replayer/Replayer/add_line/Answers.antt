use Rattle.std.proofs.Common.{◌+◌, refl, ap, arith}
use Rattle.bl_queue.specs.Queues.{Queue}
use Rattle.bl_replay.proofs.Admitting.{has-room, is-task, keeps-admitted, known-cowns, session-read, speaker-known}
use Rattle.bl_replay.proofs.replayer.Replayer.add_line.Goals as goal

pub enter-requires-clause-known : goal.enter-requires-clause-known
enter-requires-clause-known c =
    known-cowns c.requires.0.setup c.args.work 0 c.args.self.now.queues.cowns (ap (λ (q : Queue). q.cowns) c.requires.1.queues)
    (c.read_lines_are_in_the_setup.ensures.work c.requires.0.setup c.requires.2.1.0 c.args.work c.requires.1.agree c.requires.2.1.1)

pub enter-requires-clause-limit : goal.enter-requires-clause-limit
enter-requires-clause-limit c = omega (arith, ap (λ (q : Queue). q.limit) c.requires.1.queues, c.requires.1.low)

pub enter-requires-clause-room : goal.enter-requires-clause-room
enter-requires-clause-room c =
    let room = has-room c.requires.0 c.args.self.now c.args.session c.args.ordinal c.args.work c.requires.1 c.requires.2 c.steps_lead_on.ensures.next c.the_order_has_room.ensures.order in
    omega (arith, room, ap (λ (q : Queue). q.limit) c.requires.1.queues)

pub enter-requires-clause-task : goal.enter-requires-clause-task
enter-requires-clause-task c =
    is-task c.requires.0 c.args.self.now c.args.session c.args.ordinal c.args.work c.requires.1 c.requires.2 c.steps_lead_on.ensures.next c.tasks_are_of_scripts.ensures

pub returns-clause-keeps : goal.returns-clause-keeps
returns-clause-keeps c x keeps needs =
    let row = session-read x c.args.self.now keeps c.args.session c.index_mut-row.result.now needs.0 c.index_mut-row.ensures.value in
    keeps-admitted x c.args.self.now _ c.args.session c.args.ordinal c.index_mut-row.result.now.subject c.args.work keeps needs c.steps_lead_on.ensures.next row.0
    (speaker-known x c.args.self.now keeps c.args.session c.index_mut-row.result.now needs.0 c.index_mut-row.ensures.value)
    (c.read_lines_are_in_the_setup.ensures.work x.setup needs.1.0 c.args.work keeps.agree needs.1.1)
    (record {
      setup = refl;
      limit = refl;
      weight = ap (λ n. c.args.self.now.weight + n) c.weight-more.ensures.number;
      marks = refl;
      monitor = refl;
      answers = refl;
      sessions = refl;
      places = c.in_ok-enter.ensures.places;
      queues = c.in_ok-enter.ensures.queues;
    })
