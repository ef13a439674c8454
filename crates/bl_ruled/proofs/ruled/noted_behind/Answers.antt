use Rattle.std.proofs.Common.{ap, ◌∙◌}
use Rattle.bl_setup.specs.Setup.{by_version}
use Rattle.bl_order.specs.Machine.{start}
use Rattle.bl_replay.specs.Marks.{lost_later}
use Rattle.bl_ruled.proofs.ruled.noted_behind.Goals as goal

pub follow_to-followed-requires-clause-stands : goal.follow_to-followed-requires-clause-stands
follow_to-followed-requires-clause-stands c = (
  start (by_version c.args.version c.args.setup.now) c.args.limit,
  record {
    keeps = c.in_ok-replayer.ensures.keeps;
    found = c.in_ok-marks.ensures.0;
    are = c.in_ok-marks.ensures.1;
    foretell = λ k. ap (λ m. lost_later m.items k) c.in_ok-replayer.ensures.marks ∙ c.in_ok-marks.ensures.2 k;
  },
)

pub returns : goal.returns
returns c =
    c.in_ok-extent.ensures (start (by_version c.args.version c.args.setup.now) c.args.limit) (record {
      keeps = c.in_ok-replayer.ensures.keeps;
      found = c.in_ok-marks.ensures.0;
      are = c.in_ok-marks.ensures.1;
      foretell = λ k. ap (λ m. lost_later m.items k) c.in_ok-replayer.ensures.marks ∙ c.in_ok-marks.ensures.2 k;
    })
