use Rattle.std.proofs.Common.{◌∙◌, sym}
use Rattle.bl_gate.specs.Gates.{hall_seen}
use Rattle.bl_keeper.proofs.Keeping.{follows_through, kept_by, kept_later, kept_now, stands_later}
use Rattle.bl_keeper.proofs.catch.catch_up.Goals as goal

pub lines-lines-requires : goal.lines-lines-requires
lines-lines-requires g c none =
    let follows = follows_through c.args.pass.now c.take.result c.turn-turn.result c.turn-turn.result c.take.ensures.taken c.turn-turn.ensures.follows (λ i. c.turn-turn.result) in
    stands_later c.args.pass.now c.turn-turn.result c.hall-hall.result.now c.args.journal.now.bookmark (g.D.Device.now c.args.journal.now.log.device)
    (c.requires.kept none) follows c.hall-hall.ensures

pub returns-in-Ok-clause-kept : goal.returns-in-Ok-clause-kept
returns-in-Ok-clause-kept g c =
    let follows = follows_through c.args.pass.now c.take.result c.turn-turn.result c.leave.result c.take.ensures.taken c.turn-turn.ensures.follows c.leave.ensures in
    kept_by c.args.pass.now c.leave.result c.hall-hall.result.now c.args.journal.now.bookmark c.write.new.self.bookmark c.in_ok-lines.field-0
    (g.D.Device.now c.args.journal.now.log.device) (g.D.Device.now c.write.new.self.log.device)
    (c.requires.kept c.in_default.is) follows (c.hall-hall.ensures ∙ (λ i. hall_seen (sym c.leave.ensures i))) c.in-Ok.ensures.kept c.in_ok-lines.ensures.lines

pub returns-in-Ok-clause-stays : goal.returns-in-Ok-clause-stays
returns-in-Ok-clause-stays g c none =
    let follows = follows_through c.args.pass.now c.take.result c.turn-turn.result c.leave.result c.take.ensures.taken c.turn-turn.ensures.follows c.leave.ensures in
    kept_now (hall_seen c.leave.result) c.write.new.self.bookmark (g.D.Device.now c.write.new.self.log.device)
    (kept_by c.args.pass.now c.leave.result c.hall-hall.result.now c.args.journal.now.bookmark c.write.new.self.bookmark c.in_ok-lines.field-0
    (g.D.Device.now c.args.journal.now.log.device) (g.D.Device.now c.write.new.self.log.device)
    (c.requires.kept c.in_default.is) follows (c.hall-hall.ensures ∙ (λ i. hall_seen (sym c.leave.ensures i))) c.in-Ok.ensures.kept c.in_ok-lines.ensures.lines)

pub returns-in_err-lines-clause-stays : goal.returns-in_err-lines-clause-stays
returns-in_err-lines-clause-stays g c none =
    let follows = follows_through c.args.pass.now c.take.result c.turn-turn.result c.leave.result c.take.ensures.taken c.turn-turn.ensures.follows c.leave.ensures in
    kept_later c.args.pass.now c.leave.result c.args.journal.now.bookmark (g.D.Device.now c.args.journal.now.log.device) (c.requires.kept none) follows
