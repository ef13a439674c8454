use Rattle.std.proofs.Common.{◌≡◌, ◌<◌, ◌-◌, ◌+◌, ◌∙◌, false, refl, ap, arith}
use Rattle.bl_engine.specs.Conversations.{Talk}
use Rattle.bl_engine.proofs.Hearings.{heard_whole, line_some, not_ended, scanned_line, scanned_part, waits_fewer}
use Rattle.bl_engine.proofs.conversation.Conversation.hear.Goals as goal

pub returns-in-Some-clause-ok : goal.returns-in-Some-clause-ok
returns-in-Some-clause-ok c =
    heard_whole c.args.names.now c.args.self.now _ c.take_turn.new.self c.in_ok-turn.turn c.in_ok-request.request c.args.bytes.now _ c.in-Some.at c.in-Some.ensures.some c.requires.need
    c.in_ok-turn.ensures.turn refl refl refl refl refl c.in_ok-request.ensures.takes

pub returns-in_ok-request-in-Ends-clause-ok : goal.returns-in_ok-request-in-Ends-clause-ok
returns-in_ok-request-in-Ends-clause-ok c =
    scanned_line c.args.names.now c.args.self.now c.let_go.new.self _ c.take_line.new.self c.in_ok-held.held c.scan.new.held c.in_ok-request-in-Ends.request c.args.bytes.now
    c.in-Some-scan.found.bytes c.in-Some-scan.found.part c.in-Ends.is c.let_go.ensures.same c.in_ok-held.ensures.held
    c.in-Some-scan.ensures.found c.requires.need refl refl refl refl c.in_ok-request-in-Ends.ensures.takes

pub returns-in_ok-request-in-Ends-clause-more : goal.returns-in_ok-request-in-Ends-clause-more
returns-in_ok-request-in-Ends-clause-more c =
    c.in_ok-request-in-Ends.ensures.takes.ended ∙ ap (λ (t : Talk). t.ended) c.let_go.ensures.same.talk ∙ not_ended c.args.self.now.ended c.args.self.now.stage c.requires.need

pub returns-in_ok-request-in-Ends-clause-nearer : goal.returns-in_ok-request-in-Ends-clause-nearer
returns-in_ok-request-in-Ends-clause-nearer c =
    let took = c.in-Some-scan.ensures.found in
    let some = line_some c.in-Some-scan.found.bytes c.in-Some-scan.found.part c.args.bytes.now _ _ _ c.in-Ends.is took in
    waits_fewer c.args.self.now c.take_line.new.self c.requires.need (returns-in_ok-request-in-Ends-clause-more c)
    (omega (arith, some, took.fits, c.let_go.ensures.same.left, c.in_ok-request-in-Ends.ensures.takes.left))

pub returns-in-More-clause-ok : goal.returns-in-More-clause-ok
returns-in-More-clause-ok c =
    scanned_part c.args.names.now c.args.self.now c.let_go.new.self _ c.in_ok-held.held c.scan.new.held c.args.bytes.now c.in-Some-scan.found.bytes c.in-Some-scan.found.part c.in-More.is
    c.let_go.ensures.same c.in_ok-held.ensures.held c.in-Some-scan.ensures.found c.requires.need refl refl refl refl
