use Rattle.std.proofs.Common.{refl}
use Rattle.bl_engine.proofs.Outcomes.{if_ok-map, not_some}
use Rattle.bl_engine.proofs.Hearings.{ends_line, ends_quietly, ends_block}
use Rattle.bl_engine.proofs.conversation.Conversation.end.Goals as goal

pub returns-in-Some-clause-ok : goal.returns-in-Some-clause-ok
returns-in-Some-clause-ok c =
    if_ok-map c.take_line.result
    (λ request takes. ends_line c.args.names.now c.args.self.now c.let_go_begun.new.self _ c.take_line.new.self c.in-Some.held request c.in-Some.ensures.some c.requires c.in-Some.ensures.same
    refl refl refl refl refl refl refl takes)
    c.take_line.ensures.takes

pub returns-in-Greets-clause-ok : goal.returns-in-Greets-clause-ok
returns-in-Greets-clause-ok c =
    let none = not_some c.let_go_begun.result c.in_default.not-Some in
    ends_quietly c.args.names.now c.args.self.now c.let_go_begun.new.self _ (c.let_go_begun.ensures.kept none) (c.let_go_begun.ensures.none none) c.in-Greets.is
    refl refl refl refl refl refl refl

pub returns-in-Listens-clause-ok : goal.returns-in-Listens-clause-ok
returns-in-Listens-clause-ok c =
    let none = not_some c.let_go_begun.result c.in_default.not-Some in
    ends_block c.args.names.now c.args.self.now c.let_go_begun.new.self _ (c.let_go_begun.ensures.kept none) (c.let_go_begun.ensures.none none) c.in-Listens.is
    refl refl refl refl refl refl refl
