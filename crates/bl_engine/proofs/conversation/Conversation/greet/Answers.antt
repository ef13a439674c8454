use Rattle.std.proofs.Common.{refl, sym, ◌∙◌}
use Rattle.bl_engine.proofs.Turnings.{greets_on, greets_hello, greets_other}
use Rattle.bl_engine.proofs.conversation.Conversation.greet.Goals as goal

pub returns-then-is_skip-clause-takes : goal.returns-then-is_skip-clause-takes
returns-then-is_skip-clause-takes c = greets_on c.args.self.now c.args.self.now c.args.turn.now refl refl refl c.requires c.requires (sym c.is_skip.ensures ∙ c.if-is_skip.true)

pub returns-in-Some-clause-takes : goal.returns-in-Some-clause-takes
returns-in-Some-clause-takes c = greets_hello c.args.self.now _ c.args.turn.now refl refl refl c.in-Some.subject c.requires refl (sym c.greeted.ensures ∙ c.in-Some.is)

pub returns-in-None-clause-takes : goal.returns-in-None-clause-takes
returns-in-None-clause-takes c =
    greets_other c.args.self.now _ c.args.turn.now refl refl refl c.requires refl (sym c.is_skip.ensures ∙ c.if-is_skip.false) (sym c.greeted.ensures ∙ c.in-None.is)
