use Rattle.std.proofs.Common.{codes}
use Rattle.bl_options.proofs.Given.{none_weaker}
use Rattle.bl_words.specs.Words.{HasNoCommand, HasNoEvent}
use Rattle.bl_words.proofs.CommandLine.{event_none}
use Rattle.bl_words.proofs.command.explain_of.Goals as goal

pub returns-in-Some-clause-none : goal.returns-in-Some-clause-none
returns-in-Some-clause-none c =
    none_weaker _ (HasNoEvent c.args.options.now) (HasNoCommand (codes "explain") c.args.options.now)
    (event_none c.args.options.now c.in-Some.field-0.now c.in-Some.ensures) c.explain_event_of.ensures.none
