use Rattle.bl_options.proofs.Given.{at_none}
use Rattle.bl_words.proofs.CommandLine.{alone_none, unkept_none}
use Rattle.bl_words.proofs.command.alone_of.Goals as goal

pub returns-in_err-limit-clause-none : goal.returns-in_err-limit-clause-none
returns-in_err-limit-clause-none c = at_none _ _ (alone_none c.args.options.now c.in_err-limit.ensures.none)

pub returns-in_err-keeping-clause-none : goal.returns-in_err-keeping-clause-none
returns-in_err-keeping-clause-none c = at_none _ _ (unkept_none c.args.options.now c.in_err-keeping.ensures.none)
