use Rattle.bl_options.proofs.Given.{at_none}
use Rattle.bl_words.proofs.CommandLine.{chain_none, serve_none, unset_none}
use Rattle.bl_words.proofs.command.serve_of.Goals as goal

pub returns-in_err-hosting-in-Some-clause-none : goal.returns-in_err-hosting-in-Some-clause-none
returns-in_err-hosting-in-Some-clause-none c =
    at_none _ _ (chain_none c.args.options.now c.in-Some.folder.now c.in-Some.ensures c.in_err-hosting-in-Some.ensures.none)

pub returns-in_err-setup-in-None-clause-none : goal.returns-in_err-setup-in-None-clause-none
returns-in_err-setup-in-None-clause-none c =
    at_none _ _ (unset_none c.args.options.now c.in-None.ensures c.in_err-setup-in-None.ensures)

pub returns-in_err-hosting-in-None-clause-none : goal.returns-in_err-hosting-in-None-clause-none
returns-in_err-hosting-in-None-clause-none c =
    at_none _ _ (serve_none c.args.options.now c.in-None.ensures c.in_err-hosting-in-None.ensures.none)
