use Rattle.std.proofs.lemmas.Result.{IfErr-weaker}
use Rattle.bl_setup.specs.Draft.{setup_of}
use Rattle.bl_setup.specs.FirstSetupFault.{declared}
use Rattle.bl_declare.specs.Words.{declaration_of}
use Rattle.bl_declare.proofs.Parts.{exits}
use Rattle.bl_setup.proofs.TakingLemmas.{spells_nothing, line_refused}
use Rattle.bl_setup.proofs.draft.Draft.add_line.Goals as goal

pub returns-in_err-words-clause-fault : goal.returns-in_err-words-clause-fault
returns-in_err-words-clause-fault c =
    exits _ _ _ _ c.from_residual.ensures.1 (spells_nothing (declared (setup_of c.args.self.now)) c.args.line.now _ c.in_err-words.ensures.fault)

pub returns-clause-fault : goal.returns-clause-fault
returns-clause-fault c =
    IfErr-weaker c.add.result _ _
    (λ kind. line_refused (declared (setup_of c.args.self.now)) c.args.line.now (declaration_of c.in_ok-words.words) kind c.in_ok-words.ensures.spelled)
    c.add.ensures.fault
