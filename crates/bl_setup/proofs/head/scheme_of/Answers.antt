use Rattle.std.proofs.Common.{refl, ◌∙◌}
use Rattle.bl_setup.specs.FirstSetupFault.{ranked}
use Rattle.bl_declare.specs.Words.{names_of}
use Rattle.bl_declare.proofs.Parts.{exits}
use Rattle.bl_setup.proofs.HeadFaults.{categories_refused}
use Rattle.bl_setup.proofs.HeadLemmas.{names_proper}
use Rattle.bl_setup.proofs.TakingLemmas.{spells_nothing}
use Rattle.bl_setup.proofs.head.scheme_of.Goals as goal

pub returns-in_err-words-clause-fault : goal.returns-in_err-words-clause-fault
returns-in_err-words-clause-fault c =
    exits _ _ _ _ c.from_residual.ensures.1 (spells_nothing (ranked c.args.ranks.now) c.args.line.now _ c.in_err-words.ensures.fault)

pub add_names-requires : goal.add_names-requires
add_names-requires c = rw c.as_slice.ensures.value (names_proper (names_of c.in-Categories.words.items) (rw c.in-Categories.is at c.in_ok-words.ensures.proper).1)

pub returns-in_err-new-clause-fault : goal.returns-in_err-new-clause-fault
returns-in_err-new-clause-fault c =
    exits _ _ _ _ c.from_residual-in_err-new.ensures.1
    (categories_refused c.args.line.now c.args.ranks.now (names_of c.in-Categories.words.items) c.as_slice-2.result.now c.in_err-new.field-0.0
    (c.as_slice-2.ensures.value ∙ c.in_ok-add_names.ensures ∙ rw (c.new-names.ensures.items, c.as_slice.ensures.value) refl) c.requires (rw c.in-Categories.is at c.in_ok-words.ensures.spelled) c.in_err-new.ensures.err)
