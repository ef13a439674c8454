use Rattle.std.proofs.Common.{[], ◌∷◌, refl, arith}
use Rattle.std.specs.Prelude.{Contains}
use Rattle.std.proofs.lemmas.List.Elements.{All-append}
use Rattle.bl_work.specs.FirstWhenFault.{same_name}
use Rattle.bl_check.proofs.Firsts.{first_behind, first_before, exits}
use Rattle.bl_check.proofs.Passes.{pass_goes_on_at, pass_stops_at, pass_ends, documents_of, documents_additive, no_access}
use Rattle.bl_check.proofs.known.check_accesses_known.Goals as goal

pub returns-in_err-check_document_known : goal.returns-in_err-check_document_known
returns-in_err-check_document_known c =
    let known = Contains c.args.names.now.documents in
    exits known same_name _ _ _ c.from_residual.ensures.1
    (first_before known same_name (c.args.first.document.now ∷ []) (documents_of c.args.more.now) _ c.in_err-check_document_known.ensures)

pub returns-in_err-check_document_known-2 : goal.returns-in_err-check_document_known-2
returns-in_err-check_document_known-2 c =
    let known = Contains c.args.names.now.documents in
    exits known same_name _ _ _ c.from_residual-in_err-check_document_known-2.ensures.1
    (first_behind known same_name (c.args.first.document.now ∷ []) (documents_of c.args.more.now) _ c.in_ok-check_document_known.ensures
    (pass_stops_at documents_of documents_additive known same_name c.args.more.now (documents_of c.args.more.now) refl c.loop-access.access-index no_access _ (omega arith)
    c.loop-access.invariant c.in_err-check_document_known-2.ensures))

pub loop-access-preserved : goal.loop-access-preserved
loop-access-preserved c =
    pass_goes_on_at documents_of documents_additive (Contains c.args.names.now.documents) c.args.more.now c.loop-access.access-index no_access (omega arith)
    c.loop-access.invariant c.in_ok-check_document_known-2.ensures

pub returns : goal.returns
returns c =
    let known = Contains c.args.names.now.documents in
    All-append known (c.args.first.document.now ∷ []) (documents_of c.args.more.now) c.in_ok-check_document_known.ensures
    (pass_ends documents_of known c.args.more.now (documents_of c.args.more.now) refl c.loop-access.access-index (omega arith) c.loop-access.invariant)
