use Rattle.std.proofs.Common.{subst}
use Rattle.std.specs.Prelude.{Contains}
use Rattle.std.proofs.lemmas.List.Elements.{All-head, All-tail, All-contains}
use Rattle.bl_check.proofs.Declared.{is_same}
use Rattle.bl_check.proofs.Firsts.{all_one}
use Rattle.bl_check.proofs.Passes.{documents_of}
use Rattle.bl_check.proofs.known.check_used_known.Goals as goal

pub returns-then-eq : goal.returns-then-eq
returns-then-eq c =
    let known = Contains c.args.names.now.documents in
    all_one known c.args.name.now (subst known (is_same _ _ c.if-eq.ensures) (All-head known c.args.first.document.now (documents_of c.args.more.now) c.requires))

pub returns-then-has_document : goal.returns-then-has_document
returns-then-has_document c =
    let known = Contains c.args.names.now.documents in
    all_one known c.args.name.now (All-contains known (documents_of c.args.more.now) c.args.name.now
    (All-tail known c.args.first.document.now (documents_of c.args.more.now) c.requires) (c.has_document.ensures.0 c.if-has_document.true))
