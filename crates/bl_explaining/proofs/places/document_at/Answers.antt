use Rattle.std.proofs.lemmas.Result.{IfOk-weaker}
use Rattle.bl_explain.specs.declared.setup_lines.Sought.TheVariants as sought
use Rattle.bl_explain_text.specs.Reasons.{document_name}
use Rattle.bl_explaining.specs.Places.{IsDeclaredAt, IsDocumentAt}
use Rattle.bl_explaining.proofs.places.document_at.Goals as goal

pub returns : goal.returns
returns c =
    let t = c.args.setting.now in
    let name = c.document_name-name.result in
    IfOk-weaker c.declared_at.result (IsDeclaredAt t.moment.bytes.now (sought.Document name)) (IsDocumentAt t.moment.bytes.now (document_name t.moment.setup.now.names c.args.doc))
    (λ number found. (name, c.document_name-name.ensures, found)) c.declared_at.ensures
