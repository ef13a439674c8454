use Rattle.std.proofs.lemmas.Result.{IfOk-weaker}
use Rattle.bl_explain.specs.declared.setup_lines.Sought.TheVariants as sought
use Rattle.bl_explain_text.specs.Reasons.{document_name, subject_name}
use Rattle.bl_explaining.specs.Places.{IsDeclaredAt, IsRightAt}
use Rattle.bl_explaining.proofs.places.right_at.Goals as goal

pub returns : goal.returns
returns c =
    let t = c.args.setting.now in
    let access = c.args.access.now in
    let by = c.subject_name-subject.result in
    let of_it = c.document_name-document.result in
    IfOk-weaker c.declared_at.result (IsDeclaredAt t.moment.bytes.now (sought.Right by of_it access.mode))
    (IsRightAt t.moment.bytes.now (subject_name t.moment.setup.now.names t.subject) (document_name t.moment.setup.now.names access.doc) access.mode)
    (λ number found. (by, of_it, c.subject_name-subject.ensures, c.document_name-document.ensures, found)) c.declared_at.ensures
