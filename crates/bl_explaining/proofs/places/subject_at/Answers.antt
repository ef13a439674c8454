use Rattle.std.proofs.lemmas.Result.{IfOk-weaker}
use Rattle.bl_explain.specs.declared.setup_lines.Sought.TheVariants as sought
use Rattle.bl_explain_text.specs.Reasons.{subject_name}
use Rattle.bl_explaining.specs.Places.{IsDeclaredAt, IsSubjectAt}
use Rattle.bl_explaining.proofs.places.subject_at.Goals as goal

pub returns : goal.returns
returns c =
    let t = c.args.setting.now in
    let name = c.subject_name-name.result in
    IfOk-weaker c.declared_at.result (IsDeclaredAt t.moment.bytes.now (sought.Subject name)) (IsSubjectAt t.moment.bytes.now (subject_name t.moment.setup.now.names t.subject))
    (λ number found. (name, c.subject_name-name.ensures, found)) c.declared_at.ensures
