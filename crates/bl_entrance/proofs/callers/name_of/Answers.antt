use Rattle.std.proofs.Common.{◌∙◌, ◌<◌, List, ℕ, length, sym, subst, arith}
use Rattle.std.specs.Borrow.{Bor}
use Rattle.bl_name.specs.Name.{IsName}
use Rattle.bl_entrance.proofs.FirstLines.{name-text, named-at, text-or}
use Rattle.bl_entrance.proofs.callers.name_of.Goals as goal

pub returns : goal.returns
returns c =
    let subjects = c.args.names.now.subjects in
    let name = c.subject_name.result.now in
    let lt : c.args.subject < length subjects = omega arith in
    text-or (λ (s : Bor (List ℕ)). s.now) c.bytes.result.now _ c.from_utf8.result _ c.unwrap_or.result c.unwrap_or.ensures
    (name-text c.bytes.result.now (subst IsName (sym c.bytes.ensures.value) c.bytes.ensures.name)) c.from_utf8.ensures.cases
    ∙ c.bytes.ensures.value ∙ named-at subjects c.args.subject name lt c.subject_name.ensures
