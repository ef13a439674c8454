use Rattle.std.proofs.Common.{◌+◌, sym, ◌∙◌, ap, subst}
use Rattle.bl_state.specs.declared.line.Line.{Line}
use Rattle.bl_state.specs.Lines.{IsLineOf, StandsBehind, documents_from, subjects_from}
use Rattle.bl_state.proofs.Following.{behind-categories, behind-document, behind-subject, left-as}
use Rattle.bl_state.proofs.line.line_behind.Goals as goal

pub returns-in-Categories : goal.returns-in-Categories
returns-in-Categories c =
    subst (λ (l : Line). StandsBehind c.args.setup.now l c.subject_from.result) (sym c.in-Categories.is)
    (behind-categories c.args.setup.now c.subject_from.result c.subject_from.ensures)

pub returns-in-Subject : goal.returns-in-Subject
returns-in-Subject c =
    let setup = c.args.setup.now in
    let s = c.in-Subject.subject in
    let next = c.subject_from-in-Subject.result in
    subst (λ (l : Line). StandsBehind setup l next) (sym c.in-Subject.is)
    (behind-subject setup c.requires.whole.agree s next (subst (IsLineOf setup) c.in-Subject.is c.requires.there)
    (left-as setup (subjects_from setup (s + 1)) (subjects_from setup (c.from.result + 1)) next
    (ap (λ k. subjects_from setup (k + 1)) (sym (c.from.ensures ∙ c.position.ensures))) c.subject_from-in-Subject.ensures))

pub returns-in-Document : goal.returns-in-Document
returns-in-Document c =
    let setup = c.args.setup.now in
    let d = c.in-Document.doc in
    let next = c.document_from.result in
    subst (λ (l : Line). StandsBehind setup l next) (sym c.in-Document.is)
    (behind-document setup c.requires.whole.agree d next (subst (IsLineOf setup) c.in-Document.is c.requires.there)
    (left-as setup (documents_from setup (d + 1)) (documents_from setup (c.from-in-Document.result + 1)) next
    (ap (λ k. documents_from setup (k + 1)) (sym (c.from-in-Document.ensures ∙ c.position-in-Document.ensures))) c.document_from.ensures))
