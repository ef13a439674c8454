use Rattle.std.proofs.Common.{◌++◌, take, ap, ◌∙◌, refl}
use Rattle.std.specs.Arc.{arc_value}
use Rattle.bl_document.specs.Content.{added}
use Rattle.bl_document.proofs.Fronts.{has-alone, grown, has-grown}
use Rattle.bl_document.proofs.document.Document.add.Goals as goal

pub invariant_of-self : goal.invariant_of-self
invariant_of-self c =
    has-alone c.self.inside.len (arc_value c.self.inside.bytes).items c.self.invariant _
    (c.in_err-extend.ensures.err ∙ ap (λ v. take c.self.inside.len v.items) c.in-Some.ensures.value)

pub invariant_of-self-in-Some : goal.invariant_of-self-in-Some
invariant_of-self-in-Some c =
    has-grown c.self.inside.len (arc_value c.self.inside.bytes).items c.self.invariant c.args.text.now _ c.min.result _ c.min.ensures
    (c.in_ok-extend.ensures.ok ∙ ap (λ v. take c.self.inside.len v.items ++ take c.min.result c.args.text.now) c.in-Some.ensures.value) refl c.requires

pub returns-in-Some-clause-ok : goal.returns-in-Some-clause-ok
returns-in-Some-clause-ok c =
    grown c.self.inside.len (arc_value c.self.inside.bytes).items c.self.invariant c.args.text.now _ c.min.result _ c.min.ensures
    (c.in_ok-extend.ensures.ok ∙ ap (λ v. take c.self.inside.len v.items ++ take c.min.result c.args.text.now) c.in-Some.ensures.value) refl
    ∙ ap (λ l. added l c.args.text.now) c.self.view_is

pub invariant_of-self-2 : goal.invariant_of-self-2
invariant_of-self-2 c =
    has-grown c.self.inside.len (arc_value c.self.inside.bytes).items c.self.invariant c.args.text.now _ c.min.result _ c.min.ensures
    (c.in_ok-self-inside.ensures ∙ ap (λ l. take c.self.inside.len l ++ take c.min.result c.args.text.now) (c.as_slice.ensures.value ∙ ap (λ v. v.items) c.deref.ensures)) refl c.requires

pub returns-clause-ok : goal.returns-clause-ok
returns-clause-ok c =
    grown c.self.inside.len (arc_value c.self.inside.bytes).items c.self.invariant c.args.text.now _ c.min.result _ c.min.ensures
    (c.in_ok-self-inside.ensures ∙ ap (λ l. take c.self.inside.len l ++ take c.min.result c.args.text.now) (c.as_slice.ensures.value ∙ ap (λ v. v.items) c.deref.ensures)) refl
    ∙ ap (λ l. added l c.args.text.now) c.self.view_is
