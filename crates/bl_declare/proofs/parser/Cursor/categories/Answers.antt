use Rattle.std.proofs.Common.{refl, sym, ◌∙◌, inr}
use Rattle.std.proofs.lemmas.List.{append-nil}
use Rattle.bl_declare.specs.Words.{names_of}
use Rattle.bl_declare.proofs.Parts.{name_passes, name_fails, categories_none, categories_open, more_close, more_step, more_no_name, more_fails, of_syntax, exits}
use Rattle.bl_declare.proofs.parser.Cursor.categories.Goals as goal

pub returns-then-not-takes_sign : goal.returns-then-not-takes_sign
returns-then-not-takes_sign c =
    let e = c.if-not-takes_sign.ensures in
    let h = c.new-categories.ensures in
    λ next. rw (h.items, e.0) (categories_none next _ e.1)

pub returns-in_err-name : goal.returns-in_err-name
returns-in_err-name c =
    exits _ _ _ _ c.from_residual.ensures.1
    (of_syntax (λ f next. categories_open next _ _ c.if-not-takes_sign.ensures ∙ name_fails _ _ f) c.in_err-name.ensures)

pub loop-categories-init : goal.loop-categories-init
loop-categories-init c = λ next.
    categories_open next _ _ c.if-not-takes_sign.ensures ∙ name_passes _ _ _ _ c.in_ok-name.ensures ∙ rw (c.in_ok-push.ensures.items, c.new-categories.ensures.items) refl

pub returns-in_err-name-2 : goal.returns-in_err-name-2
returns-in_err-name-2 c =
    exits _ _ _ _ c.from_residual-in_err-name-2.ensures.1
    (of_syntax (λ f next. c.loop-categories.invariant next ∙ more_no_name _ _ _ c.loop-categories-test.ensures f) c.in_err-name-2.ensures)

pub loop-categories-preserved : goal.loop-categories-preserved
loop-categories-preserved c = λ next.
    c.loop-categories.invariant next
    ∙ rw c.in_ok-push-2.ensures.items (more_step next c.loop-categories.categories.items c.in_ok-name-2.field-0 _ _ _ c.loop-categories-test.ensures c.in_ok-name-2.ensures)

pub returns-then-takes_sign : goal.returns-then-takes_sign
returns-then-takes_sign c =
    let e = c.loop-categories-test.ensures in
    λ next. c.loop-categories.invariant next ∙ more_close _ _ _ (sym e.0 ∙ c.if-takes_sign.ensures) ∙ rw (append-nil (names_of c.loop-categories.categories.items)) refl

pub returns : goal.returns
returns c =
    let e = c.loop-categories-test.ensures in
    inr (refl, λ next. c.loop-categories.invariant next ∙ more_fails _ _ e.1 (rw e.0 at c.if-takes_sign.ensures.1))
