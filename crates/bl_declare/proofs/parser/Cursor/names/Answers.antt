use Rattle.std.proofs.Common.{refl, ◌∙◌}
use Rattle.std.proofs.lemmas.List.{append-nil}
use Rattle.bl_declare.specs.Words.{names_of}
use Rattle.bl_declare.proofs.Parts.{names_end, names_step}
use Rattle.bl_declare.proofs.parser.Cursor.names.Goals as goal

pub loop-name-preserved : goal.loop-name-preserved
loop-name-preserved c = λ next. c.loop-name.invariant next ∙ rw c.in_ok-push.ensures.items (names_step next c.loop-name.names.items c.in-Some.name _ _ c.in-Some.ensures)

pub returns : goal.returns
returns c =
    let e = c.in_default.ensures in
    λ next. rw e.0 (c.loop-name.invariant next ∙ names_end _ _ e.1 ∙ rw (append-nil (names_of c.loop-name.names.items)) refl)
