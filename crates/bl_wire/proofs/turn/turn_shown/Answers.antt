use Rattle.std.proofs.Common.{sym, length, refl, subst, ◌∙◌, ◌<◌, inl, inr}
use Rattle.bl_work.specs.LineGrammar.{most_line_bytes}
use Rattle.bl_wire.specs.declared.held.Look.TheVariants.{Blank, BlankThenCr}
use Rattle.bl_wire.proofs.TurnLaws.{turn_blank, text_said}
use Rattle.bl_wire.proofs.turn.turn_shown.Goals as goal

pub returns-in-Filled-clause-turn : goal.returns-in-Filled-clause-turn
returns-in-Filled-clause-turn c =
    text_said c.args.names.now c.args.line.now c.text_held.result.now (sym c.in-Filled.is ∙ c.look_on.ensures) c.text_held.ensures c.said.result c.said.ensures.said

pub returns-in-Filled-clause-long : goal.returns-in-Filled-clause-long
returns-in-Filled-clause-long c long = c.said.ensures.long (subst (λ t. most_line_bytes < length t) (sym c.text_held.ensures) long)

pub returns-in-Blank-clause-turn : goal.returns-in-Blank-clause-turn
returns-in-Blank-clause-turn c =
    elim c.in-Blank.is [
      | inl is ↦ turn_blank c.args.names.now c.args.line.now Blank (sym is ∙ c.look_on.ensures) refl
      | inr is ↦ turn_blank c.args.names.now c.args.line.now BlankThenCr (sym is ∙ c.look_on.ensures) refl
    ]
