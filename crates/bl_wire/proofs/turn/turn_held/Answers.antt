use Rattle.std.proofs.Common.{sym, ap, length, refl, ltb-true, ltb-false, subst, take_all, ◌∙◌, ◌<◌, inl, inr}
use Rattle.bl_work.specs.LineGrammar.{most_line_bytes}
use Rattle.bl_wire.specs.Lines.{without_cr}
use Rattle.bl_wire.specs.declared.held.Look.TheVariants.{Blank, BlankThenCr}
use Rattle.bl_wire.proofs.TurnLaws.{turn_blank, turn_long, all_said}
use Rattle.bl_wire.proofs.turn.turn_held.Goals as goal

pub returns-in-Blank-clause-turn : goal.returns-in-Blank-clause-turn
returns-in-Blank-clause-turn c line h =
    elim c.in-Blank.is [
      | inl is ↦ turn_blank c.args.names.now line Blank (sym is ∙ h.look) refl
      | inr is ↦ turn_blank c.args.names.now line BlankThenCr (sym is ∙ h.look) refl
    ]

pub returns-then-held-clause-turn : goal.returns-then-held-clause-turn
returns-then-held-clause-turn c line h = turn_long c.args.names.now line (sym c.in-Filled.is ∙ h.look) (ltb-true 8193 (length line) (sym h.over ∙ c.if-held.true))

pub returns-clause-turn : goal.returns-clause-turn
returns-clause-turn c = all_said c.args.names.now c.args.held.now c.text_held.result.now (sym c.in-Filled.is) c.if-held.false
    (c.text_held.ensures ∙ ap without_cr c.deref.ensures.value) c.said.result c.said.ensures.said

pub returns-clause-long : goal.returns-clause-long
returns-clause-long c line h long =
    let text = c.text_held.ensures ∙ ap without_cr c.deref.ensures.value in
    let all = take_all 8193 line (ltb-false 8193 (length line) (sym h.over ∙ c.if-held.false)) in
    c.said.ensures.long (subst (λ t. most_line_bytes < length t) (sym (text ∙ ap without_cr (h.front ∙ all))) long)
