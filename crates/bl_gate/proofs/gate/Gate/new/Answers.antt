use Rattle.std.proofs.Common.{rules, ◌≡◌, List, [], ◌∷◌, ◌++◌, Option, Some, sym, ap, ◌∙◌, subst}
use Rattle.atomic_table.specs.Table.{opening}
use Rattle.bl_hall.specs.Chronicle.{Chronicle}
use Rattle.bl_gate.specs.Views.{opener}
use Rattle.bl_gate.specs.Turns.{Kept}
use Rattle.bl_gate.proofs.Steps.{opens}
use Rattle.bl_gate.proofs.gate.Gate.new.Goals as goal

pub new-requires-2 : goal.new-requires-2
new-requires-2 c =
    let h : Chronicle = c.args.hall in
    let one : c.push_reserved.new.self.items ≡ Some h ∷ [] = c.push_reserved.ensures.items ∙ (ap (λ (l : List (Option Chronicle)). l ++ Some c.in-Ok-new.boxed ∷ []) c.in-Ok.ensures.items ∙ ap (λ (k : Chronicle). Some k ∷ []) c.in-Ok-new.ensures.ok) in
    subst (λ (l : List (Option Chronicle)). Kept c.of-about.result.value (opening (0 ∷ 0 ∷ []) l (opener c.of-about.result.value))) (sym one)
    (subst (λ (b : Chronicle). Kept b (opening (0 ∷ 0 ∷ []) (Some h ∷ []) (opener b))) (sym c.of-about.ensures) (opens h c.core.ensures.trail))

pub invariant_of-result : goal.invariant_of-result
invariant_of-result c = search rules

pub returns-in-Ok-new-2-clause-parts : goal.returns-in-Ok-new-2-clause-parts
returns-in-Ok-new-2-clause-parts c = search rules
