use Rattle.std.proofs.Common.{List, ℕ, length, sym, subst}
use Rattle.bl_work.specs.Effects.{holds_of}
use Rattle.bl_work.specs.declared.script.Condition.TheVariants.{Has}
use Rattle.bstr.specs.Text.{Contains}
use Rattle.bl_eval.proofs.Pieces.{stands_where, occurs_where, same_tests}
use Rattle.bl_eval.proofs.told.has.Goals as goal

pub returns : goal.returns
returns c =
    let content = c.args.content.now in
    let text = c.args.text.now in
    same_tests c.contains_str.result (holds_of Has content text)
    (λ h. let at : Contains content text = subst (λ (b : List ℕ). Contains b text) c.bytes.ensures.value (subst (λ (n : List ℕ). Contains c.bytes.result.now n) c.bytes-2.ensures.value (c.contains_str.ensures.0 h)) in
    (c.conditions.ensures.has content text).1 (stands_where content text at.0 at.1))
    (λ h. let s = (c.conditions.ensures.has content text).0 h in
    let at : Contains content text = (length s.before, occurs_where content text s) in
    c.contains_str.ensures.1 (subst (λ (n : List ℕ). Contains c.bytes.result.now n) (sym c.bytes-2.ensures.value) (subst (λ (b : List ℕ). Contains b text) (sym c.bytes.ensures.value) at)))
