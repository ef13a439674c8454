use Rattle.std.proofs.Common.{◌≡◌, ◌<◌, ℕ, List, length, subst, sym, ap, ◌∙◌, arith, add-one, take, take_all, get_or}
use Rattle.std.specs.List.{AllByRecursion}
use Rattle.bl_trail.specs.TrueText.{HasNoLf}
use Rattle.bl_audit.proofs.WithoutLf.{plain-content, plain-done, plain-more}
use Rattle.bl_audit.proofs.plain.outputs_are_plain.Goals as goal

pub loop-text-preserved : goal.loop-text-preserved
loop-text-preserved c =
    let i = c.loop-text.text-index in
    let same : c.texts-text-items.result.now ≡ c.args.outputs.now = c.texts-text-items.ensures in
    let within : i < length c.args.outputs.now = subst (λ (l : List (List ℕ)). i < length l) same c.loop-text-test.true in
    let text : c.bytes-bytes.result.now ≡ get_or c.args.outputs.now i c.text-item.result =
    c.bytes-bytes.ensures.value ∙ c.text-item.is ∙ ap (λ l. get_or l i c.text-item.result) same in
    let plain : HasNoLf c.bytes-bytes.result.now = subst HasNoLf (sym c.bytes-bytes.ensures.value) (plain-content c.text-item.result c.bytes-bytes.ensures.content.plain) in
    subst (λ k. AllByRecursion HasNoLf (take k c.args.outputs.now)) (sym (add-one i))
    (plain-more c.args.outputs.now i c.bytes-bytes.result.now c.text-item.result within text plain c.loop-text.invariant)

pub returns : goal.returns
returns c =
    plain-done c.args.names.now c.args.outputs.now
    (subst (AllByRecursion HasNoLf) (take_all c.loop-text.text-index c.args.outputs.now (omega (arith, c.loop-text-test.false, ap length c.texts-text-items.ensures))) c.loop-text.invariant)
