use Rattle.std.proofs.Common.{rules, ap, ◌∙◌, ◌≡◌, ◌<◌, length, arith, codes, get_or}
use Rattle.bl_trail.proofs.Comparing.{left-output}
use Rattle.bl_trail.proofs.compare.after_done.Goals as goal

pub loop-output-preserved : goal.loop-output-preserved
loop-output-preserved c =
    let i = c.loop-output.output-index in
    let same : c.texts-output-items.result.now ≡ c.args.outputs.now = search rules in
    let within : i < length c.args.outputs.now = omega (arith, ap length same) in
    let text : c.bytes.result.now ≡ get_or c.args.outputs.now i c.output-item.result =
    c.bytes.ensures.value ∙ c.output-item.is ∙ ap (λ l. get_or l i c.output-item.result) same in
    left-output (codes " done") c.args.outputs.now i c.bytes.result.now _ _ _ _ _ _ within text
    c.loop-output.invariant c.after-rest-in-loop-output.ensures c.after-rest-in-loop-output-2.ensures c.after-rest-in-loop-output-3.ensures
