use Rattle.std.proofs.Common.{rules, ap, ◌∙◌, ◌≡◌, ◌<◌, length, arith, codes, get_or}
use Rattle.bl_wire.proofs.PutLaws.{puts-output}
use Rattle.bl_wire.proofs.words.put_done.Goals as goal

pub loop-text-preserved : goal.loop-text-preserved
loop-text-preserved g c =
    let i = c.loop-text.text-index in
    let same : c.texts-text-items.result.now ≡ c.args.outputs.now = search rules in
    let within : i < length c.args.outputs.now = omega (arith, ap length same) in
    let text : c.bytes.result.now ≡ get_or c.args.outputs.now i c.text-item.result =
    c.bytes.ensures.value ∙ c.text-item.is ∙ ap (λ l. get_or l i c.text-item.result) same in
    puts-output (codes " done") c.args.outputs.now i c.bytes.result.now _ _ _ _ within text
    c.loop-text.invariant c.put_between.ensures
