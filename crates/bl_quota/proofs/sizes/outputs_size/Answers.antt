use Rattle.std.proofs.Common.{◌≡◌, ◌<◌, ◌≤◌, ◌+◌, ◌∙◌, length, take, get_or, ap, arith, rules}
use Rattle.std.specs.Prelude.{sum_by}
use Rattle.std.proofs.lemmas.List.{take_all}
use Rattle.std.proofs.lemmas.List.Sums.{sum_by_more}
use Rattle.bl_sizes.specs.Counts.{in_word}
use Rattle.bl_sizes.specs.Sizes.{shown_size}
use Rattle.bl_quota.proofs.sizes.outputs_size.Goals as goal

pub loop-text-preserved : goal.loop-text-preserved
loop-text-preserved c =
    let i = c.loop-text.text-index in
    let same : c.texts-text-items.result.now ≡ c.args.outputs.now = search rules in
    let within : i < length c.args.outputs.now = omega (arith, ap length same) in
    let text : c.bytes.result.now ≡ get_or c.args.outputs.now i c.text-item.result =
    c.bytes.ensures.value ∙ c.text-item.is ∙ ap (λ l. get_or l i c.text-item.result) same in
    let now : c.saturating_add-bytes.result ≡ in_word (c.loop-text.bytes + c.shown_size.result) = omega arith in
    omega (arith, now, c.loop-text.invariant, c.shown_size.ensures, sum_by_more shown_size c.args.outputs.now i c.text-item.result within, ap shown_size text)

pub returns : goal.returns
returns c =
    let same : c.texts-text-items.result.now ≡ c.args.outputs.now = search rules in
    let all : length c.args.outputs.now ≤ c.loop-text.text-index = omega (arith, ap length same) in
    c.loop-text.invariant ∙ ap (λ l. in_word (sum_by shown_size l)) (take_all c.loop-text.text-index c.args.outputs.now all)
