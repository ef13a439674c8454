use Rattle.std.proofs.Common.{◌∷◌, ◌++◌, ◌<◌, ◌∙◌, ap, append_assoc, arith, decimal, length, slice_index, sym, take}
use Rattle.bl_wire.specs.Replies.{label_text}
use Rattle.bl_wire.proofs.WordLaws.{label-step}
use Rattle.bl_explaining_event.proofs.labels.put_path.Goals as goal

pub loop-number-preserved : goal.loop-number-preserved
loop-number-preserved c =
    let path = c.args.path.now in
    let i = c.loop-number.number-index in
    let within : i < length path = omega arith in
    c.in_ok-put_dotted.ensures ∙ ap (λ l. l ++ (46 ∷ decimal (slice_index path i))) c.loop-number.invariant
    ∙ append_assoc c.args.text.now.items (label_text (c.args.ordinal ∷ take i path)) (46 ∷ decimal (slice_index path i))
    ∙ ap (λ l. c.args.text.now.items ++ l) (sym (label-step c.args.ordinal path i within))
